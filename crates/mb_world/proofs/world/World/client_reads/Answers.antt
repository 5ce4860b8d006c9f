use Rattle.std.proofs.Common.{◌≡◌, ◌∙◌, Ok, Err, refl, ap, sym}
use Rattle.mb_base.specs.declared.shape.Shape.{Shape}
use Rattle.mb_msg.specs.Reading.{message_of}
use Rattle.mb_model.specs.Clients.{Taken, takes}
use Rattle.mb_world_model.specs.World.{World as WorldState, OfClient, heard, answered, update}
use Rattle.mb_world.specs.Answers.{as_answer}
use Rattle.mb_members.specs.Replies.{reply_or}
use Rattle.mb_members.proofs.ReadLaws.{reads_reply, reads_other}
use Rattle.mb_world.proofs.WorldLaws.{side_stands, also_heard, leaves_from, leaves_at, if_ok_more}
use Rattle.mb_world.proofs.world.World.client_reads.Goals as goal

pub returns-in-Ok-clause-stands : goal.returns-in-Ok-clause-stands
returns-in-Ok-clause-stands g c = λ y x h.
    let v = c.args.self.now in
    let s = y.schedule in
    let who = c.args.client in
    let bytes = c.args.bytes.now in
    let r = c.in-Ok.reply in
    let found : Ok r ≡ reply_or (message_of v.shape bytes) = sym c.in-Ok.is ∙ c.in_ok-reply.ensures.reply in
    let read : Ok r ≡ reply_or (message_of s.shape bytes) = found ∙ ap (λ (t : Shape). reply_or (message_of t bytes)) h.rest.shape in
    let sides = update x.askers who (takes s.shape s.secret who (x.askers who) r) in
    let z : WorldState = record (heard s bytes x) { askers = sides } in
    let mid = side_stands y v _ x bytes sides h (record { shape = refl; usig = refl; pens = refl; hosts = refl; clients = refl; marks = refl }) refl (c.take_of-taken.ensures.stands s x.askers h.rest.askers) refl refl refl refl refl in
    let same = ap (λ (t : Taken). answered (OfClient t) z) (c.take_of-taken.ensures.answer s x.askers h.rest.askers) ∙ sym (reads_reply s who (message_of s.shape bytes) r (heard s bytes x) read) in
    if_ok_more c.note.result _ _ (c.note.ensures.stands y z mid)
    (λ a left. leaves_at y _ (as_answer a) x _ _ same (leaves_from y _ (as_answer a) x z _ refl left))

pub returns-in-Err-clause-stands : goal.returns-in-Err-clause-stands
returns-in-Err-clause-stands g c = λ y x h.
    let v = c.args.self.now in
    let s = y.schedule in
    let who = c.args.client in
    let bytes = c.args.bytes.now in
    let o = c.in-Err.outcome in
    let found : Err o ≡ reply_or (message_of v.shape bytes) = sym c.in-Err.is ∙ c.in_ok-reply.ensures.reply in
    let read : Err o ≡ reply_or (message_of s.shape bytes) = found ∙ ap (λ (t : Shape). reply_or (message_of t bytes)) h.rest.shape in
    let z : WorldState = heard s bytes x in
    if_ok_more c.note-in-Err.result _ _ (c.note-in-Err.ensures.stands y z (also_heard y v x bytes h))
    (λ a left. leaves_at y _ (as_answer a) x _ _ (sym (reads_other s who (message_of s.shape bytes) o z read)) (leaves_from y _ (as_answer a) x z _ refl left))

pub take_of-taken-requires-clause-host : goal.take_of-taken-requires-clause-host
take_of-taken-requires-clause-host g c =
    let fits = rw c.in-Ok.is at c.in_ok-reply.ensures.fits in
    (c.args.self.now.shape, c.args.self.now.askers_shape, fits.host)

pub invariant_of-self : goal.invariant_of-self
invariant_of-self g c =
    let w = c.args.self.now in
    record {
      one_shape = w.one_shape;
      pens_len = w.pens_len;
      faulty_hosts_len = w.faulty_hosts_len;
      faulty_clients_len = w.faulty_clients_len;
      members_len = w.members_len;
      askers_len = c.take_of-taken.ensures.len ∙ w.askers_len;
      all_run = λ e. absurd cc;
      members_of = w.members_of;
      stamped_in = w.stamped_in;
      asked_in = c.take_of-taken.ensures.within w.events w.asked_in;
      askers_shape = c.take_of-taken.ensures.shapes w.shape w.askers_shape;
    }
