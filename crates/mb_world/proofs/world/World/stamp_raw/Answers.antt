use Rattle.std.proofs.Common.{◌≡◌, ◌∙◌, ◌∷◌, true, false, refl, sym}
use Rattle.mb_world_model.specs.World.{stamps, update}
use Rattle.mb_members.specs.declared.members.Stamp.{Stamp}
use Rattle.mb_world.specs.Answers.{as_answer}
use Rattle.mb_members.specs.Stamping.{kept_stamp}
use Rattle.mb_members.proofs.AskerLaws.{asked_more}
use Rattle.mb_members.proofs.StampLaws.{bytes_are}
use Rattle.mb_members.proofs.KeepLaws.{keeps_then}
use Rattle.mb_world.proofs.WorldLaws.{if_both, leaves_at, stamped_one}
use Rattle.mb_world.proofs.world.World.stamp_raw.Goals as goal

pub invariant_of-self : goal.invariant_of-self
invariant_of-self g c =
    let w = c.args.self.now in
    record {
      one_shape = w.one_shape;
      pens_len = w.pens_len;
      faulty_hosts_len = w.faulty_hosts_len;
      faulty_clients_len = w.faulty_clients_len;
      members_len = c.stamp_bytes.ensures.len ∙ w.members_len;
      askers_len = w.askers_len;
      all_run = λ e. c.stamp_bytes.ensures.runs (w.all_run e);
      members_of = c.stamp_bytes.ensures.of;
      stamped_in = c.stamp_bytes.ensures.within w.events w.stamped_in;
      asked_in = asked_more w.events w.askers.items w.asked_in;
      askers_shape = w.askers_shape;
    }

pub invariant_of-self-in-Break-branch-3 : goal.invariant_of-self-in-Break-branch-3
invariant_of-self-in-Break-branch-3 g c =
    let w = c.args.self.now in
    record {
      one_shape = (w.one_shape.0, c.note_stamp.ensures.shape ∙ w.one_shape.1);
      pens_len = w.pens_len;
      faulty_hosts_len = w.faulty_hosts_len;
      faulty_clients_len = w.faulty_clients_len;
      members_len = c.stamp_bytes.ensures.len ∙ w.members_len;
      askers_len = w.askers_len;
      all_run = λ e. c.stamp_bytes.ensures.runs (w.all_run e);
      members_of = c.stamp_bytes.ensures.of;
      stamped_in = c.stamp_bytes.ensures.within w.events w.stamped_in;
      asked_in = asked_more w.events w.askers.items w.asked_in;
      askers_shape = w.askers_shape;
    }

pub invariant_of-self-in-Some : goal.invariant_of-self-in-Some
invariant_of-self-in-Some g c =
    let w = c.args.self.now in
    record {
      one_shape = (w.one_shape.0, c.note_stamp.ensures.shape ∙ w.one_shape.1);
      pens_len = w.pens_len;
      faulty_hosts_len = w.faulty_hosts_len;
      faulty_clients_len = w.faulty_clients_len;
      members_len = c.stamp_bytes.ensures.len ∙ w.members_len;
      askers_len = w.askers_len;
      all_run = λ e. c.stamp_bytes.ensures.runs (w.all_run e);
      members_of = c.stamp_bytes.ensures.of;
      stamped_in = c.stamp_bytes.ensures.within w.events w.stamped_in;
      asked_in = asked_more w.events w.askers.items w.asked_in;
      askers_shape = w.askers_shape;
    }

pub invariant_of-self-in-None : goal.invariant_of-self-in-None
invariant_of-self-in-None g c =
    let w = c.args.self.now in
    record {
      one_shape = w.one_shape;
      pens_len = w.pens_len;
      faulty_hosts_len = w.faulty_hosts_len;
      faulty_clients_len = w.faulty_clients_len;
      members_len = c.stamp_bytes.ensures.len ∙ w.members_len;
      askers_len = w.askers_len;
      all_run = λ e. c.stamp_bytes.ensures.runs (w.all_run e);
      members_of = c.stamp_bytes.ensures.of;
      stamped_in = c.stamp_bytes.ensures.within w.events w.stamped_in;
      asked_in = asked_more w.events w.askers.items w.asked_in;
      askers_shape = w.askers_shape;
    }

pub returns-in_ok-note_stamp-in-Some-clause-stands : goal.returns-in_ok-note_stamp-in-Some-clause-stands
returns-in_ok-note_stamp-in-Some-clause-stands g c = λ y x h faulty.
    let v = c.args.self.now in
    let s = y.schedule in
    let host = c.args.host in
    let made : Stamp = c.in-Some.field-0 in
    let told = rw c.in-Some.is at (c.in_ok-bare.ensures.stands y x.histories x.faulty_stamps h.members) in
    let kept = keeps_then s.shape v.ledger c.note_stamp.new.self (stamps s x) (update (stamps s x) host (made.bare ∷ stamps s x host)) x.asked x.asked x.tagged x.tagged h.rest.ledger
    (λ k. c.in_ok-note_stamp-in-Some.ensures.keeps (stamps s x) x.asked x.tagged k) in
    if_both c.add_message.result _ _ _ c.add_message.ensures.pool c.add_message.ensures.answer
    (λ a pool answer. leaves_at y _ (as_answer a) x _ _ (bytes_are s x host c.args.bare.now made told.0)
    (stamped_one y v _ x host (kept_stamp made) a h (record { shape = refl; usig = refl; pens = refl; hosts = refl; clients = refl; marks = refl }) faulty told.1 refl kept pool refl refl refl answer))

pub returns-in-None-clause-stands : goal.returns-in-None-clause-stands
returns-in-None-clause-stands g c = λ y x h faulty.
    let correct = rw c.in-None.is at (c.in_ok-bare.ensures.stands y x.histories x.faulty_stamps h.members) in
    let both : true ≡ false = sym faulty ∙ correct in
    absurd cc
