use Rattle.std.proofs.Common.{◌≡◌, ◌∙◌, ◌++◌, ◌∷◌, ◌+◌, [], refl, ap, subst}
use Rattle.mb_base.specs.Shapes.{Bytes}
use Rattle.mb_parts.specs.declared.request.Request.{Request}
use Rattle.mb_msg.proofs.Sizes.{small_request}
use Rattle.mb_msg.specs.declared.message.Message.TheVariants as message
use Rattle.mb_msg.specs.Spelling.{spelling}
use Rattle.mb_model.specs.Clients.{asks}
use Rattle.mb_world_model.specs.World.{World as WorldState, stamps, update, request_of}
use Rattle.mb_forgery.specs.Ledgers.{Keeps}
use Rattle.mb_members.proofs.MemberLaws.{within_more}
use Rattle.mb_members.proofs.KeepLaws.{keeps_then}
use Rattle.mb_world.proofs.WorldLaws.{if_both, made_one}
use Rattle.mb_world.proofs.world.World.ask.Goals as goal

pub request_bytes-requires : goal.request_bytes-requires
request_bytes-requires g c = small_request c.args.self.now.shape _ (c.in_ok-request.ensures.fits c.args.self.now.shape c.args.self.now.askers_shape)

pub returns-clause-stands : goal.returns-clause-stands
returns-clause-stands g c = λ y x h.
    let v = c.args.self.now in
    let s = y.schedule in
    let who = c.args.client in
    let r = request_of s who ((x.askers who).number + 1) c.args.op.now in
    let z : WorldState = record x { asked = r ∷ x.asked; askers = update x.askers who (asks (x.askers who)) } in
    let is : c.in_ok-request.request ≡ r = rw c.as_slice.ensures at (c.in_ok-request.ensures.request s x.askers h.rest.askers) in
    let kept = keeps_then s.shape v.ledger c.note_asked.new.self (stamps s x) (stamps s x) x.asked (r ∷ x.asked) x.tagged x.tagged h.rest.ledger
    (λ k. subst (λ (q : Request). Keeps v.ledger.shape c.note_asked.new.self (stamps s x) (q ∷ x.asked) x.tagged) is (c.in_ok-note_asked.ensures.keeps (stamps s x) x.asked x.tagged k)) in
    let text = c.in_ok-bytes.ensures.text ∙ ap (λ (q : Request). spelling (message.Request q)) is in
    if_both c.add_message.result _ _ _ c.add_message.ensures.pool c.add_message.ensures.answer
    (λ a pool answer. made_one y v _ x z (spelling (message.Request r)) a h.rest (record { shape = refl; usig = refl; pens = refl; hosts = refl; clients = refl; marks = refl })
    (record { stamps = λ i. ([], refl); asked = (r ∷ [], refl); tagged = ([], refl) }) h.members (c.in_ok-request.ensures.stands s x.askers h.rest.askers) kept refl refl refl
    (pool ∙ ap (λ (b : Bytes). v.pool.items ++ b ∷ []) text) refl refl refl answer)

pub invariant_of-self : goal.invariant_of-self
invariant_of-self g c =
    let w = c.args.self.now in
    record {
      one_shape = w.one_shape;
      pens_len = w.pens_len;
      faulty_hosts_len = w.faulty_hosts_len;
      faulty_clients_len = w.faulty_clients_len;
      members_len = w.members_len;
      askers_len = c.ask_of.ensures.len ∙ w.askers_len;
      all_run = λ e. absurd cc;
      members_of = w.members_of;
      stamped_in = within_more w.events w.members.items w.stamped_in;
      asked_in = c.ask_of.ensures.within w.events w.asked_in;
      askers_shape = c.ask_of.ensures.shapes w.shape w.askers_shape;
    }

pub invariant_of-self-in-Break-branch-2 : goal.invariant_of-self-in-Break-branch-2
invariant_of-self-in-Break-branch-2 g c =
    let w = c.args.self.now in
    record {
      one_shape = (w.one_shape.0, c.note_asked.ensures.shape ∙ w.one_shape.1);
      pens_len = w.pens_len;
      faulty_hosts_len = w.faulty_hosts_len;
      faulty_clients_len = w.faulty_clients_len;
      members_len = w.members_len;
      askers_len = c.ask_of.ensures.len ∙ w.askers_len;
      all_run = λ e. absurd cc;
      members_of = w.members_of;
      stamped_in = within_more w.events w.members.items w.stamped_in;
      asked_in = c.ask_of.ensures.within w.events w.asked_in;
      askers_shape = c.ask_of.ensures.shapes w.shape w.askers_shape;
    }

pub invariant_of-self-in-Break-branch-3 : goal.invariant_of-self-in-Break-branch-3
invariant_of-self-in-Break-branch-3 g c =
    let w = c.args.self.now in
    record {
      one_shape = (w.one_shape.0, c.note_asked.ensures.shape ∙ w.one_shape.1);
      pens_len = w.pens_len;
      faulty_hosts_len = w.faulty_hosts_len;
      faulty_clients_len = w.faulty_clients_len;
      members_len = w.members_len;
      askers_len = c.ask_of.ensures.len ∙ w.askers_len;
      all_run = λ e. absurd cc;
      members_of = w.members_of;
      stamped_in = within_more w.events w.members.items w.stamped_in;
      asked_in = c.ask_of.ensures.within w.events w.asked_in;
      askers_shape = c.ask_of.ensures.shapes w.shape w.askers_shape;
    }

pub invariant_of-self-2 : goal.invariant_of-self-2
invariant_of-self-2 g c =
    let w = c.args.self.now in
    record {
      one_shape = (w.one_shape.0, c.note_asked.ensures.shape ∙ w.one_shape.1);
      pens_len = w.pens_len;
      faulty_hosts_len = w.faulty_hosts_len;
      faulty_clients_len = w.faulty_clients_len;
      members_len = w.members_len;
      askers_len = c.ask_of.ensures.len ∙ w.askers_len;
      all_run = λ e. absurd cc;
      members_of = w.members_of;
      stamped_in = within_more w.events w.members.items w.stamped_in;
      asked_in = c.ask_of.ensures.within w.events w.asked_in;
      askers_shape = c.ask_of.ensures.shapes w.shape w.askers_shape;
    }
