use Rattle.std.proofs.Common.{◌≡◌, false, Bool, get_or, sym, ap, ◌∙◌}
use Rattle.std.proofs.lemmas.Option.{unwrap_or-slice_get}
use Rattle.mb_usig.specs.Tags.{same_bytes, wish_tag}
use Rattle.mb_msg.specs.declared.message.Message.TheVariants as message
use Rattle.mb_schedule.specs.Limits.{is_faulty}
use Rattle.mb_world_model.specs.World.{stamps}
use Rattle.mb_world_model.specs.Forged.{was_tagged}
use Rattle.mb_forgery.proofs.TagLaws.{faulty_clean, made_clean, verified_decides}
use Rattle.mb_forgery.proofs.checker.Checker.is_forged_wish.Goals.{then-self-from-via-then-self-from, then-self-from-via-else-self-from+in_ok-was_tagged+then-branch}
use Rattle.mb_forgery.proofs.checker.Checker.is_forged_wish.Goals as goal

pub returns-then-self-from : goal.returns-then-self-from
returns-then-self-from c s w a =
    let m = c.args.m.now in
    let faulty : is_faulty s m.host ≡ get_or c.args.self.now.faulty_hosts.now c.from.result false =
    unwrap_or-slice_get s.faulty_hosts m.host false ∙ ap (λ l. get_or l m.host false) (sym a.hosts) ∙ ap (λ i. get_or c.args.self.now.faulty_hosts.now i false) (sym c.from.ensures) in
    let verified : Bool = same_bytes m.tag (wish_tag s.secret m.host m.view) in
    elim c.then-self-from.branch [
      | then-self-from-via-then-self-from x ↦ faulty_clean verified (is_faulty s m.host) (was_tagged s w (message.ReqViewChange m)) (faulty ∙ x.if-self-from.true)
      | then-self-from-via-else-self-from+in_ok-was_tagged+then-branch x ↦ made_clean verified (is_faulty s m.host) (was_tagged s w (message.ReqViewChange m))
          (ap (was_tagged s w) (sym c.requires.1) ∙ sym (x.in_ok-was_tagged.ensures s.shape (stamps s w) w.asked w.tagged a.ledger) ∙ x.if-branch.true)
    ]

pub returns : goal.returns
returns c s w a =
    let m = c.args.m.now in
    let faulty : is_faulty s m.host ≡ get_or c.args.self.now.faulty_hosts.now c.from.result false =
    unwrap_or-slice_get s.faulty_hosts m.host false ∙ ap (λ l. get_or l m.host false) (sym a.hosts) ∙ ap (λ i. get_or c.args.self.now.faulty_hosts.now i false) (sym c.from.ensures) in
    c.verify_wish.ensures
    ∙ ap (λ t. same_bytes m.tag (wish_tag t m.host m.view)) a.secret_is
    ∙ verified_decides (same_bytes m.tag (wish_tag s.secret m.host m.view)) (is_faulty s m.host) (was_tagged s w (message.ReqViewChange m)) (faulty ∙ c.if-self-from.false)
    (ap (was_tagged s w) (sym c.requires.1) ∙ sym (c.in_ok-was_tagged.ensures s.shape (stamps s w) w.asked w.tagged a.ledger) ∙ c.if-branch.false)
