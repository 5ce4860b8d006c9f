use Rattle.std.proofs.Common.{◌≡◌, ◌∙◌, ◌∷◌, Some, ap, sym}
use Rattle.std.specs.Option.{option_map}
use Rattle.mb_replica.specs.declared.told.Outgoing.{Outgoing}
use Rattle.mb_replica.specs.declared.told.Said.{Said}
use Rattle.mb_world_model.specs.World.{update, with_tagged}
use Rattle.mb_members.specs.Stamps.{bare_in}
use Rattle.mb_members.proofs.AskerLaws.{ok_then}
use Rattle.mb_members.proofs.ListLaws.{update_same}
use Rattle.mb_members.proofs.NoteLaws.{bare_said}
use Rattle.mb_members.proofs.KeepLaws.{keeps_ok, keeps_same}
use Rattle.mb_members.proofs.stamps.note_message.Goals as goal

pub returns-in_ok-note_stamp-in-Some-clause-keeps : goal.returns-in_ok-note_stamp-in-Some-clause-keeps
returns-in_ok-note_stamp-in-Some-clause-keeps c = λ stamps asked tagged letter k fit is.
    let h = c.args.host in
    let bare = c.in_ok-bare-in-Some.bare in
    let said : Some bare ≡ bare_in letter = ap Some c.in_ok-bare-in-Some.ensures ∙ (ap (option_map (λ (s : Said). s.bare)) (sym c.in-Some.is ∙ ap (λ (o : Outgoing). o.said) is) ∙ bare_said letter) in
    let first = c.in_ok-note_stamp-in-Some.ensures.keeps stamps asked tagged k in
    rw (← said)
    (keeps_ok c.note_sent.result c.args.ledger.now.shape _ _ (update stamps h (bare ∷ stamps h)) (update stamps h (bare ∷ stamps h)) asked asked tagged (with_tagged tagged letter) first
    (λ j. c.note_sent.ensures.keeps (update stamps h (bare ∷ stamps h)) asked tagged letter j (c.as_slice.ensures ∙ ap (λ (o : Outgoing). o.bytes) is)))

pub returns-in-None-clause-keeps : goal.returns-in-None-clause-keeps
returns-in-None-clause-keeps c = λ stamps asked tagged letter k fit is.
    let h = c.args.host in
    let said = ap (option_map (λ (s : Said). s.bare)) (sym c.in-None.is ∙ ap (λ (o : Outgoing). o.said) is) ∙ bare_said letter in
    rw (← said)
    (ok_then c.note_sent-in-None.result _ _ (c.note_sent-in-None.ensures.keeps stamps asked tagged letter k (c.as_slice-in-None.ensures ∙ ap (λ (o : Outgoing). o.bytes) is))
    (λ kept. keeps_same c.args.ledger.now.shape _ stamps (update stamps h (stamps h)) asked (with_tagged tagged letter) (update_same stamps h) kept))
