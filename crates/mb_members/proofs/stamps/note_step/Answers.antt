use Rattle.std.proofs.Common.{◌≡◌, ◌∙◌, ◌++◌, Some, List, ℕ, length, take, refl, sym, subst, ap, arith}
use Rattle.std.specs.Prelude.{slice_get, fold}
use Rattle.std.specs.Option.{option_to_list}
use Rattle.std.proofs.lemmas.Option.{slice_get-get_or}
use Rattle.std.proofs.lemmas.List.{take_all, length-map}
use Rattle.mb_base.specs.Shapes.{Bytes}
use Rattle.mb_base.specs.declared.shape.Shape.{Shape}
use Rattle.mb_msg.specs.declared.message.Message.{Message}
use Rattle.mb_model.specs.Sending.{Letter}
use Rattle.mb_encodable.proofs.Batches.{got}
use Rattle.mb_replica.specs.declared.told.Outgoing.{Outgoing}
use Rattle.mb_replica.specs.Told.{as_outgoing}
use Rattle.mb_world_model.specs.World.{update, with_tagged}
use Rattle.mb_members.specs.Stamps.{IsReadable, bare_in}
use Rattle.mb_members.proofs.NoteLaws.{so_far, keeps_next, keeps_none, next_letter}
use Rattle.mb_members.proofs.KeepLaws.{keeps_then}
use Rattle.mb_members.proofs.stamps.note_step.Goals as goal

pub loop-message-init : goal.loop-message-init
loop-message-init c = record { keeps = λ stamps asked tagged letters k is. keeps_none c.args.ledger.now.shape c.args.ledger.now stamps c.args.host asked tagged k; shape = refl }

pub loop-message-preserved : goal.loop-message-preserved
loop-message-preserved c =
    let i = c.loop-message.message-index in
    let shape : Shape = c.args.ledger.now.shape in
    let h = c.args.host in
    record {
      keeps = λ stamps asked tagged letters k is.
          let there : slice_get c.args.sent.now i ≡ Some c.message-item.result =
          slice_get-get_or _ _ c.message-item.result c.loop-message-test.true ∙ ap (λ x. Some x) (sym c.message-item.is) in
          let next = next_letter letters i c.message-item.result (subst (λ (l : List Outgoing). slice_get l i ≡ Some c.message-item.result) is.sent there) in
          let letter : Letter = next.0 in
          let before = c.loop-message.invariant.keeps stamps asked tagged letters k is in
          let fits : IsReadable shape letter = got (IsReadable shape) letters is.fit i letter next.1.there in
          let far : ℕ → List Bytes = so_far stamps h (take i letters) letter in
          let kept : List Message = fold with_tagged tagged (take i letters) in
          rw next.1.taken (keeps_next stamps h (take i letters) letter shape c.note_message.new.ledger asked tagged
          (keeps_then shape c.loop-message.ledger c.note_message.new.ledger far (update far h (option_to_list (bare_in letter) ++ far h)) asked asked kept (with_tagged kept letter) before
          (λ j. c.in_ok-note_message.ensures.keeps far asked kept letter j (subst (λ (z : Shape). IsReadable z letter) (sym c.loop-message.invariant.shape) fits) next.1.sent_is)));
      shape = c.note_message.ensures.shape ∙ c.loop-message.invariant.shape;
    }

pub returns-clause-keeps : goal.returns-clause-keeps
returns-clause-keeps c = λ stamps asked tagged letters k is.
    let count = ap length is.sent ∙ length-map letters as_outgoing in
    let past = c.loop-message-test.false in
    let all = take_all c.loop-message.message-index letters (omega (arith, count, past)) in
    rw all at (c.loop-message.invariant.keeps stamps asked tagged letters k is)
