use Rattle.std.proofs.Common.{List, find, map, sym, ap, subst, ◌∙◌}
use Rattle.std.specs.Option.{option_or}
use Rattle.std.proofs.lemmas.Result.{on_ok_weaker}
use Rattle.mb_base.specs.Shapes.{Bytes}
use Rattle.mb_usig.specs.Tags.{same_bytes}
use Rattle.mb_parts.specs.declared.batch.Batch.{Batch}
use Rattle.mb_parts.specs.Bares.{batch_digest}
use Rattle.mb_learn.specs.Holding.{plan_by, NotesPlan}
use Rattle.mb_learn.specs.Tables.{batch_at}
use Rattle.mb_learn.proofs.Opening.{plan_kept, plan_noted}
use Rattle.mb_learn.proofs.Voting.{found_some, found_none}
use Rattle.mb_learn.proofs.heard.Heard.hold_plan.Goals as goal

pub returns-then-is_some : goal.returns-then-is_some
returns-then-is_some c =
    plan_kept c.args.self.now c.hold_all.new.self (plan_by c.args.digest.now c.args.body.now) c.args.body.now.batches
    (λ d. c.in_ok-hold_all.ensures d ∙ ap (λ (l : List Batch). option_or (batch_at c.args.self.now.batches d) (find (λ b. same_bytes (batch_digest b) d) l)) c.as_slice.ensures)
    (found_some c.get.result _ c.get.ensures (sym c.is_some.ensures ∙ c.if-is_some.true))

pub returns : goal.returns
returns c =
    on_ok_weaker c.note_plan.result
    (λ notes. plan_noted c.args.self.now c.hold_all.new.self (plan_by c.args.digest.now c.args.body.now) c.args.body.now.batches
    (λ d. c.in_ok-hold_all.ensures d ∙ ap (λ (l : List Batch). option_or (batch_at c.args.self.now.batches d) (find (λ b. same_bytes (batch_digest b) d) l)) c.as_slice.ensures)
    c.note_plan.new.self (found_none c.get.result _ c.get.ensures (sym c.is_some.ensures ∙ c.if-is_some.false))
    (subst (λ (l : List Bytes). NotesPlan (record { digest = c.args.digest.now; base = c.args.body.now.stable.pos; batches = l }) (record c.args.self.now { batches = c.hold_all.new.self }) c.note_plan.new.self) (c.in_ok-digests_of.ensures ∙ ap (map batch_digest) c.as_slice-2.ensures) notes)) c.note_plan.ensures
