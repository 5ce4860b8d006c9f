use Rattle.std.proofs.Common.{◌≡◌, ◌∙◌, Some, slice_get, sym, ap}
use Rattle.std.specs.Prelude.{option_map}
use Rattle.std.proofs.lemmas.Option.{slice_get-get_or}
use Rattle.mb_model.specs.Plans.{log_of}
use Rattle.mb_model.specs.Held.{logs_of}
use Rattle.mb_plan.specs.Lent.{shown}
use Rattle.mb_plan.proofs.Folds.{rest_none}
use Rattle.mb_plan.proofs.HostLogs.{found_here, found_later}
use Rattle.mb_plan.proofs.logs.log_of.Goals as goal

pub returns-in-Some : goal.returns-in-Some
returns-in-Some c =
    let there : slice_get c.args.changes.now c.loop-change.change-index ≡ Some c.change-item.result =
    slice_get-get_or _ _ c.change-item.result c.loop-change-test.true ∙ ap (λ x. Some x) (sym c.change-item.is) in
    found_here c.args.changes.now c.args.host c.loop-change.change-index c.change-item.result there (option_map shown c.log_in.result) c.log_in.ensures (shown c.in-Some.log) (ap (option_map shown) c.in-Some.is) c.loop-change.invariant

pub loop-change-preserved : goal.loop-change-preserved
loop-change-preserved c =
    let there : slice_get c.args.changes.now c.loop-change.change-index ≡ Some c.change-item.result =
    slice_get-get_or _ _ c.change-item.result c.loop-change-test.true ∙ ap (λ x. Some x) (sym c.change-item.is) in
    found_later c.args.changes.now c.args.host c.loop-change.change-index c.change-item.result there (option_map shown c.log_in.result) c.log_in.ensures (ap (option_map shown) c.in_default.is) c.loop-change.invariant

pub returns : goal.returns
returns c = sym (rest_none (λ l. log_of (logs_of l) c.args.host) c.args.changes.now c.loop-change.change-index c.loop-change-test.false) ∙ c.loop-change.invariant
