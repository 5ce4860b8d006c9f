use Rattle.std.proofs.Common.{◌≡◌, ◌∙◌, ◌-◌, suc, true, false, length, get_or, drop, subst, sym, ap, arith}
use Rattle.std.specs.List.{list_any}
use Rattle.mb_model.specs.UsableLogs.{is_opening_entry}
use Rattle.mb_plan.proofs.Openings.{last_at, none_at}
use Rattle.mb_plan.proofs.entries.opened_from.Goals as goal

pub returns-then-is_opening : goal.returns-then-is_opening
returns-then-is_opening c =
    let l = c.args.entries.now in
    let there : is_opening_entry (get_or l (length l - 1 - c.loop-back.back) c.index-entries-index.result) ≡ true =
    ap is_opening_entry (sym c.index-entries-index.is) ∙ (sym c.is_opening.ensures ∙ c.if-is_opening.true) in
    let next : suc (length l - 1 - c.loop-back.back) ≡ length l - c.loop-back.back = omega (arith, c.loop-back-test.true) in
    let none : list_any is_opening_entry (drop (suc (length l - 1 - c.loop-back.back)) l) ≡ false = rw next c.loop-back.invariant in
    last_at is_opening_entry l (length l - 1 - c.loop-back.back) c.index-entries-index.result (omega (arith, c.loop-back-test.true)) there none

pub returns : goal.returns
returns c =
    let l = c.args.entries.now in
    let all : length l - c.loop-back.back ≡ 0 = omega (arith, c.loop-back-test.false) in
    let none : list_any is_opening_entry (drop 0 l) ≡ false = subst (λ n. list_any is_opening_entry (drop n l) ≡ false) all c.loop-back.invariant in
    none_at is_opening_entry l none
