use Rattle.std.proofs.Common.{◌≡◌, ◌∙◌, suc, Bool, Some, None, slice_get, drop, refl, sym, ap, subst, add-one, arith}
use Rattle.std.specs.Prelude.{nat_lt, nat_le}
use Rattle.std.specs.List.{list_any}
use Rattle.std.proofs.lemmas.Option.{slice_get-get_or}
use Rattle.mb_parts.specs.Claims.{Claim}
use Rattle.mb_model.specs.Verified.{verifies}
use Rattle.mb_model.specs.UsableLogs.{is_opening_entry}
use Rattle.mb_plan.specs.Behind.{log_of, gate_reason}
use Rattle.mb_plan.proofs.TakenEntries.{before, is_last, fails_at_gate, fails_by_body, stands_next, not_before, ends_with}
use Rattle.mb_plan.proofs.shown.take_entries.Goals as goal

pub returns-in-Some-clause-fault : goal.returns-in-Some-clause-fault
returns-in-Some-clause-fault c = λ o r.
    let s = c.args.shape.now in
    let secret = c.args.usig.now.secret in
    let valid : Claim → Bool = verifies secret in
    let es = c.args.entries.now in
    let e = c.index-entries-index.result in
    let there : slice_get es c.loop-index.index ≡ Some e = slice_get-get_or _ _ e c.loop-index-test.true ∙ ap (λ x. Some x) (sym c.index-entries-index.is) in
    let st = c.loop-index.invariant.entries o r in
    rw c.at.ensures (fails_at_gate s secret valid c.args.host c.args.stable o es c.loop-index.index e there st.rest c.in-Some.reason
    (sym (c.in_ok-reason.ensures.reason _ st.stands refl refl refl) ∙ c.in-Some.is))

pub returns-in-Some-2-clause-fault : goal.returns-in-Some-2-clause-fault
returns-in-Some-2-clause-fault c = λ o r.
    let s = c.args.shape.now in
    let secret = c.args.usig.now.secret in
    let valid : Claim → Bool = verifies secret in
    let es = c.args.entries.now in
    let e = c.index-entries-index.result in
    let there : slice_get es c.loop-index.index ≡ Some e = slice_get-get_or _ _ e c.loop-index-test.true ∙ ap (λ x. Some x) (sym c.index-entries-index.is) in
    let st = c.loop-index.invariant.entries o r in
    let passes : gate_reason valid (log_of s c.args.host o (before s secret valid c.args.host c.args.stable o es c.loop-index.index)) e ≡ None =
    sym (c.in_ok-reason.ensures.reason _ st.stands refl refl refl) ∙ c.in_default.is in
    let last : is_last s secret valid c.args.host c.args.stable o (drop (suc c.loop-index.index) es) ≡ nat_le c.opened_from-opened.result c.loop-index.index =
    not_before _ c.loop-index.index c.opened_from-opened.result (subst (λ n. list_any is_opening_entry (drop n es) ≡ nat_lt c.loop-index.index c.opened_from-opened.result) (add-one c.loop-index.index) (c.opened_from-opened.ensures c.loop-index.index)) in
    rw c.at-in-Some-2.ensures (fails_by_body s secret valid c.args.host c.args.stable o es c.loop-index.index e there st.rest c.in-Some-2.reason passes
    (rw last (sym c.in_ok-reason-2.ensures ∙ c.in-Some-2.is)))

pub loop-index-preserved : goal.loop-index-preserved
loop-index-preserved c =
    let s = c.args.shape.now in
    let secret = c.args.usig.now.secret in
    let valid : Claim → Bool = verifies secret in
    let es = c.args.entries.now in
    let e = c.index-entries-index.result in
    let there : slice_get es c.loop-index.index ≡ Some e = slice_get-get_or _ _ e c.loop-index-test.true ∙ ap (λ x. Some x) (sym c.index-entries-index.is) in
    record {
      entries = λ o r.
          let st = c.loop-index.invariant.entries o r in
          let passes : gate_reason valid (log_of s c.args.host o (before s secret valid c.args.host c.args.stable o es c.loop-index.index)) e ≡ None =
          sym (c.in_ok-reason.ensures.reason _ st.stands refl refl refl) ∙ c.in_default.is in
          let last : is_last s secret valid c.args.host c.args.stable o (drop (suc c.loop-index.index) es) ≡ nat_le c.opened_from-opened.result c.loop-index.index =
          not_before _ c.loop-index.index c.opened_from-opened.result (subst (λ n. list_any is_opening_entry (drop n es) ≡ nat_lt c.loop-index.index c.opened_from-opened.result) (add-one c.loop-index.index) (c.opened_from-opened.ensures c.loop-index.index)) in
          stands_next s secret valid c.args.host c.args.stable o es c.loop-index.index e there c.loop-index.gate c.gate_reason.new.gate st passes
          (rw last (sym c.in_ok-reason-2.ensures ∙ c.in_default-2.is)) (c.in_ok-reason.ensures.stands _ st.stands refl refl refl c.in_default.is);
      places = c.in_ok-found.ensures.places;
    }

pub returns-clause-fault : goal.returns-clause-fault
returns-clause-fault c = λ o r.
    let st = c.loop-index.invariant.entries o r in
    ends_with c.args.shape.now c.args.usig.now.secret (verifies c.args.usig.now.secret) c.args.host c.args.stable o c.args.entries.now c.loop-index.index (omega (arith, c.loop-index-test.false)) st.rest
