use Rattle.std.proofs.Common.{◌≡◌, ◌∙◌, Some, length, slice_get, sym, ap, subst}
use Rattle.std.proofs.lemmas.Bool.{ltb-true}
use Rattle.std.proofs.lemmas.Option.{slice_get-get_or}
use Rattle.mb_parts.specs.declared.batch.Batch.{Batch}
use Rattle.mb_plan.specs.declared.looked.Place.{Place}
use Rattle.mb_plan.specs.Looked.{IsFound}
use Rattle.mb_plan.proofs.LookedPlaces.{right_at}
use Rattle.mb_plan.proofs.SameBatch.{same_batch}
use Rattle.mb_plan.proofs.looked.found_before.Goals as goal

pub returns-then-eq : goal.returns-then-eq
returns-then-eq c = λ s secret are.
    let l = c.in_ok-there.there in
    let ps = c.args.places.now in
    let place : Place = c.in_ok-get.field-0.now in
    let there : slice_get ps c.args.place ≡ Some place = slice_get-get_or _ _ place (ltb-true c.args.place (length ps) (sym c.in_ok-get.ensures.lookup.0)) ∙ ap (λ (p : Place). Some p) (sym (c.in_ok-get.ensures.lookup.3.1 place)) in
    let same : l.batch.now ≡ c.args.batch.now = same_batch _ _ (sym c.eq.ensures ∙ c.if-eq.true) in
    subst (λ (b : Batch). IsFound secret b l.found) same ((right_at s secret ps c.args.place place are there).batch l c.in_ok-there.was)
