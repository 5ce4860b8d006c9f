use Rattle.std.proofs.Common.{◌≡◌, ◌∙◌, Some, length, slice_get, sym, ap, subst}
use Rattle.std.proofs.lemmas.Bool.{ltb-true}
use Rattle.std.proofs.lemmas.Option.{slice_get-get_or}
use Rattle.mb_plan.specs.declared.looked.Place.{Place}
use Rattle.mb_plan.specs.Looked.{IsStamped}
use Rattle.mb_plan.proofs.LookedPlaces.{right_at}
use Rattle.mb_plan.proofs.looked.was_stamped.Goals as goal

pub returns-in-Some-stamped : goal.returns-in-Some-stamped
returns-in-Some-stamped c = λ s secret are is.
    let ps = c.args.places.now in
    let place : Place = c.in-Some.there.now in
    let there : slice_get ps c.args.place ≡ Some place = slice_get-get_or _ _ place (ltb-true c.args.place (length ps) (sym c.in-Some.ensures.lookup.0)) ∙ ap (λ (p : Place). Some p) (sym (c.in-Some.ensures.lookup.3.1 place)) in
    subst (IsStamped s secret) (c.is_same.ensures is) ((right_at s secret ps c.args.place place are there).prepare c.in-Some-stamped.stamped c.in-Some-stamped.is)
