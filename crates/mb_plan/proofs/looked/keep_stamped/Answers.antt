use Rattle.std.proofs.Common.{◌≡◌, Some, slice_get}
use Rattle.std.specs.Prelude.{slice_index_or}
use Rattle.std.proofs.lemmas.Option.{slice_get-get_or}
use Rattle.mb_plan.specs.declared.looked.Place.{Place}
use Rattle.mb_plan.proofs.LookedPlaces.{right_at, one_more, with_stamped}
use Rattle.mb_plan.proofs.looked.keep_stamped.Goals as goal

pub returns-then-place-places : goal.returns-then-place-places
returns-then-place-places c = λ s secret are is.
    let ps = c.args.places.now in
    let i = c.args.place in
    let place : Place = slice_index_or ps i c.index-places-place.result in
    let there : slice_get ps i ≡ Some place = slice_get-get_or _ _ c.index-places-place.result c.if-place-places.true in
    one_more s secret ps i _ are (with_stamped s secret place c.args.named (right_at s secret ps i place are there) is)
