-- So all events find what they want.
use Rattle.std.proofs.Common.{◌≡◌, List, [], ◌∷◌, ◌++◌, map, refl}
use Rattle.std.specs.Prelude.{fold}
use Rattle.mb_world_model.specs.World.{World, nothing_happened}
use Rattle.mb_examples_course.proofs.Deeds.{Deed, round, rounds, deeds}
use Rattle.mb_examples_course.proofs.Worlds.{behind, world, found, wanted, all_found}
use Rattle.mb_examples_course.proofs.Finds.{finds_1, finds_2, finds_3, finds_4, finds_5, finds_6, finds_7, finds_8, finds_9}

-- So do more events, where those behind the first do.
join : (w : World) (xs ys : List Deed) → all_found w xs ≡ map wanted xs → all_found (fold behind w xs) ys ≡ map wanted ys → all_found w (xs ++ ys) ≡ map wanted (xs ++ ys)
join w [] ys first then = then
join w (x ∷ xs) ys first then =
    let here : found w x ≡ wanted x = cc in
    let later : all_found (behind w x) xs ≡ map wanted xs = cc in
    rw (here, join (behind w x) xs ys later then) refl

pub find_what_they_want : all_found nothing_happened deeds ≡ map wanted deeds
find_what_they_want =
    join (world 0) (round 1) (rounds (2 ∷ 3 ∷ 4 ∷ 5 ∷ 6 ∷ 7 ∷ 8 ∷ 9 ∷ [])) finds_1 (
    join (world 1) (round 2) (rounds (3 ∷ 4 ∷ 5 ∷ 6 ∷ 7 ∷ 8 ∷ 9 ∷ [])) finds_2 (
    join (world 2) (round 3) (rounds (4 ∷ 5 ∷ 6 ∷ 7 ∷ 8 ∷ 9 ∷ [])) finds_3 (
    join (world 3) (round 4) (rounds (5 ∷ 6 ∷ 7 ∷ 8 ∷ 9 ∷ [])) finds_4 (
    join (world 4) (round 5) (rounds (6 ∷ 7 ∷ 8 ∷ 9 ∷ [])) finds_5 (
    join (world 5) (round 6) (rounds (7 ∷ 8 ∷ 9 ∷ [])) finds_6 (
    join (world 6) (round 7) (rounds (8 ∷ 9 ∷ [])) finds_7 (
    join (world 7) (round 8) (rounds (9 ∷ [])) finds_8 (
    join (world 8) (round 9) [] finds_9 refl))))))))
