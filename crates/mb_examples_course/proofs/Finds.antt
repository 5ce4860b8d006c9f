-- In the world before it each event finds what it wants, PUT by PUT; and the one list at the end.
use Rattle.std.proofs.Common.{◌≡◌, [], ◌∷◌, map, refl}
use Rattle.mb_world_model.proofs.WorldsOnLiterals.{worlds_on_literals}
use Rattle.mb_examples_course.proofs.Messages.{slot}
use Rattle.mb_examples_course.proofs.Deeds.{round}
use Rattle.mb_examples_course.proofs.Worlds.{world, end, wanted, all_found}

pub finds_1 : all_found (world 0) (round 1) ≡ map wanted (round 1)
unfolding worlds_on_literals
finds_1 = refl

pub finds_2 : all_found (world 1) (round 2) ≡ map wanted (round 2)
unfolding worlds_on_literals
finds_2 = refl

pub finds_3 : all_found (world 2) (round 3) ≡ map wanted (round 3)
unfolding worlds_on_literals
finds_3 = refl

pub finds_4 : all_found (world 3) (round 4) ≡ map wanted (round 4)
unfolding worlds_on_literals
finds_4 = refl

pub finds_5 : all_found (world 4) (round 5) ≡ map wanted (round 5)
unfolding worlds_on_literals
finds_5 = refl

pub finds_6 : all_found (world 5) (round 6) ≡ map wanted (round 6)
unfolding worlds_on_literals
finds_6 = refl

pub finds_7 : all_found (world 6) (round 7) ≡ map wanted (round 7)
unfolding worlds_on_literals
finds_7 = refl

pub finds_8 : all_found (world 7) (round 8) ≡ map wanted (round 8)
unfolding worlds_on_literals
finds_8 = refl

pub finds_9 : all_found (world 8) (round 9) ≡ map wanted (round 9)
unfolding worlds_on_literals
finds_9 = refl

pub line_at_end : end.line ≡ map slot (1 ∷ 2 ∷ 3 ∷ 4 ∷ 5 ∷ 6 ∷ 7 ∷ 8 ∷ 9 ∷ [])
unfolding worlds_on_literals
line_at_end = refl
