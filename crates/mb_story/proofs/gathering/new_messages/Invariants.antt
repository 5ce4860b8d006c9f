use Rattle.std.proofs.Common.{◌≡◌, ◌+◌, map}
use Rattle.std.specs.List.{range_with_len}
use Rattle.mb_world_model.specs.World.{World as WorldState, System}
use Rattle.mb_world.specs.Tables.{RepresentsWorld}
use Rattle.mb_story.specs.Telling.{new_message}
use Rattle.mb_story.proofs.gathering.new_messages.Given as goal

abbrev pub invariant-loop-index : goal.invariant-loop-index
invariant-loop-index g l = (y : System _) (x : WorldState) → RepresentsWorld y l.world x → l.messages ≡ map (λ i. new_message y.schedule x (l.before + i + 1)) (range_with_len 0 l.index)
