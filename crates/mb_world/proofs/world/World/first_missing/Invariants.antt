use Rattle.std.proofs.Common.{◌≡◌, is_none, drop, find}
use Rattle.mb_world_model.specs.World.{numbered}
use Rattle.mb_world.proofs.world.World.first_missing.Given as goal

abbrev pub invariant-loop-number : goal.invariant-loop-number
invariant-loop-number g l =
    find (λ n. is_none (numbered l.self.pool.items n)) (drop l.number-index l.numbers) ≡ find (λ n. is_none (numbered l.self.pool.items n)) l.numbers
