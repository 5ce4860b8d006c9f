-- No host's counter goes beyond the greatest.
use Rattle.std.proofs.Common.{ℕ, ◌^◌, ◌<◌, [], arith}
use Rattle.mb_model.specs.Histories.{counter_of, stamped as all_stamped}
use Rattle.mb_world_model.specs.World.{System, self_of}
use Rattle.mb_world_model.specs.WorldSteps.{world}
use Rattle.mb_world_laws.proofs.KeptByWorlds.{world_keeps}
use Rattle.mb_host_laws.proofs.Unspent.{event_low}

module _ {S : Type 0} (system : System S) where
  begins_low : (h : ℕ) → counter_of [] < 2 ^ 64
  unfolding all_stamped
  begins_low h = omega arith

  pub unspent_in : (k h : ℕ) → counter_of ((world system k).histories h) < 2 ^ 64
  unspent_in k h = world_keeps system (λ h d. counter_of d < 2 ^ 64) begins_low (λ h d e p. event_low (self_of system h) d e p) k h
