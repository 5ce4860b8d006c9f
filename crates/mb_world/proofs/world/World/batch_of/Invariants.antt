use Rattle.std.proofs.Common.{◌≡◌, ◌≤◌, drop, filter_map, flat_map, length, take}
use Rattle.std.specs.List.{AllByRecursion}
use Rattle.mb_base.specs.Limits.{batch_bytes_limit}
use Rattle.mb_parts.specs.Fits.{FitsRequest}
use Rattle.mb_parts.specs.Spelling.{request_bytes}
use Rattle.mb_world_model.specs.FaultyHosts.{misfit, request_at}
use Rattle.mb_world_model.specs.World.{System, World as WorldState}
use Rattle.mb_world.specs.Tables.{RepresentsWorld}
use Rattle.mb_world.proofs.world.World.batch_of.Given as goal

-- The requests so far fit, and decide nothing.
abbrev pub invariant-loop-number : goal.invariant-loop-number
invariant-loop-number g l = record {
  left : (y : System _) (x : WorldState) → RepresentsWorld y l.self x → misfit y.schedule x l.used (drop l.number-index l.numbers) ≡ misfit y.schedule x 0 l.numbers;
  taken : (y : System _) (x : WorldState) → RepresentsWorld y l.self x → l.requests ≡ filter_map (request_at y.schedule x) (take l.number-index l.numbers);
  fits : AllByRecursion (FitsRequest l.self.shape) l.requests;
  used : l.used ≡ length (flat_map request_bytes l.requests);
  small : l.used ≤ batch_bytes_limit;
  count : length l.requests ≡ l.number-index;
}
