use Rattle.std.proofs.Common.{◌≡◌, map}
use Rattle.std.specs.List.{range_with_len}
use Rattle.mb_fetch.specs.Shelves.{bytes_of}
use Rattle.mb_executor.specs.Keeping.{AreShort}
use Rattle.mb_executor.proofs.snapshots.present_parts.Given as goal

abbrev pub invariant-loop-part : goal.invariant-loop-part
invariant-loop-part g l = record {
  parts : bytes_of l.parts.items ≡ map (g.V.Service.machine.part_of l.initial.service) (range_with_len 0 l.part);
  short : AreShort (bytes_of l.parts.items);
  kept : l.service ≡ l.initial.service;
}
