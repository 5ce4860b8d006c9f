use Rattle.std.proofs.Common.{◌≡◌, length}
use Rattle.mb_model.specs.EnabledRules.{number_of}
use Rattle.mb_normal.proofs.Greatest.{StillMore}
use Rattle.mb_normal.proofs.slots.note_requests.Given as goal

abbrev pub invariant-loop-request : goal.invariant-loop-request
invariant-loop-request l = record {
  places : length l.numbers.items ≡ length l.fn.numbers.items;
  more : StillMore number_of l.requests l.request-index l.fn.numbers.items l.numbers.items;
}
