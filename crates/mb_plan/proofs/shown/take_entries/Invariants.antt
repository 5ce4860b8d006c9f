use Rattle.mb_parts.specs.declared.floor.Floor.{Floor}
use Rattle.mb_gate.specs.Represents.{Represents}
use Rattle.mb_gate.specs.SenderLogs.{log_from}
use Rattle.mb_model.specs.Verified.{verifies}
use Rattle.mb_plan.specs.Looked.{AreFound}
use Rattle.mb_plan.proofs.TakenEntries.{StandsAt}
use Rattle.mb_plan.proofs.shown.take_entries.Given as goal

abbrev pub invariant-loop-index : goal.invariant-loop-index
invariant-loop-index l = record {
  entries : (o : Floor) → Represents l.fn.gate (log_from l.shape l.host o)
      → StandsAt l.shape l.usig.secret (verifies l.usig.secret) l.host l.stable o l.entries l.gate l.index;
  places : AreFound l.shape l.usig.secret l.places;
}
