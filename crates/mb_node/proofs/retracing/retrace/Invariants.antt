use Rattle.std.proofs.Common.{◌≡◌, take, false}
use Rattle.mb_model.specs.Histories.{Identity}
use Rattle.mb_core.specs.Represents.{IsAtRest}
use Rattle.mb_replica.specs.Represents.{Serves}
use Rattle.mb_node.specs.Retracing.{IsOf}
use Rattle.mb_node.proofs.Retraced.{IsRetraced}
use Rattle.mb_node.proofs.retracing.retrace.Given as goal

abbrev pub invariant-loop-entry : goal.invariant-loop-entry
invariant-loop-entry g l =
    let v = g.V.Service in
    record {
      own : (me : Identity _) → Serves v.machine me → me.initial ≡ l.fn.service → IsOf me l.fn.written → IsRetraced me (take l.entry-index l.entry-items) l.replica;
      count : l.events ≡ l.entry-index;
      runs : l.replica.halted ≡ false;
      rests : IsAtRest v.machine l.replica;
    }
