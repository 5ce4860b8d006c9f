use Rattle.std.proofs.Common.{◌≡◌, reverse, false}
use Rattle.mb_model.specs.Histories.{Identity, History}
use Rattle.mb_steps.specs.Arises.{IsWhole}
use Rattle.mb_core.specs.Represents.{Represents, IsAtRest}
use Rattle.mb_replica.specs.Represents.{Serves}
use Rattle.mb_node.specs.Replaying.{IsReplayed}
use Rattle.mb_node.proofs.replaying.replay.Given as goal

abbrev pub invariant-loop-event : goal.invariant-loop-event
invariant-loop-event g l =
    let v = g.V.Service in
    record {
      so_far : (me : Identity _) (d : History) → Serves v.machine me → Represents me l.fn.replica d → IsWhole d → IsReplayed me d (reverse l.yielded) l.entries.items l.replica;
      runs : l.replica.halted ≡ false;
      rests : IsAtRest v.machine l.replica;
    }
