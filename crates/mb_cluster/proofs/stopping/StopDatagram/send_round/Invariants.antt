use Rattle.std.proofs.Common.{◌≡◌}
use Rattle.std.specs.Result.{IsErrOf}
use Rattle.mb_edge.specs.declared.outside.Failed.TheVariants.{Device}
use Rattle.mb_edge.specs.Faults.{TellsFaults}
use Rattle.mb_cluster.specs.Sends.{SendsSome}
use Rattle.mb_cluster.specs.Missing.{SendsBut}
use Rattle.mb_cluster.specs.Stopping.{round}
use Rattle.mb_cluster.proofs.stopping.StopDatagram.send_round.Given as goal

abbrev pub invariant-loop-host : goal.invariant-loop-host
invariant-loop-host g l =
    let link = g.L.Link in
    record {
      sent : SendsSome (round l.host l.self.bytes.items) l.sent (link.seen l.fn.link).sent (link.seen l.link).sent;
      few : link.sends_without_memory → SendsBut (round l.host l.self.bytes.items) (link.seen l.fn.link).faults (link.seen l.link).faults (link.seen l.fn.link).sent (link.seen l.link).sent;
      received : (link.seen l.link).received ≡ (link.seen l.fn.link).received;
      opens : (link.seen l.link).opens ≡ (link.seen l.fn.link).opens;
      faults : TellsFaults (link.never_fails l.fn.link) (link.never_fails l.link) (link.seen l.fn.link).faults (link.seen l.link).faults (IsErrOf l.sent Device);
    }
