use Rattle.std.proofs.Common.{◌≡◌, ◌≤◌, length, replicate}
use Rattle.std.specs.Result.{IsErrOf}
use Rattle.mb_base.specs.Shapes.{Bytes}
use Rattle.mb_edge.specs.declared.outside.Failed.TheVariants.{Device}
use Rattle.mb_edge.specs.Faults.{TellsFaults}
use Rattle.mb_cluster.specs.Posts.{posts, number_after, stop_bytes}
use Rattle.mb_cluster.specs.Sends.{SendsSome}
use Rattle.mb_cluster.specs.Missing.{SendsBut}
use Rattle.mb_cluster.specs.Stopping.{IsStop}
use Rattle.mb_cluster.proofs.stopping.StopDatagram.send.Given as goal

abbrev pub invariant-loop : goal.invariant-loop
invariant-loop g l =
    let link = g.L.Link in
    let first = l.fn.post in
    record {
      long : 5 ≤ length l.self.bytes.items;
      stop : (secret : Bytes) → IsStop secret l.fn.self.bytes.items → IsStop secret l.self.bytes.items;
      sent : (secret : Bytes) → IsStop secret l.fn.self.bytes.items → SendsSome (posts first.hosts first.number (replicate l.counter (stop_bytes secret))) l.sent (link.seen l.fn.link).sent (link.seen l.link).sent;
      number : (secret : Bytes) → l.post.number ≡ number_after first.number (replicate l.counter (stop_bytes secret));
      hosts : l.post.hosts ≡ first.hosts;
      few : link.sends_without_memory → (secret : Bytes) → IsStop secret l.fn.self.bytes.items
          → SendsBut (posts first.hosts first.number (replicate l.counter (stop_bytes secret))) (link.seen l.fn.link).faults (link.seen l.link).faults (link.seen l.fn.link).sent (link.seen l.link).sent;
      received : (link.seen l.link).received ≡ (link.seen l.fn.link).received;
      opens : (link.seen l.link).opens ≡ (link.seen l.fn.link).opens;
      faults : TellsFaults (link.never_fails l.fn.link) (link.never_fails l.link) (link.seen l.fn.link).faults (link.seen l.link).faults (IsErrOf l.sent Device);
    }
