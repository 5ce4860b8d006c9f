use Rattle.std.proofs.Common.{◌≡◌, ℕ, ◌+◌, take}
use Rattle.std.specs.Prelude.{◌%◌, ◌^◌}
use Rattle.mb_edge.specs.Told.{with_more}
use Rattle.mb_node.specs.Sends.{numbered}
use Rattle.mb_node.proofs.Faults.{Calm}
use Rattle.mb_node.proofs.outbox.Outbox.send_all.Given as goal

abbrev pub invariant-loop-message : goal.invariant-loop-message
invariant-loop-message g l =
    let link = g.L.Link in
    record {
      sent : (n : ℕ) → l.fn.self.number ≡ n % 2 ^ 32 → (link.seen l.link).sent ≡ with_more (link.seen l.fn.link).sent (numbered l.fn.self.hosts l.fn.self.host n (take l.message-index l.sent));
      number : (n : ℕ) → l.fn.self.number ≡ n % 2 ^ 32 → l.self.number ≡ (n + l.message-index) % 2 ^ 32;
      host : l.self.host ≡ l.fn.self.host;
      hosts : l.self.hosts ≡ l.fn.self.hosts;
      received : (link.seen l.link).received ≡ (link.seen l.fn.link).received;
      opens : (link.seen l.link).opens ≡ (link.seen l.fn.link).opens;
      calm : Calm (link.seen l.fn.link).faults (link.seen l.link).faults (link.never_fails l.fn.link) (link.never_fails l.link);
    }
