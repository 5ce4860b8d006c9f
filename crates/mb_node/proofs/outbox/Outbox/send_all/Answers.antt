use Rattle.std.proofs.Common.{◌≡◌, ℕ, ◌+◌, ◌++◌, take, drop, length, ap, sym, subst, refl, ◌∙◌, arith}
use Rattle.std.specs.Prelude.{◌%◌, ◌^◌}
use Rattle.std.proofs.lemmas.Result.{err_from_is_err_and}
use Rattle.mb_edge.specs.Told.{with_more}
use Rattle.mb_edge.proofs.ToldLemmas.{with_more-nil}
use Rattle.mb_node.specs.Sends.{Sends, datagrams_of, numbered}
use Rattle.mb_node.specs.Outside.{SendsPart}
use Rattle.mb_node.proofs.Faults.{calm_none, calm_both, calm_of}
use Rattle.mb_node.proofs.Told.{stopped, sends_behind, sends_before, sent_both}
use Rattle.mb_node.proofs.Peers.{numbered_none, numbered_more, numbered_parted, one_further}
use Rattle.mb_node.proofs.outbox.Outbox.send_all.Goals as goal

pub loop-message-init : goal.loop-message-init
loop-message-init g c = record {
  sent = λ n is. rw (numbered_none c.args.self.now.hosts c.args.self.now.host n) (sym (with_more-nil _));
  number = λ n is. is ∙ ap (λ (k : ℕ). k % 2 ^ 32) (omega arith);
  host = refl;
  hosts = refl;
  received = refl;
  opens = refl;
  calm = calm_none _ _;
}

pub returns-in_err-send-clause-sends : goal.returns-in_err-send-clause-sends
returns-in_err-send-clause-sends g c = λ n is.
    let p = err_from_is_err_and c.from_residual.result c.from_residual.ensures.1 in
    let hosts = c.args.self.now.hosts in
    let host = c.args.self.now.host in
    let xs = c.args.sent.now in
    let i = c.loop-message.message-index in
    let x = c.message-item.result in
    let so_far = c.loop-message.invariant in
    let one : Sends = datagrams_of hosts host (n + i) x in
    let before : Sends = numbered hosts host n (take i xs) in
    let later : Sends = numbered hosts host (n + length (take (i + 1) xs)) (drop (i + 1) xs) in
    let whole = numbered_parted hosts host n xs i x c.loop-message-test.true c.message-item.is in
    let same : datagrams_of c.loop-message.self.hosts c.loop-message.self.host (n + i) x ≡ one = ap (λ (k : ℕ). datagrams_of k c.loop-message.self.host (n + i) x) so_far.hosts ∙ ap (λ (k : ℕ). datagrams_of hosts k (n + i) x) so_far.host in
    let part = subst (λ (d : Sends). SendsPart d (g.L.Link.seen c.loop-message.link).sent (g.L.Link.seen c.send.new.link).sent) same (c.in_err-send.ensures.sends (n + i) (so_far.number n is)) in
    stopped _ _ _ _ p.0 p.1 (rw whole (sends_before (before ++ one) later _ _ (sends_behind before one _ _ _ (so_far.sent n is) part)))

pub loop-message-preserved : goal.loop-message-preserved
loop-message-preserved g c =
    let hosts = c.args.self.now.hosts in
    let host = c.args.self.now.host in
    let xs = c.args.sent.now in
    let i = c.loop-message.message-index in
    let x = c.message-item.result in
    let so_far = c.loop-message.invariant in
    let told = (g.L.Link.seen c.args.link.now).sent in
    record {
      sent = λ n is.
          let same : datagrams_of c.loop-message.self.hosts c.loop-message.self.host (n + i) x ≡ datagrams_of hosts host (n + i) x = ap (λ (k : ℕ). datagrams_of k c.loop-message.self.host (n + i) x) so_far.hosts ∙ ap (λ (k : ℕ). datagrams_of hosts k (n + i) x) so_far.host in
          sent_both told _ _ (numbered hosts host n (take i xs)) (datagrams_of hosts host (n + i) x) (so_far.sent n is) (c.in_ok-send.ensures.sends (n + i) (so_far.number n is) ∙ ap (with_more (g.L.Link.seen c.loop-message.link).sent) same)
          ∙ ap (with_more told) (sym (numbered_more hosts host n xs i x c.loop-message-test.true c.message-item.is));
      number = λ n is. ap (λ (k : ℕ). (k + 1) % 2 ^ 32) (so_far.number n is) ∙ one_further n i;
      host = so_far.host;
      hosts = so_far.hosts;
      received = c.in_ok-send.ensures.received ∙ so_far.received;
      opens = c.in_ok-send.ensures.opens ∙ so_far.opens;
      calm = calm_both _ _ _ _ _ _ so_far.calm (calm_of _ _ _ _ _ c.in_ok-send.ensures.link);
    }
