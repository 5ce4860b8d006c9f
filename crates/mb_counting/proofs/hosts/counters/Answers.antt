use Rattle.std.proofs.Common.{◌≡◌, [], ◌∷◌, arith, length-append}
use Rattle.mb_members.proofs.ListLaws.{each_push}
use Rattle.mb_counting.proofs.hosts.counters.Goals as goal

pub loop-preserved : goal.loop-preserved
loop-preserved c =
    let now = c.loop.invariant in
    let pushed = c.in_ok-push.ensures.items in
    record {
      alike = rw pushed (each_push (λ h v. v ≡ 0) c.loop.services.items c.new-counter.result now.alike c.new-counter.ensures);
      count = rw pushed (omega (arith, length-append c.loop.services.items (c.new-counter.result ∷ []), now.count));
    }
