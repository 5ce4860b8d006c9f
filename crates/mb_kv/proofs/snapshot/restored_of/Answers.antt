use Rattle.std.proofs.Common.{◌≡◌, ◌+◌, ◌≤◌, List, length, ap, subst, arith}
use Rattle.std.specs.List.{AllByRecursion, fold}
use Rattle.mb_kv.specs.declared.limits.TheConstants.{MAX_KEYS}
use Rattle.mb_kv.specs.Pairs.{Pairs, with_value}
use Rattle.mb_kv.specs.Snapshots.{collected}
use Rattle.mb_kv.specs.Seen.{pair_seen, pairs_seen, EntryFits}
use Rattle.mb_kv.proofs.EntryLaws.{Entry}
use Rattle.mb_kv.specs.Laws.OrderLaws.{put_length}
use Rattle.mb_kv.proofs.snapshot.restored_of.Goals as goal

pub loop-entry-preserved : goal.loop-entry-preserved
loop-entry-preserved c =
    let e = c.in-Some.entry in
    let left = c.next.new.self.rest.items in
    let next = c.in-Some.ensures.steps.0 in
    let few : length c.keep.new.self + length left ≤ MAX_KEYS = omega (arith, ap length c.in_ok-keep.ensures.state, put_length (pair_seen e).0 (pair_seen e).1 c.loop-entry.kv, ap length next, c.loop-entry.invariant.few) in
    record {
      state = rw c.in_ok-keep.ensures.state (subst (λ (es : List Entry). fold (λ (state : Pairs) p. with_value state p.0 p.1) c.loop-entry.kv (pairs_seen es) ≡ collected (pairs_seen c.args.entries.items)) next c.loop-entry.invariant.state);
      few = few;
      fit = (subst (AllByRecursion EntryFits) next c.loop-entry.invariant.fit).1;
    }
