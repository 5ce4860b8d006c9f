use Rattle.std.proofs.Common.{[], List, ap, sym, subst, ◌∙◌}
use Rattle.std.proofs.lemmas.Result.{err_from_is_err_and}
use Rattle.mb_base.specs.Fields.{place_of}
use Rattle.mb_kv.specs.Snapshots.{pairs_at}
use Rattle.mb_kv.specs.Seen.{pairs_seen, Faults}
use Rattle.mb_kv.specs.Laws.PairLaws.{next_pair_at}
use Rattle.mb_kv.proofs.EntryLaws.{Entry}
use Rattle.mb_kv.proofs.PartLaws.{entries_more, pairs_go_on, pairs_fault, pairs_done}
use Rattle.mb_kv.proofs.snapshot.read_pairs.Goals as goal

pub returns-in_err-read_pair-clause-read : goal.returns-in_err-read_pair-clause-read
returns-in_err-read_pair-clause-read c =
    let p = err_from_is_err_and c.from_residual.result c.from_residual.ensures.1 in
    rw (p.1, p.2) (pairs_fault c.args.bucket c.args.room c.loop.entries.items c.args.count c.loop.counter (place_of c.loop.fields) c.in_err-read_pair.field-0.0 (pairs_at c.args.bucket c.args.room [] c.args.count (place_of c.args.fields.now)) c.loop-test.true (subst (λ (es : List Entry). Faults c.in_err-read_pair.field-0.0 (next_pair_at c.args.bucket c.args.room (pairs_seen es) (place_of c.loop.fields))) c.as_slice.ensures.value c.in_err-read_pair.ensures.read) c.loop.invariant.read)

pub loop-preserved : goal.loop-preserved
loop-preserved c =
    let e = c.in_ok-read_pair.field-0 in
    let es = c.loop.entries.items in
    record {
      read = rw c.in_ok-push.ensures.items (pairs_go_on c.args.bucket c.args.room es c.args.count c.loop.counter (place_of c.loop.fields) e (place_of c.read_pair.new.fields) (pairs_at c.args.bucket c.args.room [] c.args.count (place_of c.args.fields.now)) c.loop-test.true (ap (λ (es : List Entry). next_pair_at c.args.bucket c.args.room (pairs_seen es) (place_of c.loop.fields)) (sym c.as_slice.ensures.value) ∙ c.in_ok-read_pair.ensures.read) c.loop.invariant.read);
      fit = rw c.in_ok-push.ensures.items (entries_more es e c.loop.invariant.fit c.in_ok-read_pair.ensures.fits);
    }

pub returns-clause-read : goal.returns-clause-read
returns-clause-read c =
    pairs_done c.args.bucket c.args.room c.loop.entries.items c.args.count c.loop.counter (place_of c.loop.fields) (pairs_at c.args.bucket c.args.room [] c.args.count (place_of c.args.fields.now)) c.loop-test.false c.loop.invariant.read
