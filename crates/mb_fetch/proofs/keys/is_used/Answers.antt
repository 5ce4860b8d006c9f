use Rattle.std.proofs.Common.{◌≡◌, ◌∙◌, ◌+◌, ◌||◌, Bool, true, false, drop, sym, ap}
use Rattle.std.proofs.lemmas.Bool.{or_left}
use Rattle.mb_fetch.specs.Shelves.{has_key, all_keys}
use Rattle.mb_fetch.proofs.ByKey.{first_used}
use Rattle.mb_fetch.proofs.keys.is_used.Goals as goal

pub returns-then-has_key : goal.returns-then-has_key
returns-then-has_key c =
    let i = c.loop-snapshot.snapshot-index in
    let k = c.snapshot-item.result in
    let snapshots = c.args.snapshots.now in
    let here : has_key c.args.key k.keys.items ≡ true = sym (c.has_key.ensures ∙ ap (has_key c.args.key) c.as_slice.ensures.value) ∙ c.if-has_key.true in
    sym (sym c.loop-snapshot.invariant
    ∙ (first_used snapshots i c.args.key k c.loop-snapshot-test.true c.snapshot-item.is
    ∙ or_left (has_key c.args.key k.keys.items) (has_key c.args.key (all_keys (drop (i + 1) snapshots))) here))

pub loop-snapshot-preserved : goal.loop-snapshot-preserved
loop-snapshot-preserved c =
    let i = c.loop-snapshot.snapshot-index in
    let k = c.snapshot-item.result in
    let snapshots = c.args.snapshots.now in
    let elsewhere : has_key c.args.key k.keys.items ≡ false = sym (c.has_key.ensures ∙ ap (has_key c.args.key) c.as_slice.ensures.value) ∙ c.if-has_key.false in
    sym (first_used snapshots i c.args.key k c.loop-snapshot-test.true c.snapshot-item.is
    ∙ ap (λ (b : Bool). b || has_key c.args.key (all_keys (drop (i + 1) snapshots))) elsewhere)
    ∙ c.loop-snapshot.invariant
