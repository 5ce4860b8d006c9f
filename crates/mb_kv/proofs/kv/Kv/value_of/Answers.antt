use Rattle.std.proofs.Common.{◌≡◌, ◌<◌, ◌∙◌, Some, length, slice_get, sym, ap, arith}
use Rattle.std.specs.Prelude.{slice_index_or}
use Rattle.std.proofs.lemmas.Option.{slice_get-get_or}
use Rattle.mb_kv.specs.Pairs.{Pairs, value_of}
use Rattle.mb_kv.specs.Snapshots.{bucket_of}
use Rattle.mb_kv.specs.Laws.SnapshotLaws.{bucket_below}
use Rattle.mb_kv.proofs.KeptParts.{value_there, kept_is_state, short_if_found}
use Rattle.mb_kv.proofs.kv.Kv.value_of.Goals as goal

pub listed : goal.listed
listed c = omega (arith, c.from.ensures, c.requires, bucket_below c.args.key.now, c.self.invariant.long)

pub bounds-self-inside-from : goal.bounds-self-inside-from
bounds-self-inside-from c = omega (arith, c.from.ensures, c.requires, bucket_below c.args.key.now)

pub returns-clause-value : goal.returns-clause-value
returns-clause-value c =
    let pss = c.self.inside.parts in
    let key = c.args.key.now in
    let place = c.from.result in
    let own : place ≡ bucket_of key = c.from.ensures ∙ c.requires in
    let lt : place < length pss = omega (arith, own, bucket_below key, c.self.invariant.long) in
    let old : Pairs = slice_index_or pss place c.index-self-from.result in
    let there : slice_get pss place ≡ Some old = slice_get-get_or pss place c.index-self-from.result lt in
    c.value_of.ensures ∙ sym (value_there pss c.self.inside.count c.self.invariant place old old key own there) ∙ ap (λ (ps : Pairs). value_of ps key) c.self.view_is

pub returns-clause-short : goal.returns-clause-short
returns-clause-short c =
    let pss = c.self.inside.parts in
    let key = c.args.key.now in
    let place = c.from.result in
    let own : place ≡ bucket_of key = c.from.ensures ∙ c.requires in
    let lt : place < length pss = omega (arith, own, bucket_below key, c.self.invariant.long) in
    let old : Pairs = slice_index_or pss place c.index-self-from.result in
    let there : slice_get pss place ≡ Some old = slice_get-get_or pss place c.index-self-from.result lt in
    short_if_found c.value_of.result _ key (kept_is_state pss c.self.inside.count c.self.invariant) (c.value_of.ensures ∙ sym (value_there pss c.self.inside.count c.self.invariant place old old key own there))
