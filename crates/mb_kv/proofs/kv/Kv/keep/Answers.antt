use Rattle.std.proofs.Common.{◌≡◌, ◌<◌, ◌∙◌, true, false, Some, length, slice_get, sym, ap, arith}
use Rattle.std.specs.Prelude.{slice_index_or}
use Rattle.std.proofs.lemmas.Option.{slice_get-get_or}
use Rattle.mb_kv.specs.Pairs.{Pairs, with_value}
use Rattle.mb_kv.specs.Snapshots.{bucket_of}
use Rattle.mb_kv.specs.Operations.{is_full_for}
use Rattle.mb_kv.specs.Laws.SnapshotLaws.{bucket_below}
use Rattle.mb_kv.proofs.KeptParts.{put_kept, put_gives}
use Rattle.mb_kv.proofs.kv.Kv.keep.Goals as goal

pub listed : goal.listed
listed c = omega (arith, c.from-place.ensures, c.requires.fits.bucket_is, bucket_below c.args.entry.0.items, c.self.invariant.long)

pub bounds-self-inside-place : goal.bounds-self-inside-place
bounds-self-inside-place c = omega (arith, c.from-place.ensures, c.requires.fits.bucket_is, bucket_below c.args.entry.0.items)

pub invariant_of-self-then-branch : goal.invariant_of-self-then-branch
invariant_of-self-then-branch c =
    let pss = c.self.inside.parts in
    let key = c.args.entry.0.items in
    let place = c.from-place.result in
    let own : place ≡ bucket_of key = c.from-place.ensures ∙ c.requires.fits.bucket_is in
    let lt : place < length pss = omega (arith, own, bucket_below key, c.self.invariant.long) in
    let old : Pairs = slice_index_or pss place c.index-self-place.result in
    let there : slice_get pss place ≡ Some old = slice_get-get_or pss place c.index-self-place.result lt in
    let room : is_full_for _ key ≡ false = ap (λ (ps : Pairs). is_full_for ps key) c.self.view_is ∙ c.requires.room in
    put_kept pss c.self.inside.count c.self.invariant place old c.keep.new.self key own there c.args.entry.1.value c.in_ok-keep.ensures.state c.requires.fits.fits true room (sym c.if-branch.true ∙ c.in_ok-keep.ensures.is_new)

pub invariant_of-self-else-branch : goal.invariant_of-self-else-branch
invariant_of-self-else-branch c =
    let pss = c.self.inside.parts in
    let key = c.args.entry.0.items in
    let place = c.from-place.result in
    let own : place ≡ bucket_of key = c.from-place.ensures ∙ c.requires.fits.bucket_is in
    let lt : place < length pss = omega (arith, own, bucket_below key, c.self.invariant.long) in
    let old : Pairs = slice_index_or pss place c.index-self-place.result in
    let there : slice_get pss place ≡ Some old = slice_get-get_or pss place c.index-self-place.result lt in
    let room : is_full_for _ key ≡ false = ap (λ (ps : Pairs). is_full_for ps key) c.self.view_is ∙ c.requires.room in
    put_kept pss c.self.inside.count c.self.invariant place old c.keep.new.self key own there c.args.entry.1.value c.in_ok-keep.ensures.state c.requires.fits.fits false room (sym c.if-branch.false ∙ c.in_ok-keep.ensures.is_new)

pub returns-then-branch-clause-state : goal.returns-then-branch-clause-state
returns-then-branch-clause-state c =
    let pss = c.self.inside.parts in
    let key = c.args.entry.0.items in
    let place = c.from-place.result in
    let own : place ≡ bucket_of key = c.from-place.ensures ∙ c.requires.fits.bucket_is in
    let lt : place < length pss = omega (arith, own, bucket_below key, c.self.invariant.long) in
    let old : Pairs = slice_index_or pss place c.index-self-place.result in
    let there : slice_get pss place ≡ Some old = slice_get-get_or pss place c.index-self-place.result lt in
    put_gives pss c.self.inside.count c.self.invariant place old c.keep.new.self key own there c.args.entry.1.value c.in_ok-keep.ensures.state c.requires.fits.fits ∙ ap (λ (ps : Pairs). with_value ps key c.args.entry.1.value) c.self.view_is

pub returns-else-branch-clause-state : goal.returns-else-branch-clause-state
returns-else-branch-clause-state c =
    let pss = c.self.inside.parts in
    let key = c.args.entry.0.items in
    let place = c.from-place.result in
    let own : place ≡ bucket_of key = c.from-place.ensures ∙ c.requires.fits.bucket_is in
    let lt : place < length pss = omega (arith, own, bucket_below key, c.self.invariant.long) in
    let old : Pairs = slice_index_or pss place c.index-self-place.result in
    let there : slice_get pss place ≡ Some old = slice_get-get_or pss place c.index-self-place.result lt in
    put_gives pss c.self.inside.count c.self.invariant place old c.keep.new.self key own there c.args.entry.1.value c.in_ok-keep.ensures.state c.requires.fits.fits ∙ ap (λ (ps : Pairs). with_value ps key c.args.entry.1.value) c.self.view_is
