use Rattle.std.proofs.Common.{◌≡◌, ◌<◌, ◌∙◌, true, false, Some, length, slice_get, sym, ap, arith}
use Rattle.std.specs.Prelude.{slice_index_or}
use Rattle.std.proofs.lemmas.Option.{slice_get-get_or}
use Rattle.mb_kv.specs.Pairs.{Pairs, without}
use Rattle.mb_kv.specs.Snapshots.{bucket_of}
use Rattle.mb_kv.specs.Laws.SnapshotLaws.{bucket_below}
use Rattle.mb_kv.proofs.KeptParts.{some_left, delete_kept, delete_gives}
use Rattle.mb_kv.proofs.kv.Kv.remove.Goals as goal

pub listed : goal.listed
listed c = omega (arith, c.from.ensures, c.requires, bucket_below c.args.key.now, c.self.invariant.long)

pub bounds-self-inside-from : goal.bounds-self-inside-from
bounds-self-inside-from c = omega (arith, c.from.ensures, c.requires, bucket_below c.args.key.now)

pub overflow_sub-self : goal.overflow_sub-self
overflow_sub-self c =
    let pss = c.self.inside.parts in
    let key = c.args.key.now in
    let place = c.from.result in
    let own : place ≡ bucket_of key = c.from.ensures ∙ c.requires in
    let lt : place < length pss = omega (arith, own, bucket_below key, c.self.invariant.long) in
    let old : Pairs = slice_index_or pss place c.index-self-from.result in
    let there : slice_get pss place ≡ Some old = slice_get-get_or pss place c.index-self-from.result lt in
    some_left pss c.self.inside.count c.self.invariant place old c.remove.new.self key own there c.remove.ensures.state (sym c.if-remove.true ∙ c.remove.ensures.was)

pub invariant_of-self : goal.invariant_of-self
invariant_of-self c =
    let pss = c.self.inside.parts in
    let key = c.args.key.now in
    let place = c.from.result in
    let own : place ≡ bucket_of key = c.from.ensures ∙ c.requires in
    let lt : place < length pss = omega (arith, own, bucket_below key, c.self.invariant.long) in
    let old : Pairs = slice_index_or pss place c.index-self-from.result in
    let there : slice_get pss place ≡ Some old = slice_get-get_or pss place c.index-self-from.result lt in
    delete_kept pss c.self.inside.count c.self.invariant place old c.remove.new.self key own there c.remove.ensures.state true (sym c.if-remove.true ∙ c.remove.ensures.was)

pub invariant_of-self-else-remove : goal.invariant_of-self-else-remove
invariant_of-self-else-remove c =
    let pss = c.self.inside.parts in
    let key = c.args.key.now in
    let place = c.from.result in
    let own : place ≡ bucket_of key = c.from.ensures ∙ c.requires in
    let lt : place < length pss = omega (arith, own, bucket_below key, c.self.invariant.long) in
    let old : Pairs = slice_index_or pss place c.index-self-from.result in
    let there : slice_get pss place ≡ Some old = slice_get-get_or pss place c.index-self-from.result lt in
    delete_kept pss c.self.inside.count c.self.invariant place old c.remove.new.self key own there c.remove.ensures.state false (sym c.if-remove.false ∙ c.remove.ensures.was)

pub returns-then-remove : goal.returns-then-remove
returns-then-remove c =
    let pss = c.self.inside.parts in
    let key = c.args.key.now in
    let place = c.from.result in
    let own : place ≡ bucket_of key = c.from.ensures ∙ c.requires in
    let lt : place < length pss = omega (arith, own, bucket_below key, c.self.invariant.long) in
    let old : Pairs = slice_index_or pss place c.index-self-from.result in
    let there : slice_get pss place ≡ Some old = slice_get-get_or pss place c.index-self-from.result lt in
    delete_gives pss c.self.inside.count c.self.invariant place old c.remove.new.self key own there c.remove.ensures.state ∙ ap (λ (ps : Pairs). without ps key) c.self.view_is

pub returns-else-remove : goal.returns-else-remove
returns-else-remove c =
    let pss = c.self.inside.parts in
    let key = c.args.key.now in
    let place = c.from.result in
    let own : place ≡ bucket_of key = c.from.ensures ∙ c.requires in
    let lt : place < length pss = omega (arith, own, bucket_below key, c.self.invariant.long) in
    let old : Pairs = slice_index_or pss place c.index-self-from.result in
    let there : slice_get pss place ≡ Some old = slice_get-get_or pss place c.index-self-from.result lt in
    delete_gives pss c.self.inside.count c.self.invariant place old c.remove.new.self key own there c.remove.ensures.state ∙ ap (λ (ps : Pairs). without ps key) c.self.view_is
