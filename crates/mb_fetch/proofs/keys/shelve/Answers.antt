use Rattle.std.proofs.Common.{◌≡◌, ◌∙◌, ℕ, List, [], ◌∷◌, ◌++◌, map, length, Some, sym, ap, subst, append_assoc, arith}
use Rattle.std.specs.Vec.Iter.{into_iter_items}
use Rattle.std.proofs.lemmas.List.{map_push}
use Rattle.mb_base.specs.Shapes.{Bytes}
use Rattle.mb_fetch.specs.declared.shelved.HashedPart.{HashedPart}
use Rattle.mb_fetch.specs.Shelves.{part_under, bytes_of, AddsOnly}
use Rattle.mb_fetch.proofs.Holding.{extends_both, adds_both, keys_more}
use Rattle.mb_fetch.proofs.keys.shelve.Goals as goal

pub loop-part-preserved : goal.loop-part-preserved
loop-part-preserved c =
    let p = part_under c.args.held.now in
    let q = part_under c.loop-part.held in
    let r = part_under c.key_for.new.held in
    let part = c.in-Some.part in
    let rest = into_iter_items c.next.new.self in
    let key = c.in_ok-key.key in
    let keys = c.loop-part.keys.items in
    let left : into_iter_items c.loop-part.part-iterator ≡ part ∷ rest = c.in-Some.ensures.steps.0 in
    let few = c.in-Some.ensures.steps.1 in
    let was = c.loop-part.invariant.len in
    let counted = ap length left in
    let done = c.loop-part.invariant.keys_are.0 in
    let pushed : c.push.new.self.items ≡ keys ++ key ∷ [] = c.in_ok-push.ensures.items in
    record {
      once = c.key_for.ensures.once;
      kept = extends_both p q r c.loop-part.invariant.kept c.key_for.ensures.kept;
      keys_are = (
        done ++ part ∷ [],
        subst (λ (l : List ℕ). map r l ≡ map (λ x. Some x) (bytes_of (done ++ part ∷ []))) (sym pushed) (keys_more q r c.key_for.ensures.kept keys (bytes_of done) key part.bytes c.loop-part.invariant.keys_are.1 c.in_ok-key.ensures.key ∙ ap (λ (l : List Bytes). map (λ x. Some x) l) (sym (map_push (λ (x : HashedPart). x.bytes) done part))),
        append_assoc done (part ∷ []) rest ∙ (ap (λ (l : List HashedPart). done ++ l) (sym left) ∙ c.loop-part.invariant.keys_are.2),
      );
      added = subst (λ (l : List ℕ). AddsOnly p r l) (sym pushed) (adds_both p q r keys (key ∷ []) c.loop-part.invariant.added c.in_ok-key.ensures.added);
      len = omega (arith, few, was, counted);
    }
