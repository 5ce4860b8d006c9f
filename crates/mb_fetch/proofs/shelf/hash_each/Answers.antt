use Rattle.std.proofs.Common.{◌≡◌, ◌∙◌, List, [], ◌∷◌, ◌++◌, length, sym, ap, append_assoc, arith}
use Rattle.std.specs.Vec.Iter.{into_iter_items}
use Rattle.std.proofs.lemmas.List.{map_push}
use Rattle.mb_base.specs.Shapes.{Bytes}
use Rattle.mb_fetch.specs.declared.shelved.HashedPart.{HashedPart}
use Rattle.mb_fetch.specs.Shelves.{bytes_of}
use Rattle.mb_fetch.proofs.shelf.hash_each.Goals as goal

pub loop-part-preserved : goal.loop-part-preserved
loop-part-preserved c =
    let part = c.in-Some.part in
    let rest = into_iter_items c.next.new.self in
    let hashed = c.loop-part.hashed.items in
    let left : into_iter_items c.loop-part.part-iterator ≡ part ∷ rest = c.in-Some.ensures.steps.0 in
    let few = c.in-Some.ensures.steps.1 in
    let was = c.loop-part.invariant.len in
    let counted = ap length left in
    let more : bytes_of c.push.new.self.items ≡ bytes_of hashed ++ part ∷ [] =
    ap (λ (l : List HashedPart). bytes_of l) c.in_ok-push.ensures.items
    ∙ (map_push (λ (x : HashedPart). x.bytes) hashed c.of.result ∙ ap (λ (b : Bytes). bytes_of hashed ++ b ∷ []) c.of.ensures)
    in
    record {
      hashed = ap (λ (l : List Bytes). l ++ rest) more ∙ (append_assoc (bytes_of hashed) (part ∷ []) rest ∙ (ap (λ (l : List Bytes). bytes_of hashed ++ l) (sym left) ∙ c.loop-part.invariant.hashed));
      len = omega (arith, few, was, counted);
    }
