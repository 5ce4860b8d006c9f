-- Digests, one behind the other.
use Rattle.std.proofs.Common.{◌≡◌, ℕ, zero, suc, ◌+◌, ◌<◌, List, [], ◌∷◌, ◌++◌, length, take, get_or, sym, ap, ◌∙◌, arith, append_assoc}
use Rattle.std.specs.List.{flat_map}
use Rattle.std.proofs.lemmas.List.{append-nil}
use Rattle.std.proofs.lemmas.List.Concat.{flat_map-cons}
use Rattle.mb_base.specs.Shapes.{Bytes}

behind : (ds : List Bytes) (i : ℕ) (d : Bytes) → i < length ds → flat_map (λ (x : Bytes). x) (take (suc i) ds) ≡ flat_map (λ (x : Bytes). x) (take i ds) ++ get_or ds i d
behind [] i d lt = absurd (omega (arith, lt))
behind (y ∷ ys) zero d lt = flat_map-cons (λ (x : Bytes). x) y [] ∙ append-nil y
behind (y ∷ ys) (suc i) d lt =
    flat_map-cons (λ (x : Bytes). x) y (take (suc i) ys)
    ∙ (ap (λ (l : Bytes). y ++ l) (behind ys i d (omega (arith, lt)))
    ∙ (sym (append_assoc y (flat_map (λ (x : Bytes). x) (take i ys)) (get_or ys i d))
    ∙ ap (λ (l : Bytes). l ++ get_or ys i d) (sym (flat_map-cons (λ (x : Bytes). x) y (take i ys)))))

-- one digest more behind what was hashed before
pub one_more : (m : Bytes) (ds : List Bytes) (i : ℕ) (d : Bytes) → i < length ds → (m ++ flat_map (λ (x : Bytes). x) (take i ds)) ++ get_or ds i d ≡ m ++ flat_map (λ (x : Bytes). x) (take (i + 1) ds)
one_more m ds i d lt =
    let up : suc i ≡ i + 1 = omega arith in
    append_assoc m (flat_map (λ (x : Bytes). x) (take i ds)) (get_or ds i d)
    ∙ (ap (λ (x : Bytes). m ++ x) (sym (behind ds i d lt)) ∙ ap (λ (n : ℕ). m ++ flat_map (λ (x : Bytes). x) (take n ds)) up)
