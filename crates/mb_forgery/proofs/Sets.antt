-- Sorted sets of bytes: what was put in is found, and nothing else.
use Rattle.std.proofs.Common.{◌≡◌, ℕ, Ordering, Less, Equal, Greater, Bool, true, false, ◌||◌, List, [], ◌∷◌, refl, sym, ap, ◌∙◌}
use Rattle.std.specs.List.{list_any}
use Rattle.std.specs.Ordering.{is_eq, match_ordering, nat_cmp}
use Rattle.std.specs.Cmp.Lexicographic.{slice_cmp, texts_ties, bytes_decides}
use Rattle.std.specs.BTreeSet.{insert_key}
use Rattle.std.specs.Global.{Vec}
use Rattle.mb_base.specs.Shapes.{Bytes}
use Rattle.mb_usig.specs.Tags.{same_bytes}

abbrev pub key_order : Vec ℕ → Vec ℕ → Ordering
key_order a b = slice_cmp nat_cmp a.items b.items

abbrev pub is_at : Bytes → Vec ℕ → Bool
is_at bytes k = is_eq (slice_cmp nat_cmp bytes k.items)

abbrev pub has : Bytes → List (Vec ℕ) → Bool
has bytes keys = list_any (is_at bytes) keys

same_either : (a b : Bytes) → same_bytes a b ≡ same_bytes b a
same_either a b = by (same_bytes a b) (same_bytes b a) refl refl where
  by : (x y : Bool) → same_bytes a b ≡ x → same_bytes b a ≡ y → x ≡ y
  by true true ex ey = refl
  by false false ex ey = refl
  by true false ex ey = sym ((bytes_decides b a).1 (sym ((bytes_decides a b).0 ex))) ∙ ey
  by false true ex ey = sym ex ∙ (bytes_decides a b).1 (sym ((bytes_decides b a).0 ey))

tie : (bytes : Bytes) (k : Vec ℕ) → is_at bytes k ≡ same_bytes k.items bytes
tie bytes k = sym (texts_ties bytes k.items) ∙ same_either bytes k.items

or_swap : (a b c : Bool) → (a || (b || c)) ≡ (b || (a || c))
or_swap true true c = refl
or_swap true false c = refl
or_swap false b c = refl

or_same : (a c : Bool) → (a || c) ≡ (a || (a || c))
or_same true c = refl
or_same false c = refl

-- with one more key
pub has_inserted : (bytes : Bytes) (keys : List (Vec ℕ)) (k : Vec ℕ) → has bytes (insert_key key_order keys k) ≡ (same_bytes k.items bytes || has bytes keys)
has_inserted bytes [] k = ap (λ b. b || false) (tie bytes k)
has_inserted bytes (x ∷ keys) k = by (key_order k x) refl (has_inserted bytes keys k) where
  by : (o : Ordering) → key_order k x ≡ o → has bytes (insert_key key_order keys k) ≡ (same_bytes k.items bytes || has bytes keys) → has bytes (match_ordering o (k ∷ x ∷ keys) (x ∷ keys) (x ∷ insert_key key_order keys k)) ≡ (same_bytes k.items bytes || has bytes (x ∷ keys))
  by Less e later = ap (λ b. b || has bytes (x ∷ keys)) (tie bytes k)
  by Greater e later = ap (λ b. is_at bytes x || b) later ∙ or_swap (is_at bytes x) (same_bytes k.items bytes) (has bytes keys)
  by Equal e later =
      let same : k.items ≡ x.items = (bytes_decides k.items x.items).0 (texts_ties k.items x.items ∙ ap is_eq e) in
      or_same (is_at bytes x) (has bytes keys) ∙ ap (λ b. b || has bytes (x ∷ keys)) (tie bytes x ∙ ap (λ z. same_bytes z bytes) (sym same))
