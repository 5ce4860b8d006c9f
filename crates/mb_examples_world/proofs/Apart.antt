-- Whether strings have digests of their own, seen by computing: each digest is made once.
use Rattle.std.proofs.Common.{◌≡◌, inl, inr, Bool, true, false, List, [], ◌∷◌, map, ap, sym, ◌∙◌, subst}
use Rattle.std.specs.Prelude.{◌&&◌, ◌||◌, not, Contains}
use Rattle.std.specs.List.{list_all}
use Rattle.std.proofs.lemmas.Bool.{or_cases, or_left, or_right, and_parts}
use Rattle.std.proofs.lemmas.List.Elements.{All-contains}
use Rattle.std.proofs.lemmas.List.Sums.{AllPass-from_list_all}
use Rattle.sha2.specs.Sha256.{sha256}
use Rattle.mb_base.specs.Shapes.{Bytes}
use Rattle.mb_usig.specs.Tags.{same_bytes}
use Rattle.mb_usig.proofs.Laws.{same_bytes-true, true-same_bytes}
use Rattle.mb_world_model.specs.Hashed.{HashesApart}

-- One of these is this string.
abbrev pub is_among : List Bytes → Bytes → Bool
is_among [] x = false
is_among (y ∷ l) x = same_bytes x y || is_among l x

-- No two of these are the same.
abbrev pub are_different : List Bytes → Bool
are_different [] = true
are_different (x ∷ l) = not (is_among l x) && are_different l

not_both : (b : Bool) → not b ≡ true → b ≡ true → ⊥
not_both true denied said = absurd cc
not_both false denied said = absurd cc

-- With a string its digest is among the digests.
digest_among : (x digest : Bytes) (l : List Bytes) → sha256 x ≡ digest → is_among l x ≡ true → is_among (map sha256 l) digest ≡ true
digest_among x digest [] is there = absurd cc
digest_among x digest (y ∷ l) is there = elim (or_cases (same_bytes x y) (is_among l x) there) [
  | inl same ↦ or_left _ _ (true-same_bytes digest (sha256 y) (sym is ∙ ap sha256 (same_bytes-true x y same)))
  | inr later ↦ or_right _ _ (digest_among x digest l is later)
]

one_string : (l : List Bytes) (x y : Bytes) → are_different (map sha256 l) ≡ true → is_among l x ≡ true → is_among l y ≡ true → sha256 x ≡ sha256 y → x ≡ y
one_string [] x y different first second is = absurd cc
one_string (z ∷ l) x y different first second is =
    let parts : (not (is_among (map sha256 l) (sha256 z)) ≡ true) × (are_different (map sha256 l) ≡ true) = and_parts _ _ different in
    elim (or_cases (same_bytes x z) (is_among l x) first) [
      | inl here ↦ elim (or_cases (same_bytes y z) (is_among l y) second) [
        | inl there ↦ same_bytes-true x z here ∙ sym (same_bytes-true y z there)
        | inr there ↦ absurd (not_both _ parts.0 (digest_among y (sha256 z) l (sym is ∙ ap sha256 (same_bytes-true x z here)) there))
      ]
      | inr here ↦ elim (or_cases (same_bytes y z) (is_among l y) second) [
        | inl there ↦ absurd (not_both _ parts.0 (digest_among x (sha256 z) l (is ∙ ap sha256 (same_bytes-true y z there)) here))
        | inr there ↦ one_string l x y parts.1 here there is
      ]
    ]

-- No two of some strings share a digest, where all are among others, and the digests of these are different.
pub are_apart : (others digests strings : List Bytes) → list_all (is_among others) strings ≡ true → map sha256 others ≡ digests → are_different digests ≡ true → HashesApart strings
are_apart others digests strings among are different x y in_x in_y =
    let held : (z : Bytes) → Contains strings z → is_among others z ≡ true = λ z is. All-contains (λ (z : Bytes). is_among others z ≡ true) strings z (AllPass-from_list_all (is_among others) strings among) is in
    one_string others x y (subst (λ (l : List Bytes). are_different l ≡ true) (sym are) different) (held x in_x) (held y in_y)
