-- A rule asks of the certificates in a message last, and of that message alone. So what is ordered whatever the certificates goes on as from the
-- floor to which it leads, and a test of certificates says of the next message what it says of it in the whole list.
use Rattle.std.proofs.Common.{◌≡◌, ℕ, ◌+◌, Bool, true, false, ◌&&◌, ◌||◌, not, List, [], ◌∷◌, refl, sym, ap, ◌∙◌}
use Rattle.std.specs.Prelude.{nat_le, ◌==◌}
use Rattle.std.proofs.lemmas.Bool.{and_parts}
use Rattle.std.proofs.Math.Bool.{and-true}
use Rattle.mb_base.specs.Shapes.{primary}
use Rattle.mb_base.specs.declared.shape.Shape.{Shape}
use Rattle.mb_parts.specs.declared.floor.Floor.{Floor}
use Rattle.mb_parts.specs.Bares.{Bare}
use Rattle.mb_parts.specs.Bares as bare
use Rattle.mb_parts.specs.Ordered.{current_view, is_opened, is_entered, last_position, permits, is_ordered, floor_after, end_of}
use Rattle.mb_parts.proofs.OrderedLaws.{goes_on}

-- The certificates in a message are valid, where it has any.
abbrev passes : Bare → Bool → Bool
passes (bare.Open evidence digest) inner = inner
passes (bare.Join view evidence stable) inner = inner
passes (bare.Commit view pos counter cert digest) inner = inner
passes m inner = true

-- the last of some tests, asked apart
third_apart : (a b c last : Bool) → (a && (b && (c && last))) ≡ ((a && (b && (c && true))) && last)
third_apart true true true last = refl
third_apart true true false last = refl
third_apart true false c last = refl
third_apart false b c last = refl

fourth_apart : (a b c d last : Bool) → (a && (b && (c && (d && last)))) ≡ ((a && (b && (c && (d && true)))) && last)
fourth_apart true b c d last = third_apart b c d last
fourth_apart false b c d last = refl

module _ (o : Floor) (s : Shape) (host : ℕ) where
  apart : (valid : Bare → Bool) (l : List Bare) (m : Bare) → permits o s host valid l m ≡ (permits o s host (λ b. true) l m && passes m (valid m))
  unfolding permits
  apart valid l (bare.Open e d) = third_apart (e.view == current_view o l) (not (is_opened o l e.view)) (not (host == primary s e.view) || is_entered o l e.view) _
  apart valid l (bare.Join v e c) =
      fourth_apart (v == current_view o l) (v == 0 || not (host == primary s v) || is_entered o l v || is_opened o l v) (nat_le (end_of e) c.pos) (not (is_opened o l v) || nat_le (last_position o l v) c.pos) _
  apart valid l (bare.Commit v p n c d) = fourth_apart (v == current_view o l) (not (host == primary s v)) (is_opened o l v) (p == last_position o l v + 1) _
  apart valid l m = sym (and-true _)

  -- What is permitted by a test is permitted whatever the certificates.
  pub permitted_whatever : (valid : Bare → Bool) (l : List Bare) (m : Bare) → permits o s host valid l m ≡ true → permits o s host (λ b. true) l m ≡ true
  permitted_whatever valid l m may = (and_parts _ _ (sym (apart valid l m) ∙ may)).0

  -- Two tests that say the same of a message permit the same there.
  pub same_test : (valid other : Bare → Bool) (l : List Bare) (m : Bare) → valid m ≡ other m → permits o s host valid l m ≡ permits o s host other l m
  same_test valid other l m same = apart valid l m ∙ ap (λ inner. permits o s host (λ b. true) l m && passes m inner) same ∙ sym (apart other l m)

  -- A test that permits a message behind a list that is ordered by it orders the longer list.
  pub ordered_more : (valid : Bare → Bool) (l : List Bare) (m : Bare) → is_ordered o s host valid l ≡ true → permits o s host valid l m ≡ is_ordered o s host valid (m ∷ l)
  unfolding is_ordered
  ordered_more valid l m h = rw h (sym (and-true _))

pub goes_on_whatever : (o : Floor) (s : Shape) (host : ℕ) (valid : Bare → Bool) (l : List Bare) (m : Bare) → is_ordered o s host (λ b. true) l ≡ true
    → permits o s host valid l m ≡ permits (floor_after o l) s host valid [] m
goes_on_whatever o s host valid l m h =
    apart o s host valid l m
    ∙ ap (λ may. may && passes m (valid m)) (goes_on o s host (λ b. true) l m h)
    ∙ sym (apart (floor_after o l) s host valid [] m)
