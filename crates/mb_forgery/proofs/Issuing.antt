-- A host stamped these bytes at this counter: by the bytes at the place below the counter, oldest first.
use Rattle.std.proofs.Common.{◌≡◌, ℕ, ◌+◌, Bool, true, false, List, reverse, slice_get, Option, Some, None, refl, sym, ap, ◌∙◌, inl, inr}
use Rattle.std.specs.Prelude.{option_and_then}
use Rattle.std.specs.Cmp.Lexicographic.{bytes_decides}
use Rattle.std.proofs.lemmas.Bool.{cases_Bool}
use Rattle.mb_base.specs.declared.shape.Shape.{Shape}
use Rattle.mb_base.specs.Shapes.{Bytes, IsShape}
use Rattle.mb_base.specs.Spelling.{IsBytes}
use Rattle.mb_usig.specs.Tags.{same_bytes}
use Rattle.mb_parts.specs.Bares.{Bare, bare_bytes}
use Rattle.mb_parts.specs.BareReading.{bare_of_bytes}
use Rattle.mb_parts.specs.Fits.{FitsBare}
use Rattle.mb_parts.specs.Counters.{at_counter}
use Rattle.mb_parts.specs.Issued.{is_that}
use Rattle.mb_parts.proofs.BareLaws.{bare_again}
use Rattle.mb_parts.proofs.SameBareLaws.{same_bare_is, same_bare_own}
use Rattle.mb_forgery.specs.Places.{is_there}
use Rattle.mb_forgery.proofs.BareReads.{bare_spelled}
use Rattle.mb_forgery.proofs.Places.{at_place, none_at_zero}

module _ (s : Shape) (h : IsShape s) (says : Bare) (fits : FitsBare s says) where
  -- whether what is read of the bytes says this
  abbrev pub says_it : Option Bytes → Bool
  says_it o = is_that (option_and_then (bare_of_bytes s) o) says

  that_is : (o : Option Bare) → is_that o says ≡ true → o ≡ Some says
  that_is None e = absurd cc
  that_is (Some x) e = ap Some (same_bare_is x says e)

  -- Bytes that say this are its bytes.
  compared : (x : Bytes) → IsBytes x → (b : Bool) → same_bytes x (bare_bytes says) ≡ b → b ≡ says_it (Some x)
  compared x fit true e =
      let is : x ≡ bare_bytes says = (bytes_decides x (bare_bytes says)).0 e in
      sym (rw (is, bare_again s h says fits) (same_bare_own says))
  compared x fit false e = elim (cases_Bool (says_it (Some x))) [
    | inl said ↦ sym e ∙ (bytes_decides x (bare_bytes says)).1 (bare_spelled s h x says fit (that_is (bare_of_bytes s x) said)) ∙ sym said
    | inr other ↦ sym other
  ]

  is_said : (o : Option Bytes) → ((x : Bytes) → o ≡ Some x → IsBytes x) → is_there o (bare_bytes says) ≡ says_it o
  is_said None fit = refl
  is_said (Some x) fit = compared x (fit x refl) (same_bytes x (bare_bytes says)) refl

  -- at a place, oldest first
  pub stands_at : (stamps : List Bytes) (i : ℕ) → ((x : Bytes) → slice_get (reverse stamps) i ≡ Some x → IsBytes x)
      → is_there (slice_get (reverse stamps) i) (bare_bytes says) ≡ says_it (at_counter stamps (i + 1))
  stands_at stamps i fit = is_said (slice_get (reverse stamps) i) fit ∙ ap says_it (sym (at_place stamps i))

  -- at no counter
  pub not_at_zero : (stamps : List Bytes) → false ≡ says_it (at_counter stamps 0)
  not_at_zero stamps = ap says_it (sym (none_at_zero stamps))
