-- What leads a view at a counter of a list, as it is kept beside the list, oldest first.
use Rattle.std.proofs.Common.{◌≡◌, ℕ, ◌+◌, ◌<◌, Bool, true, false, cond, eqb, List, [], ◌∷◌, length, map, reverse, slice_get, Option, Some, None, option_map, refl, sym, ap, ◌∙◌, arith}
use Rattle.std.specs.Prelude.{◌==◌}
use Rattle.std.specs.Option.{option_eq}
use Rattle.std.proofs.lemmas.List.{length-map}
use Rattle.mb_parts.specs.Bares.{Bare}
use Rattle.mb_parts.specs.Bares as bare
use Rattle.mb_parts.specs.Counters.{at_counter}
use Rattle.mb_parts.proofs.Counters.{at_bound}
use Rattle.mb_model.specs.Committed.{leads}
use Rattle.mb_forgery.proofs.Places.{at_place, none_at_zero}
use Rattle.mb_learn.specs.Followers.{led_by}

-- the view that is kept is this one
abbrev pub is_led : ℕ → Option (Option ℕ) → Bool
is_led v (Some (Some view)) = view == v
is_led v (Some None) = false
is_led v None = false

-- as it is compared
pub compared_led : (v : ℕ) (o : Option ℕ) → option_eq eqb o (Some v) ≡ is_led v (Some o)
compared_led v (Some view) = refl
compared_led v None = refl

leads_is : (v : ℕ) (o : Option Bare) → leads v o ≡ is_led v (option_map led_by o)
leads_is v None = refl
leads_is v (Some (bare.Prepare view pos digest)) = refl
leads_is v (Some (bare.Commit view pos counter cert digest)) = refl
leads_is v (Some (bare.Checkpoint pos digest body)) = refl
leads_is v (Some (bare.ViewChange view digest)) = refl
leads_is v (Some (bare.NewView view base end plan digest)) = refl
leads_is v (Some (bare.Enter view counter plan)) = refl
leads_is v (Some (bare.Open evidence digest)) = refl
leads_is v (Some (bare.Join view evidence stable)) = refl

led_in : (l : List Bare) (c : ℕ) → at_counter (map led_by l) c ≡ option_map led_by (at_counter l c)
led_in [] c = refl
led_in (m ∷ l) c = ap (λ n. cond (c == n + 1) (Some (led_by m)) (at_counter (map led_by l) c)) (length-map l led_by) ∙ by (c == length l + 1) (led_in l c) where
  by : (b : Bool) → at_counter (map led_by l) c ≡ option_map led_by (at_counter l c) → cond b (Some (led_by m)) (at_counter (map led_by l) c) ≡ option_map led_by (cond b (Some m) (at_counter l c))
  by true rest = refl
  by false rest = rest

-- at the place below the counter
pub leads_at : (v : ℕ) (l : List Bare) (c i : ℕ) (led : List (Option ℕ)) → c ≡ i + 1 → led ≡ reverse (map led_by l) → is_led v (slice_get led i) ≡ leads v (at_counter l c)
leads_at v l c i led at is =
    ap (is_led v) (ap (λ (x : List (Option ℕ)). slice_get x i) is ∙ sym (at_place (map led_by l) i) ∙ led_in l (i + 1)) ∙ sym (leads_is v (at_counter l (i + 1))) ∙ ap (λ n. leads v (at_counter l n)) (sym at)

-- There is no counter 0, and none behind the list.
pub leads_zero : (v : ℕ) (l : List Bare) (c : ℕ) → c ≡ 0 → false ≡ leads v (at_counter l c)
leads_zero v l c zero = sym (ap (leads v) (ap (at_counter l) zero ∙ none_at_zero l))

pub leads_behind : (v : ℕ) (l : List Bare) (c : ℕ) → length l < c → false ≡ leads v (at_counter l c)
leads_behind v l c lt = by (at_counter l c) refl where
  by : (o : Option Bare) → at_counter l c ≡ o → false ≡ leads v (at_counter l c)
  by None none = sym (ap (leads v) none)
  by (Some m) at = let bound = (at_bound l c m at).1 in absurd (omega (arith, lt, bound))
