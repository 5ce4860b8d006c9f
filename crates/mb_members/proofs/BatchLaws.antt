-- The requests of several messages as a batch, one after the other.
use Rattle.std.proofs.Common.{◌≡◌, ℕ, ◌+◌, ◌-◌, ◌^◌, ◌<◌, ◌≤◌, true, false, List, [], ◌∷◌, ◌++◌, length, take, drop, get_or, Some, None, refl, sym, ap, ◌∙◌, arith, length-append}
use Rattle.std.specs.Prelude.{filter_map, option_map}
use Rattle.std.specs.List.{flat_map}
use Rattle.std.proofs.lemmas.Bool.{le-leb, lt-leb}
use Rattle.std.proofs.lemmas.List.{at_drop_more, at_drop_all, take_more}
use Rattle.std.proofs.lemmas.List.Concat.{flat_map-append, flat_map-cons}
use Rattle.std.proofs.lemmas.List.Elements.{filter_map-append}
use Rattle.mb_base.specs.Limits.{batch_bytes_limit}
use Rattle.mb_base.specs.Shapes.{Bytes}
use Rattle.mb_parts.specs.declared.request.Request.{Request}
use Rattle.mb_parts.specs.Counted.{counted}
use Rattle.mb_parts.specs.Spelling.{request_bytes}
use Rattle.mb_model.specs.Batches.{has_place}
use Rattle.mb_schedule.specs.declared.schedule.Schedule.{Schedule}
use Rattle.mb_world_model.specs.World.{World as WorldState}
use Rattle.mb_world_model.specs.FaultyHosts.{request_at, misfit}
use Rattle.mb_world_model.specs.Stops.{WrongKind}

module _ (s : Schedule) (x : WorldState) where
  -- It goes in, and those behind it are looked at.
  misfit_next : (used n : ℕ) (ns : List ℕ) (r : Request) → request_at s x n ≡ Some r → has_place used r ≡ true → misfit s x used (n ∷ ns) ≡ misfit s x (used + length (request_bytes r)) ns
  unfolding misfit
  misfit_next used n ns r there place = rw (there, place) refl

  -- It is no REQUEST.
  misfit_kind : (used n : ℕ) (ns : List ℕ) → request_at s x n ≡ None → misfit s x used (n ∷ ns) ≡ Some n
  unfolding misfit
  misfit_kind used n ns none = rw none refl

  -- It is one too many.
  misfit_long : (used n : ℕ) (ns : List ℕ) (r : Request) → request_at s x n ≡ Some r → has_place used r ≡ false → misfit s x used (n ∷ ns) ≡ Some n
  unfolding misfit
  misfit_long used n ns r there full = rw (there, full) refl

  misfit_none : (used : ℕ) → misfit s x used [] ≡ None
  unfolding misfit
  misfit_none used = refl

  -- the requests with one more
  requests_more : (ns : List ℕ) (n : ℕ) (r : Request) → request_at s x n ≡ Some r → filter_map (request_at s x) (ns ++ n ∷ []) ≡ filter_map (request_at s x) ns ++ r ∷ []
  requests_more ns n r there = filter_map-append (request_at s x) ns (n ∷ []) ∙ ap (λ (l : List Request). filter_map (request_at s x) ns ++ l) (rw there refl)

-- ---- one after the other

-- Below the greatest number bytes are counted as they are.
counted_small : (n most : ℕ) (xs : Bytes) → most < 2 ^ 64 - 1 → counted n xs ≤ most → counted n xs ≡ n + length xs
unfolding counted
counted_small n most xs lt le = omega (arith, lt, le)

counted_large : (n most : ℕ) (xs : Bytes) → most < counted n xs → most < n + length xs
unfolding counted
counted_large n most xs lt = omega (arith, lt)

module _ (s : Schedule) (x : WorldState) (numbers : List ℕ) (i used : ℕ) (lt : i < length numbers) (left : misfit s x used (drop i numbers) ≡ misfit s x 0 numbers) where
  next_left : misfit s x used (get_or numbers i 0 ∷ drop (i + 1) numbers) ≡ misfit s x 0 numbers
  next_left = sym (at_drop_more (misfit s x used) numbers i 0 lt) ∙ left

  pub kind_told : None ≡ request_at s x (get_or numbers i 0) → Some (WrongKind (get_or numbers i 0)) ≡ option_map WrongKind (misfit s x 0 numbers)
  kind_told none = ap (option_map WrongKind) (sym (misfit_kind s x used (get_or numbers i 0) (drop (i + 1) numbers) (sym none)) ∙ next_left)

  pub long_told : (r : Request) → Some r ≡ request_at s x (get_or numbers i 0) → batch_bytes_limit < counted used (request_bytes r) → Some (WrongKind (get_or numbers i 0)) ≡ option_map WrongKind (misfit s x 0 numbers)
  long_told r some long =
      ap (option_map WrongKind)
      (sym (misfit_long s x used (get_or numbers i 0) (drop (i + 1) numbers) r (sym some) (lt-leb (used + length (request_bytes r)) batch_bytes_limit (counted_large used batch_bytes_limit (request_bytes r) long))) ∙ next_left)

  pub left_on : (r : Request) → Some r ≡ request_at s x (get_or numbers i 0) → counted used (request_bytes r) ≤ batch_bytes_limit → misfit s x (counted used (request_bytes r)) (drop (i + 1) numbers) ≡ misfit s x 0 numbers
  left_on r some short =
      let all : counted used (request_bytes r) ≡ used + length (request_bytes r) = counted_small used batch_bytes_limit (request_bytes r) (omega arith) short in
      ap (λ n. misfit s x n (drop (i + 1) numbers)) all
      ∙ (sym (misfit_next s x used (get_or numbers i 0) (drop (i + 1) numbers) r (sym some) (le-leb (used + length (request_bytes r)) batch_bytes_limit (omega (arith, all, short)))) ∙ next_left)

  pub taken_on : (requests : List Request) (r : Request) → requests ≡ filter_map (request_at s x) (take i numbers) → Some r ≡ request_at s x (get_or numbers i 0) → requests ++ r ∷ [] ≡ filter_map (request_at s x) (take (i + 1) numbers)
  taken_on requests r are some =
      ap (λ (l : List Request). l ++ r ∷ []) are
      ∙ (sym (requests_more s x (take i numbers) (get_or numbers i 0) r (sym some)) ∙ ap (filter_map (request_at s x)) (sym (take_more numbers i 0 lt)))

pub all_fit : (s : Schedule) (x : WorldState) (numbers : List ℕ) (i used : ℕ) → length numbers ≤ i → misfit s x used (drop i numbers) ≡ misfit s x 0 numbers → option_map WrongKind (misfit s x 0 numbers) ≡ None
all_fit s x numbers i used le left = ap (option_map WrongKind) (sym (sym (at_drop_all (misfit s x used) numbers i le) ∙ left) ∙ misfit_none s x used)

-- the bytes of the requests with one more
pub used_more : (used : ℕ) (requests : List Request) (r : Request) → used ≡ length (flat_map request_bytes requests) → counted used (request_bytes r) ≤ batch_bytes_limit → counted used (request_bytes r) ≡ length (flat_map request_bytes (requests ++ r ∷ []))
used_more used requests r is short =
    let joined : length (flat_map request_bytes (requests ++ r ∷ [])) ≡ length (flat_map request_bytes requests) + length (flat_map request_bytes (r ∷ [])) =
    ap length (flat_map-append request_bytes requests (r ∷ [])) ∙ length-append (flat_map request_bytes requests) (flat_map request_bytes (r ∷ [])) in
    let one : length (flat_map request_bytes (r ∷ [])) ≡ length (request_bytes r) + 0 = ap length (flat_map-cons request_bytes r []) ∙ length-append (request_bytes r) [] in
    omega (arith, is, joined, one, counted_small used batch_bytes_limit (request_bytes r) (omega arith) short)
