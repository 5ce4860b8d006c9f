-- The floors that a host certifies are sound: each is where the ordered prefix of its host once led.
--
-- Where a gate stands, the prefix of its host led once: the own gate stands behind the own list, which is the prefix, and another's gate has taken a
-- part of the prefix (`gate_led`). So is each floor that a gate remembers (`floors_led`), and so each floor that a CHECKPOINT shows, which is at
-- most as high as the CHECKPOINT's position (`shown_led`).
use Rattle.std.proofs.Common.{◌≡◌, ℕ, zero, suc, ◌+◌, ◌≤◌, Bool, List, [], ◌∷◌, refl, sym, ap, subst, ◌∙◌, inl, inr, eqb, arith, Option, Some, None}
use Rattle.std.specs.Prelude.{nat_lt, nat_le, map, take, find, slice_get, option_and_then}
use Rattle.std.specs.List.{AllByRecursion, range_with_len}
use Rattle.std.proofs.lemmas.Bool.{cases_Bool, eqb-true, eqb-false, leb-true}
use Rattle.mb_base.specs.Shapes.{host_count}
use Rattle.mb_parts.specs.declared.floor.Floor.{Floor}
use Rattle.mb_parts.specs.Bares.{Bare}
use Rattle.mb_parts.specs.Bares as bare
use Rattle.mb_parts.specs.Counters.{IsBeginning}
use Rattle.mb_model.specs.Histories.{Entry, Jumped, History, by_host, stamped_in, origin, taken_of, gate, floors_with, gate_floors, floor_below, said, stamped as all_stamped}
use Rattle.mb_model.specs.Making.{if_covered, floors_under}
use Rattle.mb_steps.specs.OwnLists.{AreNumbered}
use Rattle.mb_steps.specs.Arises.{Arises}
use Rattle.mb_steps.proofs.StepOwnStamped.{steady}
use Rattle.mb_world_model.specs.WorldEvents.{IsCorrect}
use Rattle.mb_world_model.specs.World.{World, System, self_of}
use Rattle.mb_host_laws.proofs.Cases.{none_some, some_is}
use Rattle.mb_host_laws.specs.Rests.{Each}
use Rattle.mb_host_laws.proofs.Moments.{IsPast, past_tail, past_said, each_at, past_numbered, arises_by}
use Rattle.mb_world_laws.proofs.Facts.{Facts}
use Rattle.mb_views.proofs.Prefixes.{prefix_said}
use Rattle.mb_views.proofs.Follows.{IsLed, following_led, JumpsLed, follows}

-- what a search for each number from one on has at a place
at_range : {A : Type 0} (search_for : ℕ → Option A) (a n i j : ℕ) (x : A) → a + i ≡ j → option_and_then (λ y. y) (slice_get (map search_for (range_with_len a n)) i) ≡ Some x → search_for j ≡ Some x
at_range search_for a zero i j x is e = absurd cc
at_range search_for a (suc n) zero j x is e = let same : a ≡ j = omega (arith, is) in subst (λ k. search_for k ≡ Some x) same e
at_range search_for a (suc n) (suc i) j x is e = at_range search_for (a + 1) n i j x (omega (arith, is)) e

module _ {S : Type 0} (system : System S) (w : World) (f : Facts system w) (h : ℕ) (correct : IsCorrect system.schedule h) (jumps : Each (JumpsLed system w f) (w.histories h)) where
  abbrev Led : ℕ → Floor → Type 0
  Led g o = IsLed system w f g o

  pub arises_then : (d : History) → IsPast d (w.histories h) → Arises (self_of system h) d
  arises_then d p = arises_by (self_of system h) p.later d (subst (λ (x : History). Arises (self_of system h) x) (sym p.is) (f.arises h))

  pub numbered_then : (d : History) → IsPast d (w.histories h) → AreNumbered (self_of system h) (all_stamped d)
  numbered_then d p = past_numbered (self_of system h) p.later d (subst (λ (x : History). AreNumbered (self_of system h) (all_stamped x)) (sym p.is) (f.numbered h))

  own_led : (d : History) → IsPast d (w.histories h) → Led h (gate d h)
  own_led d p =
      let own = (steady (self_of system h) d (arises_then d p)).list.own in
      let b = past_said p.later d in
      record {
        hidden = said d;
        begins = subst (λ (x : List Bare). IsBeginning (said d) x) (ap said p.is ∙ sym (prefix_said system w f h correct)) b;
        leads = rw (own.from, own.all) refl;
      }

  -- Where a gate stands the prefix led once.
  pub gate_led : (g : ℕ) (d : History) → IsPast d (w.histories h) → Led g (gate d g)
  gate_led g d p = elim (cases_Bool (eqb g h)) [
    | inl same ↦ let e : g ≡ h = eqb-true g h same in subst (λ (i : ℕ). Led i (gate d i)) (sym e) (own_led d p)
    | inr other ↦ following_led system w f g (origin d g) (taken_of d g) (follows system w f h g (eqb-false g h other) d
        (each_at _ d (w.histories h) p (f.standing.rests h)) (arises_then d p) (numbered_then d p) (each_at _ d (w.histories h) p jumps))
  ]

  with_led : (g : ℕ) (at : Floor) (e : Entry) (x : Option Bare) (floors : List Floor) (d : History) → Led g at → JumpsLed system w f e d → AllByRecursion (Led g) floors → AllByRecursion (Led g) (floors_with g at e x floors)
  with_led g at (Jumped k o) x floors d led j a = elim (cases_Bool (eqb k g)) [
    | inl same ↦ rw same (subst (λ (i : ℕ). Led i o) (eqb-true k g same) j, tt)
    | inr other ↦ rw other a
  ]
  with_led g at e (Some (bare.Checkpoint p t c)) floors d led j a = (led, a)
  with_led g at e x floors d led j a = a

  -- So it is with the floors that a gate remembers.
  pub floors_led : (g : ℕ) (d : History) → IsPast d (w.histories h) → Each (JumpsLed system w f) d → AllByRecursion (Led g) (gate_floors d g)
  unfolding gate_floors
  floors_led g [] p j = tt
  floors_led g (e ∷ d) p j = with_led g (gate (e ∷ d) g) e (by_host g (stamped_in e)) (gate_floors d g) d (gate_led g (e ∷ d) p) j.0 (floors_led g d (past_tail e d (w.histories h) p) j.1)

  found_led : (P : Floor → Type 0) (t : Floor → Bool) (l : List Floor) → AllByRecursion P l → (o : Floor) → find t l ≡ Some o → P o
  found_led P t [] a o e = absurd cc
  found_led P t (x ∷ l) a o e = elim (cases_Bool (t x)) [
    | inl here ↦ subst P (some_is x o (rw here at e)) a.0
    | inr other ↦ found_led P t l a.1 o (rw other at e)
  ]

  taken_led : (P : Floor → Type 0) (n : ℕ) (l : List Floor) → AllByRecursion P l → AllByRecursion P (take n l)
  taken_led P zero l a = tt
  taken_led P (suc n) [] a = tt
  taken_led P (suc n) (x ∷ l) a = (a.0, taken_led P n l a.1)

  covered : (pos : ℕ) (x : Option Floor) (o : Floor) → if_covered pos x ≡ Some o → (x ≡ Some o) × (o.top ≤ pos)
  covered pos None o e = absurd cc
  covered pos (Some y) o e = elim (cases_Bool (nat_le y.top pos)) [
    | inl low ↦ let is : Some y ≡ Some o = rw low at e in (is, subst (λ (z : Floor). z.top ≤ pos) (some_is y o is) (leb-true y.top pos low))
    | inr high ↦ absurd (none_some o (rw high at e))
  ]

  mapped_at : (pos : ℕ) (d : History) (g : ℕ) (o : Floor) → option_and_then (λ x. x) (slice_get (floors_under (self_of system h) d pos) g) ≡ Some o → if_covered pos (floor_below d g pos) ≡ Some o
  mapped_at pos d g o e = at_range (λ i. if_covered pos (floor_below d i pos)) 0 (host_count system.schedule.shape) g g o (omega arith) e

  -- A floor that a CHECKPOINT of a position shows is sound, and at most as high.
  pub shown_led : (d : History) (pos g : ℕ) (o : Floor) → IsPast d (w.histories h) → option_and_then (λ x. x) (slice_get (floors_under (self_of system h) d pos) g) ≡ Some o → Led g o × (o.top ≤ pos)
  shown_led d pos g o p e =
      let c = covered pos (floor_below d g pos) o (mapped_at pos d g o e) in
      (found_led (Led g) (λ x. nat_lt x.point pos) (take 2 (gate_floors d g)) (taken_led (Led g) 2 (gate_floors d g) (floors_led g d p (each_at _ d (w.histories h) p jumps))) o c.0, c.1)
