-- A gate that takes the entries of a log one by one finds the log's first fault.
use Rattle.std.proofs.Common.{◌≡◌, ℕ, zero, suc, ◌+◌, ◌≤◌, Bool, true, false, ◌&&◌, not, List, [], ◌∷◌, length, take, drop, slice_get, Option, Some, None, refl, sym, ap, ◌∙◌, inl, inr, add-one, arith}
use Rattle.std.specs.Prelude.{if◌then◌else◌, option_map, nat_lt, nat_le, ◌==◌}
use Rattle.std.specs.Bool.{then_some}
use Rattle.std.specs.Option.{option_or}
use Rattle.std.proofs.lemmas.Bool.{cases_order, eq-eqb, ne_eqb, lt-ltb, le-ltb, le-leb, lt-leb}
use Rattle.std.proofs.lemmas.List.{drop_all}
use Rattle.std.specs.List.{list_any}
use Rattle.std.proofs.lemmas.Option.{none-some}
use Rattle.mb_base.specs.Shapes.{Bytes}
use Rattle.mb_base.specs.declared.shape.Shape.{Shape}
use Rattle.mb_parts.specs.declared.floor.Floor.{Floor}
use Rattle.mb_parts.specs.Claims.{Claim}
use Rattle.mb_parts.specs.Certificates.{inner_valid}
use Rattle.mb_parts.specs.Ordered.{permits, current_view}
use Rattle.mb_msg.specs.declared.stamped.Shown.{Shown}
use Rattle.mb_msg.specs.Stamps.{bare_of_shown, ui_of_shown}
use Rattle.mb_gate.specs.declared.gate.Gate.{Gate}
use Rattle.mb_gate.specs.Represents.{Represents}
use Rattle.mb_gate.specs.SenderLogs.{standing}
use Rattle.mb_model.specs.UsableLogs.{Fault, entry_claim, bares, newest_first, is_opening_entry, entry_fault, entries_fault}
use Rattle.mb_plan.proofs.TakenLists.{newest_more, take_one, drop_one}
use Rattle.mb_plan.specs.Behind.{log_of, taking, is_next, gate_reason, body_reason}

length_bares : (l : List Shown) → length (bares l) ≡ length l
length_bares [] = refl
length_bares (e ∷ l) = ap suc (length_bares l)

length_newest : (l es : List Shown) → length (newest_first l es) ≡ length l + length es
length_newest l [] = omega arith
length_newest l (e ∷ es) = omega (arith, length_newest (e ∷ l) es)

length_taken : {A : Type 0} (l : List A) (i : ℕ) (x : A) → slice_get l i ≡ Some x → length (take i l) ≡ i
length_taken [] i x at = absurd (none-some x at)
length_taken (y ∷ l) zero x at = refl
length_taken (y ∷ l) (suc i) x at = ap suc (length_taken l i x at)

-- three tests before others
apart : (a b c : Bool) (rest : Option ℕ) → (if a then Some 3 else if b then Some 4 else if c then Some 5 else rest) ≡ option_or (if a then Some 3 else if b then Some 4 else if c then Some 5 else None) rest
apart true b c rest = refl
apart false true c rest = refl
apart false false true rest = refl
apart false false false rest = refl

module _ (s : Shape) (secret : Bytes) (valid : Claim → Bool) (host stable : ℕ) (o : Floor) where
  -- no opening is behind the entry
  abbrev pub is_last : List Shown → Bool
  is_last behind = not (list_any is_opening_entry behind)

  by_gate : (before : List Shown) (e : Shown) (behind : List Shown) → entry_fault s secret valid host stable o before e behind
      ≡ option_or (gate_reason valid (log_of s host o before) e) (body_reason s secret valid stable (is_last behind) e)
  unfolding entry_fault
  by_gate before e behind =
      rw (← length_bares before)
      (apart (not ((ui_of_shown e).counter == o.counter + length (bares before) + 1))
      (not ((ui_of_shown e).host == host && valid (entry_claim host e)))
      (not (permits o s host (inner_valid s valid) (bares before) (bare_of_shown e)))
      (body_reason s secret valid stable (is_last behind) e))

  module _ (es : List Shown) where
    -- the entries before an index, newest first
    abbrev pub before : ℕ → List Shown
    before i = newest_first [] (take i es)

    -- The gate took the entries before an index, of which none failed.
    pub record StandsAt (gate : Gate) (i : ℕ) : Type 0 where
      pub stands : Represents gate (log_of s host o (before i))
      pub rest : entries_fault s secret valid host stable o (before i) (drop i es) ≡ entries_fault s secret valid host stable o [] es

    module _ (i : ℕ) (e : Shown) (at : slice_get es i ≡ Some e) where
      counted : length (before i) ≡ i
      counted = length_newest [] (take i es) ∙ omega (arith, length_taken es i e at)

      one_on : entries_fault s secret valid host stable o (before i) (drop i es)
          ≡ option_or (option_map (λ reason. (i, reason)) (option_or (gate_reason valid (log_of s host o (before i)) e) (body_reason s secret valid stable (is_last (drop (suc i) es)) e)))
          (entries_fault s secret valid host stable o (e ∷ before i) (drop (suc i) es))
      unfolding entries_fault
      one_on = rw (drop_one es i e at, by_gate (before i) e (drop (suc i) es), counted) refl

      module _ (so_far : entries_fault s secret valid host stable o (before i) (drop i es) ≡ entries_fault s secret valid host stable o [] es) where
        pub fails_at_gate : (reason : ℕ) → gate_reason valid (log_of s host o (before i)) e ≡ Some reason → entries_fault s secret valid host stable o [] es ≡ Some (i, reason)
        fails_at_gate reason fails = sym so_far ∙ one_on ∙ rw fails refl

        pub fails_by_body : (reason : ℕ) → gate_reason valid (log_of s host o (before i)) e ≡ None
            → body_reason s secret valid stable (is_last (drop (suc i) es)) e ≡ Some reason → entries_fault s secret valid host stable o [] es ≡ Some (i, reason)
        fails_by_body reason passes fails = sym so_far ∙ one_on ∙ rw (passes, fails) refl

        pub goes_on : gate_reason valid (log_of s host o (before i)) e ≡ None → body_reason s secret valid stable (is_last (drop (suc i) es)) e ≡ None
            → entries_fault s secret valid host stable o (before (suc i)) (drop (suc i) es) ≡ entries_fault s secret valid host stable o [] es
        goes_on passes sound =
            rw (take_one es i e at, newest_more [] (take i es) e)
            (sym (one_on ∙ rw (passes, sound) refl) ∙ so_far)

      pub took : (gate : Gate) → Represents gate (taking (log_of s host o (before i)) e) → Represents gate (log_of s host o (before (suc i)))
      took gate stands = rw (take_one es i e at, newest_more [] (take i es) e) stands

      pub stands_next : (gate new : Gate) → StandsAt gate i → gate_reason valid (log_of s host o (before i)) e ≡ None
          → body_reason s secret valid stable (is_last (drop (suc i) es)) e ≡ None → Represents new (taking (log_of s host o (before i)) e) → StandsAt new (i + 1)
      stands_next gate new st passes sound stands = rw (add-one i) (record { stands = took new stands; rest = goes_on st.rest passes sound })

    -- Behind all entries nothing is left to fail.
    pub ends_with : (i : ℕ) → length es ≤ i → entries_fault s secret valid host stable o (before i) (drop i es) ≡ entries_fault s secret valid host stable o [] es
        → entries_fault s secret valid host stable o [] es ≡ None
    unfolding entries_fault
    ends_with i le so_far = sym so_far ∙ rw (drop_all i es le) refl

-- No opening is behind what isn't before the last one.
pub not_before : (any : Bool) (i opened : ℕ) → any ≡ nat_lt i opened → not any ≡ nat_le opened i
not_before any i opened e = rw e (elim (cases_order i opened) [
  | inl same ↦ rw (le-ltb i opened (omega (arith, same)), le-leb opened i (omega (arith, same))) refl
  | inr (inl less) ↦ rw (lt-ltb i opened less, lt-leb opened i less) refl
  | inr (inr more) ↦ rw (le-ltb i opened (omega (arith, more)), le-leb opened i (omega (arith, more))) refl
])

same_eq : (a b : ℕ) → (a == b) ≡ (b == a)
same_eq a b = elim (cases_order a b) [
  | inl same ↦ eq-eqb a b same ∙ sym (eq-eqb b a (sym same))
  | inr (inl less) ↦ ne_eqb a b (λ e. absurd (omega (arith, less, e))) ∙ sym (ne_eqb b a (λ e. absurd (omega (arith, less, e))))
  | inr (inr more) ↦ ne_eqb a b (λ e. absurd (omega (arith, more, e))) ∙ sym (ne_eqb b a (λ e. absurd (omega (arith, more, e))))
]

abbrev end_fault : List Shown → ℕ → Fault
end_fault es reason = (length es, reason)

-- what is asked behind the last entry
pub at_end : (s : Shape) (host : ℕ) (o : Floor) (es : List Shown) (view counter : ℕ)
    → option_or (then_some (not (is_next (log_of s host o (newest_first [] es)) counter)) (end_fault es 3))
    (then_some (nat_le view (standing (log_of s host o (newest_first [] es))).view) (end_fault es 5))
    ≡ option_or (then_some (not (o.counter + length es + 1 == counter)) (end_fault es 3)) (then_some (nat_le view (current_view o (bares (newest_first [] es)))) (end_fault es 5))
at_end s host o es view counter =
    let count : length (bares (newest_first [] es)) ≡ length es = omega (arith, length_bares (newest_first [] es), length_newest [] es) in
    rw (count, same_eq counter (o.counter + length es + 1)) refl
