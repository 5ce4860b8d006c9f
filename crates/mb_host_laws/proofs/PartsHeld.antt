-- A host never holds all parts of the stable state: with the last one it installs the state, or drops all.
use Rattle.std.proofs.Common.{◌≡◌, ℕ, suc, ◌<◌, Bool, true, false, List, [], ◌∷◌, refl, sym, ap, ◌∙◌, inl, inr, ◌⊎◌, arith, eqb, Option, Some, None}
use Rattle.std.specs.Prelude.{◌==◌, is_none, find}
use Rattle.std.specs.List.{range_with_len}
use Rattle.std.specs.Option.{option_or}
use Rattle.std.proofs.Math.Path.{fun_ext}
use Rattle.std.proofs.lemmas.Bool.{cases_Bool, eqb-true, eqb-false}
use Rattle.mb_base.specs.Limits.{part_count, table_part}
use Rattle.mb_base.specs.Shapes.{Bytes}
use Rattle.mb_msg.specs.declared.event.Slot.{Slot}
use Rattle.mb_msg.specs.declared.message.Message.{Message}
use Rattle.mb_msg.specs.declared.message.Message.TheVariants as message
use Rattle.mb_msg.specs.declared.transfer.StateMsg.{StateMsg}
use Rattle.mb_msg.specs.declared.stamped.Stamped.{Stamped as StampedMessage}
use Rattle.mb_msg.specs.declared.event.Outcome.{Outcome}
use Rattle.mb_msg.specs.declared.event.Outcome.TheVariants as outcome
use Rattle.mb_model.specs.Histories.{Entry, Accepted, Stamped, Jumped, Closed, Served, Executed, Installed, DroppedParts, LostPatience, Nudged, History, Identity}
use Rattle.mb_model.specs.Stable.{low_of}
use Rattle.mb_model.specs.Execution.{part_of, missing, parts_held}
use Rattle.mb_model.specs.Sending.{Progress, write}
use Rattle.mb_model.specs.PlainChecks.{state_refusal, is_wanted}
use Rattle.mb_model.specs.Given.{give_state, install_where_all}
use Rattle.mb_model.proofs.Options.{option_cases}
use Rattle.mb_steps.proofs.StepPotential.{grown_low}
use Rattle.mb_steps.proofs.StepPassed.{passes_state}
use Rattle.mb_host_laws.proofs.KeptByEvents.{is_plain, IsKept, execution_keeps}

not-eqb : (a b : ℕ) → (a ≡ b → ⊥) → eqb a b ≡ false
not-eqb a b differs = elim (cases_Bool (eqb a b)) [
  | inl same ↦ absurd (differs (eqb-true a b same))
  | inr other ↦ other
]

some_there : (n : ℕ) → Some n ≡ None → ⊥
some_there n e = absurd cc

-- Where nothing is at the first place, the search for such a place finds one.
found_first : (f : ℕ → Option Bytes) (n : ℕ) → f 0 ≡ None → find (λ i. is_none (f i)) (range_with_len 0 (suc n)) ≡ None → ⊥
found_first f n none is = some_there 0 (rw none at is)

module _ {S : Type 0} (self : Identity S) where
  -- An entry leaves the parts as they were, or leaves none.
  abbrev LeavesParts : Entry → History → Type 0
  LeavesParts e d = ((pos i : ℕ) → part_of self (e ∷ d) pos i ≡ part_of self d pos i) ⊎ ((pos i : ℕ) → part_of self (e ∷ d) pos i ≡ None)

  message_parts : (m : Message) (d : History) → is_plain (Accepted m) ≡ true → LeavesParts (Accepted m) d
  unfolding part_of
  message_parts (message.State m) d plain = absurd cc
  message_parts (message.Request m) d plain = inl (λ pos i. refl)
  message_parts (message.Prepare m) d plain = inl (λ pos i. refl)
  message_parts (message.Commit m) d plain = inl (λ pos i. refl)
  message_parts (message.Reply m) d plain = inl (λ pos i. refl)
  message_parts (message.Checkpoint m) d plain = inl (λ pos i. refl)
  message_parts (message.ReqViewChange m) d plain = inl (λ pos i. refl)
  message_parts (message.ViewChange m) d plain = inl (λ pos i. refl)
  message_parts (message.NewView m) d plain = inl (λ pos i. refl)
  message_parts (message.Enter m) d plain = inl (λ pos i. refl)
  message_parts (message.Open m) d plain = inl (λ pos i. refl)
  message_parts (message.Join m) d plain = inl (λ pos i. refl)
  message_parts (message.Resend m) d plain = inl (λ pos i. refl)
  message_parts (message.Log m) d plain = inl (λ pos i. refl)
  message_parts (message.Fetch m) d plain = inl (λ pos i. refl)
  message_parts (message.Stop m) d plain = inl (λ pos i. refl)

  plain_parts : (e : Entry) (d : History) → is_plain e ≡ true → LeavesParts e d
  unfolding part_of
  plain_parts (Accepted m) d plain = message_parts m d plain
  plain_parts (Stamped m) d plain = absurd cc
  plain_parts (Jumped h f) d plain = inl (λ pos i. refl)
  plain_parts (Closed h c) d plain = inl (λ pos i. refl)
  plain_parts (Served pos placed) d plain = inl (λ pos i. refl)
  plain_parts (Executed slot) d plain = absurd cc
  plain_parts (Installed pos parts) d plain = inr (λ pos i. refl)
  plain_parts DroppedParts d plain = inr (λ pos i. refl)
  plain_parts LostPatience d plain = inl (λ pos i. refl)
  plain_parts Nudged d plain = inl (λ pos i. refl)

  stamped_parts : (m : StampedMessage) (d : History) → LeavesParts (Stamped m) d
  unfolding part_of
  stamped_parts m d = inl (λ pos i. refl)

  executed_parts : (slot : Slot) (d : History) → LeavesParts (Executed slot) d
  unfolding part_of
  executed_parts slot d = inl (λ pos i. refl)

  -- behind an installed state
  plain_none : (low : ℕ) (parts : List Bytes) (d : History) (pos i : ℕ) → part_of self (Installed low parts ∷ d) pos i ≡ None
  unfolding part_of
  plain_none low parts d pos i = refl

  state_parts : (m : StateMsg) (d : History) (pos i : ℕ) → (m.pos == pos) ≡ false → part_of self (Accepted (message.State m) ∷ d) pos i ≡ option_or (part_of self d pos i) None
  unfolding part_of
  state_parts m d pos i other = rw other refl

  -- No part is held for a position above the stable one, and not all are held for the stable one.
  pub record IsIncomplete (d : History) : Type 0 where
    pub above : (pos i : ℕ) → low_of self d < pos → part_of self d pos i ≡ None
    pub missing : missing self d ≡ None → ⊥

  -- Where the first part is not held, one is missing.
  first_missing : (d : History) → part_of self d (low_of self d) 0 ≡ None → missing self d ≡ None → ⊥
  first_missing d none is = found_first (λ i. part_of self d (low_of self d) i) table_part none is

  same_missing : (e : Entry) (d : History) → ((pos i : ℕ) → part_of self (e ∷ d) pos i ≡ part_of self d pos i) → IsIncomplete d → (missing self (e ∷ d) ≡ None → ⊥)
  same_missing e d same x is = elim (cases_Bool (eqb (low_of self (e ∷ d)) (low_of self d))) [
    | inl stays ↦ x.missing (sym (held_alike (low_of self (e ∷ d)) (eqb-true (low_of self (e ∷ d)) (low_of self d) stays)) ∙ is)
    | inr rises ↦ first_missing (e ∷ d) (same (low_of self (e ∷ d)) 0 ∙ x.above (low_of self (e ∷ d)) 0 (rises_above rises)) is
  ] where
    held_alike : (low : ℕ) → low ≡ low_of self d → find (λ i. is_none (part_of self (e ∷ d) low i)) (range_with_len 0 part_count) ≡ missing self d
    held_alike low at = ap (λ (f : ℕ → Bool). find f (range_with_len 0 part_count)) (fun_ext (λ i. ap (λ (o : Option Bytes). is_none o) (same low i ∙ ap (λ (p : ℕ). part_of self d p i) at)))

    rises_above : eqb (low_of self (e ∷ d)) (low_of self d) ≡ false → low_of self d < low_of self (e ∷ d)
    rises_above other = let g = grown_low self d e in let differs = eqb-false (low_of self (e ∷ d)) (low_of self d) other in omega (arith, g, differs)

  entry_keeps : (e : Entry) (d : History) → LeavesParts e d → IsIncomplete d → IsIncomplete (e ∷ d)
  entry_keeps e d (inl same) x = record {
    above = λ pos i high. same pos i ∙ x.above pos i (omega (arith, high, grown_low self d e));
    missing = same_missing e d same x;
  }
  entry_keeps e d (inr none) x = record { above = λ pos i high. none pos i; missing = first_missing (e ∷ d) (none (low_of self (e ∷ d)) 0) }

  -- ---- a STATE

  wanted_position : (d : History) (pos : ℕ) → is_wanted self d pos ≡ true → pos ≡ low_of self d
  wanted_position d pos e = elim (cases_Bool (eqb pos (low_of self d))) [
    | inl same ↦ eqb-true pos (low_of self d) same
    | inr other ↦ let h : false ≡ true = rw other at e in absurd cc
  ]

  accepted_above : (m : StateMsg) (d : History) → m.pos ≡ low_of self d → IsIncomplete d → (pos i : ℕ) → low_of self (Accepted (message.State m) ∷ d) < pos → part_of self (Accepted (message.State m) ∷ d) pos i ≡ None
  accepted_above m d at x pos i high =
      let g = grown_low self d (Accepted (message.State m)) in
      let other : (m.pos == pos) ≡ false = not-eqb m.pos pos (λ same. omega (arith, at, high, g, same)) in
      state_parts m d pos i other ∙ ap (λ (o : Option Bytes). option_or o None) (x.above pos i (omega (arith, high, g)))

  completed : (m : StateMsg) (x : Progress) → m.pos ≡ low_of self x.history → IsIncomplete x.history → IsIncomplete (install_where_all self (write (Accepted (message.State m)) x)).history
  completed m x at p =
      let d : History = Accepted (message.State m) ∷ x.history in
      elim (cases_Bool (is_none (missing self d))) [
        | inl all ↦ rw all (record {
          above = λ pos i high. plain_none (low_of self d) (parts_held self d) d pos i;
          missing = first_missing (Installed (low_of self d) (parts_held self d) ∷ d) (plain_none (low_of self d) (parts_held self d) d _ 0);
        })
        | inr some ↦ rw some (record { above = accepted_above m x.history at p; missing = λ none. let h : true ≡ false = rw none at some in absurd cc })
      ]

  given_keeps : (m : StateMsg) (x : Progress) → IsIncomplete x.history → IsIncomplete (give_state self m x).left.history
  unfolding give_state
  given_keeps m x p = elim (option_cases (state_refusal self x.history m)) [
    | inl none ↦ rw none (completed m x (wanted_position x.history m.pos (passes_state self x.history m none).wanted) p)
    | inr (o, some) ↦ go o some
  ] where
    go : (o : Outcome) → state_refusal self x.history m ≡ Some o → IsIncomplete (give_state self m x).left.history
    go (outcome.BadState part at) some = rw some (entry_keeps DroppedParts x.history (plain_parts DroppedParts x.history refl) p)
    go o some = rw some p

  -- ---- all entries

  pub begins_incomplete : IsIncomplete []
  unfolding part_of
  begins_incomplete = record { above = λ pos i high. refl; missing = λ is. absurd cc }

  pub incomplete_kept : IsKept self (λ d. IsIncomplete d)
  incomplete_kept = record {
    plain = λ e d plain x. entry_keeps e d (plain_parts e d plain) x;
    normal = λ m d kind room x. entry_keeps (Stamped m) d (stamped_parts m d) x;
    change = λ m d kind room x. entry_keeps (Stamped m) d (stamped_parts m d) x;
    executed = λ pos b x p. execution_keeps self (λ d. IsIncomplete d) (λ m d kind room y. entry_keeps (Stamped m) d (stamped_parts m d) y)
        (λ p placed d y. entry_keeps (Served p placed) d (plain_parts (Served p placed) d refl) y) (λ slot d y. entry_keeps (Executed slot) d (executed_parts slot d) y) pos b x p;
    state = given_keeps;
  }
