-- One framing law for each table of a host: an entry that does not speak to it leaves all that it answers as it was.
use Rattle.std.proofs.Common.{◌≡◌, ℕ, Bool, true, false, ◌||◌, ◌∷◌, refl}
use Rattle.mb_model.specs.Histories.{Entry, History, Identity, gate_floors, stamped as all_stamped}
use Rattle.mb_model.specs.Held.{wish_of, changes_of, enter_of, opened_by, new_view_of, evidence_of, plan_held}
use Rattle.mb_model.specs.Stable.{checkpoint_of, low_of, log_floor}
use Rattle.mb_model.specs.OwnLog.{log_longest}
use Rattle.mb_model.specs.Positions.{slot_at, vote_at}
use Rattle.mb_model.specs.Execution.{pending}
use Rattle.mb_steps.specs.Arises.{Arises}
use Rattle.mb_history_laws.specs.Speaks.{moves_gate, closes_gate, speaks_of_gate, is_stamp, changes_view, speaks_of_slots, speaks_of_votes, speaks_of_checkpoints, speaks_of_stable, speaks_of_log, speaks_of_wishes, speaks_of_changes, speaks_of_enters, speaks_of_opened, speaks_of_new_views, speaks_of_evidence, speaks_of_plans, speaks_of_change, speaks_of_requests, speaks_of_positions}
use Rattle.mb_history_laws.specs.Gates.{log_of}
use Rattle.mb_history_laws.proofs.Framing.{floors_stay, stamped_stay, longest_stays, log_floor_stays, wishes_stay, changes_stay, enters_stay, opened_stays, new_view_stays, evidence_stays, plan_stays, checkpoints_stay, low_stays, requests_stay, slot_at_stays, vote_at_stays}
use Rattle.mb_history_laws.proofs.Gates.{log_stays}
use Rattle.mb_history_laws.proofs.Standing.{view_stays}

pub neither : (a b : Bool) → (a || b) ≡ false → (a ≡ false) × (b ≡ false)
neither true b e = absurd cc
neither false b e = (refl, e)

module _ {S : Type 0} (self : Identity S) where
  pub gate_left : (e : Entry) (d : History) (h : ℕ) → speaks_of_gate h e ≡ false → (log_of self (e ∷ d) h ≡ log_of self d h) × (gate_floors (e ∷ d) h ≡ gate_floors d h)
  gate_left e d h s = let n = neither (moves_gate h e) (closes_gate h e) s in (log_stays self e d h n.0 n.1, floors_stay e d h n.0)

  pub record SameLog (e : Entry) (d : History) : Type 0 where
    pub stamped : all_stamped (e ∷ d) ≡ all_stamped d
    pub floor : log_floor self (e ∷ d) ≡ log_floor self d
    pub longest : log_longest self (e ∷ d) ≡ log_longest self d

  pub log_left : (e : Entry) (d : History) → speaks_of_log e ≡ false → SameLog e d
  log_left e d s = let n = neither (is_stamp e) (speaks_of_checkpoints e) s in record { stamped = stamped_stay e d n.0; floor = log_floor_stays self e d n.1; longest = longest_stays self e d n.0 }

  pub record SameChange (e : Entry) (d : History) : Type 0 where
    pub wishes : (h : ℕ) → wish_of self (e ∷ d) h ≡ wish_of self d h
    pub changes : changes_of self (e ∷ d) ≡ changes_of self d
    pub enters : (h : ℕ) → enter_of (e ∷ d) h ≡ enter_of d h
    pub opened : (h : ℕ) → opened_by (e ∷ d) h ≡ opened_by d h
    pub new_view : new_view_of self (e ∷ d) ≡ new_view_of self d
    pub evidence : evidence_of self (e ∷ d) ≡ evidence_of self d
    pub plan : plan_held self (e ∷ d) ≡ plan_held self d

  pub change_left : (e : Entry) (d : History) → speaks_of_change e ≡ false → SameChange e d
  change_left e d s =
      let a = neither (speaks_of_wishes e) _ s in
      let b = neither (speaks_of_changes e) _ a.1 in
      let c = neither (speaks_of_enters e) _ b.1 in
      let f = neither (speaks_of_opened e) _ c.1 in
      let g = neither (speaks_of_new_views e) _ f.1 in
      let h = neither (speaks_of_evidence e) (speaks_of_plans e) g.1 in
      record {
        wishes = λ x. wishes_stay self e d x a.0;
        changes = changes_stay self e d b.0;
        enters = λ x. enters_stay e d x c.0;
        opened = λ x. opened_stays e d x f.0;
        new_view = new_view_stays self e d g.0;
        evidence = evidence_stays self e d h.0;
        plan = plan_stays self e d h.1;
      }

  pub record SamePositions (e : Entry) (d : History) : Type 0 where
    pub low : low_of self (e ∷ d) ≡ low_of self d
    pub slots : (p : ℕ) → slot_at self (e ∷ d) p ≡ slot_at self d p
    pub votes : (h p : ℕ) → vote_at self (e ∷ d) h p ≡ vote_at self d h p
    pub requests : (c : ℕ) → pending self (e ∷ d) c ≡ pending self d c
    pub checkpoints : (h p : ℕ) → checkpoint_of (e ∷ d) h p ≡ checkpoint_of d h p

  pub positions_left : (e : Entry) (d : History) → Arises self (e ∷ d) → speaks_of_positions e ≡ false → SamePositions e d
  positions_left e d a s =
      let b = neither (changes_view e) _ s in
      let c = neither (speaks_of_stable e) _ b.1 in
      let f = neither (speaks_of_slots e) _ c.1 in
      let g = neither (speaks_of_votes e) _ f.1 in
      let h = neither (speaks_of_requests e) (speaks_of_checkpoints e) g.1 in
      let view = view_stays self e d a b.0 in
      let low = low_stays self e d c.0 in
      record {
        low = low;
        slots = λ p. slot_at_stays self e d p f.0 view low;
        votes = λ x p. vote_at_stays self e d x p g.0 view low;
        requests = λ x. requests_stay self e d x h.0;
        checkpoints = λ x p. checkpoints_stay self e d x p h.1;
      }
