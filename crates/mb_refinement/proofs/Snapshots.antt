-- The snapshots that are kept for others stay true: one more is kept behind an execution at an interval, where there is always a place for it; and those
-- below the stable position are dropped once the shelf follows it.
use Rattle.std.proofs.Common.{◌≡◌, ℕ, ◌+◌, ◌≤◌, ◌<◌, Bool, true, false, ◌&&◌, List, [], ◌∷◌, length, map, refl, sym, ap, subst, ◌∙◌, inl, inr, arith, Option, Some, None}
use Rattle.std.specs.Prelude.{◌==◌, ◌%◌, nat_le, if◌then◌else◌}
use Rattle.std.specs.List.{range_with_len}
use Rattle.std.proofs.lemmas.Bool.{cases_Bool, leb-true, le-leb}
use Rattle.std.proofs.lemmas.Bool.Decides.{eqb_tells}
use Rattle.std.proofs.lemmas.List.{length-append, length-map}
use Rattle.std.proofs.lemmas.List.FromFn.{length-range_with_len}
use Rattle.mb_base.specs.Limits.{part_count, service_parts, snapshot_limit}
use Rattle.mb_base.specs.Shapes.{Bytes, interval, span}
use Rattle.mb_msg.specs.declared.event.Slot.{Slot}
use Rattle.mb_model.specs.Service.{Served}
use Rattle.mb_model.specs.States.{table_bytes, parts_of}
use Rattle.mb_model.specs.Histories.{Entry, Executed, History, Identity, is_open}
use Rattle.mb_model.specs.Stable.{low_of}
use Rattle.mb_model.specs.Positions.{exec_of}
use Rattle.mb_model.specs.EnabledRules.{Rule, rule_where, execute_enabled}
use Rattle.mb_model.specs.Execution.{state_of, parts_after, snapshot_of}
use Rattle.mb_steps.specs.Arises.{Adds}
use Rattle.mb_steps.proofs.StepPotential.{grown_low}
use Rattle.mb_fetch.specs.Snapshots.{Snapshot, parts_at, Represents, with_snapshot, from_position, StandsWith, StandsFrom}
use Rattle.mb_fetch.specs.Histories.{SnapshotsAnswerFor}
use Rattle.mb_fetch.proofs.Histories.{snapshots_answer}
use Rattle.mb_history_laws.specs.Speaks.{speaks_of_snapshots}
use Rattle.mb_history_laws.specs.Sound.{IsSound}
use Rattle.mb_history_laws.proofs.Framing.{low_stays, parts_after_stay, snapshot_stays}
use Rattle.mb_history_laws.proofs.Certified.{exec_within}
use Rattle.mb_history_laws.proofs.Executing.{executed_is, snapshot_put}
use Rattle.mb_refinement.specs.Stands.{ShelfStands}
use Rattle.mb_refinement.specs.Lagging.{snapshots_from, ShelfLags}

-- searches that find the same
pub shelf_same : (shelf : List Snapshot) (f g : ℕ → Option (List Bytes)) → ((p : ℕ) → f p ≡ g p) → Represents shelf f → Represents shelf g
shelf_same shelf f g same stands = record { rising = stands.rising; finds = λ p. stands.finds p ∙ same p }

module _ {S : Type 0} (self : Identity S) where
  -- A state has 65 parts.
  pub parts_count : (x : Served S) → length (parts_of self.snapshots x) ≡ part_count
  unfolding parts_of
  parts_count x =
      let l : List Bytes = map (self.snapshots.part x.state) (range_with_len 0 service_parts) in
      let many : length l ≡ service_parts = length-map (range_with_len 0 service_parts) (self.snapshots.part x.state) ∙ length-range_with_len 0 service_parts in
      omega (arith, length-append l (table_bytes x.table ∷ []), many)

  -- ---- what an entry leaves

  -- an entry that speaks of no execution, and leaves the stable position
  pub shelf_stays : (shelf : List Snapshot) (e : Entry) (d : History) → speaks_of_snapshots e ≡ false → low_of self (e ∷ d) ≡ low_of self d → ShelfStands self shelf d → ShelfStands self shelf (e ∷ d)
  shelf_stays shelf e d s low stands = shelf_same shelf (snapshot_of self d) (snapshot_of self (e ∷ d)) (λ p. sym (snapshot_stays self e d p s low)) stands

  -- ---- the stable position rises, and the shelf follows

  pub shelf_lags : (shelf : List Snapshot) (d : History) → ShelfStands self shelf d → ShelfLags self (low_of self d) shelf d
  shelf_lags shelf d stands = record { earlier = omega arith; represents = stands }

  -- behind an entry that speaks of no execution
  pub shelf_lags_on : (low : ℕ) (shelf : List Snapshot) (e : Entry) (d : History) → speaks_of_snapshots e ≡ false → ShelfLags self low shelf d → ShelfLags self low shelf (e ∷ d)
  shelf_lags_on low shelf e d s l = record {
    earlier = let earlier = l.earlier in omega (arith, earlier, grown_low self d e);
    represents = shelf_same shelf (snapshots_from self low d) (snapshots_from self low (e ∷ d))
        (λ p. ap (λ o. if p % interval self.shape == 0 && nat_le low p then o else None) (sym (parts_after_stay self e d p s))) l.represents;
  }

  -- It drops those below the stable position.
  pub shelf_follows : (low : ℕ) (old new : List Snapshot) (d : History) → StandsFrom old (low_of self d) new → ShelfLags self low old d → ShelfStands self new d
  shelf_follows low old new d from l = shelf_same new (from_position (low_of self d) (snapshots_from self low d)) (snapshot_of self d) found (from (snapshots_from self low d) l.represents) where
    found : (p : ℕ) → from_position (low_of self d) (snapshots_from self low d) p ≡ snapshot_of self d p
    found p = elim (cases_Bool (nat_le (low_of self d) p)) [
      | inl above ↦
          let was : nat_le low p ≡ true = let earlier = l.earlier in le-leb low p (omega (arith, earlier, leb-true (low_of self d) p above)) in
          rw (above, was) refl
      | inr below ↦ rw below (none_of (p % interval self.shape == 0))
    ] where
      none_of : (b : Bool) → None ≡ (if b && false then parts_after self d p else None)
      none_of true = refl
      none_of false = refl

  -- behind an entry at once
  pub shelf_raised : (old new : List Snapshot) (e : Entry) (d : History) → speaks_of_snapshots e ≡ false → StandsFrom old (low_of self (e ∷ d)) new → ShelfStands self old d → ShelfStands self new (e ∷ d)
  shelf_raised old new e d s from stands = shelf_follows (low_of self d) old new (e ∷ d) from (shelf_lags_on (low_of self d) old e d s (shelf_lags old d stands))

  -- ---- an execution

  -- What is executed is not below the stable position.
  executes_from : (d : History) (rule : Rule) → execute_enabled self d ≡ Some rule → low_of self d ≤ exec_of d
  unfolding execute_enabled
  executes_from d rule e = from (is_open self d) (nat_le (low_of self d) (exec_of d)) _ refl e where
    from : (opened reached : Bool) (x : Option Rule) → nat_le (low_of self d) (exec_of d) ≡ reached → rule_where (opened && reached) x ≡ Some rule → low_of self d ≤ exec_of d
    from true true x is e = leb-true (low_of self d) (exec_of d) is
    from true false x is e = absurd cc
    from false true x is e = absurd cc
    from false false x is e = absurd cc

  module _ (shelf : List Snapshot) (slot : Slot) (d : History) (sound : IsSound self d) (adds : Adds self d (Executed slot)) (stands : ShelfStands self shelf d) where
    below : (p : ℕ) (x : List Bytes) → parts_after self d p ≡ Some x → p < slot.pos
    below p x found = let place = adds.place in omega (arith, sound.snapshots p x found, place)

    reached : slot.pos ≤ low_of self d + span self.shape
    reached = omega (arith, exec_within self (Executed slot ∷ d) (adds, sound.arises), executed_is slot d, low_stays self (Executed slot) d refl)

    answers : SnapshotsAnswerFor self shelf d
    answers = snapshots_answer self shelf d stands

    -- What keeping its snapshot asks: none is kept from its position on, and there is a place.
    pub none_kept_above : (p : ℕ) → slot.pos ≤ p → parts_at shelf p ≡ None
    none_kept_above = answers.above slot.pos below

    pub place_left : length shelf < snapshot_limit
    place_left = answers.room slot.pos reached below

    -- At an interval a snapshot is kept.
    pub shelf_kept : (new : List Snapshot) (parts : List Bytes) → (slot.pos % interval self.shape == 0) ≡ true → parts ≡ parts_of self.snapshots (state_of self d) → StandsWith shelf slot.pos parts new
        → ShelfStands self new (Executed slot ∷ d)
    shelf_kept new parts whole are with_it = shelf_same new (with_snapshot (snapshot_of self d) slot.pos parts) (snapshot_of self (Executed slot ∷ d)) found (with_it (snapshot_of self d) stands) where
      not_below : nat_le (low_of self d) slot.pos ≡ true
      not_below = let place = adds.place in le-leb (low_of self d) slot.pos (omega (arith, executes_from d _ adds.enabled, place))

      found : (p : ℕ) → with_snapshot (snapshot_of self d) slot.pos parts p ≡ snapshot_of self (Executed slot ∷ d) p
      found p = elim (eqb_tells slot.pos p) [
        | inl same ↦ rw (same.0) (ap Some are ∙ sym (snapshot_put self slot d p ∙ rw (same.0, whole, not_below) refl))
        | inr other ↦ rw (other.0) (sym (snapshot_put self slot d p ∙ rw (other.0) refl))
      ]

    -- Elsewhere none is.
    pub shelf_left : (slot.pos % interval self.shape == 0) ≡ false → ShelfStands self shelf (Executed slot ∷ d)
    shelf_left apart = shelf_same shelf (snapshot_of self d) (snapshot_of self (Executed slot ∷ d)) found stands where
      found : (p : ℕ) → snapshot_of self d p ≡ snapshot_of self (Executed slot ∷ d) p
      found p = elim (eqb_tells slot.pos p) [
        | inl same ↦ sym (snapshot_put self slot d p ∙ rw (same.0, apart) (sym (subst (λ (q : ℕ). snapshot_of self d q ≡ None) same.1 (rw apart refl))))
        | inr other ↦ sym (snapshot_put self slot d p ∙ rw (other.0) refl)
      ]
