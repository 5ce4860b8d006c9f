-- The eight rules, one by one: what holds of each rule where its own test enables it holds of the next one.
use Rattle.std.proofs.Common.{◌≡◌, ℕ, ◌+◌, Bool, true, ◌&&◌, ◌||◌, not, refl, sym, ap, subst, ◌∙◌, inl, inr, List, Option, Some, None}
use Rattle.std.specs.Prelude.{nat_lt, nat_le, option_map}
use Rattle.std.proofs.lemmas.Bool.{and_parts}
use Rattle.mb_base.specs.Limits.{ahead_limit}
use Rattle.mb_parts.specs.declared.batch.Batch.{Batch}
use Rattle.mb_parts.specs.declared.certificates.Evidence.{Evidence}
use Rattle.mb_msg.specs.declared.change.NewView.{NewView}
use Rattle.mb_msg.specs.declared.change.ViewChange.{ViewChange}
use Rattle.mb_msg.specs.declared.change.Plan.{Plan}
use Rattle.mb_model.specs.declared.known.KnownSlot.{KnownSlot}
use Rattle.mb_model.specs.Histories.{History, Identity, here, view_of, is_open, is_changing, is_primary}
use Rattle.mb_model.specs.Held.{chosen, new_view_of, new_view_in_view, evidence_for, plan_at}
use Rattle.mb_model.specs.Stable.{low_of}
use Rattle.mb_model.specs.OwnLog.{has_room, has_other_room}
use Rattle.mb_model.specs.Positions.{exec_of, slot_at, in_window}
use Rattle.mb_model.specs.Batches.{first_batch}
use Rattle.mb_model.specs.EnabledRules.{Rule, ChangeView, Announce, Enter, Open, Join, Commit, Execute, Prepare, next_rule, target, change_enabled, announce_enabled, enter_enabled, open_enabled, join_enabled, commit_enabled, execute_enabled, prepare_enabled, next_position, with_batch, may_order, unordered, open_with, may_open, is_evidence_of, has_evidence, lags_behind, is_past_plan, if_committed, is_committed}
use Rattle.mb_model.proofs.Options.{or_some, if_some, map_some}

module _ {S : Type 0} (self : Identity S) (d : History) (P : Rule → Type 0) where
  -- It holds of each of the eight where it is enabled, and there is the room that it asks for.
  pub record OfEach : Type 0 where
    pub changes : change_enabled self d ≡ Some (ChangeView (target self d)) → nat_lt (view_of self d) (target self d) ≡ true → has_other_room self d ≡ true → P (ChangeView (target self d))
    pub announces : (changes : List ViewChange) → announce_enabled self d ≡ Some (Announce changes) → is_primary self d ≡ true → is_changing self d ≡ true → has_other_room self d ≡ true → P (Announce changes)
    pub enters : (n : NewView) → enter_enabled self d ≡ Some (Enter n) → has_other_room self d ≡ true → P (Enter n)
    pub opens : (e : Evidence) (plan : Plan) → open_enabled self d ≡ Some (Open e plan) → evidence_for self d (view_of self d) ≡ Some e → has_other_room self d ≡ true → P (Open e plan)
    pub joins : join_enabled self d ≡ Some Join → has_other_room self d ≡ true → P Join
    pub commits : (k : KnownSlot) (b : Batch) → commit_enabled self d ≡ Some (Commit (next_position self d) k b) → has_room self d ≡ true → P (Commit (next_position self d) k b)
    pub executes : (b : Batch) → execute_enabled self d ≡ Some (Execute (exec_of d + 1) b) → P (Execute (exec_of d + 1) b)
    pub prepares : (b : Batch) → prepare_enabled self d ≡ Some (Prepare (next_position self d) b) → has_room self d ≡ true → P (Prepare (next_position self d) b)

  same_rule : (x y : Rule) → Some x ≡ Some y → x ≡ y
  same_rule x y e = cc

  -- The same with the rule that the test gives.
  renamed : (found : Option Rule) (x y : Rule) → found ≡ Some y → x ≡ y → found ≡ Some x
  renamed found x y e same = e ∙ ap (λ (r : Rule). Some r) (sym same)

  -- the room behind two other tests
  third : (a b c : Bool) → (a && (b && c)) ≡ true → c ≡ true
  third a b c t = (and_parts b c (and_parts a (b && c) t).1).1

  module _ (of : OfEach) (rule : Rule) where
    of_change : change_enabled self d ≡ Some rule → P rule
    unfolding change_enabled
    of_change e =
        let t = if_some (nat_lt (view_of self d) (target self d) && has_other_room self d) (Some (ChangeView (target self d))) rule e in
        let same = same_rule (ChangeView (target self d)) rule t.1 in
        let a = and_parts (nat_lt (view_of self d) (target self d)) (has_other_room self d) t.0 in
        subst P same (of.changes (renamed _ _ rule e same) a.0 a.1)

    of_announce : announce_enabled self d ≡ Some rule → P rule
    unfolding announce_enabled
    of_announce e =
        let t = if_some (is_primary self d && (is_changing self d && has_other_room self d)) (option_map Announce (chosen self d (view_of self d))) rule e in
        let m = map_some Announce (chosen self d (view_of self d)) rule t.1 in
        let a = and_parts (is_primary self d) (is_changing self d && has_other_room self d) t.0 in
        let b = and_parts (is_changing self d) (has_other_room self d) a.1 in
        subst P m.2 (of.announces m.0 (renamed _ _ rule e m.2) a.0 b.0 b.1)

    of_enter : enter_enabled self d ≡ Some rule → P rule
    unfolding enter_enabled
    of_enter e =
        let t = if_some (not (is_primary self d) && (is_changing self d && has_other_room self d)) (option_map Enter (new_view_in_view (view_of self d) (new_view_of self d))) rule e in
        let m = map_some Enter (new_view_in_view (view_of self d) (new_view_of self d)) rule t.1 in
        subst P m.2 (of.enters m.0 (renamed _ _ rule e m.2) (third (not (is_primary self d)) (is_changing self d) (has_other_room self d) t.0))

    open_shape : (e : Option Evidence) (plan : Option Plan) → open_with e plan ≡ Some rule → (f : Evidence) × (p : Plan) × (e ≡ Some f) × (Open f p ≡ rule)
    open_shape (Some f) (Some p) o = let t = if_some (is_evidence_of f p) (Some (Open f p)) rule o in (f, p, refl, same_rule (Open f p) rule t.1)
    open_shape (Some f) None o = absurd cc
    open_shape None plan o = absurd cc

    of_open : open_enabled self d ≡ Some rule → P rule
    unfolding open_enabled
    of_open e =
        let t = if_some (may_open self d && has_other_room self d) (open_with (evidence_for self d (view_of self d)) (plan_at self d (view_of self d))) rule e in
        let m = open_shape (evidence_for self d (view_of self d)) (plan_at self d (view_of self d)) t.1 in
        subst P m.3 (of.opens m.0 m.1 (renamed _ _ rule e m.3) m.2 (and_parts (may_open self d) (has_other_room self d) t.0).1)

    of_join : join_enabled self d ≡ Some rule → P rule
    unfolding join_enabled
    of_join e =
        let t = if_some ((lags_behind self d || is_past_plan self d) && (has_evidence self d && (nat_le (low_of self d) (exec_of d) && has_other_room self d))) (Some Join) rule e in
        let same = same_rule Join rule t.1 in
        let a = and_parts (lags_behind self d || is_past_plan self d) (has_evidence self d && (nat_le (low_of self d) (exec_of d) && has_other_room self d)) t.0 in
        subst P same (of.joins (renamed _ _ rule e same) (third (has_evidence self d) (nat_le (low_of self d) (exec_of d)) (has_other_room self d) a.1))

    commit_shape : (q : ℕ) (k : Option KnownSlot) → with_batch (Commit q) k ≡ Some rule → (j : KnownSlot) × (b : Batch) × (Commit q j b ≡ rule)
    commit_shape q None e = absurd cc
    commit_shape q (Some j) e = let m = map_some (Commit q j) j.batch rule e in (j, m.0, m.2)

    of_commit : commit_enabled self d ≡ Some rule → P rule
    unfolding commit_enabled
    of_commit e =
        let t = if_some (is_open self d && (not (is_primary self d) && has_room self d)) (with_batch (Commit (next_position self d)) (slot_at self d (next_position self d))) rule e in
        let m = commit_shape (next_position self d) (slot_at self d (next_position self d)) t.1 in
        subst P m.2 (of.commits m.0 m.1 (renamed _ _ rule e m.2) (third (is_open self d) (not (is_primary self d)) (has_room self d) t.0))

    execute_shape : (q : ℕ) (k : Option KnownSlot) → if_committed self d q k ≡ Some rule → (b : Batch) × (Execute q b ≡ rule)
    execute_shape q None e = absurd cc
    execute_shape q (Some k) e =
        let t = if_some (is_committed self d q k) (option_map (Execute q) k.batch) rule e in
        let m = map_some (Execute q) k.batch rule t.1 in (m.0, m.2)

    of_execute : execute_enabled self d ≡ Some rule → P rule
    unfolding execute_enabled
    of_execute e =
        let t = if_some (is_open self d && nat_le (low_of self d) (exec_of d)) (if_committed self d (exec_of d + 1) (slot_at self d (exec_of d + 1))) rule e in
        let m = execute_shape (exec_of d + 1) (slot_at self d (exec_of d + 1)) t.1 in
        subst P m.1 (of.executes m.0 (renamed _ _ rule e m.1))

    of_prepare : prepare_enabled self d ≡ Some rule → P rule
    unfolding prepare_enabled
    of_prepare e =
        let t = if_some (may_order self d) (option_map (Prepare (next_position self d)) (first_batch (unordered self d))) rule e in
        let m = map_some (Prepare (next_position self d)) (first_batch (unordered self d)) rule t.1 in
        let room = third (is_open self d) (is_primary self d) (in_window self d (next_position self d) && (nat_lt (here self d).last (exec_of d + ahead_limit) && has_room self d)) t.0 in
        subst P m.2 (of.prepares m.0 (renamed _ _ rule e m.2) (third (in_window self d (next_position self d)) (nat_lt (here self d).last (exec_of d + ahead_limit)) (has_room self d) room))

    -- So it holds of the next one.
    pub of_next : next_rule self d ≡ Some rule → P rule
    unfolding next_rule
    of_next e = elim (or_some _ _ rule e) [
      | inl first ↦ of_change first
      | inr e ↦ elim (or_some _ _ rule e) [
        | inl first ↦ of_announce first
        | inr e ↦ elim (or_some _ _ rule e) [
          | inl first ↦ of_enter first
          | inr e ↦ elim (or_some _ _ rule e) [
            | inl first ↦ of_open first
            | inr e ↦ elim (or_some _ _ rule e) [
              | inl first ↦ of_join first
              | inr e ↦ elim (or_some _ _ rule e) [
                | inl first ↦ of_commit first
                | inr e ↦ elim (or_some _ _ rule e) [
                  | inl first ↦ of_execute first
                  | inr e ↦ of_prepare e
                ]
              ]
            ]
          ]
        ]
      ]
    ]
