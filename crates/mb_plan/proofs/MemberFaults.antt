-- The first member that fails, step by step; and that a whole body that fits has members enough.
use Rattle.std.proofs.Common.{◌≡◌, ℕ, ◌+◌, ◌≤◌, ◌<◌, true, false, List, [], ◌∷◌, length, map, drop, slice_get, Option, Some, None, refl, sym, ap, subst, ◌∙◌, arith}
use Rattle.std.specs.Prelude.{option_map, not}
use Rattle.std.specs.Bool.{then_some}
use Rattle.std.specs.List.{AllByRecursion, cons_option}
use Rattle.std.proofs.lemmas.Bool.{lt-ltb, eq-eqb}
use Rattle.std.proofs.lemmas.List.{length-map}
use Rattle.std.specs.Option.{option_or}
use Rattle.mb_base.specs.Shapes.{Bytes, host_count, quorum}
use Rattle.mb_base.specs.Spelling.{Rises}
use Rattle.mb_base.specs.declared.shape.Shape.{Shape}
use Rattle.mb_parts.specs.Claims.{are_rising}
use Rattle.mb_msg.specs.declared.message.Body.{Body}
use Rattle.mb_msg.specs.declared.message.Body.TheVariants.{Whole, Bare as Short}
use Rattle.mb_msg.specs.declared.change.ChangeBody.{ChangeBody}
use Rattle.mb_msg.specs.declared.change.ViewChange.{ViewChange}
use Rattle.mb_msg.specs.declared.change.NewView.{NewView}
use Rattle.mb_msg.specs.declared.change.NewViewBody.{NewViewBody}
use Rattle.mb_msg.specs.Bodies.{whole_body, form_of}
use Rattle.mb_msg.specs.Fits.{FitsMember, FitsNewViewBody}
use Rattle.mb_model.specs.Histories.{Identity}
use Rattle.mb_model.specs.UsableLogs.{Fault}
use Rattle.mb_model.specs.Plans.{ShownLog, by_host, are_of_plan}
use Rattle.mb_model.specs.Held.{logs_of, plan_from}
use Rattle.mb_model.specs.KindChecks.{member_fault, members_fault, new_view_fault}
use Rattle.mb_model.proofs.ByHost.{by_host_rising}
use Rattle.mb_plan.specs.Planned.{are_quorum}
use Rattle.mb_plan.specs.NewViews.{checker}
use Rattle.mb_plan.proofs.Folds.{rest_next, rest_none}

module _ (s : Shape) (secret : Bytes) (view : ℕ) (ms : List ViewChange) where
  -- those from a place on are still to be looked at
  abbrev pub FaultFrom : ℕ → Type 0
  FaultFrom i = members_fault (checker s secret) view i (drop i ms) ≡ members_fault (checker s secret) view 0 ms

  module _ (i : ℕ) (m : ViewChange) (at : slice_get ms i ≡ Some m) (so_far : FaultFrom i) where
    one_on : members_fault (checker s secret) view i (drop i ms)
        ≡ option_or (option_map (λ reason. (i, reason)) (member_fault (checker s secret) view m)) (members_fault (checker s secret) view (i + 1) (drop (i + 1) ms))
    unfolding members_fault
    one_on = rest_next (members_fault (checker s secret) view i) ms i m at

    pub member_fails : (reason : ℕ) → member_fault (checker s secret) view m ≡ Some reason → members_fault (checker s secret) view 0 ms ≡ Some (i, reason)
    member_fails reason e = sym so_far ∙ one_on ∙ ap (λ x. option_or (option_map (λ r. (i, r)) x) (members_fault (checker s secret) view (i + 1) (drop (i + 1) ms))) e

    pub member_passes : member_fault (checker s secret) view m ≡ None → FaultFrom (i + 1)
    member_passes e = sym (one_on ∙ ap (λ x. option_or (option_map (λ r. (i, r)) x) (members_fault (checker s secret) view (i + 1) (drop (i + 1) ms))) e) ∙ so_far

  pub none_fails : (i : ℕ) → length ms ≤ i → FaultFrom i → members_fault (checker s secret) view 0 ms ≡ None
  unfolding members_fault
  none_fails i le so_far = sym so_far ∙ rest_none (members_fault (checker s secret) view i) ms i le

-- What a host finds of a NEW_VIEW rests on its shape and secret alone.
module _ {S : Type 0} (self : Identity S) where
  same_members : (view i : ℕ) (ms : List ViewChange) → members_fault self view i ms ≡ members_fault (checker self.shape self.secret) view i ms
  unfolding members_fault
  same_members view i [] = refl
  same_members view i (m ∷ ms) = ap (option_or (option_map (λ reason. (i, reason)) (member_fault self view m))) (same_members view (i + 1) ms)

  pub same_fault : (m : NewView) (b : NewViewBody) → new_view_fault self m b ≡ new_view_fault (checker self.shape self.secret) m b
  unfolding new_view_fault
  same_fault m b = ap (λ x. option_or x (then_some (not (are_of_plan m.base m.end m.plan (plan_from self b.changes))) (255, 11))) (same_members m.view 0 b.changes)

-- ---- a NEW_VIEW is at fault where a member is, or its plan

module _ (s : Shape) (secret : Bytes) (m : NewView) (b : NewViewBody) where
  pub member_at_fault : (f : Fault) → members_fault (checker s secret) m.view 0 b.changes ≡ Some f → new_view_fault (checker s secret) m b ≡ Some f
  unfolding new_view_fault
  member_at_fault f e = rw e refl

  module _ (none : members_fault (checker s secret) m.view 0 b.changes ≡ None) where
    pub plan_at_fault : are_of_plan m.base m.end m.plan (plan_from (checker s secret) b.changes) ≡ false → new_view_fault (checker s secret) m b ≡ Some (255, 11)
    unfolding new_view_fault
    plan_at_fault e = rw (none, e) refl

    pub none_at_fault : are_of_plan m.base m.end m.plan (plan_from (checker s secret) b.changes) ≡ true → new_view_fault (checker s secret) m b ≡ None
    unfolding new_view_fault
    none_at_fault e = rw (none, e) refl

-- ---- a whole body that fits has f+1 members of different hosts

rises_rising : (n : ℕ) (l : List ℕ) → Rises n l → are_rising l ≡ true
rises_rising n [] r = refl
rises_rising n (a ∷ []) r = refl
rises_rising n (a ∷ b ∷ l) r = let up : a + 1 ≤ b = r.1.0 in rw (lt-ltb a b (omega (arith, up))) (rises_rising (a + 1) (b ∷ l) r.1)

abbrev as_log : ℕ → ChangeBody → ShownLog
as_log host b = record { host = host; body = b }

shown_whole : (host : ℕ) (b : Body ChangeBody) → form_of b ≡ 1 → (l : ShownLog) × (option_map (as_log host) (whole_body b) ≡ Some l) × (l.host ≡ host)
shown_whole host (Whole b) form = (record { host = host; body = b }, refl, refl)
shown_whole host (Short digest) form = absurd cc

module _ (s : Shape) where
  same_hosts : (ms : List ViewChange) → AllByRecursion (FitsMember s) ms → map (λ l. l.host) (logs_of ms) ≡ map (λ m. m.ui.host) ms
  same_hosts [] fits = refl
  same_hosts (m ∷ ms) (here, fits) =
      let w = shown_whole m.ui.host m.body here.1 in
      ap (λ (o : Option ShownLog). map (λ l. l.host) (cons_option o (logs_of ms))) w.1
      ∙ ap (λ (h : ℕ). h ∷ map (λ l. l.host) (logs_of ms)) w.2
      ∙ ap (λ (t : List ℕ). m.ui.host ∷ t) (same_hosts ms fits)

  hosts_within : (ms : List ViewChange) → AllByRecursion (FitsMember s) ms → AllByRecursion (λ (l : ShownLog). l.host < host_count s) (logs_of ms)
  hosts_within [] fits = tt
  hosts_within (m ∷ ms) (here, fits) =
      let w = shown_whole m.ui.host m.body here.1 in
      subst (λ (o : Option ShownLog). AllByRecursion (λ (l : ShownLog). l.host < host_count s) (cons_option o (logs_of ms))) (sym w.1)
      (subst (λ (h : ℕ). h < host_count s) (sym w.2) here.0.ui.host, hosts_within ms fits)

  pub members_are_quorum : (b : NewViewBody) → FitsNewViewBody s b → are_quorum s b.changes ≡ true
  members_are_quorum b fits =
      let ms = b.changes in
      let hosts : map (λ l. l.host) (logs_of ms) ≡ map (λ m. m.ui.host) ms = same_hosts ms fits.1.1 in
      let rise : are_rising (map (λ l. l.host) (logs_of ms)) ≡ true = ap are_rising hosts ∙ rises_rising 0 (map (λ m. m.ui.host) ms) fits.1.0 in
      let same : by_host s (logs_of ms) ≡ logs_of ms = by_host_rising s (logs_of ms) rise (hosts_within ms fits.1.1) in
      let many : length (logs_of ms) ≡ length ms = sym (length-map (logs_of ms) (λ l. l.host)) ∙ ap length hosts ∙ length-map ms (λ m. m.ui.host) in
      let full : length (by_host s (logs_of ms)) ≡ quorum s = ap length same ∙ many ∙ fits.0 in
      rw (eq-eqb (length ms) (quorum s) fits.0) (eq-eqb (length (by_host s (logs_of ms))) (quorum s) full)
