-- Each VIEW_CHANGE that a correct host stamps is usable.
--
-- Its log goes on from the floor to which the own list led (`log_part`), its certificates check and the floor is not above the stable position, it keeps
-- its limits (`limits_then`), its entries have no fault (`no_entry_fault`), and it has the next counter and goes to a later view.
use Rattle.std.proofs.Common.{◌≡◌, ℕ, ◌+◌, ◌≤◌, ◌<◌, Bool, true, false, ◌&&◌, not, List, [], ◌∷◌, ◌++◌, length, refl, sym, ap, subst, ◌∙◌, arith, length-append, Option, Some, None}
use Rattle.std.specs.Prelude.{◌==◌, ◌-◌, Contains, map, take, reverse, count_by, nat_lt, nat_le}
use Rattle.std.specs.Bool.{then_some}
use Rattle.std.specs.Option.{option_or}
use Rattle.std.specs.List.{AllByRecursion}
use Rattle.std.proofs.lemmas.Bool.{and_parts, eq-eqb, ltb-true}
use Rattle.std.proofs.lemmas.List.{length-reverse, take-map}
use Rattle.mb_parts.specs.declared.floor.Floor.{Floor}
use Rattle.mb_parts.specs.declared.certificates.FloorCert.{FloorCert}
use Rattle.mb_parts.specs.Bares.{Bare}
use Rattle.mb_parts.specs.Certificates.{inner_valid}
use Rattle.mb_parts.specs.Ordered.{initial_floor, is_ordered, current_view, floor_after}
use Rattle.mb_parts.proofs.OrderedParts.{head, tail}
use Rattle.mb_parts.proofs.Joined.{parts, GoesOn}
use Rattle.mb_msg.specs.declared.message.Body.TheVariants.{Whole}
use Rattle.mb_msg.specs.declared.change.ChangeBody.{ChangeBody}
use Rattle.mb_msg.specs.declared.change.ViewChange.{ViewChange}
use Rattle.mb_msg.specs.declared.stamped.Shown.{Shown}
use Rattle.mb_msg.specs.declared.stamped.Stamped.{Stamped as StampedMessage}
use Rattle.mb_msg.specs.declared.stamped.Stamped.TheVariants as stamped
use Rattle.mb_msg.specs.Stamps.{bare_of}
use Rattle.mb_base.specs.Limits.{other_limit}
use Rattle.mb_base.specs.declared.names.Ui.{Ui}
use Rattle.mb_model.specs.Verified.{verifies}
use Rattle.mb_model.specs.UsableLogs.{bares, newest_first, floor_position, is_normal_kind, normal_limit, is_too_long, is_ill_founded, entries_fault, fault_from, log_fault}
use Rattle.mb_model.specs.Histories.{Stamped, History, Identity, said, view_of, counter_of, stamped as all_stamped}
use Rattle.mb_model.specs.GateChecks.{valid}
use Rattle.mb_model.specs.Stable.{low_of, log_floor}
use Rattle.mb_model.specs.OwnLog.{is_normal, kept_forms, as_shown, own_log, log_start, log_kept, proof_of, has_other_room}
use Rattle.mb_steps.specs.OwnLists.{AreNumbered}
use Rattle.mb_model.specs.Sending.{next_ui}
use Rattle.mb_model.specs.Making.{view_change}
use Rattle.mb_model.specs.EnabledRules.{ChangeView, change_enabled, target}
use Rattle.mb_model.specs.Members.{In}
use Rattle.mb_model.proofs.Members.{in_contained}
use Rattle.mb_model.proofs.Options.{if_some}
use Rattle.mb_steps.proofs.StepHeldStable.{stable_checks}
use Rattle.mb_steps.proofs.StepOwnList.{stands_here}
use Rattle.mb_steps.proofs.StepOwnStamped.{steady}
use Rattle.mb_steps.proofs.StepPotential.{not_above}
use Rattle.mb_each_host.proofs.LogLimits.{InLimits}
use Rattle.mb_world_model.specs.WorldEvents.{IsCorrect}
use Rattle.mb_world_model.specs.World.{World, System, self_of}
use Rattle.mb_host_laws.proofs.Cases.{same_whole, not_le, map_append}
use Rattle.mb_host_laws.specs.Rests.{Each}
use Rattle.mb_world_laws.proofs.Facts.{Facts, IsKnownBody}
use Rattle.mb_views.proofs.Follows.{JumpsLed}
use Rattle.mb_host_laws.proofs.Moments.{IsPast, past_tail, past_numbered, WasStamped, was_stamped, entry_stamped}
use Rattle.mb_views.proofs.ShownLists.{newest_again}
use Rattle.mb_justified.proofs.ShownForms.{shown_forms, kept_shown, first_shown, forms_bare, forms_length}
use Rattle.mb_justified.proofs.UsableEntries.{AreOwnEntries, no_entry_fault}
use Rattle.mb_justified.proofs.StampFacts.{arises_back, StampFacts, stamp_facts}
use Rattle.mb_justified.proofs.NoneAgreed.{low_floor}
use Rattle.mb_justified.proofs.LogParts.{LogPart, log_part}
use Rattle.mb_justified.proofs.PastLimits.{InLimitsSince, limits_then}
use Rattle.mb_justified.proofs.ShownCounts.{mapped_reverse, count_reverse, forms_count}

module _ {S : Type 0} (system : System S) (w : World) (f : Facts system w) (jumps : (h : ℕ) → IsCorrect system.schedule h → Each (JumpsLed system w f) (w.histories h)) (h : ℕ) (correct : IsCorrect system.schedule h) where
  abbrev self : Identity S
  self = self_of system h

  -- what a VIEW_CHANGE shows, oldest first
  entries_are : (d : History) → (proof_of self d).entries ≡ reverse (shown_forms false (own_log self d))
  entries_are d =
      let n : ℕ = counter_of d - log_start self d in
      mapped_reverse as_shown (log_kept self d)
      ∙ ap (λ (l : List Shown). reverse l) (sym (take-map as_shown n (kept_forms (all_stamped d))) ∙ ap (take n) (kept_shown (all_stamped d)) ∙ first_shown n false (all_stamped d))

  -- ---- its entries

  abbrev inner : Bare → Bool
  inner = inner_valid system.schedule.shape (valid self)

  own_entries : (o : Floor) (low : ℕ) (l hidden : List StampedMessage) → o.counter ≡ length hidden → AreNumbered self (l ++ hidden) → AllByRecursion (StampFacts system w f h correct low) (l ++ hidden)
      → is_ordered o system.schedule.shape h inner (map bare_of l) ≡ true → AreOwnEntries system.schedule.shape system.schedule.secret (valid self) h low o l
  own_entries o low [] hidden count n s ordered = tt
  own_entries o low (m ∷ l) hidden count n s ordered = (
    record {
      counter = ap (λ (u : Ui). u.counter) n.0 ∙ omega (arith, count, length-append l hidden);
      sender = ap (λ (u : Ui). u.host) n.0;
      claimed = s.0.claimed;
      permitted = head o system.schedule.shape h inner (bare_of m) (map bare_of l) ordered;
      low = s.0.high;
      whole = s.0.whole;
      sound = s.0.sound;
    },
    own_entries o low l hidden count n.1 s.1 (tail o system.schedule.shape h inner (bare_of m) (map bare_of l) ordered),
  )

  abbrev Part : History → Type 0
  Part d = LogPart system w f jumps h correct d

  -- The log goes on from its floor, and leads to where the host stands.
  log_goes_on : (d : History) → IsPast d (w.histories h) → (p : Part d) → (is_ordered p.floor system.schedule.shape h inner (map bare_of (own_log self d)) ≡ true) × (current_view p.floor (map bare_of (own_log self d)) ≡ view_of self d)
  log_goes_on d past p =
      let list = (steady self d (arises_back system w f h correct d past)).list in
      let both : map bare_of (own_log self d) ++ map bare_of p.hidden ≡ said d = sym (map_append bare_of (own_log self d) p.hidden) ∙ ap (map bare_of) p.parts in
      let ordered : is_ordered initial_floor system.schedule.shape h inner (map bare_of (own_log self d) ++ map bare_of p.hidden) ≡ true = subst (λ (l : List Bare). is_ordered initial_floor system.schedule.shape h inner l ≡ true) (sym both) list.ordered in
      let g : GoesOn initial_floor system.schedule.shape h inner (map bare_of p.hidden) (map bare_of (own_log self d)) = parts initial_floor system.schedule.shape h inner (map bare_of p.hidden) (map bare_of (own_log self d)) ordered in (
        subst (λ (o : Floor). is_ordered o system.schedule.shape h inner (map bare_of (own_log self d)) ≡ true) p.leads g.ordered,
        ap (λ (o : Floor). current_view o (map bare_of (own_log self d))) (sym p.leads)
            ∙ ap (λ (o : Floor). o.view) (g.leads ∙ ap (floor_after initial_floor) both ∙ sym (stands_here self d list.own)),
      )

  no_fault_in : (d : History) → IsPast d (w.histories h) → (p : Part d) → entries_fault system.schedule.shape system.schedule.secret (valid self) h (low_of self d) p.floor [] (proof_of self d).entries ≡ None
  no_fault_in d past p =
      let numbered : AreNumbered self (all_stamped d) = past_numbered self past.later d (subst (λ (x : History). AreNumbered self (all_stamped x)) (sym past.is) (f.numbered h)) in
      let own = own_entries p.floor (low_of self d) (own_log self d) p.hidden p.count
      (subst (λ (l : List StampedMessage). AreNumbered self l) (sym p.parts) numbered)
      (subst (λ (l : List StampedMessage). AllByRecursion (StampFacts system w f h correct (low_of self d)) l) (sym p.parts) (stamp_facts system w f h correct d past))
      (log_goes_on d past p).0 in
      subst (λ (l : List Shown). entries_fault system.schedule.shape system.schedule.secret (valid self) h (low_of self d) p.floor [] l ≡ None) (sym (entries_are d))
      (no_entry_fault system.schedule.shape system.schedule.secret (valid self) h (low_of self d) p.floor (own_log self d) own)

  -- ---- what is asked before and behind them

  well_founded : (d : History) → IsPast d (w.histories h) → is_ill_founded system.schedule.shape system.schedule.secret (valid self) (proof_of self d) ≡ false
  well_founded d past = rw (stable_checks self d (arises_back system w f h correct d past)) (not_above (low_of self d) (floor_position (log_floor self d)) (position (log_floor self d) refl)) where
    position : (o : Option FloorCert) → log_floor self d ≡ o → floor_position o ≤ low_of self d
    position None is = omega arith
    position (Some c) is = (low_floor system w f h correct d c past is).low

  short_enough : (d : History) → InLimits self d → is_too_long system.schedule.shape system.schedule.secret (valid self) (proof_of self d).entries ≡ false
  short_enough d l =
      let own : List StampedMessage = own_log self d in
      let entries : List Shown = (proof_of self d).entries in
      let normal : count_by is_normal_kind entries ≡ count_by is_normal own = ap (λ (x : List Shown). count_by is_normal_kind x) (entries_are d) ∙ count_reverse is_normal_kind (shown_forms false own) ∙ forms_count (λ b. b) false own in
      let others : count_by (λ e. not (is_normal_kind e)) entries ≡ count_by (λ m. not (is_normal m)) own =
      ap (λ (x : List Shown). count_by (λ e. not (is_normal_kind e)) x) (entries_are d) ∙ count_reverse (λ e. not (is_normal_kind e)) (shown_forms false own) ∙ forms_count not false own in
      rw (not_above (normal_limit system.schedule.shape) (count_by is_normal_kind entries) (omega (arith, normal, l.0)))
      (not_above other_limit (count_by (λ e. not (is_normal_kind e)) entries) (omega (arith, others, l.1)))

  entries_length : (d : History) → length (proof_of self d).entries ≡ length (own_log self d)
  entries_length d = ap (λ (l : List Shown). length l) (entries_are d) ∙ length-reverse (shown_forms false (own_log self d)) ∙ forms_length false (own_log self d)

  next_counter : (d : History) → (p : Part d) → p.floor.counter + length (proof_of self d).entries + 1 ≡ counter_of d + 1
  next_counter d p = omega (arith, p.count, entries_length d, length-append (own_log self d) p.hidden, ap (λ (l : List StampedMessage). length l) p.parts)

  shown_view : (d : History) → IsPast d (w.histories h) → (p : Part d) → current_view p.floor (bares (newest_first [] (proof_of self d).entries)) ≡ view_of self d
  shown_view d past p =
      ap (λ (l : List Shown). current_view p.floor (bares l)) (newest_again as_shown (log_kept self d) ∙ sym (take-map as_shown (counter_of d - log_start self d) (kept_forms (all_stamped d)))
      ∙ ap (take (counter_of d - log_start self d)) (kept_shown (all_stamped d)) ∙ first_shown (counter_of d - log_start self d) false (all_stamped d))
      ∙ ap (current_view p.floor) (forms_bare false (own_log self d))
      ∙ (log_goes_on d past p).1

  rises : (d : History) (view : ℕ) → change_enabled self d ≡ Some (ChangeView view) → view_of self d < view
  unfolding change_enabled
  rises d view e =
      let t = if_some (nat_lt (view_of self d) (target self d) && has_other_room self d) (Some (ChangeView (target self d))) (ChangeView view) e in
      let above : view_of self d < target self d = ltb-true (view_of self d) (target self d) (and_parts (nat_lt (view_of self d) (target self d)) (has_other_room self d) t.0).0 in
      subst (λ (v : ℕ). view_of self d < v) (same (target self d) t.1) above where
        same : (v : ℕ) → Some (ChangeView v) ≡ Some (ChangeView view) → v ≡ view
        same v e = cc

  -- ---- no fault

  chain : {A : Type 0} (a c d e : Bool) (x : Option A) (r s t u : A) → a ≡ false → c ≡ false → x ≡ None → d ≡ false → e ≡ false
      → option_or (then_some a r) (option_or (then_some c s) (option_or x (option_or (then_some d t) (then_some e u)))) ≡ None
  chain a c d e x r s t u h i j k l = rw (h, i, j, k, l) refl

  own_usable : (d : History) (view counter : ℕ) → IsPast d (w.histories h) → InLimits self d → Part d → view_of self d < view → counter ≡ counter_of d + 1
      → log_fault system.schedule.shape system.schedule.secret (valid self) h view counter (proof_of self d) ≡ None
  unfolding log_fault
  own_usable d view counter past limits p later count =
      ap (fault_from system.schedule.shape system.schedule.secret (valid self) h view counter (proof_of self d)) p.certified
      ∙ chain (is_ill_founded system.schedule.shape system.schedule.secret (valid self) (proof_of self d)) (is_too_long system.schedule.shape system.schedule.secret (valid self) (proof_of self d).entries)
      (not (p.floor.counter + length (proof_of self d).entries + 1 == counter)) (nat_le view (current_view p.floor (bares (newest_first [] (proof_of self d).entries))))
      (entries_fault system.schedule.shape system.schedule.secret (valid self) h (low_of self d) p.floor [] (proof_of self d).entries) _ _ _ _
      (well_founded d past) (short_enough d limits) (no_fault_in d past p)
      (ap (λ (b : Bool). not b) (eq-eqb (p.floor.counter + length (proof_of self d).entries + 1) counter (next_counter d p ∙ sym count)))
      (not_le view _ (omega (arith, shown_view d past p, later)))

  -- Each VIEW_CHANGE that the host stamped is usable.
  pub change_usable : (m : ViewChange) (b : ChangeBody) → InLimitsSince self (w.histories h) → Contains (w.histories h) (Stamped (stamped.ViewChange m)) → m.body ≡ Whole b
      → log_fault system.schedule.shape system.schedule.secret (verifies system.schedule.secret) h m.view m.ui.counter b ≡ None
  change_usable m b limits there whole =
      let i : In (all_stamped (w.histories h)) (stamped.ViewChange m) = entry_stamped (w.histories h) (stamped.ViewChange m) (in_contained (w.histories h) (Stamped (stamped.ViewChange m)) there) in
      let x : WasStamped (w.histories h) (stamped.ViewChange m) = was_stamped (w.histories h) (stamped.ViewChange m) i in
      let d : History = x.before in
      let past : IsPast d (w.histories h) = past_tail (Stamped (stamped.ViewChange m)) d (w.histories h) x.past in
      let makes = (arises_back system w f h correct (Stamped (stamped.ViewChange m) ∷ d) x.past).0 in
      let made : ViewChange = record { view = makes.0; body = Whole (proof_of self d); ui = next_ui self d (bare_of (view_change self d makes.0)) } in
      let same : made ≡ m = change_is made m makes.2 in
      let body : proof_of self d ≡ b = same_whole (proof_of self d) b (ap (λ (y : ViewChange). y.body) same ∙ whole) in
      let known : IsKnownBody system.schedule w h b = f.changes h correct m b i whole in
      let p : Part d = log_part system w f jumps h correct d b past known (sym (ap (λ (y : ChangeBody). y.floor) body)) in
      let limits' : InLimits self d = limits_then self past.later d (subst (λ (y : History). InLimitsSince self y) (sym past.is) limits) in
      subst (λ (y : ChangeBody). log_fault system.schedule.shape system.schedule.secret (valid self) h m.view m.ui.counter y ≡ None) body
      (own_usable d m.view m.ui.counter past limits' p (subst (λ (y : ViewChange). view_of self d < y.view) same (rises d makes.0 makes.1)) (ap (λ (y : ViewChange). y.ui.counter) (sym same))) where
        change_is : (x y : ViewChange) → stamped.ViewChange x ≡ stamped.ViewChange y → x ≡ y
        change_is x y e = cc
