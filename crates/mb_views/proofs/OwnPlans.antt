-- The plan that a correct primary announces is a good one: it is made of VIEW_CHANGEs that it holds, each accepted as current or its own.
use Rattle.std.proofs.Common.{◌≡◌, ℕ, ◌+◌, ◌<◌, ◌≤◌, true, ◌&&◌, List, [], ◌∷◌, length, refl, sym, subst, inl, inr, eqb, arith, Option, Some, None}
use Rattle.std.specs.Prelude.{map, take, filter, find, not, nat_le, is_none, ◌==◌}
use Rattle.std.specs.List.{AllByRecursion, range_with_len}
use Rattle.std.proofs.lemmas.Bool.{and_parts, cases_Bool, eqb-true, eq-eqb, lt-ltb}
use Rattle.mb_base.specs.Shapes.{host_count, quorum}
use Rattle.mb_usig.proofs.Laws.{true-same_bytes}
use Rattle.mb_parts.specs.Claims.{are_rising}
use Rattle.mb_msg.specs.declared.message.Body.TheVariants.{Whole}
use Rattle.mb_msg.specs.declared.message.Message.TheVariants as message
use Rattle.mb_msg.specs.declared.change.ChangeBody.{ChangeBody}
use Rattle.mb_msg.specs.declared.change.ViewChange.{ViewChange}
use Rattle.mb_msg.specs.declared.change.NewView.{NewView}
use Rattle.mb_msg.specs.declared.change.Plan.{Plan}
use Rattle.mb_msg.specs.declared.stamped.Stamped.TheVariants as stamped
use Rattle.mb_msg.specs.Plans.{plan_text, plan_end, plan_digest}
use Rattle.mb_msg.specs.Stamps.{bare_of}
use Rattle.mb_model.specs.Verified.{verifies}
use Rattle.mb_model.specs.UsableLogs.{log_fault, is_whole}
use Rattle.mb_model.specs.Histories.{Entry, Accepted, Stamped, History, Identity, view_of, stamped as all_stamped}
use Rattle.mb_model.specs.Held.{change_fault, is_current, change_in, arrived, changes_of, by_rising_host, chosen, plan_from}
use Rattle.mb_model.specs.Sending.{next_ui}
use Rattle.mb_model.specs.Making.{new_view}
use Rattle.mb_model.specs.Members.{In}
use Rattle.mb_model.proofs.Options.{if_some}
use Rattle.mb_model.proofs.RisingLists.{RiseFrom, rise_found}
use Rattle.mb_steps.specs.Arises.{Makes}
use Rattle.mb_steps.proofs.StepHeldEvidence.{announce_seen}
use Rattle.mb_steps.proofs.StepPlanBases.{all_filter, all_append, all_found, all_any}
use Rattle.mb_world_model.specs.WorldEvents.{IsCorrect}
use Rattle.mb_world_model.specs.World.{World, System, self_of}
use Rattle.mb_host_laws.proofs.Cases.{all_taken, none_is, some_is, whole_of}
use Rattle.mb_host_laws.proofs.DistinctHosts.{find_good, chosen_members}
use Rattle.mb_host_laws.specs.Rests.{Each, Rests}
use Rattle.mb_world_laws.proofs.Grown.{IsGivenTo, IsHashed, HasStrings}
use Rattle.mb_world_laws.proofs.Facts.{Facts, IsKnownBody}
use Rattle.mb_views.proofs.Follows.{JumpsLed}
use Rattle.mb_host_laws.proofs.Moments.{IsPast, past_tail, each_at}
use Rattle.mb_views.proofs.Floors.{arises_then}
use Rattle.mb_views.proofs.Certified.{stamped_in}
use Rattle.mb_world_laws.proofs.OwnIssued.{own_stamp}
use Rattle.mb_views.proofs.UsableChanges.{IsGoodChange}
use Rattle.mb_views.proofs.HeldChanges.{whole_none, accepted_change}
use Rattle.mb_views.proofs.GoodPlans.{IsGoodMember, IsGoodPlan}

-- ---- those that are chosen

rise_hosts : (n : ℕ) (l : List ViewChange) → RiseFrom (λ (m : ViewChange). m.ui.host) (λ m. Unit {0}) n l → are_rising (map (λ (m : ViewChange). m.ui.host) l) ≡ true
rise_hosts n [] r = refl
rise_hosts n (a ∷ []) r = refl
rise_hosts n (a ∷ b ∷ l) r = let up : a.ui.host + 1 ≤ b.ui.host = r.2.0 in rw (lt-ltb a.ui.host b.ui.host (omega (arith, up))) (rise_hosts (a.ui.host + 1) (b ∷ l) r.2)

module _ {S : Type 0} (self : Identity S) where
  -- They are f+1, where each that is held is of a host of the system.
  pub chosen_many : (d : History) (view : ℕ) (changes : List ViewChange) → AllByRecursion (λ (m : ViewChange). m.ui.host < host_count self.shape) (changes_of self d)
      → chosen self d view ≡ Some changes → length changes ≡ quorum self.shape
  chosen_many d view changes below e = (chosen_members self (λ (m : ViewChange). m.ui.host < host_count self.shape) (λ m low. low) d below view changes e).0

module _ {S : Type 0} (system : System S) (w : World) (f : Facts system w) (jumps : (h : ℕ) → IsCorrect system.schedule h → Each (JumpsLed system w f) (w.histories h)) (h : ℕ) (correct : IsCorrect system.schedule h) where
  abbrev self : Identity S
  self = self_of system h

  own_change : (m : ViewChange) (b : ChangeBody) (d : History) → IsPast (Stamped (stamped.ViewChange m) ∷ d) (w.histories h) → m.body ≡ Whole b → change_fault self m ≡ None → IsGoodChange system w m b
  own_change m b d past is none =
      let own = own_stamp system w f h (stamped.ViewChange m) d correct past in
      let r : Rests self (IsGivenTo system.schedule w h) (IsHashed system.schedule w) (HasStrings system.schedule w) (Stamped (stamped.ViewChange m)) d = (each_at _ (Stamped (stamped.ViewChange m) ∷ d) (w.histories h) past (f.standing.rests h)).0 in
      let there : In (all_stamped (w.histories h)) (stamped.ViewChange m) = subst (λ (y : History). In (all_stamped y) (stamped.ViewChange m)) past.is (stamped_in past.later d (stamped.ViewChange m)) in
      record {
        body = is;
        issues = own.issues;
        host = subst (λ (g : ℕ). g < host_count system.schedule.shape) (sym own.host) correct.0;
        usable = whole_none (log_fault system.schedule.shape system.schedule.secret (verifies system.schedule.secret) m.ui.host m.view m.ui.counter) m.body b is none;
        known = subst (λ (g : ℕ). IsKnownBody system.schedule w g b) (sym own.host) (f.changes h correct m b there is);
        checker = h;
        compared = rw is at r.1;
      }

  abbrev IsGood : ViewChange → Type 0
  IsGood m = IsGoodMember system w m.view m

  entry_good : (e : Entry) (d : History) → IsPast (e ∷ d) (w.histories h) → (m : ViewChange) → change_in self d e ≡ Some m → IsGood m
  entry_good (Accepted (message.ViewChange n)) d past m e =
      let t = if_some (is_whole n.body && is_current self d n.view) (Some n) m e in
      let p = and_parts (is_whole n.body) (is_current self d n.view) t.0 in
      let b = whole_of n.body p.0 in
      subst IsGood (some_is n m t.1) (record { shows = b.0; good = accepted_change system w f jumps h n b.0 d correct past b.1 p.1; to = refl })
  entry_good (Stamped (stamped.ViewChange n)) d past m e =
      let t = if_some (is_whole n.body && is_none (change_fault self n)) (Some n) m e in
      let p = and_parts (is_whole n.body) (is_none (change_fault self n)) t.0 in
      let b = whole_of n.body p.0 in
      subst IsGood (some_is n m t.1) (record { shows = b.0; good = own_change n b.0 d past b.1 (none_is (change_fault self n) p.1); to = refl })
  entry_good e d past m is = absurd cc

  arrived_good : (x : Option ViewChange) (l : List ViewChange) → ((m : ViewChange) → x ≡ Some m → IsGood m) → AllByRecursion IsGood l → AllByRecursion IsGood (arrived self x l)
  arrived_good None l new a = a
  arrived_good (Some m) l new a = all_append IsGood (filter (λ c. not (c.ui.host == m.ui.host)) l) (m ∷ []) (all_filter IsGood _ l a) (new m refl, tt)

  held_good : (d : History) → IsPast d (w.histories h) → AllByRecursion IsGood (changes_of self d)
  unfolding changes_of
  held_good [] p = tt
  held_good (e ∷ d) p = arrived_good (change_in self d e) (changes_of self d) (λ m is. entry_good e d p m is) (held_good d (past_tail e d (w.histories h) p))

  abbrev to_view : ℕ → ViewChange → Type 0
  to_view view m = IsGoodMember system w view m

  filtered_to : (view : ℕ) (l : List ViewChange) → AllByRecursion IsGood l → AllByRecursion (to_view view) (filter (λ c. c.view == view) l)
  filtered_to view [] a = tt
  filtered_to view (m ∷ l) a = elim (cases_Bool (eqb m.view view)) [
    | inl same ↦ rw same (record { shows = a.0.shows; good = a.0.good; to = eqb-true m.view view same }, filtered_to view l a.1)
    | inr other ↦ rw other (filtered_to view l a.1)
  ]

  hosts_below : (l : List ViewChange) → AllByRecursion IsGood l → AllByRecursion (λ (m : ViewChange). m.ui.host < host_count system.schedule.shape) l
  hosts_below [] a = tt
  hosts_below (m ∷ l) a = (a.0.good.host, hosts_below l a.1)

  pub announced_plan : (n : NewView) (d : History) → IsPast (Stamped (stamped.NewView n) ∷ d) (w.histories h) → (changes : List ViewChange) × IsGoodPlan system w n.view n.base n.end n.plan changes × (n.body ≡ Whole (record { changes = changes }))
  announced_plan n d past =
      let makes : Makes self d (stamped.NewView n) = (arises_then system w f h correct (jumps h correct) (Stamped (stamped.NewView n) ∷ d) past).0 in
      let changes : List ViewChange = makes.0 in
      let plan : Plan = plan_from self changes in
      let made : NewView = record { view = view_of self d; base = plan.base.pos; end = plan_end plan; plan = plan_digest plan; body = Whole (record { changes = changes }); ui = next_ui self d (bare_of (new_view self d changes)) } in
      let same : made ≡ n = cc makes.2 in
      let seen = announce_seen self d changes makes.1 in
      let l : List ViewChange = filter (λ c. c.view == view_of self d) (changes_of self d) in
      let t = if_some (nat_le (quorum system.schedule.shape) (length l)) (Some (by_rising_host self (take (quorum system.schedule.shape) l))) changes seen.1 in
      let first : List ViewChange = take (quorum system.schedule.shape) l in
      let is : by_rising_host self first ≡ changes = cc t.1 in
      let view : ℕ = view_of self d in
      let before : IsPast d (w.histories h) = past_tail (Stamped (stamped.NewView n)) d (w.histories h) past in
      let good : AllByRecursion (to_view view) first = all_taken (to_view view) (quorum system.schedule.shape) l (filtered_to view (changes_of self d) (held_good d before)) in
      let found : AllByRecursion (to_view view) (by_rising_host self first) = all_found (λ (i : ℕ). Unit {0}) (to_view view) (λ i. find (λ c. c.ui.host == i) first) (λ i m u e. (find_good (to_view view) (λ c. c.ui.host == i) first good m e).0)
      (range_with_len 0 (host_count system.schedule.shape)) (all_any (range_with_len 0 (host_count system.schedule.shape))) in
      let below : AllByRecursion (λ (m : ViewChange). m.ui.host < host_count system.schedule.shape) (changes_of self d) = hosts_below (changes_of self d) (held_good d before) in
      let count : length changes ≡ quorum system.schedule.shape = chosen_many self d view changes below seen.1 in
      let rises : are_rising (map (λ (m : ViewChange). m.ui.host) (by_rising_host self first)) ≡ true = rise_hosts 0 (by_rising_host self first)
      (rise_found (λ (m : ViewChange). m.ui.host) (λ m. Unit {0}) (λ i. find (λ c. c.ui.host == i) first) (λ i m e. (eqb-true m.ui.host i (find_good (to_view view) (λ c. c.ui.host == i) first good m e).1, tt)) 0 (host_count system.schedule.shape)) in
      let r : Rests self (IsGivenTo system.schedule w h) (IsHashed system.schedule w) (HasStrings system.schedule w) (Stamped (stamped.NewView made)) d =
      subst (λ (y : NewView). Rests self (IsGivenTo system.schedule w h) (IsHashed system.schedule w) (HasStrings system.schedule w) (Stamped (stamped.NewView y)) d) (sym same) (each_at _ (Stamped (stamped.NewView n) ∷ d) (w.histories h) past (f.standing.rests h)).0 in
      let strings : AllByRecursion (IsHashed system.schedule w) (plan_text plan ∷ []) = r.1 in
      subst (λ (y : NewView). (l : List ViewChange) × IsGoodPlan system w y.view y.base y.end y.plan l × (y.body ≡ Whole (record { changes = l }))) same (
        changes,
        record {
          members = subst (AllByRecursion (to_view view)) is found;
          many = count;
          rising = subst (λ (l : List ViewChange). are_rising (map (λ (m : ViewChange). m.ui.host) l) ≡ true) is rises;
          described = rw (eq-eqb plan.base.pos plan.base.pos refl, eq-eqb (plan_end plan) (plan_end plan) refl) (true-same_bytes (plan_digest plan) (plan_digest plan) refl);
          hashed = strings.0;
        },
        refl,
      )
