-- What a host stamps in a change of the view is made of what it holds: a VIEW_CHANGE of its log, a NEW_VIEW of the VIEW_CHANGEs that are chosen, an ENTER of the
-- NEW_VIEW of its view.
use Rattle.std.proofs.Common.{◌≡◌, ℕ, ◌<◌, ◌&&◌, not, List, [], ◌∷◌, refl, ap, subst, ◌∙◌, inl, inr, arith, Option, Some, None}
use Rattle.std.specs.Prelude.{◌==◌, filter, option_map, is_none, Contains}
use Rattle.std.specs.List.{AllByRecursion}
use Rattle.std.proofs.lemmas.Bool.{eqb-true}
use Rattle.mb_base.specs.Shapes.{host_count, primary}
use Rattle.mb_msg.specs.declared.message.Body.TheVariants.{Whole}
use Rattle.mb_msg.specs.declared.message.Message.TheVariants as message
use Rattle.mb_msg.specs.declared.change.ViewChange.{ViewChange}
use Rattle.mb_msg.specs.declared.change.NewView.{NewView}
use Rattle.mb_msg.specs.declared.change.Enter.{Enter as EnterMessage}
use Rattle.mb_msg.specs.declared.change.Plan.{Plan}
use Rattle.mb_msg.specs.declared.stamped.Stamped.TheVariants as stamped
use Rattle.mb_msg.specs.Plans.{plan_end, plan_digest}
use Rattle.mb_msg.specs.Stamps.{bare_of}
use Rattle.mb_model.specs.UsableLogs.{is_whole}
use Rattle.mb_model.specs.Histories.{Entry, Accepted, Stamped, History, Identity, view_of, is_primary, is_changing}
use Rattle.mb_model.specs.Held.{change_fault, is_current, change_in, arrived, changes_of, chosen, new_view_of, new_view_in_view, plan_from}
use Rattle.mb_model.specs.OwnLog.{has_other_room, proof_of}
use Rattle.mb_model.specs.Sending.{next_ui}
use Rattle.mb_model.specs.Making.{view_change, new_view, enter}
use Rattle.mb_model.specs.EnabledRules.{Enter, enter_enabled}
use Rattle.mb_model.proofs.Options.{if_some, map_some}
use Rattle.mb_model.specs.Members.{In}
use Rattle.mb_model.proofs.Members.{in_contained, contained, all_in}
use Rattle.mb_steps.specs.Arises.{Arises, Makes}
use Rattle.mb_steps.proofs.StepHeldEvidence.{announce_seen}
use Rattle.mb_steps.proofs.StepPlanBases.{all_filter, all_append}
use Rattle.mb_world_model.specs.World.{System, self_of}
use Rattle.mb_world_model.specs.WorldSteps.{world}
use Rattle.mb_promise.specs.OwnChanges.{ChangeShows, NewViewShows, EnterAnswers, ShowsInChanges}
use Rattle.mb_world_laws.proofs.KeptByWorlds.{world_arises}
use Rattle.mb_host_laws.proofs.Cases.{some_is}
use Rattle.mb_host_laws.proofs.Moments.{arises_by, each_past}
use Rattle.mb_host_laws.specs.Rests.{Each}
use Rattle.mb_views.proofs.HeldSound.{chosen_to}
use Rattle.mb_views.proofs.OwnPlans.{chosen_many}
use Rattle.mb_obligations.proofs.AcceptedFits.{HasValues, values_in_worlds}
use Rattle.mb_provenance.proofs.FoundMembers.{of_filter}

-- Each of a list is one of it.
each_in : {A : Type 0} (P : A → Type 0) (l : List A) → ((x : A) → In l x → P x) → AllByRecursion P l
each_in P [] has = tt
each_in P (y ∷ l) has = (has y (inl refl), each_in P l (λ x i. has x (inr i)))

module _ {S : Type 0} (self : Identity S) where
  -- ---- a VIEW_CHANGE

  change_shows : (d : History) (m : ViewChange) → Makes self d (stamped.ViewChange m) → ChangeShows self d m
  change_shows d m (view, e, is) =
      let made : ViewChange = record { view = view; body = Whole (proof_of self d); ui = next_ui self d (bare_of (view_change self d view)) } in
      subst (λ (y : ViewChange). ChangeShows self d y) (same made m is) (record { body = proof_of self d; whole = refl; floor = refl; stable = refl }) where
        same : (x y : ViewChange) → stamped.ViewChange x ≡ stamped.ViewChange y → x ≡ y
        same x y e = cc

  -- ---- an ENTER

  in_view : (v : ℕ) (x : Option NewView) (n : NewView) → new_view_in_view v x ≡ Some n → (x ≡ Some n) × (n.view ≡ v)
  in_view v None n e = absurd cc
  in_view v (Some y) n e =
      let t = if_some (y.view == v) (Some y) n e in
      let same : y ≡ n = some_is y n t.1 in
      (ap (λ (z : NewView). Some z) same, subst (λ (z : NewView). z.view ≡ v) same (eqb-true y.view v t.0))

  enter_seen : (d : History) (n : NewView) → enter_enabled self d ≡ Some (Enter n) → (new_view_of self d ≡ Some n) × (n.view ≡ view_of self d)
  unfolding enter_enabled
  enter_seen d n e =
      let t = if_some (not (is_primary self d) && (is_changing self d && has_other_room self d)) (option_map Enter (new_view_in_view (view_of self d) (new_view_of self d))) (Enter n) e in
      let m = map_some Enter (new_view_in_view (view_of self d) (new_view_of self d)) (Enter n) t.1 in
      let same : m.0 ≡ n = cc (m.2) in
      in_view (view_of self d) (new_view_of self d) n (m.1 ∙ ap (λ (y : NewView). Some y) same)

  enter_answers : (d : History) (m : EnterMessage) → Makes self d (stamped.Enter m) → EnterAnswers self d m
  enter_answers d m (n, e, is) =
      let s = enter_seen d n e in
      let made : EnterMessage = record { view = n.view; counter = n.ui.counter; plan = n.plan; ui = next_ui self d (bare_of (enter n)) } in
      subst (λ (y : EnterMessage). EnterAnswers self d y) (same made m is)
      (record { announced = n; held = s.0; current = s.1; view = refl; counter = refl; plan = refl }) where
        same : (x y : EnterMessage) → stamped.Enter x ≡ stamped.Enter y → x ≡ y
        same x y e = cc

  -- ---- a NEW_VIEW

  -- Each VIEW_CHANGE that is held is of a host of the system, where this host is one.
  abbrev IsOfHost : ViewChange → Type 0
  IsOfHost m = m.ui.host < host_count self.shape

  own_host : (d : History) (m : ViewChange) → Makes self d (stamped.ViewChange m) → self.host ≡ m.ui.host
  own_host d m (view, e, is) =
      let made : ViewChange = record { view = view; body = Whole (proof_of self d); ui = next_ui self d (bare_of (view_change self d view)) } in
      let same : made ≡ m = cc is in
      ap (λ (y : ViewChange). y.ui.host) same

  module _ (there : self.host < host_count self.shape) where
    entry_host : (e : Entry) (d : History) → Arises self (e ∷ d) → HasValues self e d → (m : ViewChange) → change_in self d e ≡ Some m → IsOfHost m
    entry_host (Accepted (message.ViewChange n)) d a f m e =
        let t = if_some (is_whole n.body && is_current self d n.view) (Some n) m e in
        subst IsOfHost (some_is n m t.1) f.ui.host
    entry_host (Stamped (stamped.ViewChange n)) d a f m e =
        let t = if_some (is_whole n.body && is_none (change_fault self n)) (Some n) m e in
        subst IsOfHost (some_is n m t.1) (subst (λ (g : ℕ). g < host_count self.shape) (own_host d n a.0) there)
    entry_host e d a f m is = absurd cc

    arrived_hosts : (x : Option ViewChange) (l : List ViewChange) → ((m : ViewChange) → x ≡ Some m → IsOfHost m) → AllByRecursion IsOfHost l → AllByRecursion IsOfHost (arrived self x l)
    arrived_hosts None l new a = a
    arrived_hosts (Some m) l new a = all_append IsOfHost (filter (λ c. not (c.ui.host == m.ui.host)) l) (m ∷ []) (all_filter IsOfHost _ l a) (new m refl, tt)

    held_hosts : (d : History) → Arises self d → Each (HasValues self) d → AllByRecursion IsOfHost (changes_of self d)
    unfolding changes_of
    held_hosts [] a f = tt
    held_hosts (e ∷ d) a f = arrived_hosts (change_in self d e) (changes_of self d) (λ m is. entry_host e d a f.0 m is) (held_hosts d a.1 f.1)

  -- held, and to this view
  abbrev IsHeldTo : History → ℕ → ViewChange → Type 0
  IsHeldTo d view c = Contains (changes_of self d) c × (c.view ≡ view)

  chosen_held : (d : History) (changes : List ViewChange) → chosen self d (view_of self d) ≡ Some changes → (c : ViewChange) → Contains changes c → IsHeldTo d (view_of self d) c
  chosen_held d changes e c i =
      let view : ℕ = view_of self d in
      let all : AllByRecursion (IsHeldTo d view) (filter (λ c. c.view == view) (changes_of self d)) = each_in (IsHeldTo d view) (filter (λ c. c.view == view) (changes_of self d)) (λ c i.
      let f = of_filter (λ c. c.view == view) (changes_of self d) c i in
      (contained (changes_of self d) c f.0, eqb-true c.view view f.1)) in
      all_in (IsHeldTo d view) changes c (chosen_to self (IsHeldTo d view) d view changes all e) (in_contained changes c i)

  new_view_shows : (d : History) (m : NewView) → Arises self (Stamped (stamped.NewView m) ∷ d) → Each (HasValues self) d → NewViewShows self d m
  new_view_shows d m ((changes, e, is), a) f =
      let s = announce_seen self d changes e in
      let plan : Plan = plan_from self changes in
      let leads : self.host ≡ primary self.shape (view_of self d) = eqb-true self.host (primary self.shape (view_of self d)) s.0 in
      let there : self.host < host_count self.shape = omega (arith, leads) in
      let made : NewView = record { view = view_of self d; base = plan.base.pos; end = plan_end plan; plan = plan_digest plan; body = Whole (record { changes = changes }); ui = next_ui self d (bare_of (new_view self d changes)) } in
      subst (λ (y : NewView). NewViewShows self d y) (same made m is) (record {
        view = refl;
        body = record { changes = changes };
        whole = refl;
        many = chosen_many self d (view_of self d) changes (held_hosts there d a f) s.1;
        held = chosen_held d changes s.1;
        base = refl;
        end = refl;
        plan = refl;
      }) where
        same : (x y : NewView) → stamped.NewView x ≡ stamped.NewView y → x ≡ y
        same x y e = cc

  -- ---- each of them

  shows_in_changes : (d : History) → Arises self d → Each (HasValues self) d → ShowsInChanges self d
  shows_in_changes d arises values = record {
    changes = λ later before m is. change_shows before m (arises_by self later (Stamped (stamped.ViewChange m) ∷ before) (subst (λ (x : History). Arises self x) is arises)).0;
    new_views = λ later before m is. new_view_shows before m (arises_by self later (Stamped (stamped.NewView m) ∷ before) (subst (λ (x : History). Arises self x) is arises))
        (each_past (HasValues self) later (Stamped (stamped.NewView m) ∷ before) (subst (λ (x : History). Each (HasValues self) x) is values)).1;
    enters = λ later before m is. enter_answers before m (arises_by self later (Stamped (stamped.Enter m) ∷ before) (subst (λ (x : History). Arises self x) is arises)).0;
  }

pub hosts_show_in_changes : {S : Type 0} (system : System S) (k h : ℕ) → ShowsInChanges (self_of system h) ((world system k).histories h)
hosts_show_in_changes system k h = shows_in_changes (self_of system h) ((world system k).histories h) (world_arises system k h) (values_in_worlds system k h)
