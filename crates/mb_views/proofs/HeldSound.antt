-- The plan that a correct host holds has a stable base that verifies and fits, and batches of requests with the tags of their clients.
--
-- It came of a NEW_VIEW whose members were found usable, of an own NEW_VIEW of stored VIEW_CHANGEs, or of an OPEN whose body was seen (`held_from`). In
-- each case it is sound (`brought_sound`).
use Rattle.std.proofs.Common.{◌≡◌, ℕ, ◌+◌, Bool, true, ◌&&◌, not, List, [], ◌∷◌, refl, sym, subst, inl, inr, Option, Some, None}
use Rattle.std.specs.Prelude.{◌==◌, option_and_then, filter, find, take, nat_le, length, is_none}
use Rattle.std.specs.List.{AllByRecursion, range_with_len, list_all}
use Rattle.std.proofs.lemmas.Bool.{cases_Bool, and_parts, not-false}
use Rattle.mb_base.specs.Shapes.{host_count, quorum}
use Rattle.mb_base.specs.declared.shape.Shape.{Shape}
use Rattle.mb_parts.specs.Certificates.{is_stable}
use Rattle.mb_msg.specs.declared.message.Body.{Body}
use Rattle.mb_msg.specs.declared.message.Body.TheVariants.{Whole, Bare as Short}
use Rattle.mb_msg.specs.declared.message.Message.TheVariants as message
use Rattle.mb_msg.specs.declared.change.OpenBody.{OpenBody}
use Rattle.mb_msg.specs.declared.change.ChangeBody.{ChangeBody}
use Rattle.mb_msg.specs.declared.change.NewViewBody.{NewViewBody}
use Rattle.mb_msg.specs.declared.change.ViewChange.{ViewChange}
use Rattle.mb_msg.specs.declared.change.NewView.{NewView}
use Rattle.mb_msg.specs.declared.change.Open.{Open as OpenMessage}
use Rattle.mb_msg.specs.declared.change.Plan.{Plan}
use Rattle.mb_msg.specs.declared.stamped.Stamped.TheVariants as stamped
use Rattle.mb_msg.specs.Bodies.{FitsBody, whole_body}
use Rattle.mb_msg.specs.Fits.{FitsChangeBody, FitsMember, FitsOpenBody, FitsNewViewBody}
use Rattle.mb_msg.specs.Plans.{plan_end, plan_digest}
use Rattle.mb_msg.specs.Stamps.{bare_of}
use Rattle.mb_model.specs.Verified.{are_rightly_tagged}
use Rattle.mb_model.specs.UsableLogs.{is_comparable_body, is_whole}
use Rattle.mb_model.specs.Histories.{Entry, Accepted, Stamped, History, Identity, view_of}
use Rattle.mb_model.specs.Sending.{signed, next_ui}
use Rattle.mb_model.specs.Making.{new_view}
use Rattle.mb_model.specs.Held.{change_fault, is_current, change_in, arrived, changes_of, by_rising_host, chosen, plan_from, plan_in_new_view, plan_in_open, gives_plan, plan_in, plan_held}
use Rattle.mb_model.specs.GateChecks.{valid}
use Rattle.mb_model.specs.KindChecks.{members_fault, member_fault, is_member, new_view_fault, opening_fault, is_body_of}
use Rattle.mb_model.specs.EnabledRules.{Announce, announce_enabled}
use Rattle.mb_model.proofs.Options.{or_none, then_none, if_some}
use Rattle.mb_model.proofs.UsableLaws.{map_none}
use Rattle.mb_steps.specs.Arises.{Arises, Adds}
use Rattle.mb_steps.proofs.StepHeldEvidence.{some_is, announce_seen}
use Rattle.mb_steps.proofs.StepHeldStable.{changes_usable}
use Rattle.mb_steps.proofs.StepPlanBases.{IsUsable, all_filter, all_append, all_found, all_any}
use Rattle.mb_world_model.specs.WorldEvents.{IsCorrect}
use Rattle.mb_world_model.specs.World.{World, System, self_of}
use Rattle.mb_host_laws.proofs.Cases.{all_taken, member}
use Rattle.mb_host_laws.proofs.Found.{gives_current}
use Rattle.mb_world_laws.proofs.Facts.{Facts}
use Rattle.mb_world_laws.proofs.AcceptedParts.{accepted_fits}
use Rattle.mb_host_laws.proofs.PlanFits.{FitsBases, change_bases}
use Rattle.mb_host_laws.proofs.Moments.{IsPast, past_tail, each_at, arises_by, stamped_by, past_past}
use Rattle.mb_views.proofs.SoundPlans.{IsBaseCert, AreTagged, IsSoundChange, changes_sound}
use Rattle.mb_views.proofs.PlanMoments.{held_from}

-- ---- lists

both_of : {A : Type 0} (P Q : A → Type 0) (l : List A) → AllByRecursion P l → AllByRecursion Q l → AllByRecursion (λ x. P x × Q x) l
both_of P Q [] a b = tt
both_of P Q (x ∷ l) a b = ((a.0, b.0), both_of P Q l a.1 b.1)

found : {A : Type 0} (P : A → Type 0) (t : A → Bool) (l : List A) → AllByRecursion P l → (x : A) → find t l ≡ Some x → P x
found P t [] a x e = absurd cc
found P t (y ∷ l) a x e = elim (cases_Bool (t y)) [
  | inl here ↦ subst P (some_is y x (rw here at e)) a.0
  | inr other ↦ found P t l a.1 x (rw other at e)
]

all_true : {A : Type 0} (t : A → Bool) (l : List A) → list_all t l ≡ true → AllByRecursion (λ x. t x ≡ true) l
all_true t [] e = tt
all_true t (x ∷ l) e = let p = and_parts (t x) (list_all t l) e in (p.0, all_true t l p.1)

body_bases : (s : Shape) (b : Body ChangeBody) → FitsBody (FitsChangeBody s) b → FitsBody (FitsBases s) b
body_bases s (Whole b) f = change_bases s b f
body_bases s (Short d) f = f

module _ {S : Type 0} (self : Identity S) where
  -- What holds of all stored VIEW_CHANGEs to a view holds of those that are chosen for it.
  pub chosen_to : (P : ViewChange → Type 0) (d : History) (view : ℕ) (changes : List ViewChange) → AllByRecursion P (filter (λ c. c.view == view) (changes_of self d)) → chosen self d view ≡ Some changes → AllByRecursion P changes
  chosen_to P d view changes a e =
      let l : List ViewChange = filter (λ c. c.view == view) (changes_of self d) in
      let t = if_some (nat_le (quorum self.shape) (length l)) (Some (by_rising_host self (take (quorum self.shape) l))) changes e in
      let first : AllByRecursion P (take (quorum self.shape) l) = all_taken P (quorum self.shape) l a in
      subst (λ (y : List ViewChange). AllByRecursion P y) (some_is _ changes t.1)
      (all_found (λ (h : ℕ). Unit {0}) P (λ h. find (λ c. c.ui.host == h) (take (quorum self.shape) l)) (λ h m u g. found P (λ c. c.ui.host == h) (take (quorum self.shape) l) first m g)
      (range_with_len 0 (host_count self.shape)) (all_any (range_with_len 0 (host_count self.shape))))

  -- So does what holds of all stored ones.
  pub chosen_all : (P : ViewChange → Type 0) (d : History) → AllByRecursion P (changes_of self d) → (view : ℕ) (changes : List ViewChange) → chosen self d view ≡ Some changes → AllByRecursion P changes
  chosen_all P d a view changes e = chosen_to P d view changes (all_filter P (λ c. c.view == view) (changes_of self d) a) e

  members_usable : (view i : ℕ) (l : List ViewChange) → members_fault self view i l ≡ None → AllByRecursion (IsUsable self) l
  unfolding members_fault
  members_usable view i [] e = tt
  members_usable view i (m ∷ l) e =
      let a = or_none _ _ e in
      (member (is_member self view m) (change_fault self m) (map_none _ (member_fault self view m) a.0), members_usable view (i + 1) l a.1)

  abbrev pub IsSoundPlan : Plan → Type 0
  IsSoundPlan p = IsBaseCert self p.base × AllByRecursion (AreTagged self) p.batches

  -- of an accepted NEW_VIEW
  new_view_sound : (m : NewView) (p : ℕ × Plan) → option_and_then (new_view_fault self m) (whole_body m.body) ≡ None → FitsBody (FitsNewViewBody self.shape) m.body → plan_in_new_view self m ≡ Some p → IsSoundPlan p.1
  unfolding new_view_fault
  new_view_sound m p passed fits e = go m.body refl fits where
    go : (b : Body NewViewBody) → m.body ≡ b → FitsBody (FitsNewViewBody self.shape) b → IsSoundPlan p.1
    go (Short d) is f = absurd (no (rw is at e)) where
      no : None ≡ Some p → ⊥
      no x = cc
    go (Whole b) is f =
        let none : members_fault self m.view 0 b.changes ≡ None = members (rw is at passed) in
        let bodies : AllByRecursion (λ (c : ViewChange). FitsBody (FitsBases self.shape) c.body) b.changes = bodies_of b.changes f.1.1 in
        subst (λ (q : ℕ × Plan). IsSoundPlan q.1) (some_is (m.view, plan_from self b.changes) p (rw is at e))
        (changes_sound self b.changes (both_of (IsUsable self) (λ (c : ViewChange). FitsBody (FitsBases self.shape) c.body) b.changes (members_usable m.view 0 b.changes none) bodies)) where
          members : new_view_fault self m b ≡ None → members_fault self m.view 0 b.changes ≡ None
          members e = (or_none _ _ e).0

          bodies_of : (l : List ViewChange) → AllByRecursion (FitsMember self.shape) l → AllByRecursion (λ (c : ViewChange). FitsBody (FitsBases self.shape) c.body) l
          bodies_of [] a = tt
          bodies_of (c ∷ l) a = (body_bases self.shape c.body a.0.0.body, bodies_of l a.1)

  -- of an accepted OPEN
  open_sound : (m : OpenMessage) (p : ℕ × Plan) → option_and_then (opening_fault self m.evidence) (whole_body m.body) ≡ None → FitsBody (FitsOpenBody self.shape m.evidence) m.body → plan_in_open m ≡ Some p → IsSoundPlan p.1
  open_sound m p passed fits e = go m.body refl fits where
    go : (b : Body OpenBody) → m.body ≡ b → FitsBody (FitsOpenBody self.shape m.evidence) b → IsSoundPlan p.1
    go (Short d) is f = absurd (no (rw is at e)) where
      no : None ≡ Some p → ⊥
      no x = cc
    go (Whole b) is f =
        let passes : opening_fault self m.evidence b ≡ None = rw is at passed in
        let body : is_body_of self m.evidence b ≡ true = not-false _ (then_none (not (is_body_of self m.evidence b)) (0, 8) passes) in
        let c = and_parts (is_comparable_body self.shape self.secret (valid self) m.evidence.base m.evidence.end b) _ body in
        let g = and_parts (is_stable self.shape (valid self) b.stable) _ c.0 in
        let k = and_parts (b.stable.pos == m.evidence.base) _ g.1 in
        let r = and_parts _ (list_all (are_rightly_tagged self.secret) b.batches) k.1 in
        subst (λ (q : ℕ × Plan). IsSoundPlan q.1) (some_is (m.evidence.view, record { base = b.stable; batches = b.batches }) p (rw is at e)) ((g.0, f.0.0), all_true (are_rightly_tagged self.secret) b.batches r.1)

module _ {S : Type 0} (system : System S) (w : World) (f : Facts system w) (h : ℕ) (correct : IsCorrect system.schedule h) where
  abbrev self : Identity S
  self = self_of system h

  abbrev FitsChange : ViewChange → Type 0
  FitsChange m = FitsBody (FitsBases system.schedule.shape) m.body

  -- What a stored VIEW_CHANGE shows fits.
  change_fits : (d : History) (x : Entry) → IsPast (x ∷ d) (w.histories h) → (m : ViewChange) → change_in self d x ≡ Some m → FitsChange m
  change_fits d (Accepted (message.ViewChange n)) p m e =
      let t = if_some (is_whole n.body && is_current self d n.view) (Some n) m e in
      let r = (each_at _ (Accepted (message.ViewChange n) ∷ d) (w.histories h) p (f.standing.rests h)).0 in
      subst FitsChange (some_is n m t.1) (body_bases system.schedule.shape n.body (accepted_fits system w f h (message.ViewChange n) d r).body)
  change_fits d (Stamped (stamped.ViewChange n)) p m e =
      let t = if_some (is_whole n.body && is_none (change_fault self n)) (Some n) m e in
      subst FitsChange (some_is n m t.1) (go n.body refl (and_parts (is_whole n.body) (is_none (change_fault self n)) t.0).0) where
        go : (b : Body ChangeBody) → n.body ≡ b → is_whole b ≡ true → FitsBody (FitsBases system.schedule.shape) n.body
        go (Whole b) is whole = rw is (f.changes h correct n b (stamped_by d (stamped.ViewChange n) (w.histories h) p) is).fits
        go (Short x) is whole = absurd cc
  change_fits d x p m e = absurd cc

  arrived_fits : (x : Option ViewChange) (l : List ViewChange) → ((m : ViewChange) → x ≡ Some m → FitsChange m) → AllByRecursion FitsChange l → AllByRecursion FitsChange (arrived self x l)
  arrived_fits None l new a = a
  arrived_fits (Some m) l new a = all_append FitsChange (filter (λ c. not (c.ui.host == m.ui.host)) l) (m ∷ []) (all_filter FitsChange (λ c. not (c.ui.host == m.ui.host)) l a) (new m refl, tt)

  changes_fit : (d : History) → IsPast d (w.histories h) → AllByRecursion FitsChange (changes_of self d)
  unfolding changes_of
  changes_fit [] p = tt
  changes_fit (x ∷ d) p = arrived_fits (change_in self d x) (changes_of self d) (change_fits d x p) (changes_fit d (past_tail x d (w.histories h) p))

  own_sound : (d : History) → IsPast d (w.histories h) → Arises self d → (changes : List ViewChange) → announce_enabled self d ≡ Some (Announce changes) → (m : NewView) → signed self d (new_view self d changes) ≡ stamped.NewView m
      → (p : ℕ × Plan) → plan_in_new_view self m ≡ Some p → IsSoundPlan self p.1
  own_sound d past a changes on m is p e =
      let plan : Plan = plan_from self changes in
      let made : NewView = record { view = view_of self d; base = plan.base.pos; end = plan_end plan; plan = plan_digest plan; body = Whole (record { changes = changes }); ui = next_ui self d (bare_of (new_view self d changes)) } in
      let same : made ≡ m = cc is in
      let there : plan_in_new_view self made ≡ Some p = subst (λ (y : NewView). plan_in_new_view self y ≡ Some p) (sym same) e in
      let stored : AllByRecursion (IsSoundChange self) (changes_of self d) = both_of (IsUsable self) FitsChange (changes_of self d) (changes_usable self d a) (changes_fit d past) in
      subst (λ (q : ℕ × Plan). IsSoundPlan self q.1) (some_is (view_of self d, plan) p there)
      (changes_sound self changes (chosen_all self (IsSoundChange self) d stored (view_of self d) changes (announce_seen self d changes on).1))

  brought_sound : (d : History) (x : Entry) → IsPast (x ∷ d) (w.histories h) → Adds self d x → Arises self d → (p : ℕ × Plan) → plan_in self d (plan_held self d) x ≡ Some p → IsSoundPlan self p.1
  brought_sound d (Accepted (message.NewView m)) past a before p e =
      let t = if_some (is_current self d m.view) (plan_in_new_view self m) p e in
      let r = (each_at _ (Accepted (message.NewView m) ∷ d) (w.histories h) past (f.standing.rests h)).0 in
      new_view_sound self m p (a.kind t.0) (accepted_fits system w f h (message.NewView m) d r).body t.1
  brought_sound d (Stamped (stamped.NewView m)) past a before p e = own_sound d (past_tail (Stamped (stamped.NewView m)) d (w.histories h) past) before a.0 a.1 m a.2 p e
  brought_sound d (Accepted (message.Open m)) past a before p e =
      let t = if_some (gives_plan self d (plan_held self d) m.evidence) (plan_in_open m) p e in
      let r = (each_at _ (Accepted (message.Open m) ∷ d) (w.histories h) past (f.standing.rests h)).0 in
      open_sound self m p (a.kind (gives_current self d (plan_held self d) m.evidence t.0)) (accepted_fits system w f h (message.Open m) d r).body t.1
  brought_sound d x past a before p e = absurd cc

  -- The plan that the host holds is sound.
  pub held_sound : (d : History) → IsPast d (w.histories h) → (p : ℕ × Plan) → plan_held self d ≡ Some p → IsSoundPlan self p.1
  held_sound d past p e =
      let r = held_from self d p e in
      let back : IsPast (r.entry ∷ r.before) (w.histories h) = past_past (r.entry ∷ r.before) d (w.histories h) r.past past in
      let arises : Arises self (r.entry ∷ r.before) = arises_by self back.later (r.entry ∷ r.before) (subst (λ (x : History). Arises self x) (sym back.is) (f.arises h)) in
      brought_sound r.before r.entry back arises.0 arises.1 p r.brings
