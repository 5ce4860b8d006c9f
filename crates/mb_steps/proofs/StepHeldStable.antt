-- In a history that arises the stable position has a certificate that verifies: CHECKPOINTs, stored VIEW_CHANGEs and the bases of plans check.
use Rattle.std.proofs.Common.{◌≡◌, ℕ, zero, suc, ◌+◌, ◌<◌, Bool, true, false, ◌&&◌, not, List, [], ◌∷◌, length, refl, sym, ap, subst, ◌∙◌, inl, inr, arith, Option, Some, None}
use Rattle.std.specs.Prelude.{◌==◌, nat_lt, nat_le, map, take, filter, find, option_map, option_and_then, is_none, if◌then◌else◌}
use Rattle.std.specs.List.{AllByRecursion, range_with_len}
use Rattle.std.proofs.lemmas.Bool.{and_parts, and_from, or_cases, or_right, cases_Bool, eqb-true, eq-eqb, ltb-true, lt-ltb, leb-true, not-false}
use Rattle.std.proofs.lemmas.List.{length-map, length-take-le}
use Rattle.mb_base.specs.Shapes.{Bytes, quorum, host_count, span, interval}
use Rattle.mb_usig.proofs.Laws.{same_bytes-true}
use Rattle.mb_parts.specs.declared.certificates.StableCert.{StableCert}
use Rattle.mb_parts.specs.declared.certificates.StableMember.{StableMember}
use Rattle.mb_parts.specs.declared.certificates.Evidence.{Evidence}
use Rattle.mb_parts.specs.Bares as bare
use Rattle.mb_parts.specs.Claims.{Claim}
use Rattle.mb_parts.specs.Certificates.{is_stable, inner_valid}
use Rattle.mb_msg.specs.declared.message.Body.TheVariants.{Whole}
use Rattle.mb_msg.specs.Plans.{plan_end, plan_digest}
use Rattle.mb_msg.specs.Stamps.{bare_of}
use Rattle.mb_msg.specs.declared.message.Message.TheVariants as message
use Rattle.mb_msg.specs.declared.normal.Checkpoint.{Checkpoint}
use Rattle.mb_msg.specs.declared.change.ViewChange.{ViewChange}
use Rattle.mb_msg.specs.declared.change.NewView.{NewView}
use Rattle.mb_msg.specs.declared.change.NewViewBody.{NewViewBody}
use Rattle.mb_msg.specs.declared.change.Open.{Open as OpenMessage}
use Rattle.mb_msg.specs.declared.change.OpenBody.{OpenBody}
use Rattle.mb_msg.specs.declared.change.Plan.{Plan}
use Rattle.mb_msg.specs.declared.stamped.Stamped.{Stamped as StampedMessage}
use Rattle.mb_msg.specs.declared.stamped.Stamped.TheVariants as stamped
use Rattle.mb_model.specs.UsableLogs.{is_whole, is_comparable_body}
use Rattle.mb_model.specs.Plans.{no_base}
use Rattle.mb_model.specs.Histories.{Entry, Accepted, Stamped, History, Identity, origin, taken_of, view_of}
use Rattle.mb_model.specs.Held.{change_fault, is_current, change_in, arrived, changes_of, by_rising_host, chosen, plan_from, plan_in_new_view, plan_in_open, plan_in, plan_held, gives_plan, is_news, evidence_of, evidence_view, is_plan_of}
use Rattle.mb_msg.specs.Bodies.{whole_body}
use Rattle.mb_model.specs.Stable.{checkpoint_in, checkpoint_by, checkpoint_of, first_agreed, checkpoints_at, same_state, stable_member, stable_cert, agreed_at, agreed_above, plan_base, further, learnt_in, stable_of}
use Rattle.mb_model.specs.Sending.{signed, next_ui}
use Rattle.mb_model.specs.Making.{checkpoint, new_view}
use Rattle.mb_model.specs.GateChecks.{valid, stamp_claim}
use Rattle.mb_model.specs.KindChecks.{is_member, member_fault, members_fault, new_view_fault, opening_fault, is_body_of}
use Rattle.mb_model.specs.EnabledRules.{Announce, announce_enabled}
use Rattle.mb_model.proofs.Options.{or_some, or_none, then_none, if_some, map_some}
use Rattle.mb_model.proofs.UsableLaws.{map_none}
use Rattle.mb_model.proofs.RisingLists.{RiseFrom, rise_found, rise_passed, rise_take, rise_members, rise_tests_made}
use Rattle.mb_steps.specs.Arises.{Adds, Arises}
use Rattle.mb_steps.proofs.StepHeldEvidence.{some_is, then_some_of, own_claim, announce_seen, join_inside, join_stable_valid}
use Rattle.mb_steps.proofs.StepPlanBases.{IsUsable, changes_based, all_found, all_filter, all_append, all_any}

take_all : {A : Type 0} (P : A → Type 0) (n : ℕ) (l : List A) → AllByRecursion P l → AllByRecursion P (take n l)
take_all P zero l a = tt
take_all P (suc n) [] a = tt
take_all P (suc n) (x ∷ l) a = (a.0, take_all P n l a.1)

module _ {S : Type 0} (self : Identity S) where
  abbrev IsStable : StableCert → Type 0
  IsStable c = is_stable self.shape (valid self) c ≡ true

  -- ---- CHECKPOINTs

  -- It is of this host and position, and it verifies.
  pub record CheckpointChecks (h pos : ℕ) (m : Checkpoint) : Type 0 where
    pub sender : m.ui.host ≡ h
    pub place : m.pos ≡ pos
    pub claim : valid self (stamp_claim (stamped.Checkpoint m)) ≡ true

  checkpoint_added : (d : History) (x : Entry) → Adds self d x → (m : Checkpoint) → checkpoint_in x ≡ Some m → valid self (stamp_claim (stamped.Checkpoint m)) ≡ true
  checkpoint_added d (Accepted (message.Checkpoint n)) a m e = subst (λ (y : Checkpoint). valid self (stamp_claim (stamped.Checkpoint y)) ≡ true) (some_is n m e) a.gate.certified
  checkpoint_added d (Stamped (stamped.Checkpoint n)) a m e = subst (λ (y : Checkpoint). valid self (stamp_claim (stamped.Checkpoint y)) ≡ true) (some_is n m e)
      (subst (λ (y : StampedMessage). valid self (stamp_claim y) ≡ true) a.3 (own_claim self d (checkpoint self d a.0)))
  checkpoint_added d x a m e = absurd cc

  checkpoint_named : (h pos : ℕ) (x : Option Checkpoint) (m : Checkpoint) → checkpoint_by h pos x ≡ Some m → (x ≡ Some m) × (m.ui.host ≡ h) × (m.pos ≡ pos)
  checkpoint_named h pos None m e = absurd cc
  checkpoint_named h pos (Some n) m e =
      let t = if_some (n.ui.host == h && n.pos == pos) (Some n) m e in
      let a = and_parts (n.ui.host == h) (n.pos == pos) t.0 in
      let same : n ≡ m = some_is n m t.1 in
      (t.1, ap (λ (y : Checkpoint). y.ui.host) (sym same) ∙ eqb-true n.ui.host h a.0, ap (λ (y : Checkpoint). y.pos) (sym same) ∙ eqb-true n.pos pos a.1)

  pub checkpoint_checks : (d : History) → Arises self d → (h pos : ℕ) (m : Checkpoint) → checkpoint_of d h pos ≡ Some m → CheckpointChecks h pos m
  unfolding checkpoint_of
  checkpoint_checks [] a h pos m e = absurd cc
  checkpoint_checks (x ∷ d) a h pos m e = elim (or_some (checkpoint_by h pos (checkpoint_in x)) (checkpoint_of d h pos) m e) [
    | inl here ↦ let n = checkpoint_named h pos (checkpoint_in x) m here in record { sender = n.1; place = n.2; claim = checkpoint_added d x a.0 m n.0 }
    | inr before ↦ checkpoint_checks d a.1 h pos m before
  ]

  -- ---- the certificate that CHECKPOINTs make

  abbrev sender_of : Checkpoint → ℕ
  sender_of m = m.ui.host

  abbrev At : ℕ → Checkpoint → Type 0
  At pos m = (m.pos ≡ pos) × (valid self (stamp_claim (stamped.Checkpoint m)) ≡ true)

  -- one of those that have the state of a first one
  abbrev Agrees : ℕ → Checkpoint → Checkpoint → Type 0
  Agrees pos x m = At pos m × (same_state self.shape x m ≡ true)

  checkpoints_rise : (d : History) → Arises self d → (pos : ℕ) → RiseFrom sender_of (At pos) 0 (checkpoints_at self.shape d pos)
  checkpoints_rise d a pos = rise_found sender_of (At pos) (λ h. checkpoint_of d h pos) found 0 (host_count self.shape) where
    found : (h : ℕ) (m : Checkpoint) → checkpoint_of d h pos ≡ Some m → (m.ui.host ≡ h) × At pos m
    found h m e = let c = checkpoint_checks d a h pos m e in (c.sender, (c.place, c.claim))

  agreed_shape : {A : Type 0} (like : A → A → Bool) (many : ℕ) (all l r : List A) → first_agreed like many all l ≡ Some r
      → (x : A) × (nat_le many (length (filter (like x) all)) ≡ true) × (take many (filter (like x) all) ≡ r)
  unfolding first_agreed
  agreed_shape like many all [] r e = absurd cc
  agreed_shape like many all (x ∷ l) r e = elim (cases_Bool (nat_le many (length (filter (like x) all)))) [
    | inl enough ↦ (x, enough, some_is _ r (rw enough at e))
    | inr few ↦ agreed_shape like many all l r (rw few at e)
  ]

  abbrev state_claim : ℕ → Bytes → StableMember → Claim
  state_claim pos state n = record { host = n.host; counter = n.counter; says = bare.Checkpoint pos state n.floors; cert = n.cert }

  member_claims : (pos : ℕ) (x m : Checkpoint) → x.state ≡ m.state → (z : Checkpoint) → Agrees pos x z → valid self (state_claim pos m.state (stable_member self.shape z)) ≡ true
  member_claims pos x m same z g =
      let place : z.pos ≡ pos = g.0.0 in
      let state : z.state ≡ m.state = sym (same_bytes-true x.state z.state g.1) ∙ same in
      rw (← place, ← state) g.0.1

  cert_checks : (pos : ℕ) (x : Checkpoint) (r : List Checkpoint) → RiseFrom sender_of (Agrees pos x) 0 r → length r ≡ quorum self.shape
      → (c : StableCert) → stable_cert self.shape pos r ≡ Some c → 0 < c.pos → IsStable c
  unfolding is_stable
  cert_checks pos x [] rise many c e above = absurd cc
  cert_checks pos x (m ∷ r) rise many c e above =
      let made : StableCert = record { pos = pos; state = m.state; members = map (stable_member self.shape) (m ∷ r) } in
      let same : made ≡ c = some_is made c e in
      let positive : 0 < pos = subst (λ (y : StableCert). 0 < y.pos) (sym same) above in
      let state : x.state ≡ m.state = same_bytes-true x.state m.state rise.1.1 in
      subst (λ (y : StableCert). IsStable y) same
      (or_right (pos == 0 && length made.members == 0) _ (and_from _ _ (lt-ltb 0 pos positive)
      (and_from _ _ (eq-eqb _ (quorum self.shape) (length-map (m ∷ r) (stable_member self.shape) ∙ many))
      (and_from _ _ (rise_members (Agrees pos x) (stable_member self.shape) (λ n. n.host) 0 (m ∷ r) rise)
      (rise_tests_made sender_of (Agrees pos x) (stable_member self.shape) (state_claim pos m.state) (valid self) (member_claims pos x m state) 0 (m ∷ r) rise)))))

  agreed_checks : (d : History) → Arises self d → (pos : ℕ) (c : StableCert) → agreed_at self.shape d pos ≡ Some c → 0 < c.pos → IsStable c
  unfolding agreed_at
  agreed_checks d a pos c e above =
      let all : List Checkpoint = checkpoints_at self.shape d pos in
      let t = then_some_of (stable_cert self.shape pos) (first_agreed (same_state self.shape) (quorum self.shape) all all) c e in
      let g = agreed_shape (same_state self.shape) (quorum self.shape) all all t.0 t.1 in
      let rise = rise_take sender_of (Agrees pos g.0) (quorum self.shape) 0 (filter (same_state self.shape g.0) all) (rise_passed sender_of (At pos) (same_state self.shape g.0) 0 all (checkpoints_rise d a pos)) in
      let many = length-take-le (quorum self.shape) (filter (same_state self.shape g.0) all) (leb-true (quorum self.shape) _ g.1) in
      cert_checks pos g.0 t.0 (subst (λ (l : List Checkpoint). RiseFrom sender_of (Agrees pos g.0) 0 l) g.2 rise) (ap length (sym g.2) ∙ many) c t.2 above

  above_checks : (d : History) → Arises self d → (low : ℕ) (c : StableCert) → agreed_above self.shape d low ≡ Some c → 0 < c.pos → IsStable c
  above_checks d a low c e above = elim (or_some (agreed_at self.shape d (low + span self.shape)) (agreed_at self.shape d (low + interval self.shape)) c e) [
    | inl far ↦ agreed_checks d a (low + span self.shape) c far above
    | inr near ↦ agreed_checks d a (low + interval self.shape) c near above
  ]

  -- ---- stored VIEW_CHANGEs

  change_usable : (d : History) (x : Entry) → Adds self d x → (m : ViewChange) → change_in self d x ≡ Some m → IsUsable self m
  change_usable d (Accepted (message.ViewChange n)) a m e =
      let t = if_some (is_whole n.body && is_current self d n.view) (Some n) m e in
      subst (λ (y : ViewChange). IsUsable self y) (some_is n m t.1) (a.kind (and_parts (is_whole n.body) (is_current self d n.view) t.0).1)
  change_usable d (Stamped (stamped.ViewChange n)) a m e =
      let t = if_some (is_whole n.body && is_none (change_fault self n)) (Some n) m e in
      subst (λ (y : ViewChange). IsUsable self y) (some_is n m t.1) (none_is (change_fault self n) (and_parts (is_whole n.body) (is_none (change_fault self n)) t.0).1) where
        none_is : {A : Type 0} (o : Option A) → is_none o ≡ true → o ≡ None
        none_is None e = refl
        none_is (Some z) e = absurd cc
  change_usable d x a m e = absurd cc

  arrived_usable : (x : Option ViewChange) (l : List ViewChange) → ((m : ViewChange) → x ≡ Some m → IsUsable self m) → AllByRecursion (IsUsable self) l → AllByRecursion (IsUsable self) (arrived self x l)
  arrived_usable None l new a = a
  arrived_usable (Some m) l new a = all_append (IsUsable self) (filter (λ c. not (c.ui.host == m.ui.host)) l) (m ∷ []) (all_filter (IsUsable self) _ l a) (new m refl, tt)

  pub changes_usable : (d : History) → Arises self d → AllByRecursion (IsUsable self) (changes_of self d)
  unfolding changes_of
  changes_usable [] a = tt
  changes_usable (x ∷ d) a = arrived_usable (change_in self d x) (changes_of self d) (change_usable d x a.0) (changes_usable d a.1)

  find_usable : (t : ViewChange → Bool) (l : List ViewChange) → AllByRecursion (IsUsable self) l → (m : ViewChange) → find t l ≡ Some m → IsUsable self m
  find_usable t [] a m e = absurd cc
  find_usable t (x ∷ l) a m e = elim (cases_Bool (t x)) [
    | inl here ↦ subst (λ (y : ViewChange). IsUsable self y) (some_is x m (rw here at e)) a.0
    | inr other ↦ find_usable t l a.1 m (rw other at e)
  ]

  -- of those that a NEW_VIEW is made of
  chosen_usable : (d : History) → Arises self d → (view : ℕ) (changes : List ViewChange) → chosen self d view ≡ Some changes → AllByRecursion (IsUsable self) changes
  chosen_usable d a view changes e =
      let l : List ViewChange = filter (λ c. c.view == view) (changes_of self d) in
      let t = if_some (nat_le (quorum self.shape) (length l)) (Some (by_rising_host self (take (quorum self.shape) l))) changes e in
      let first : AllByRecursion (IsUsable self) (take (quorum self.shape) l) = take_all (IsUsable self) (quorum self.shape) l (all_filter (IsUsable self) (λ c. c.view == view) (changes_of self d) (changes_usable d a)) in
      subst (λ (y : List ViewChange). AllByRecursion (IsUsable self) y) (some_is _ changes t.1)
      (all_found (λ (h : ℕ). Unit {0}) (IsUsable self) (λ h. find (λ c. c.ui.host == h) (take (quorum self.shape) l)) (λ h m u f. find_usable (λ c. c.ui.host == h) (take (quorum self.shape) l) first m f)
      (range_with_len 0 (host_count self.shape)) (all_any (range_with_len 0 (host_count self.shape))))

  -- ---- plans

  -- the members of a NEW_VIEW in which no fault was found
  members_usable : (view i : ℕ) (l : List ViewChange) → members_fault self view i l ≡ None → AllByRecursion (IsUsable self) l
  unfolding members_fault
  members_usable view i [] e = tt
  members_usable view i (m ∷ l) e =
      let a = or_none _ _ e in
      (member (is_member self view m) (change_fault self m) (map_none _ (member_fault self view m) a.0), members_usable view (i + 1) l a.1) where
        member : {A : Type 0} (t : Bool) (x : Option (A × ℕ)) → (if t then option_map (λ f. f.1) x else Some 10) ≡ None → x ≡ None
        member true x e = map_none (λ f. f.1) x e
        member false x e = absurd cc

  new_view_usable : (m : NewView) (b : NewViewBody) → new_view_fault self m b ≡ None → AllByRecursion (IsUsable self) b.changes
  unfolding new_view_fault
  new_view_usable m b e = members_usable m.view 0 b.changes (or_none _ _ e).0

  shown_none : {A B : Type 0} (f : A → Option B) (x : Option A) (y : A) → x ≡ Some y → option_and_then f x ≡ None → f y ≡ None
  shown_none f x y is e = rw is at e

  new_view_plan : (m : NewView) (p : ℕ × Plan) → option_and_then (new_view_fault self m) (whole_body m.body) ≡ None → plan_in_new_view self m ≡ Some p → IsStable p.1.base
  new_view_plan m p passed e =
      let b = map_some (λ (b : NewViewBody). (m.view, plan_from self b.changes)) (whole_body m.body) p e in
      subst (λ (q : ℕ × Plan). IsStable q.1.base) b.2 (changes_based self b.0.changes (new_view_usable m b.0 (shown_none (new_view_fault self m) (whole_body m.body) b.0 b.1 passed)))

  own_plan : (d : History) → Arises self d → (changes : List ViewChange) → announce_enabled self d ≡ Some (Announce changes) → (m : NewView) → signed self d (new_view self d changes) ≡ stamped.NewView m
      → (p : ℕ × Plan) → plan_in_new_view self m ≡ Some p → IsStable p.1.base
  own_plan d a changes on m is p e =
      let plan : Plan = plan_from self changes in
      let made : NewView = record { view = view_of self d; base = plan.base.pos; end = plan_end plan; plan = plan_digest plan; body = Whole (record { changes = changes }); ui = next_ui self d (bare_of (new_view self d changes)) } in
      let same : made ≡ m = cc is in
      let there : plan_in_new_view self made ≡ Some p = subst (λ (y : NewView). plan_in_new_view self y ≡ Some p) (sym same) e in
      subst (λ (q : ℕ × Plan). IsStable q.1.base) (some_is (view_of self d, plan) p there) (changes_based self changes (chosen_usable d a (view_of self d) changes (announce_seen self d changes on).1))

  gives_current : (d : History) (held : Option (ℕ × Plan)) (e : Evidence) → gives_plan self d held e ≡ true → is_current self d e.view ≡ true
  gives_current d held e g = elim (or_cases (is_news self d (evidence_of self d) e) (is_current self d e.view && (evidence_view (evidence_of self d) == e.view && not (is_plan_of e.view held))) g) [
    | inl news ↦ (and_parts (is_current self d e.view) _ news).0
    | inr lacks ↦ (and_parts (is_current self d e.view) _ lacks).0
  ]

  open_plan : (m : OpenMessage) (p : ℕ × Plan) → option_and_then (opening_fault self m.evidence) (whole_body m.body) ≡ None → plan_in_open m ≡ Some p → IsStable p.1.base
  open_plan m p passed e =
      let b = map_some (λ (b : OpenBody). (m.evidence.view, record { base = b.stable; batches = b.batches })) (whole_body m.body) p e in
      let body : is_body_of self m.evidence b.0 ≡ true = not-false _ (then_none (not (is_body_of self m.evidence b.0)) (0, 8) (shown_none (opening_fault self m.evidence) (whole_body m.body) b.0 b.1 passed)) in
      subst (λ (q : ℕ × Plan). IsStable q.1.base) b.2 (and_parts (is_stable self.shape (valid self) b.0.stable) _ (and_parts (is_comparable_body self.shape self.secret (valid self) m.evidence.base m.evidence.end b.0) _ body).0).0

  -- the plan that an entry brings
  plan_stable : (d : History) (x : Entry) → Adds self d x → Arises self d → (p : ℕ × Plan) → plan_in self d (plan_held self d) x ≡ Some p → IsStable p.1.base
  plan_stable d (Accepted (message.NewView m)) a before p e =
      let t = if_some (is_current self d m.view) (plan_in_new_view self m) p e in
      new_view_plan m p (a.kind t.0) t.1
  plan_stable d (Stamped (stamped.NewView m)) a before p e = own_plan d before a.0 a.1 m a.2 p e
  plan_stable d (Accepted (message.Open m)) a before p e =
      let t = if_some (gives_plan self d (plan_held self d) m.evidence) (plan_in_open m) p e in
      open_plan m p (a.kind (gives_current d (plan_held self d) m.evidence t.0)) t.1
  plan_stable d x a before p e = absurd cc

  -- ---- the stable position

  of_plan : (d : History) (x : Entry) → Adds self d x → Arises self d → (c : StableCert) → plan_base (plan_in self d (plan_held self d) x) ≡ Some c → IsStable c
  of_plan d x a before c e = go (plan_in self d (plan_held self d) x) refl e where
    go : (o : Option (ℕ × Plan)) → plan_in self d (plan_held self d) x ≡ o → plan_base o ≡ Some c → IsStable c
    go None is e = absurd cc
    go (Some p) is e = subst (λ (y : StableCert). IsStable y) (some_is p.1.base c e) (plan_stable d x a before p is)

  learnt_checks : (d : History) (x : Entry) → Arises self (x ∷ d) → (low : ℕ) (c : StableCert) → learnt_in self d low x ≡ Some c → 0 < c.pos → IsStable c
  learnt_checks d (Accepted (message.Join m)) a low c e above = subst (λ (y : StableCert). IsStable y) (some_is m.stable c e)
      (join_stable_valid self.shape (valid self) m.view m.evidence m.stable
      (join_inside (origin d m.ui.host) self.shape m.ui.host (inner_valid self.shape (valid self)) (taken_of d m.ui.host) m.view m.evidence m.stable a.0.gate.permitted))
  learnt_checks d (Accepted (message.Log m)) a low c e above = subst (λ (y : StableCert). IsStable y) (some_is m.stable c e) a.0.stable
  learnt_checks d (Accepted (message.Checkpoint m)) a low c e above =
      above_checks (Accepted (message.Checkpoint m) ∷ d) a low c (if_some (nat_le low m.pos) (agreed_above self.shape (Accepted (message.Checkpoint m) ∷ d) low) c e).1 above
  learnt_checks d (Stamped (stamped.Checkpoint m)) a low c e above =
      above_checks (Stamped (stamped.Checkpoint m) ∷ d) a low c (if_some (nat_le low m.pos) (agreed_above self.shape (Stamped (stamped.Checkpoint m) ∷ d) low) c e).1 above
  learnt_checks d x a low c e above = of_plan d x a.0 a.1 c e

  further_checks : (old : StableCert) (x : Option StableCert) → IsStable old → ((c : StableCert) → x ≡ Some c → 0 < c.pos → IsStable c) → IsStable (further old x)
  further_checks old None o new = o
  further_checks old (Some c) o new = elim (cases_Bool (nat_lt old.pos c.pos)) [
    | inl more ↦ let lt : old.pos < c.pos = ltb-true old.pos c.pos more in rw more (new c refl (omega (arith, lt)))
    | inr less ↦ rw less o
  ]

  none_stable : IsStable no_base
  unfolding is_stable
  none_stable = refl

  pub stable_checks : (d : History) → Arises self d → IsStable (stable_of self d)
  unfolding stable_of
  stable_checks [] a = none_stable
  stable_checks (x ∷ d) a = further_checks (stable_of self d) (learnt_in self d (stable_of self d).pos x) (stable_checks d a.1) (learnt_checks d x a (stable_of self d).pos)
