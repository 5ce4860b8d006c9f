-- In a history that arises what this host holds of a change of views checks: ENTERs, the NEW_VIEW, and the evidence.
use Rattle.std.proofs.Common.{◌≡◌, ℕ, ◌+◌, Bool, true, false, ◌&&◌, ◌||◌, not, List, [], ◌∷◌, length, refl, sym, ap, subst, ◌∙◌, inl, inr, ◌⊎◌, eqb, Option, Some, None}
use Rattle.std.specs.Prelude.{◌==◌, nat_le, map, take, option_map, option_and_then}
use Rattle.std.proofs.lemmas.Bool.{and_parts, and_from, cases_Bool, eqb-true, eq-eqb, leb-true, not-true, not_from_false}
use Rattle.std.proofs.lemmas.List.{length-map, length-take-le}
use Rattle.mb_base.specs.Shapes.{Bytes, max_faults, host_count, primary}
use Rattle.mb_base.specs.declared.shape.Shape.{Shape}
use Rattle.mb_usig.proofs.Laws.{is_certified-certificate, same_bytes-true}
use Rattle.mb_parts.specs.declared.floor.Floor.{Floor}
use Rattle.mb_parts.specs.declared.certificates.Evidence.{Evidence}
use Rattle.mb_parts.specs.declared.certificates.EvidenceMember.{EvidenceMember}
use Rattle.mb_parts.specs.declared.certificates.StableCert.{StableCert}
use Rattle.mb_parts.specs.Bares.{Bare, bare_bytes}
use Rattle.mb_parts.specs.Bares as bare
use Rattle.mb_parts.specs.Claims.{Claim, new_view_claim}
use Rattle.mb_parts.specs.Certificates.{inner_valid, is_evidence, is_stable}
use Rattle.mb_parts.specs.Ordered.{permits, current_view, is_opened, is_entered as entered_in, last_position, end_of}
use Rattle.mb_msg.specs.declared.message.Message.TheVariants as message
use Rattle.mb_msg.specs.declared.change.ViewChange.{ViewChange}
use Rattle.mb_msg.specs.declared.change.NewView.{NewView}
use Rattle.mb_msg.specs.declared.message.Body.TheVariants.{Whole}
use Rattle.mb_msg.specs.Plans.{plan_end, plan_digest}
use Rattle.mb_model.specs.UsableLogs.{is_whole}
use Rattle.mb_model.specs.PlainChecks.{is_certified_evidence}
use Rattle.mb_msg.specs.declared.change.Enter.{Enter as EnterMessage}
use Rattle.mb_msg.specs.declared.change.Open.{Open as OpenMessage}
use Rattle.mb_msg.specs.declared.change.Plan.{Plan}
use Rattle.mb_msg.specs.declared.stamped.Stamped.{Stamped as StampedMessage}
use Rattle.mb_msg.specs.declared.stamped.Stamped.TheVariants as stamped
use Rattle.mb_msg.specs.Stamps.{bare_of}
use Rattle.mb_msg.specs.Bodies.{body_digest}
use Rattle.mb_msg.specs.Spelling.{new_view_body_bytes}
use Rattle.mb_model.specs.Histories.{Entry, Accepted, Stamped, History, Identity, origin, taken_of, view_of, is_changing, is_primary, counter_of}
use Rattle.mb_model.specs.Held.{enter_of, new_view_in, new_view_of, new_view_in_view, evidence_shown, is_news, with_news, evidence_of, evidence_in, evidence_for, evidence_with, enters_for, answers, as_member, is_current, plan_at, chosen, plan_from}
use Rattle.mb_model.specs.OwnLog.{has_other_room}
use Rattle.mb_model.specs.Sending.{signed, next_ui}
use Rattle.mb_model.specs.Making.{enter, new_view, opening}
use Rattle.mb_model.specs.GateChecks.{valid, stamp_claim}
use Rattle.mb_model.specs.Passed.{PassesStamped}
use Rattle.mb_model.specs.EnabledRules.{Enter, Announce, Open, enter_enabled, announce_enabled, open_enabled, open_with, may_open, is_evidence_of}
use Rattle.mb_model.proofs.Options.{or_some, if_some, map_some}
use Rattle.mb_steps.proofs.StepRounds.{ui_under, bare_under}
use Rattle.mb_steps.specs.Arises.{Adds, Arises}
use Rattle.mb_model.proofs.RisingLists.{RiseFrom, rise_found, rise_passed, rise_take, rise_members, rise_tests, rise_tests_made}

pub some_is : {A : Type 0} (x y : A) → Some x ≡ Some y → x ≡ y
some_is x y e = cc

pub then_some_of : {A B : Type 0} (f : A → Option B) (x : Option A) (z : B) → option_and_then f x ≡ Some z → (y : A) × (x ≡ Some y) × (f y ≡ Some z)
then_some_of f None z e = absurd cc
then_some_of f (Some y) z e = (y, refl, e)

-- ---- what a gate that permits a message has seen of it

module _ (o : Floor) (s : Shape) (host : ℕ) (inside : Bare → Bool) (l : List Bare) where
  pub open_inside : (e : Evidence) (x : Bytes) → permits o s host inside l (bare.Open e x) ≡ true → inside (bare.Open e x) ≡ true
  unfolding permits
  open_inside e x p =
      let a = and_parts (e.view == current_view o l) _ p in
      let b = and_parts (not (is_opened o l e.view)) _ a.1 in
      (and_parts (not (host == primary s e.view) || entered_in o l e.view) _ b.1).1

  pub join_inside : (v : ℕ) (e : Option Evidence) (c : StableCert) → permits o s host inside l (bare.Join v e c) ≡ true → inside (bare.Join v e c) ≡ true
  unfolding permits
  join_inside v e c p =
      let a = and_parts (v == current_view o l) _ p in
      let b = and_parts (v == 0 || not (host == primary s v) || entered_in o l v || is_opened o l v) _ a.1 in
      let f = and_parts (nat_le (end_of e) c.pos) _ b.1 in
      (and_parts (not (is_opened o l v) || nat_le (last_position o l v) c.pos) _ f.1).1

  pub new_view_by_primary : (v b e : ℕ) (x y : Bytes) → permits o s host inside l (bare.NewView v b e x y) ≡ true → host ≡ primary s v
  unfolding permits
  new_view_by_primary v b e x y p = eqb-true host (primary s v) (and_parts _ _ (and_parts _ _ p).1).0

  pub enter_by_backup : (v c : ℕ) (x : Bytes) → permits o s host inside l (bare.Enter v c x) ≡ true → eqb host (primary s v) ≡ false
  unfolding permits
  enter_by_backup v c x p = not-true _ (and_parts _ _ (and_parts _ _ p).1).0

  pub prepare_by_primary : (v q : ℕ) (x : Bytes) → permits o s host inside l (bare.Prepare v q x) ≡ true → host ≡ primary s v
  unfolding permits
  prepare_by_primary v q x p = eqb-true host (primary s v) (and_parts _ _ (and_parts _ _ p).1).0

-- the certificates in an OPEN and in a JOIN
module _ (s : Shape) (f : Claim → Bool) where
  pub open_evidence : (e : Evidence) (x : Bytes) → inner_valid s f (bare.Open e x) ≡ true → is_evidence s f e ≡ true
  unfolding inner_valid
  open_evidence e x i = i

  pub join_evidence_valid : (v : ℕ) (x : Option Evidence) (c : StableCert) (e : Evidence) → inner_valid s f (bare.Join v x c) ≡ true → x ≡ Some e → is_evidence s f e ≡ true
  unfolding inner_valid
  join_evidence_valid v None c e i is = absurd cc
  join_evidence_valid v (Some g) c e i is = subst (λ (y : Evidence). is_evidence s f y ≡ true) (some_is g e is) (and_parts _ _ (and_parts _ _ i).1).0

  pub join_stable_valid : (v : ℕ) (x : Option Evidence) (c : StableCert) → inner_valid s f (bare.Join v x c) ≡ true → is_stable s f c ≡ true
  unfolding inner_valid
  join_stable_valid v None c i = (and_parts _ _ i).1
  join_stable_valid v (Some g) c i = (and_parts _ _ (and_parts _ _ i).1).1

module _ {S : Type 0} (self : Identity S) where
  -- what this host stamps verifies
  pub own_claim : (d : History) (m : StampedMessage) → valid self (stamp_claim (signed self d m)) ≡ true
  own_claim d m = rw (ui_under (next_ui self d (bare_of m)) m, bare_under (next_ui self d (bare_of m)) m) (is_certified-certificate self.secret self.host (counter_of d + 1) (bare_bytes (bare_of m)))

  -- ---- ENTERs

  -- It is of this host, which is a backup of its view, and it verifies.
  pub record EnterChecks (h : ℕ) (m : EnterMessage) : Type 0 where
    pub sender : m.ui.host ≡ h
    pub backup : eqb m.ui.host (primary self.shape m.view) ≡ false
    pub claim : valid self (stamp_claim (stamped.Enter m)) ≡ true

  entered_view : (view : ℕ) (x : Option NewView) (n : NewView) → new_view_in_view view x ≡ Some n → (n.view ≡ view) × (x ≡ Some n)
  entered_view view None n e = absurd cc
  entered_view view (Some m) n e =
      let t = if_some (m.view == view) (Some m) n e in
      let same : m ≡ n = some_is m n t.1 in
      (ap (λ (y : NewView). y.view) (sym same) ∙ eqb-true m.view view t.0, t.1)

  -- the NEW_VIEW that an enabled ENTER answers
  enter_seen : (d : History) (n : NewView) → enter_enabled self d ≡ Some (Enter n) → (is_primary self d ≡ false) × (n.view ≡ view_of self d)
  unfolding enter_enabled
  enter_seen d n e =
      let t = if_some (not (is_primary self d) && (is_changing self d && has_other_room self d)) (option_map Enter (new_view_in_view (view_of self d) (new_view_of self d))) (Enter n) e in
      let a = and_parts (not (is_primary self d)) (is_changing self d && has_other_room self d) t.0 in
      let m = map_some Enter (new_view_in_view (view_of self d) (new_view_of self d)) (Enter n) t.1 in
      let same : m.0 ≡ n = cc (m.2) in
      (not-true _ a.0, ap (λ (y : NewView). y.view) (sym same) ∙ (entered_view (view_of self d) (new_view_of self d) m.0 m.1).0)

  own_enter : (d : History) (n : NewView) → enter_enabled self d ≡ Some (Enter n) → (m : EnterMessage) → signed self d (enter n) ≡ stamped.Enter m → EnterChecks self.host m
  own_enter d n e m is =
      let s = enter_seen d n e in
      let made : EnterMessage = record { view = n.view; counter = n.ui.counter; plan = n.plan; ui = next_ui self d (bare_of (enter n)) } in
      let same : made ≡ m = cc is in
      subst (λ (y : EnterMessage). EnterChecks self.host y) same (record { sender = refl; backup = rw s.1 s.0; claim = own_claim d (enter n) })

  enter_passed : (d : History) (m : EnterMessage) → PassesStamped self d (stamped.Enter m) → EnterChecks m.ui.host m
  enter_passed d m p = record { sender = refl; backup = enter_by_backup (origin d m.ui.host) self.shape m.ui.host _ (taken_of d m.ui.host) m.view m.counter m.plan p.gate.permitted; claim = p.gate.certified }

  pub enter_checks : (d : History) → Arises self d → (h : ℕ) (m : EnterMessage) → enter_of d h ≡ Some m → EnterChecks h m
  unfolding enter_of
  enter_checks [] a h m e = absurd cc
  enter_checks (Accepted (message.Enter n) ∷ d) a h m e = elim (cases_Bool (n.ui.host == h)) [
    | inl here ↦
        let same : n ≡ m = some_is n m (rw here at e) in
        subst (λ (k : ℕ). EnterChecks k m) (ap (λ (y : EnterMessage). y.ui.host) (sym same) ∙ eqb-true n.ui.host h here)
        (subst (λ (y : EnterMessage). EnterChecks y.ui.host y) same (enter_passed d n a.0))
    | inr other ↦ enter_checks d a.1 h m (rw other at e)
  ]
  enter_checks (Stamped (stamped.Enter n) ∷ d) a h m e = elim (cases_Bool (n.ui.host == h)) [
    | inl here ↦
        let same : n ≡ m = some_is n m (rw here at e) in
        let c : EnterChecks self.host n = own_enter d a.0.0 a.0.1 n a.0.2 in
        let mine : self.host ≡ h = sym c.sender ∙ eqb-true n.ui.host h here in
        subst (λ (k : ℕ). EnterChecks k m) mine (subst (λ (y : EnterMessage). EnterChecks self.host y) same c)
    | inr other ↦ enter_checks d a.1 h m (rw other at e)
  ]
  enter_checks (_ ∷ d) a h m e = enter_checks d a.1 h m e

  -- ---- the NEW_VIEW

  -- It is of the primary of its view, and it verifies.
  pub record NewViewChecks (m : NewView) : Type 0 where
    pub leads : m.ui.host ≡ primary self.shape m.view
    pub claim : valid self (stamp_claim (stamped.NewView m)) ≡ true

  pub announce_seen : (d : History) (changes : List ViewChange) → announce_enabled self d ≡ Some (Announce changes) → (is_primary self d ≡ true) × (chosen self d (view_of self d) ≡ Some changes)
  unfolding announce_enabled
  announce_seen d changes e =
      let t = if_some (is_primary self d && (is_changing self d && has_other_room self d)) (option_map Announce (chosen self d (view_of self d))) (Announce changes) e in
      let a = and_parts (is_primary self d) (is_changing self d && has_other_room self d) t.0 in
      let m = map_some Announce (chosen self d (view_of self d)) (Announce changes) t.1 in
      let same : m.0 ≡ changes = cc (m.2) in
      (a.0, m.1 ∙ ap (λ (c : List ViewChange). Some c) same)

  own_new_view : (d : History) (changes : List ViewChange) → announce_enabled self d ≡ Some (Announce changes) → (m : NewView) → signed self d (new_view self d changes) ≡ stamped.NewView m → NewViewChecks m
  own_new_view d changes e m is =
      let s = announce_seen d changes e in
      let plan : Plan = plan_from self changes in
      let made : NewView = record { view = view_of self d; base = plan.base.pos; end = plan_end plan; plan = plan_digest plan; body = Whole (record { changes = changes }); ui = next_ui self d (bare_of (new_view self d changes)) } in
      let same : made ≡ m = cc is in
      subst (λ (y : NewView). NewViewChecks y) same (record { leads = eqb-true self.host (primary self.shape (view_of self d)) s.0; claim = own_claim d (new_view self d changes) })

  new_view_passed : (d : History) (m : NewView) → PassesStamped self d (stamped.NewView m) → NewViewChecks m
  new_view_passed d m p = record { leads = new_view_by_primary (origin d m.ui.host) self.shape m.ui.host _ (taken_of d m.ui.host) m.view m.base m.end m.plan _ p.gate.permitted; claim = p.gate.certified }

  new_view_added : (d : History) (e : Entry) → Adds self d e → (m : NewView) → new_view_in self d e ≡ Some m → NewViewChecks m
  new_view_added d (Accepted (message.NewView n)) a m e =
      let t = if_some (is_whole n.body && is_current self d n.view) (Some n) m e in
      subst (λ (y : NewView). NewViewChecks y) (some_is n m t.1) (new_view_passed d n a)
  new_view_added d (Stamped (stamped.NewView n)) a m e = subst (λ (y : NewView). NewViewChecks y) (some_is n m e) (own_new_view d a.0 a.1 n a.2)
  new_view_added d e a m is = absurd cc

  pub new_view_checks : (d : History) → Arises self d → (m : NewView) → new_view_of self d ≡ Some m → NewViewChecks m
  unfolding new_view_of
  new_view_checks [] a m e = absurd cc
  new_view_checks (x ∷ d) a m e = elim (or_some (new_view_in self d x) (new_view_of self d) m e) [
    | inl new ↦ new_view_added d x a.0 m new
    | inr old ↦ new_view_checks d a.1 m old
  ]

  -- ---- the evidence that is made of them

  -- It checks, and answers the NEW_VIEW.
  abbrev Answers : NewView → EnterMessage → Type 0
  Answers n m = EnterChecks m.ui.host m × (answers n m ≡ true)

  abbrev sender_of : EnterMessage → ℕ
  sender_of m = m.ui.host

  enters_rise : (d : History) → Arises self d → (n : NewView) → RiseFrom sender_of (Answers n) 0 (enters_for self d n)
  enters_rise d a n = rise_passed sender_of (λ m. EnterChecks m.ui.host m) (answers n) 0 _
      (rise_found sender_of (λ m. EnterChecks m.ui.host m) (enter_of d) found 0 (host_count self.shape)) where
        found : (h : ℕ) (m : EnterMessage) → enter_of d h ≡ Some m → (m.ui.host ≡ h) × EnterChecks m.ui.host m
        found h m e = let c = enter_checks d a h m e in (c.sender, subst (λ (k : ℕ). EnterChecks k m) (sym c.sender) c)

  enter_claims : (n : NewView) (m : EnterMessage) → Answers n m
      → (valid self (record { host = m.ui.host; counter = m.ui.counter; says = bare.Enter n.view n.ui.counter n.plan; cert = m.ui.cert }) ≡ true) × (not (eqb m.ui.host (primary self.shape n.view)) ≡ true)
  enter_claims n m c =
      let a = and_parts (m.view == n.view) _ c.1 in
      let b = and_parts (m.counter == n.ui.counter) _ a.1 in
      let view : m.view ≡ n.view = eqb-true m.view n.view a.0 in
      let counter : m.counter ≡ n.ui.counter = eqb-true m.counter n.ui.counter b.0 in
      let plan : m.plan ≡ n.plan = same_bytes-true m.plan n.plan b.1 in
      (rw (← view, ← counter, ← plan) c.0.claim, rw (← view) (not_from_false _ c.0.backup))

  abbrev made : NewView → List EnterMessage → Evidence
  made n enters = record {
    view = n.view;
    base = n.base;
    end = n.end;
    plan = n.plan;
    body = body_digest new_view_body_bytes n.body;
    counter = n.ui.counter;
    cert = n.ui.cert;
    members = map as_member (take (max_faults self.shape) enters);
  }

  abbrev answer_claim : NewView → EvidenceMember → Claim
  answer_claim n m = record { host = m.host; counter = m.counter; says = bare.Enter n.view n.ui.counter n.plan; cert = m.cert }

  made_checks : (d : History) → Arises self d → (n : NewView) → NewViewChecks n → (e : Evidence) → evidence_with self n (enters_for self d n) ≡ Some e → is_evidence self.shape (valid self) e ≡ true
  unfolding is_evidence
  made_checks d a n c e is =
      let f : ℕ = max_faults self.shape in
      let enters : List EnterMessage = enters_for self d n in
      let t = if_some (nat_le f (length enters)) (Some (made n enters)) e is in
      let rise : RiseFrom sender_of (Answers n) 0 (take f enters) = rise_take sender_of (Answers n) f 0 enters (enters_rise d a n) in
      let many : length (map as_member (take f enters)) ≡ f = length-map (take f enters) as_member ∙ length-take-le f enters (leb-true f (length enters) t.0) in
      let first : valid self (new_view_claim self.shape (made n enters)) ≡ true = subst (λ (h : ℕ). valid self (record (stamp_claim (stamped.NewView n)) { host = h }) ≡ true) c.leads c.claim in
      subst (λ (y : Evidence). is_evidence self.shape (valid self) y ≡ true) (some_is (made n enters) e t.1)
      (and_from _ _ (eq-eqb _ f many) (and_from _ _ (rise_members (Answers n) as_member (λ m. m.host) 0 (take f enters) rise)
      (and_from _ _ (rise_tests sender_of (Answers n) as_member (λ m. not (m.host == primary self.shape n.view)) (λ m g. (enter_claims n m g).1) 0 (take f enters) rise)
      (and_from _ _ first (rise_tests_made sender_of (Answers n) as_member (answer_claim n) (valid self) (λ m g. (enter_claims n m g).0) 0 (take f enters) rise)))))

  -- ---- the evidence that is held

  -- what a message of another host shows
  shown_checks : (d : History) (x : Entry) → Adds self d x → (e : Evidence) → evidence_shown x ≡ Some e → is_evidence self.shape (valid self) e ≡ true
  shown_checks d (Accepted (message.Open m)) a e is = subst (λ (y : Evidence). is_evidence self.shape (valid self) y ≡ true) (some_is m.evidence e is)
      (open_evidence self.shape (valid self) m.evidence _ (open_inside (origin d m.ui.host) self.shape m.ui.host (inner_valid self.shape (valid self)) (taken_of d m.ui.host) m.evidence _ a.gate.permitted))
  shown_checks d (Accepted (message.Join m)) a e is = join_evidence_valid self.shape (valid self) m.view m.evidence m.stable e
      (join_inside (origin d m.ui.host) self.shape m.ui.host (inner_valid self.shape (valid self)) (taken_of d m.ui.host) m.view m.evidence m.stable a.gate.permitted) is
  shown_checks d (Accepted (message.Log m)) a e is = certified m.evidence is a.evidence where
    certified : (x : Option Evidence) → x ≡ Some e → is_certified_evidence self x ≡ true → is_evidence self.shape (valid self) e ≡ true
    certified None is h = absurd cc
    certified (Some y) is h = subst (λ (y : Evidence). is_evidence self.shape (valid self) y ≡ true) (some_is y e is) h
  shown_checks d x a e is = absurd cc

  pub news_from : (d : History) (held shown : Option Evidence) (e : Evidence) → with_news self d held shown ≡ Some e → (held ≡ Some e) ⊎ (shown ≡ Some e)
  news_from d held None e is = inl is
  news_from d held (Some x) e is = elim (cases_Bool (is_news self d held x)) [
    | inl news ↦ inr (rw news at is)
    | inr old ↦ inl (rw old at is)
  ]

  opened_with : (x : Option Evidence) (y : Option Plan) (e : Evidence) (plan : Plan) → open_with x y ≡ Some (Open e plan) → (x ≡ Some e) × (is_evidence_of e plan ≡ true)
  opened_with (Some f) (Some p) e plan o =
      let t = if_some (is_evidence_of f p) (Some (Open f p)) (Open e plan) o in
      let one : f ≡ e = cc (t.1) in
      let two : p ≡ plan = cc (t.1) in
      (ap (λ (z : Evidence). Some z) one, subst (λ (z : Plan). is_evidence_of e z ≡ true) two (subst (λ (z : Evidence). is_evidence_of z p ≡ true) one t.0))
  opened_with (Some f) None e plan o = absurd cc
  opened_with None y e plan o = absurd cc

  pub open_seen : (d : History) (e : Evidence) (plan : Plan) → open_enabled self d ≡ Some (Open e plan) → (evidence_for self d (view_of self d) ≡ Some e) × (is_evidence_of e plan ≡ true) × (may_open self d ≡ true)
  unfolding open_enabled
  open_seen d e plan o =
      let t = if_some (may_open self d && has_other_room self d) (open_with (evidence_for self d (view_of self d)) (plan_at self d (view_of self d))) (Open e plan) o in
      let m = opened_with (evidence_for self d (view_of self d)) (plan_at self d (view_of self d)) e plan t.1 in
      (m.0, m.1, (and_parts (may_open self d) (has_other_room self d) t.0).0)

  in_view : (v : ℕ) (x : Option Evidence) (e : Evidence) → evidence_in v x ≡ Some e → (e.view ≡ v) × (x ≡ Some e)
  in_view v None e is = absurd cc
  in_view v (Some y) e is =
      let t = if_some (y.view == v) (Some y) e is in
      (ap (λ (z : Evidence). z.view) (sym (some_is y e t.1)) ∙ eqb-true y.view v t.0, t.1)

  -- What can be shown for a view is of this view, and checks.
  pub shows_checked : (d : History) → Arises self d → ((e : Evidence) → evidence_of self d ≡ Some e → is_evidence self.shape (valid self) e ≡ true)
      → (v : ℕ) (e : Evidence) → evidence_for self d v ≡ Some e → (e.view ≡ v) × (is_evidence self.shape (valid self) e ≡ true)
  shows_checked d a held v e is = elim (or_some (evidence_in v (evidence_of self d)) (option_and_then (λ n. evidence_with self n (enters_for self d n)) (new_view_in_view v (new_view_of self d))) e is) [
    | inl there ↦ let t = in_view v (evidence_of self d) e there in (t.0, held e t.1)
    | inr new ↦
        let n = then_some_of (λ n. evidence_with self n (enters_for self d n)) (new_view_in_view v (new_view_of self d)) e new in
        let w = entered_view v (new_view_of self d) n.0 n.1 in
        let t = if_some (nat_le (max_faults self.shape) (length (enters_for self d n.0))) (Some (made n.0 (enters_for self d n.0))) e n.2 in
        (ap (λ (y : Evidence). y.view) (sym (some_is (made n.0 (enters_for self d n.0)) e t.1)) ∙ w.0, made_checks d a n.0 (new_view_checks d a n.0 w.1) e n.2)
  ]

  own_open : (d : History) (e : Evidence) (plan : Plan) (m : OpenMessage) → signed self d (opening e plan) ≡ stamped.Open m → e ≡ m.evidence
  own_open d e plan m is = cc is

  pub evidence_checks : (d : History) → Arises self d → (e : Evidence) → evidence_of self d ≡ Some e → is_evidence self.shape (valid self) e ≡ true
  unfolding evidence_of
  evidence_checks [] a e is = absurd cc
  evidence_checks (Stamped (stamped.Open m) ∷ d) a e is =
      let seen = open_seen d a.0.0 a.0.1 a.0.2 in
      let c = shows_checked d a.1 (evidence_checks d a.1) (view_of self d) a.0.0 seen.0 in
      subst (λ (y : Evidence). is_evidence self.shape (valid self) y ≡ true) (own_open d a.0.0 a.0.1 m a.0.3 ∙ some_is m.evidence e is) c.1
  evidence_checks (x ∷ d) a e is = elim (news_from d (evidence_of self d) (evidence_shown x) e is) [
    | inl held ↦ evidence_checks d a.1 e held
    | inr shown ↦ shown_checks d x a.0 e shown
  ]
