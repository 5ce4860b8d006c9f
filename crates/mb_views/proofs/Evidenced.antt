-- Issued evidence is of the plan of usable logs, and its NEW_VIEW stands in order: one of its f+1 hosts is correct, and made the plan or checked it.
--
-- The correct primary stamped the NEW_VIEW, of VIEW_CHANGEs that it held (`by_primary`). A correct backup stamped the ENTER that answers a NEW_VIEW
-- which it held; that one it accepted through its gate for the primary, with the plan checked, so it stands in the primary's prefix, at the counter at
-- which the evidence's NEW_VIEW was issued: they are the same (`by_backup`).
use Rattle.std.proofs.Common.{◌≡◌, ℕ, true, ◌&&◌, List, [], ◌∷◌, ◌++◌, refl, sym, ap, subst, ◌∙◌, inl, inr, ◌⊎◌, Some}
use Rattle.std.specs.Prelude.{not, option_map}
use Rattle.std.proofs.lemmas.Bool.{and_parts}
use Rattle.mb_base.specs.Shapes.{Bytes, primary}
use Rattle.mb_parts.specs.declared.certificates.Evidence.{Evidence}
use Rattle.mb_parts.specs.Bares.{Bare}
use Rattle.mb_parts.specs.Bares as bare
use Rattle.mb_parts.specs.Claims.{Claim, new_view_claim}
use Rattle.mb_parts.specs.Certificates.{is_evidence}
use Rattle.mb_parts.specs.Counters.{at_counter}
use Rattle.mb_parts.specs.Issued.{ArePrefixes}
use Rattle.mb_parts.proofs.Counters.{at_bound}
use Rattle.mb_parts.proofs.IssuedLaws.{are_prefixes}
use Rattle.mb_msg.specs.declared.message.Message.TheVariants as message
use Rattle.mb_msg.specs.declared.change.NewView.{NewView}
use Rattle.mb_msg.specs.declared.change.Enter.{Enter as EnterMessage}
use Rattle.mb_msg.specs.declared.change.ViewChange.{ViewChange}
use Rattle.mb_msg.specs.declared.stamped.Stamped.{Stamped as StampedMessage}
use Rattle.mb_msg.specs.declared.stamped.Stamped.TheVariants as stamped
use Rattle.mb_msg.specs.Bodies.{body_digest}
use Rattle.mb_msg.specs.Spelling.{new_view_body_bytes}
use Rattle.mb_msg.specs.Stamps.{bare_of}
use Rattle.mb_agreement.specs.Agreement.{IsMadeOf}
use Rattle.mb_model.specs.Histories.{Entry, Accepted, Stamped, History, Identity, view_of, is_changing, is_primary}
use Rattle.mb_model.specs.Held.{is_current, new_view_in, new_view_of, new_view_in_view, logs_of}
use Rattle.mb_model.specs.UsableLogs.{is_whole}
use Rattle.mb_model.specs.OwnLog.{has_other_room}
use Rattle.mb_model.specs.Sending.{next_ui}
use Rattle.mb_model.specs.Making.{enter}
use Rattle.mb_model.specs.EnabledRules.{Enter, enter_enabled}
use Rattle.mb_model.specs.Plans.{ShownLog}
use Rattle.mb_model.proofs.Options.{or_some, if_some, map_some}
use Rattle.mb_steps.specs.Arises.{Makes}
use Rattle.mb_steps.proofs.StepHeldEvidence.{new_view_checks}
use Rattle.mb_world_model.specs.WorldEvents.{IsCorrect}
use Rattle.mb_world_model.specs.World.{World, System, self_of, stamps}
use Rattle.mb_world_model.specs.WorldRecord.{issued, prefix, plans}
use Rattle.mb_host_laws.proofs.Cases.{some_is, whole_of}
use Rattle.mb_host_laws.proofs.Found.{in_view}
use Rattle.mb_host_laws.specs.Rests.{Each}
use Rattle.mb_world_laws.proofs.Facts.{Facts}
use Rattle.mb_views.proofs.Follows.{JumpsLed}
use Rattle.mb_host_laws.proofs.Moments.{IsPast, past_tail}
use Rattle.mb_views.proofs.Floors.{arises_then}
use Rattle.mb_views.proofs.Prefixes.{prefix_said}
use Rattle.mb_views.proofs.CorrectOne.{IsStamped, issued_said, issued_stamped}
use Rattle.mb_views.proofs.AcceptedIn.{accepted_in_prefix}
use Rattle.mb_world_laws.proofs.OwnIssued.{own_stamp}
use Rattle.mb_views.proofs.GoodPlans.{IsGoodPlan, accepted_plan}
use Rattle.mb_views.proofs.OwnPlans.{announced_plan}
use Rattle.mb_views.proofs.MadeOf.{made_of}
use Rattle.mb_views.proofs.EvidenceHost.{IsBackup, evidence_host}

-- ---- what was said is a NEW_VIEW, or an ENTER

record IsNewView (x : StampedMessage) (v b e : ℕ) (p d : Bytes) : Type 0 where
  message : NewView
  is : x ≡ stamped.NewView message
  view : message.view ≡ v
  base : message.base ≡ b
  end : message.end ≡ e
  plan : message.plan ≡ p

new_view_said : (x : StampedMessage) (v b e : ℕ) (p d : Bytes) → bare_of x ≡ bare.NewView v b e p d → IsNewView x v b e p d
new_view_said (stamped.NewView m) v b e p d same = record { message = m; is = refl; view = cc; base = cc; end = cc; plan = cc }
new_view_said (stamped.Prepare m) v b e p d same = absurd cc
new_view_said (stamped.Commit m) v b e p d same = absurd cc
new_view_said (stamped.Checkpoint m) v b e p d same = absurd cc
new_view_said (stamped.ViewChange m) v b e p d same = absurd cc
new_view_said (stamped.Enter m) v b e p d same = absurd cc
new_view_said (stamped.Open m) v b e p d same = absurd cc
new_view_said (stamped.Join m) v b e p d same = absurd cc

record IsEnter (x : StampedMessage) (v c : ℕ) (p : Bytes) : Type 0 where
  message : EnterMessage
  is : x ≡ stamped.Enter message
  view : message.view ≡ v
  counter : message.counter ≡ c
  plan : message.plan ≡ p

enter_said : (x : StampedMessage) (v c : ℕ) (p : Bytes) → bare_of x ≡ bare.Enter v c p → IsEnter x v c p
enter_said (stamped.Enter m) v c p same = record { message = m; is = refl; view = cc; counter = cc; plan = cc }
enter_said (stamped.Prepare m) v c p same = absurd cc
enter_said (stamped.Commit m) v c p same = absurd cc
enter_said (stamped.Checkpoint m) v c p same = absurd cc
enter_said (stamped.ViewChange m) v c p same = absurd cc
enter_said (stamped.NewView m) v c p same = absurd cc
enter_said (stamped.Open m) v c p same = absurd cc
enter_said (stamped.Join m) v c p same = absurd cc

bare_fields : (v v' b b' e e' : ℕ) (p p' d d' : Bytes) → bare.NewView v b e p d ≡ bare.NewView v' b' e' p' d' → (b ≡ b') × (e ≡ e') × (p ≡ p')
bare_fields v v' b b' e e' p p' d d' same = (cc, cc, cc)

module _ {S : Type 0} (system : System S) (w : World) (f : Facts system w) (jumps : (h : ℕ) → IsCorrect system.schedule h → Each (JumpsLed system w f) (w.histories h)) where
  -- ---- a NEW_VIEW that is held was accepted as current, whole, or stamped

  record WasAccepted (h : ℕ) (n : NewView) : Type 0 where
    before : History
    past : IsPast (Accepted (message.NewView n) ∷ before) (w.histories h)
    whole : is_whole n.body ≡ true
    current : is_current (self_of system h) before n.view ≡ true

  record WasStamped (h : ℕ) (n : NewView) : Type 0 where
    before : History
    past : IsPast (Stamped (stamped.NewView n) ∷ before) (w.histories h)

  entry_new_view : (h : ℕ) (e : Entry) (d : History) → IsPast (e ∷ d) (w.histories h) → (n : NewView) → new_view_in (self_of system h) d e ≡ Some n → WasAccepted h n ⊎ WasStamped h n
  entry_new_view h (Accepted (message.NewView m)) d past n e =
      let t = if_some (is_whole m.body && is_current (self_of system h) d m.view) (Some m) n e in
      let p = and_parts (is_whole m.body) (is_current (self_of system h) d m.view) t.0 in
      inl (subst (WasAccepted h) (some_is m n t.1) (record { before = d; past = past; whole = p.0; current = p.1 }))
  entry_new_view h (Stamped (stamped.NewView m)) d past n e = inr (subst (WasStamped h) (some_is m n e) (record { before = d; past = past }))
  entry_new_view h e d past n is = absurd cc

  held_new_view : (h : ℕ) (d : History) → IsPast d (w.histories h) → (n : NewView) → new_view_of (self_of system h) d ≡ Some n → WasAccepted h n ⊎ WasStamped h n
  unfolding new_view_of
  held_new_view h [] past n e = absurd cc
  held_new_view h (x ∷ d) past n e = elim (or_some (new_view_in (self_of system h) d x) (new_view_of (self_of system h) d) n e) [
    | inl new ↦ entry_new_view h x d past n new
    | inr old ↦ held_new_view h d (past_tail x d (w.histories h) past) n old
  ]

  -- the NEW_VIEW that an ENTER answers
  entered_for : (h : ℕ) (d : History) (n : NewView) → enter_enabled (self_of system h) d ≡ Some (Enter n) → new_view_of (self_of system h) d ≡ Some n
  unfolding enter_enabled
  entered_for h d n e =
      let self : Identity S = self_of system h in
      let t = if_some (not (is_primary self d) && (is_changing self d && has_other_room self d)) (option_map Enter (new_view_in_view (view_of self d) (new_view_of self d))) (Enter n) e in
      let m = map_some Enter (new_view_in_view (view_of self d) (new_view_of self d)) (Enter n) t.1 in
      let same : m.0 ≡ n = cc (m.2) in
      in_view (view_of self d) (new_view_of self d) n (m.1 ∙ ap (λ (x : NewView). Some x) same)

  -- ---- the plan, and the place of the NEW_VIEW

  record IsAnnounced (e : Evidence) : Type 0 where
    changes : List ViewChange
    good : IsGoodPlan system w e.view e.base e.end e.plan changes
    stands : at_counter (prefix system.schedule w (primary system.schedule.shape e.view)) e.counter ≡ Some (bare.NewView e.view e.base e.end e.plan e.body)

  good_fields : (v v' b b' e e' : ℕ) (p p' : Bytes) (changes : List ViewChange) → v ≡ v' → b ≡ b' → e ≡ e' → p ≡ p' → IsGoodPlan system w v b e p changes → IsGoodPlan system w v' b' e' p' changes
  good_fields v v' b b' e e' p p' changes e1 e2 e3 e4 g =
      subst (λ (x : ℕ). IsGoodPlan system w x b' e' p' changes) e1 (subst (λ (x : ℕ). IsGoodPlan system w v x e' p' changes) e2 (subst (λ (x : ℕ). IsGoodPlan system w v b x p' changes) e3 (subst (λ (x : Bytes). IsGoodPlan system w v b e x changes) e4 g)))

  by_primary : (e : Evidence) → IsCorrect system.schedule (primary system.schedule.shape e.view) → issued system.schedule w (new_view_claim system.schedule.shape e) ≡ true → IsAnnounced e
  by_primary e correct announced =
      let h : ℕ = primary system.schedule.shape e.view in
      let c : Claim = new_view_claim system.schedule.shape e in
      let x : IsStamped (w.histories h) e.counter (bare.NewView e.view e.base e.end e.plan e.body) = issued_stamped system w f c correct announced in
      let n = new_view_said x.message e.view e.base e.end e.plan e.body x.says in
      let past : IsPast (Stamped (stamped.NewView n.message) ∷ x.before) (w.histories h) = record { later = x.later; is = subst (λ (y : StampedMessage). x.later ++ Stamped y ∷ x.before ≡ w.histories h) n.is x.is } in
      let p = announced_plan system w f jumps h correct n.message x.before past in
      record {
        changes = p.0;
        good = good_fields n.message.view e.view n.message.base e.base n.message.end e.end n.message.plan e.plan p.0 n.view n.base n.end n.plan p.1;
        stands = subst (λ (l : List Bare). at_counter l e.counter ≡ Some (bare.NewView e.view e.base e.end e.plan e.body)) (sym (prefix_said system w f h correct)) (issued_said system w f c correct announced);
      }

  by_accepted : (e : Evidence) (h : ℕ) (n : NewView) → IsCorrect system.schedule h → (h ≡ primary system.schedule.shape e.view → ⊥) → issued system.schedule w (new_view_claim system.schedule.shape e) ≡ true
      → n.ui.host ≡ primary system.schedule.shape e.view → n.view ≡ e.view → n.ui.counter ≡ e.counter → WasAccepted h n → IsAnnounced e
  by_accepted e h n correct other announced leads view counter a =
      let p : ℕ = primary system.schedule.shape e.view in
      let there : at_counter (prefix system.schedule w n.ui.host) n.ui.counter ≡ Some (bare_of (stamped.NewView n)) =
      accepted_in_prefix system w f jumps h (stamped.NewView n) a.before correct a.past (λ same. other (sym same ∙ leads)) in
      let here : at_counter (prefix system.schedule w p) e.counter ≡ Some (bare_of (stamped.NewView n)) =
      subst (λ (i : ℕ). at_counter (prefix system.schedule w i) e.counter ≡ Some (bare_of (stamped.NewView n))) leads (subst (λ (c : ℕ). at_counter (prefix system.schedule w n.ui.host) c ≡ Some (bare_of (stamped.NewView n))) counter there) in
      let within = at_bound (prefix system.schedule w p) e.counter (bare_of (stamped.NewView n)) here in
      let laws : ArePrefixes system.schedule.shape (stamps system.schedule w) = are_prefixes system.schedule.shape (stamps system.schedule w) in
      let stands : at_counter (prefix system.schedule w p) e.counter ≡ Some (bare.NewView e.view e.base e.end e.plan e.body) = laws.stands (new_view_claim system.schedule.shape e) announced within.1 in
      let same : bare_of (stamped.NewView n) ≡ bare.NewView e.view e.base e.end e.plan e.body = some_is _ _ (sym here ∙ stands) in
      let fields = bare_fields n.view e.view n.base e.base n.end e.end n.plan e.plan (body_digest new_view_body_bytes n.body) e.body same in
      let body = whole_of n.body a.whole in
      record {
        changes = body.0.changes;
        good = good_fields n.view e.view n.base e.base n.end e.end n.plan e.plan body.0.changes view fields.0 fields.1 fields.2 (accepted_plan system w f jumps h n body.0 a.before correct a.past body.1 a.current);
        stands = stands;
      }

  by_backup : (e : Evidence) → issued system.schedule w (new_view_claim system.schedule.shape e) ≡ true → IsBackup system w f e → IsAnnounced e
  by_backup e announced b =
      let h : ℕ = b.member.host in
      let self : Identity S = self_of system h in
      let c : Claim = record { host = h; counter = b.member.counter; says = bare.Enter e.view e.counter e.plan; cert = b.member.cert } in
      let x : IsStamped (w.histories h) b.member.counter (bare.Enter e.view e.counter e.plan) = issued_stamped system w f c b.correct b.entered in
      let m = enter_said x.message e.view e.counter e.plan x.says in
      let past : IsPast (Stamped (stamped.Enter m.message) ∷ x.before) (w.histories h) = record { later = x.later; is = subst (λ (y : StampedMessage). x.later ++ Stamped y ∷ x.before ≡ w.histories h) m.is x.is } in
      let before : IsPast x.before (w.histories h) = past_tail (Stamped (stamped.Enter m.message)) x.before (w.histories h) past in
      let makes : Makes self x.before (stamped.Enter m.message) = (arises_then system w f h b.correct (jumps h b.correct) (Stamped (stamped.Enter m.message) ∷ x.before) past).0 in
      let n : NewView = makes.0 in
      let made : EnterMessage = record { view = n.view; counter = n.ui.counter; plan = n.plan; ui = next_ui self x.before (bare_of (enter n)) } in
      let same : made ≡ m.message = cc makes.2 in
      let view : n.view ≡ e.view = ap (λ (y : EnterMessage). y.view) same ∙ m.view in
      let counter : n.ui.counter ≡ e.counter = ap (λ (y : EnterMessage). y.counter) same ∙ m.counter in
      let held : new_view_of self x.before ≡ Some n = entered_for h x.before n makes.1 in
      let leads : n.ui.host ≡ primary system.schedule.shape e.view =
      (new_view_checks self x.before (arises_then system w f h b.correct (jumps h b.correct) x.before before) n held).leads ∙ ap (primary system.schedule.shape) view in
      elim (held_new_view h x.before before n held) [
        | inl accepted ↦ by_accepted e h n b.correct b.other announced leads view counter accepted
        | inr own ↦ absurd (b.other (sym (own_stamp system w f h (stamped.NewView n) own.before b.correct own.past).host ∙ leads))
      ]

  announced : (e : Evidence) → is_evidence system.schedule.shape (issued system.schedule w) e ≡ true → IsAnnounced e
  announced e is =
      let host = evidence_host system w f e is in
      elim host.one [
        | inl correct ↦ by_primary e correct host.announced
        | inr backup ↦ by_backup e host.announced backup
      ]

  -- ---- facts 4 and 5

  pub evidence_made : (e : Evidence) → is_evidence system.schedule.shape (issued system.schedule w) e ≡ true
      → (logs : List ShownLog) × IsMadeOf system.schedule.shape system.schedule.secret (plans system.schedule w) (issued system.schedule w) (prefix system.schedule w) e logs
  evidence_made e is = let a = announced e is in (logs_of a.changes, made_of system w f jumps e a.changes a.good)

  pub new_view_stands : (e : Evidence) → is_evidence system.schedule.shape (issued system.schedule w) e ≡ true
      → at_counter (prefix system.schedule w (primary system.schedule.shape e.view)) e.counter ≡ Some (bare.NewView e.view e.base e.end e.plan e.body)
  new_view_stands e is = (announced e is).stands
