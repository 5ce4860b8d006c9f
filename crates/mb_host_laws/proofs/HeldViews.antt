-- What a host holds of a change of views fits and is good: the NEW_VIEW, ENTERs, and the evidence that it holds or can show.
use Rattle.std.proofs.Common.{◌≡◌, ℕ, ◌+◌, true, false, ◌&&◌, List, [], ◌∷◌, ◌++◌, length, refl, sym, ap, subst, ◌∙◌, inl, inr, eqb, Option, Some, None}
use Rattle.std.specs.Prelude.{◌==◌, map, take, filter_map, nat_le, option_and_then}
use Rattle.std.specs.Option.{IfSome}
use Rattle.std.specs.List.{AllByRecursion, flat_map, range_with_len}
use Rattle.std.proofs.lemmas.Bool.{and_parts, cases_Bool, eqb-true, leb-true}
use Rattle.std.proofs.lemmas.List.{length-take-le, length-map}
use Rattle.sha2.proofs.Facts256.{length-sha256}
use Rattle.mb_base.specs.Shapes.{Bytes, primary, host_count, max_faults}
use Rattle.mb_base.specs.Spelling.{Rises}
use Rattle.mb_base.specs.Reading.{is_other}
use Rattle.mb_usig.specs.Tags.{same_bytes}
use Rattle.mb_usig.proofs.Laws.{same_bytes-true}
use Rattle.mb_parts.specs.declared.certificates.Evidence.{Evidence}
use Rattle.mb_parts.specs.declared.certificates.EvidenceMember.{EvidenceMember}
use Rattle.mb_parts.specs.Bares as bare
use Rattle.mb_parts.specs.Claims.{Claim, inner_claims, evidence_claims, floor_claims, stable_claims}
use Rattle.mb_parts.specs.Fits.{IsPosition, IsDigest, IsBase, IsEnd, FitsUi, FitsEvidence, FitsBackup, FitsJoined}
use Rattle.mb_msg.specs.declared.message.Body.{Body}
use Rattle.mb_msg.specs.declared.message.Body.TheVariants.{Whole, Bare as Short}
use Rattle.mb_msg.specs.declared.message.Message.TheVariants as message
use Rattle.mb_msg.specs.declared.change.NewView.{NewView}
use Rattle.mb_msg.specs.declared.change.Enter.{Enter as EnterMessage}
use Rattle.mb_msg.specs.declared.change.Join.{Join as JoinMessage}
use Rattle.mb_msg.specs.declared.transfer.Log.{Log}
use Rattle.mb_msg.specs.declared.stamped.Stamped.TheVariants as stamped
use Rattle.mb_msg.specs.Bodies.{body_digest, FitsBody}
use Rattle.mb_msg.specs.Fits.{FitsNewView, FitsEnter, FitsOpen, FitsJoin, FitsLog}
use Rattle.mb_msg.specs.Spelling.{new_view_body_bytes}
use Rattle.mb_msg.specs.Stamps.{bare_of}
use Rattle.mb_model.specs.GateChecks.{stamp_claim}
use Rattle.mb_model.specs.Held.{is_current, enter_of, new_view_in, new_view_of, evidence_shown, evidence_of, evidence_in, new_view_in_view, answers, as_member, enters_for, evidence_with, evidence_for}
use Rattle.mb_model.specs.Histories.{Entry, Accepted, Stamped, History, Identity}
use Rattle.mb_model.specs.UsableLogs.{is_whole}
use Rattle.mb_model.specs.Members.{In}
use Rattle.mb_model.proofs.Members.{in_left, in_right}
use Rattle.mb_model.proofs.Options.{or_some, if_some}
use Rattle.mb_model.proofs.RisingLists.{RiseFrom, rise_found, rise_passed, rise_take}
use Rattle.mb_steps.specs.Arises.{Arises}
use Rattle.mb_steps.proofs.StepHeldEvidence.{enter_checks, new_view_checks, news_from}
use Rattle.mb_model.specs.Inside.{claims_in, stamped_claims}
use Rattle.mb_host_laws.proofs.Cases.{some_is, then_some_of}
use Rattle.mb_host_laws.proofs.Found.{in_view}
use Rattle.mb_host_laws.specs.Rests.{Each}
use Rattle.mb_host_laws.proofs.PartClaims.{own_claim_in, inner_claim_in}
use Rattle.mb_model.specs.Compared.{inside_some}
use Rattle.mb_host_laws.proofs.OwnKnown.{AllGood, GoodEvidence, Known}

pub all_in_good : (Good : Claim → Type 0) (l : List Claim) → ((c : Claim) → In l c → Good c) → AllByRecursion Good l
all_in_good Good [] f = tt
all_in_good Good (c ∷ l) f = (f c (inl refl), all_in_good Good l (λ x i. f x (inr i)))

pub digest_fits : {B : Type 0} (bytes : B → Bytes) (P : B → Type 0) (b : Body B) → FitsBody P b → IsDigest (body_digest bytes b)
digest_fits bytes P (Whole b) f = length-sha256 (bytes b)
digest_fits bytes P (Short d) f = f

module _ {S : Type 0} (self : Identity S) (Good : Claim → Type 0) (Text : Bytes → Type 0) where
  abbrev AllKnown : History → Type 0
  AllKnown d = Each (Known self Good Text) d

  -- ---- the NEW_VIEW

  pub record GoodNewView (n : NewView) : Type 0 where
    pub view : IsPosition n.view
    pub base : IsBase self.shape n.base
    pub end : IsEnd self.shape n.base n.end
    pub plan : IsDigest n.plan
    pub body : IsDigest (body_digest new_view_body_bytes n.body)
    pub ui : FitsUi self.shape n.ui
    pub claim : Good (stamp_claim (stamped.NewView n))

  entry_new_view : (d : History) (e : Entry) → Known self Good Text e d → (n : NewView) → new_view_in self d e ≡ Some n → GoodNewView n
  entry_new_view d (Accepted (message.NewView m)) k n e =
      let t = if_some (is_whole m.body && is_current self d m.view) (Some m) n e in
      let f : FitsNewView self.shape m = k.fits in
      subst GoodNewView (some_is m n t.1) (record {
        view = f.view;
        base = f.base;
        end = f.end;
        plan = f.plan;
        body = digest_fits new_view_body_bytes _ m.body f.body;
        ui = f.ui;
        claim = k.claims (stamp_claim (stamped.NewView m)) (own_claim_in self.shape (stamped.NewView m));
      })
  entry_new_view d (Stamped (stamped.NewView m)) k n e =
      subst GoodNewView (some_is m n e) (record { view = k.bare.0; base = k.bare.1.0; end = k.bare.1.1.0; plan = k.bare.1.1.1.0; body = k.bare.1.1.1.1; ui = k.ui; claim = k.claim })
  entry_new_view d e k n is = absurd cc

  pub new_view_good : (d : History) → AllKnown d → (n : NewView) → new_view_of self d ≡ Some n → GoodNewView n
  unfolding new_view_of
  new_view_good [] k n e = absurd cc
  new_view_good (x ∷ d) k n e = elim (or_some (new_view_in self d x) (new_view_of self d) n e) [
    | inl new ↦ entry_new_view d x k.0 n new
    | inr old ↦ new_view_good d k.1 n old
  ]

  -- ---- ENTERs

  pub record GoodEnter (m : EnterMessage) : Type 0 where
    pub ui : FitsUi self.shape m.ui
    pub claim : Good (stamp_claim (stamped.Enter m))

  some_enter : (x y : EnterMessage) → Some x ≡ Some y → x ≡ y
  some_enter x y e = cc

  pub enter_good : (d : History) → AllKnown d → (h : ℕ) (m : EnterMessage) → enter_of d h ≡ Some m → GoodEnter m
  unfolding enter_of
  enter_good [] k h m e = absurd cc
  enter_good (Accepted (message.Enter n) ∷ d) k h m e = elim (cases_Bool (eqb n.ui.host h)) [
    | inl same ↦ let f : FitsEnter self.shape n = k.0.fits in subst GoodEnter (some_enter n m (rw same at e)) (record { ui = f.ui; claim = k.0.claims (stamp_claim (stamped.Enter n)) (own_claim_in self.shape (stamped.Enter n)) })
    | inr other ↦ enter_good d k.1 h m (rw other at e)
  ]
  enter_good (Stamped (stamped.Enter n) ∷ d) k h m e = elim (cases_Bool (eqb n.ui.host h)) [
    | inl same ↦ subst GoodEnter (some_enter n m (rw same at e)) (record { ui = k.0.ui; claim = k.0.claim })
    | inr other ↦ enter_good d k.1 h m (rw other at e)
  ]
  enter_good (x ∷ d) k h m e = enter_good d k.1 h m e

  -- ---- the evidence that is held

  abbrev IsGood : Evidence → Type 0
  IsGood e = GoodEvidence self Good Text e

  joined_fits : (v : ℕ) (x : Option Evidence) (e : Evidence) → x ≡ Some e → FitsJoined self.shape v x → FitsEvidence self.shape e
  joined_fits v (Some y) e is f = subst (FitsEvidence self.shape) (some_is y e is) f.0
  joined_fits v None e is f = absurd cc

  joined_claims : (m : JoinMessage) (e : Evidence) → m.evidence ≡ Some e → (c : Claim) → In (evidence_claims self.shape e) c → In (inner_claims self.shape (bare.Join m.view m.evidence m.stable)) c
  joined_claims m e is c i = rw is (in_left (evidence_claims self.shape e) (stable_claims m.stable) c i)

  log_claims_in : (l : Log) (e : Evidence) → l.evidence ≡ Some e → (c : Claim) → In (evidence_claims self.shape e) c → In (claims_in self.shape (message.Log l)) c
  unfolding claims_in
  log_claims_in l e is c i = in_left (inside_some floor_claims l.floor ++ stable_claims l.stable ++ inside_some (evidence_claims self.shape) l.evidence) (flat_map (stamped_claims self.shape) l.entries) c
      (in_right (inside_some floor_claims l.floor ++ stable_claims l.stable) (inside_some (evidence_claims self.shape) l.evidence) c (subst (λ (o : Option Evidence). In (inside_some (evidence_claims self.shape) o) c) (sym is) i))

  shown_good : (d : History) (x : Entry) → Known self Good Text x d → (e : Evidence) → evidence_shown x ≡ Some e → IsGood e
  shown_good d (Accepted (message.Open m)) k e is =
      let f : FitsOpen self.shape m = k.fits in
      subst IsGood (some_is m.evidence e is) (record { fits = f.evidence; claims = all_in_good Good (evidence_claims self.shape m.evidence) (λ c i. k.claims c (inner_claim_in self.shape (stamped.Open m) c i)) })
  shown_good d (Accepted (message.Join m)) k e is =
      let f : FitsJoin self.shape m = k.fits in
      record { fits = joined_fits m.view m.evidence e is f.evidence; claims = all_in_good Good (evidence_claims self.shape e) (λ c i. k.claims c (inner_claim_in self.shape (stamped.Join m) c (joined_claims m e is c i))) }
  shown_good d (Accepted (message.Log l)) k e is =
      let f : FitsLog self.shape l = k.fits in
      record { fits = subst (λ (o : Option Evidence). IfSome o (FitsEvidence self.shape)) is f.evidence; claims = all_in_good Good (evidence_claims self.shape e) (λ c i. k.claims c (log_claims_in l e is c i)) }
  shown_good d x k e is = absurd cc

  pub evidence_good : (d : History) → AllKnown d → (e : Evidence) → evidence_of self d ≡ Some e → IsGood e
  unfolding evidence_of
  evidence_good [] k e is = absurd cc
  evidence_good (Stamped (stamped.Open m) ∷ d) k e is = subst IsGood (some_is m.evidence e is) (record { fits = k.0.bare.0; claims = k.0.inner })
  evidence_good (x ∷ d) k e is = elim (news_from self d (evidence_of self d) (evidence_shown x) e is) [
    | inl held ↦ evidence_good d k.1 e held
    | inr shown ↦ shown_good d x k.0 e shown
  ]

  -- ---- the evidence that can be shown

  -- an ENTER that answers the NEW_VIEW
  record Answers (n : NewView) (m : EnterMessage) : Type 0 where
    good : GoodEnter m
    backup : eqb m.ui.host (primary self.shape m.view) ≡ false
    answer : answers n m ≡ true

  abbrev host_of : EnterMessage → ℕ
  host_of m = m.ui.host

  answering : (n : NewView) (l : ℕ) (ms : List EnterMessage) → RiseFrom host_of (λ m. (GoodEnter m × (eqb m.ui.host (primary self.shape m.view) ≡ false)) × (answers n m ≡ true)) l ms → RiseFrom host_of (Answers n) l ms
  answering n l [] r = tt
  answering n l (m ∷ ms) r = (r.0, record { good = r.1.0.0; backup = r.1.0.1; answer = r.1.1 }, answering n (m.ui.host + 1) ms r.2)

  enters_rise : (d : History) → Arises self d → AllKnown d → (n : NewView) → RiseFrom host_of (Answers n) 0 (take (max_faults self.shape) (enters_for self d n))
  enters_rise d a k n = rise_take host_of (Answers n) (max_faults self.shape) 0 (enters_for self d n) (answering n 0 (enters_for self d n)
      (rise_passed host_of (λ m. GoodEnter m × (eqb m.ui.host (primary self.shape m.view) ≡ false)) (answers n) 0 (filter_map (enter_of d) (range_with_len 0 (host_count self.shape)))
      (rise_found host_of (λ m. GoodEnter m × (eqb m.ui.host (primary self.shape m.view) ≡ false)) (enter_of d) (λ h m e. let c = enter_checks self d a h m e in (c.sender, (enter_good d k h m e, c.backup))) 0 (host_count self.shape))))

  rises : (n : NewView) (l : ℕ) (ms : List EnterMessage) → RiseFrom host_of (Answers n) l ms → Rises l (map (λ (x : EvidenceMember). x.host) (map as_member ms))
  rises n l [] r = tt
  rises n l (m ∷ ms) r = (r.0, rises n (m.ui.host + 1) ms r.2)

  record SameAnswer (n : NewView) (m : EnterMessage) : Type 0 where
    view : m.view ≡ n.view
    counter : m.counter ≡ n.ui.counter
    plan : m.plan ≡ n.plan

  same_answer : (n : NewView) (m : EnterMessage) → answers n m ≡ true → SameAnswer n m
  same_answer n m e =
      let a = and_parts (m.view == n.view) (m.counter == n.ui.counter && same_bytes m.plan n.plan) e in
      let b = and_parts (m.counter == n.ui.counter) (same_bytes m.plan n.plan) a.1 in
      record { view = eqb-true m.view n.view a.0; counter = eqb-true m.counter n.ui.counter b.0; plan = same_bytes-true m.plan n.plan b.1 }

  not_it : (x y : ℕ) → eqb x y ≡ false → is_other (Some y) x ≡ true
  not_it x y e = rw e refl

  backups : (n : NewView) (l : ℕ) (ms : List EnterMessage) → RiseFrom host_of (Answers n) l ms → AllByRecursion (FitsBackup self.shape n.view) (map as_member ms)
  backups n l [] r = tt
  backups n l (m ∷ ms) r =
      let s = same_answer n m r.1.answer in
      ((record { host = r.1.good.ui.host; counter = r.1.good.ui.counter; cert = r.1.good.ui.cert }, not_it m.ui.host (primary self.shape n.view) (subst (λ (v : ℕ). eqb m.ui.host (primary self.shape v) ≡ false) s.view r.1.backup)), backups n (m.ui.host + 1) ms r.2)

  abbrev enter_claim : ℕ → ℕ → Bytes → EvidenceMember → Claim
  enter_claim v c p x = record { host = x.host; counter = x.counter; says = bare.Enter v c p; cert = x.cert }

  answers_good : (n : NewView) (l : ℕ) (ms : List EnterMessage) → RiseFrom host_of (Answers n) l ms → AllGood self Good Text (map (enter_claim n.view n.ui.counter n.plan) (map as_member ms))
  answers_good n l [] r = tt
  answers_good n l (m ∷ ms) r =
      let s = same_answer n m r.1.answer in (
        subst (λ (v : ℕ). Good (enter_claim v n.ui.counter n.plan (as_member m))) s.view (subst (λ (c : ℕ). Good (enter_claim m.view c n.plan (as_member m))) s.counter (subst (λ (p : Bytes). Good (enter_claim m.view m.counter p (as_member m))) s.plan r.1.good.claim)),
        answers_good n (m.ui.host + 1) ms r.2,
      )

  evidence_made : (d : History) → Arises self d → AllKnown d → (n : NewView) → GoodNewView n → n.ui.host ≡ primary self.shape n.view → (e : Evidence) → evidence_with self n (enters_for self d n) ≡ Some e → IsGood e
  evidence_made d a k n g leads e is =
      let ms : List EnterMessage = take (max_faults self.shape) (enters_for self d n) in
      let made : Evidence = record { view = n.view; base = n.base; end = n.end; plan = n.plan; body = body_digest new_view_body_bytes n.body; counter = n.ui.counter; cert = n.ui.cert; members = map as_member ms } in
      let t = if_some (nat_le (max_faults self.shape) (length (enters_for self d n))) (Some made) e is in
      let r = enters_rise d a k n in
      let count : length (map as_member ms) ≡ max_faults self.shape = length-map ms as_member ∙ length-take-le (max_faults self.shape) (enters_for self d n) (leb-true (max_faults self.shape) (length (enters_for self d n)) t.0) in
      subst IsGood (some_is made e t.1) (record {
        fits = record { view = g.view; base = g.base; end = g.end; plan = g.plan; body = g.body; counter = g.ui.counter; cert = g.ui.cert; members = (count, (rises n 0 ms r, backups n 0 ms r)) };
        claims = (subst (λ (h : ℕ). Good (record { host = h; counter = n.ui.counter; says = bare_of (stamped.NewView n); cert = n.ui.cert })) leads g.claim, answers_good n 0 ms r);
      })

  evidence_in_view : (v : ℕ) (x : Option Evidence) (e : Evidence) → evidence_in v x ≡ Some e → (x ≡ Some e) × (e.view ≡ v)
  evidence_in_view v None e is = absurd cc
  evidence_in_view v (Some y) e is = let t = if_some (y.view == v) (Some y) e is in (t.1, ap (λ (z : Evidence). z.view) (sym (some_is y e t.1)) ∙ eqb-true y.view v t.0)

  pub evidence_for_good : (d : History) → Arises self d → AllKnown d → (v : ℕ) (e : Evidence) → evidence_for self d v ≡ Some e → IsGood e
  evidence_for_good d a k v e is = elim (or_some (evidence_in v (evidence_of self d)) (option_and_then (λ n. evidence_with self n (enters_for self d n)) (new_view_in_view v (new_view_of self d))) e is) [
    | inl held ↦ evidence_good d k e (evidence_in_view v (evidence_of self d) e held).0
    | inr made ↦
        let t = then_some_of (λ (n : NewView). evidence_with self n (enters_for self d n)) (new_view_in_view v (new_view_of self d)) e made in
        let held : new_view_of self d ≡ Some t.0 = in_view v (new_view_of self d) t.0 t.1 in
        evidence_made d a k t.0 (new_view_good d k t.0 held) (new_view_checks self d a t.0 held).leads e t.2
  ]
