-- VIEW_CHANGEs that a correct host accepted as current, that a NEW_VIEW showed which it accepted as current, and that it stamped itself, are good ones:
-- they were issued, found usable, and what they show is known.
use Rattle.std.proofs.Common.{◌≡◌, ℕ, ◌+◌, Bool, true, false, ◌&&◌, List, [], ◌∷◌, refl, sym, ap, subst, ◌∙◌, inl, inr, arith, Option, None}
use Rattle.std.specs.Prelude.{not, nat_lt, option_map, option_and_then}
use Rattle.std.specs.Option.{option_or}
use Rattle.std.specs.Bool.{then_some}
use Rattle.std.specs.List.{AllByRecursion, flat_map}
use Rattle.std.proofs.lemmas.Bool.{cases_Bool, ltb-true}
use Rattle.mb_base.specs.Shapes.{Bytes}
use Rattle.mb_parts.specs.declared.certificates.FloorCert.{FloorCert}
use Rattle.mb_parts.specs.Claims.{Claim}
use Rattle.mb_msg.specs.declared.message.Body.{Body}
use Rattle.mb_msg.specs.declared.message.Body.TheVariants.{Whole, Bare as Short}
use Rattle.mb_msg.specs.declared.message.Message.{Message}
use Rattle.mb_msg.specs.declared.message.Message.TheVariants as message
use Rattle.mb_msg.specs.declared.change.ChangeBody.{ChangeBody}
use Rattle.mb_msg.specs.declared.change.ViewChange.{ViewChange}
use Rattle.mb_msg.specs.declared.stamped.Stamped.{Stamped as StampedMessage}
use Rattle.mb_msg.specs.declared.stamped.Stamped.TheVariants as stamped
use Rattle.mb_msg.specs.declared.event.Outcome.TheVariants as outcome
use Rattle.mb_msg.specs.Bodies.{FitsBody, form_of, whole_body, inside_whole}
use Rattle.mb_msg.specs.Fits.{FitsViewChange, FitsChangeBody}
use Rattle.mb_msg.specs.Spelling.{change_body_bytes}
use Rattle.mb_msg.specs.Stamps.{bare_of, ui_of}
use Rattle.mb_model.specs.Verified.{verifies}
use Rattle.mb_model.specs.UsableLogs.{log_fault}
use Rattle.mb_model.specs.Histories.{Accepted, History, Identity, gate}
use Rattle.mb_model.specs.Held.{is_current}
use Rattle.mb_model.specs.Sending.{next_of}
use Rattle.mb_model.specs.GateChecks.{stamp_claim, is_bad_ui, is_own_future, conviction, is_stale, is_ahead, is_permitted, gate_refusal, identifier_refusal}
use Rattle.mb_model.specs.Compared.{compared_in, inside_some}
use Rattle.mb_model.specs.Passed.{PassesGate, PassesStamped}
use Rattle.mb_model.specs.Members.{In}
use Rattle.mb_model.proofs.Members.{in_left, in_right}
use Rattle.mb_model.specs.Inside.{claims_in, stamped_claims, change_claims, sender_claim, floor_bodies, bodies_in, body_in, bodies_in_change, shown_bodies}
use Rattle.mb_world_model.specs.WorldEvents.{IsCorrect}
use Rattle.mb_world_model.specs.World.{World, System, self_of}
use Rattle.mb_world_model.specs.WorldRecord.{issued}
use Rattle.mb_host_laws.proofs.Cases.{not_le}
use Rattle.mb_host_laws.specs.Rests.{Each, Rests}
use Rattle.mb_world_laws.proofs.Grown.{IsGivenTo, IsHashed, HasStrings}
use Rattle.mb_host_laws.proofs.PartClaims.{own_claim_in}
use Rattle.mb_world_laws.proofs.Knows.{accepted_issued}
use Rattle.mb_world_laws.proofs.Facts.{Facts, IsKnownBody}
use Rattle.mb_views.proofs.Follows.{JumpsLed}
use Rattle.mb_host_laws.proofs.Moments.{IsPast, each_at}
use Rattle.mb_views.proofs.Floors.{arises_then}
use Rattle.mb_world_laws.proofs.AcceptedParts.{accepted_fits, accepted_body_hashed}
use Rattle.mb_views.proofs.ChangeClaims.{log_owned, of_log}
use Rattle.mb_views.proofs.UsableChanges.{IsGoodChange}
use Rattle.mb_parts.specs.Rules.{rule_of}
use Rattle.mb_host_laws.proofs.PlanFits.{change_bases}

-- ---- a message that passed its gate was not refused by it

none_refused : (bad future stale ahead wrong : Bool) (convicted : Option ℕ) (n rule : ℕ) → bad ≡ false → future ≡ false → convicted ≡ None → stale ≡ false → ahead ≡ false → wrong ≡ false
    → option_or (then_some bad outcome.BadUi) (option_or (then_some future outcome.Idle) (option_or (option_map outcome.Convicted convicted) (option_or (then_some stale (outcome.Stale n))
    (option_or (then_some ahead (outcome.Ahead n)) (then_some wrong (outcome.Illegal rule)))))) ≡ None
none_refused bad future stale ahead wrong convicted n rule a b c d e f = rw (a, b, c, d, e, f) refl

not_lt : (n : ℕ) → nat_lt n n ≡ false
not_lt n = elim (cases_Bool (nat_lt n n)) [
  | inl lt ↦ let lt2 = ltb-true n n lt in absurd (omega (arith, lt2))
  | inr no_more ↦ no_more
]

module _ {S : Type 0} (self : Identity S) where
  pub gate_passed : (d : History) (m : StampedMessage) → PassesGate self d m → identifier_refusal self d m ≡ None
  unfolding identifier_refusal gate_refusal
  gate_passed d m p = none_refused (is_bad_ui self m) (is_own_future self d (ui_of m)) (is_stale self d (ui_of m)) (is_ahead self d (ui_of m)) (not (is_permitted self d m)) (conviction self d (ui_of m))
      (next_of d (ui_of m).host) (rule_of (bare_of m)) (ap not p.certified) p.not_future p.not_convicted
      (not_le (ui_of m).counter (gate d (ui_of m).host).counter (omega (arith, p.next)))
      (ap (λ (n : ℕ). nat_lt ((gate d (ui_of m).host).counter + 1) n) p.next ∙ not_lt ((gate d (ui_of m).host).counter + 1))
      (ap not p.permitted)

-- ---- bodies

pub whole_none : {B : Type 0} {C : Type 0} (g : B → Option C) (x : Body B) (b : B) → x ≡ Whole b → option_and_then g (whole_body x) ≡ None → g b ≡ None
whole_none g x b is e = rw is at e

pub form_whole : {B : Type 0} (x : Body B) → form_of x ≡ 1 → (b : B) × (x ≡ Whole b)
form_whole (Whole b) e = (b, refl)
form_whole (Short d) e = absurd (omega (arith, e))

module _ {S : Type 0} (system : System S) (w : World) (f : Facts system w) (jumps : (h : ℕ) → IsCorrect system.schedule h → Each (JumpsLed system w f) (w.histories h)) where
  abbrev pub RestsAt : ℕ → Message → History → Type 0
  RestsAt h m d = Rests (self_of system h) (IsGivenTo system.schedule w h) (IsHashed system.schedule w) (HasStrings system.schedule w) (Accepted m) d

  pub hashed_each : (l : List Bytes) → ((x : Bytes) → In l x → In w.hashed x) → AllByRecursion (IsHashed system.schedule w) l
  hashed_each [] g = tt
  hashed_each (x ∷ l) g = (g x (inl refl), hashed_each l (λ y i. g y (inr i)))

  -- A VIEW_CHANGE body whose claims and bodies stand in an accepted message is known.
  pub body_known : (h : ℕ) (m : Message) (d : History) → RestsAt h m d → (host view counter : ℕ) (b : ChangeBody)
      → log_fault system.schedule.shape system.schedule.secret (verifies system.schedule.secret) host view counter b ≡ None → FitsChangeBody system.schedule.shape b
      → ((c : Claim) → In (change_claims system.schedule.shape b) c → In (claims_in system.schedule.shape m) c) → ((x : Bytes) → In (bodies_in_change b) x → In (bodies_in m) x) → IsKnownBody system.schedule w host b
  body_known h m d r host view counter b usable fits claims bodies = record {
    claims = of_log system.schedule.shape (λ (c : Claim). verifies system.schedule.secret c ≡ true → issued system.schedule w c ≡ true) host b
        (log_owned system.schedule.shape system.schedule.secret (verifies system.schedule.secret) host view counter b usable) (λ c i v. accepted_issued system w f.standing h m d r c (claims c i) v);
    fits = change_bases system.schedule.shape b fits;
    floors = λ c is. hashed_each (floor_bodies c) (λ x i. accepted_body_hashed system w f h m d r x
        (bodies x (in_left (inside_some floor_bodies b.floor) (flat_map shown_bodies b.entries) x (subst (λ (o : Option FloorCert). In (inside_some floor_bodies o) x) (sym is) i))));
  }

  -- ---- accepted by itself

  change_claims_in : (m : ViewChange) (b : ChangeBody) → m.body ≡ Whole b → (c : Claim) → In (change_claims system.schedule.shape b) c → In (claims_in system.schedule.shape (message.ViewChange m)) c
  unfolding claims_in stamped_claims
  change_claims_in m b is c i = in_left (inside_whole (change_claims system.schedule.shape) m.body) (sender_claim m.ui (bare_of (stamped.ViewChange m)) ∷ []) c (rw is i)

  change_bodies_in : (m : ViewChange) (b : ChangeBody) → m.body ≡ Whole b → (x : Bytes) → In (bodies_in_change b) x → In (bodies_in (message.ViewChange m)) x
  unfolding bodies_in
  change_bodies_in m b is x i = in_right (body_in change_body_bytes m.body) (inside_whole bodies_in_change m.body) x (rw is i)

  pub accepted_change : (h : ℕ) (m : ViewChange) (b : ChangeBody) (d : History) → IsCorrect system.schedule h → IsPast (Accepted (message.ViewChange m) ∷ d) (w.histories h) → m.body ≡ Whole b
      → is_current (self_of system h) d m.view ≡ true → IsGoodChange system w m b
  unfolding compared_in
  accepted_change h m b d correct past is current =
      let r : RestsAt h (message.ViewChange m) d = (each_at _ (Accepted (message.ViewChange m) ∷ d) (w.histories h) past (f.standing.rests h)).0 in
      let a : PassesStamped (self_of system h) d (stamped.ViewChange m) = (arises_then system w f h correct (jumps h correct) (Accepted (message.ViewChange m) ∷ d) past).0 in
      let fits : FitsViewChange system.schedule.shape m = accepted_fits system w f h (message.ViewChange m) d r in
      let usable = whole_none (log_fault system.schedule.shape system.schedule.secret (verifies system.schedule.secret) m.ui.host m.view m.ui.counter) m.body b is (a.kind current) in
      let body : FitsChangeBody system.schedule.shape b = subst (λ (x : Body ChangeBody). FitsBody (FitsChangeBody system.schedule.shape) x) is fits.body in
      record {
        body = is;
        issues = accepted_issued system w f.standing h (message.ViewChange m) d r (stamp_claim (stamped.ViewChange m)) (own_claim_in system.schedule.shape (stamped.ViewChange m)) a.gate.certified;
        host = fits.ui.host;
        usable = usable;
        known = body_known h (message.ViewChange m) d r m.ui.host m.view m.ui.counter b usable body (change_claims_in m b is) (change_bodies_in m b is);
        checker = h;
        compared = rw (gate_passed (self_of system h) d (stamped.ViewChange m) a.gate, current, is) at r.1;
      }
