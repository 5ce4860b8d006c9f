-- Certificates whose members a correct host knows: it stamped them, or was given them. First those that it makes of kept CHECKPOINTs.
use Rattle.std.proofs.Common.{◌≡◌, ℕ, ◌+◌, Bool, true, ◌&&◌, List, [], ◌∷◌, refl, sym, subst, inl, inr, Option, Some, None}
use Rattle.std.specs.Prelude.{◌==◌, map, filter, take, length, nat_le}
use Rattle.std.specs.List.{AllByRecursion, range_with_len}
use Rattle.std.proofs.lemmas.Bool.{cases_Bool, and_parts, eqb-true}
use Rattle.mb_base.specs.Shapes.{Bytes, quorum, host_count, span, interval}
use Rattle.mb_usig.proofs.Laws.{same_bytes-true}
use Rattle.mb_parts.specs.declared.certificates.StableCert.{StableCert}
use Rattle.mb_parts.specs.Bares as bare
use Rattle.mb_parts.specs.Claims.{Claim, stable_claims}
use Rattle.mb_msg.specs.declared.message.Message.TheVariants as message
use Rattle.mb_msg.specs.declared.normal.Checkpoint.{Checkpoint}
use Rattle.mb_msg.specs.declared.stamped.Stamped.TheVariants as stamped
use Rattle.mb_model.specs.Verified.{verifies}
use Rattle.mb_model.specs.Histories.{Entry, Accepted, Stamped, History, Identity}
use Rattle.mb_model.specs.GateChecks.{stamp_claim}
use Rattle.mb_model.specs.Stable.{checkpoint_in, checkpoint_by, checkpoint_of, first_agreed, checkpoints_at, same_state, stable_member, stable_cert, agreed_at, agreed_above}
use Rattle.mb_model.specs.Members.{In}
use Rattle.mb_model.proofs.Options.{or_some, if_some}
use Rattle.mb_steps.proofs.StepHeldEvidence.{some_is, then_some_of}
use Rattle.mb_steps.proofs.StepPlanBases.{all_found, all_any}
use Rattle.mb_world_model.specs.WorldEvents.{IsCorrect}
use Rattle.mb_world_model.specs.World.{World, System, self_of}
use Rattle.mb_promise.specs.Justification.{IsKnown}
use Rattle.mb_host_laws.proofs.Cases.{all_taken}
use Rattle.mb_world_laws.proofs.Facts.{Facts}
use Rattle.mb_host_laws.proofs.Moments.{IsPast, past_tail, each_at}
use Rattle.mb_host_laws.proofs.PartClaims.{own_claim_in}
use Rattle.mb_world_laws.proofs.OwnIssued.{own_stamp}
use Rattle.mb_views.proofs.GateGiven.{claim_given}

-- the first of a list that agree, as many as are wanted: all are like one of them
agreed_shape : {A : Type 0} (like : A → A → Bool) (many : ℕ) (all l r : List A) → first_agreed like many all l ≡ Some r → (x : A) × (take many (filter (like x) all) ≡ r)
unfolding first_agreed
agreed_shape like many all [] r e = absurd cc
agreed_shape like many all (x ∷ l) r e = elim (cases_Bool (nat_le many (length (filter (like x) all)))) [
  | inl enough ↦ (x, some_is _ r (rw enough at e))
  | inr few ↦ agreed_shape like many all l r (rw few at e)
]

all_passed : {A : Type 0} (P : A → Type 0) (t : A → Bool) (l : List A) → AllByRecursion P l → AllByRecursion (λ x. P x × (t x ≡ true)) (filter t l)
all_passed P t [] a = tt
all_passed P t (x ∷ l) a = elim (cases_Bool (t x)) [
  | inl stays ↦ rw stays ((a.0, stays), all_passed P t l a.1)
  | inr goes ↦ rw goes (all_passed P t l a.1)
]

module _ {S : Type 0} (system : System S) (w : World) (f : Facts system w) (h : ℕ) (correct : IsCorrect system.schedule h) where
  abbrev self : Identity S
  self = self_of system h

  -- The host knows of what is claimed, where that verifies.
  abbrev pub IsKnownClaim : Claim → Type 0
  IsKnownClaim c = verifies system.schedule.secret c ≡ true → IsKnown system.schedule w h c.host c.counter c.says

  -- It knows the members of a certificate.
  abbrev pub IsKnownCert : StableCert → Type 0
  IsKnownCert c = (x : Claim) → In (stable_claims c) x → IsKnownClaim x

  -- It knows that a CHECKPOINT of this position was stamped.
  abbrev IsKept : ℕ → Checkpoint → Type 0
  IsKept pos m = (m.pos ≡ pos) × IsKnownClaim (stamp_claim (stamped.Checkpoint m))

  -- ---- kept CHECKPOINTs

  given_checkpoint : (d : History) (m : Checkpoint) → IsPast (Accepted (message.Checkpoint m) ∷ d) (w.histories h) → IsKnownClaim (stamp_claim (stamped.Checkpoint m))
  given_checkpoint d m past v =
      let r = (each_at _ (Accepted (message.Checkpoint m) ∷ d) (w.histories h) past (f.standing.rests h)).0 in
      inr (m.ui.cert, claim_given system w f h (message.Checkpoint m) d r (stamp_claim (stamped.Checkpoint m)) (own_claim_in system.schedule.shape (stamped.Checkpoint m)) v)

  own_checkpoint : (d : History) (m : Checkpoint) → IsPast (Stamped (stamped.Checkpoint m) ∷ d) (w.histories h) → IsKnownClaim (stamp_claim (stamped.Checkpoint m))
  own_checkpoint d m past v = let o = own_stamp system w f h (stamped.Checkpoint m) d correct past in inl (o.host, o.there)

  kept_by : (g pos : ℕ) (x : Option Checkpoint) (m : Checkpoint) → checkpoint_by g pos x ≡ Some m → ((y : Checkpoint) → x ≡ Some y → IsKnownClaim (stamp_claim (stamped.Checkpoint y))) → IsKept pos m
  kept_by g pos None m e k = absurd cc
  kept_by g pos (Some y) m e k =
      let t = if_some (y.ui.host == g && y.pos == pos) (Some y) m e in
      let p = and_parts (y.ui.host == g) (y.pos == pos) t.0 in
      subst (IsKept pos) (some_is y m t.1) (eqb-true y.pos pos p.1, k y refl)

  entry_checkpoint : (x : Entry) (d : History) → IsPast (x ∷ d) (w.histories h) → (y : Checkpoint) → checkpoint_in x ≡ Some y → IsKnownClaim (stamp_claim (stamped.Checkpoint y))
  entry_checkpoint (Accepted (message.Checkpoint m)) d past y e = subst (λ (z : Checkpoint). IsKnownClaim (stamp_claim (stamped.Checkpoint z))) (some_is m y e) (given_checkpoint d m past)
  entry_checkpoint (Stamped (stamped.Checkpoint m)) d past y e = subst (λ (z : Checkpoint). IsKnownClaim (stamp_claim (stamped.Checkpoint z))) (some_is m y e) (own_checkpoint d m past)
  entry_checkpoint x d past y e = absurd cc

  kept_known : (d : History) → IsPast d (w.histories h) → (g pos : ℕ) (m : Checkpoint) → checkpoint_of d g pos ≡ Some m → IsKept pos m
  unfolding checkpoint_of
  kept_known [] past g pos m e = absurd cc
  kept_known (x ∷ d) past g pos m e = elim (or_some (checkpoint_by g pos (checkpoint_in x)) (checkpoint_of d g pos) m e) [
    | inl now ↦ kept_by g pos (checkpoint_in x) m now (entry_checkpoint x d past)
    | inr before ↦ kept_known d (past_tail x d (w.histories h) past) g pos m before
  ]

  -- ---- certificates that they make

  member_claims : (pos : ℕ) (state : Bytes) (l : List Checkpoint) → AllByRecursion (λ m. IsKept pos m × (m.state ≡ state)) l
      → (x : Claim) → In (map (λ n. record { host = n.host; counter = n.counter; says = bare.Checkpoint pos state n.floors; cert = n.cert }) (map (stable_member system.schedule.shape) l)) x → IsKnownClaim x
  member_claims pos state [] a x i = absurd i
  member_claims pos state (m ∷ l) a x (inr i) = member_claims pos state l a.1 x i
  member_claims pos state (m ∷ l) a x (inl is) = subst IsKnownClaim is (rw (← a.0.0.0, ← a.0.1) a.0.0.1)

  made_known : (pos : ℕ) (state : Bytes) (l : List Checkpoint) → AllByRecursion (λ m. IsKept pos m × (m.state ≡ state)) l → (c : StableCert) → stable_cert system.schedule.shape pos l ≡ Some c → IsKnownCert c
  made_known pos state [] a c e = absurd cc
  made_known pos state (m ∷ l) a c e =
      subst IsKnownCert (some_is (record { pos = pos; state = m.state; members = map (stable_member system.schedule.shape) (m ∷ l) }) c e)
      (member_claims pos m.state (m ∷ l) (subst (λ (y : Bytes). AllByRecursion (λ (z : Checkpoint). IsKept pos z × (z.state ≡ y)) (m ∷ l)) (sym a.0.1) a))

  with_state : (pos : ℕ) (x : Checkpoint) (l : List Checkpoint) → AllByRecursion (λ m. IsKept pos m × (same_state system.schedule.shape x m ≡ true)) l → AllByRecursion (λ m. IsKept pos m × (m.state ≡ x.state)) l
  with_state pos x [] a = tt
  with_state pos x (m ∷ l) a = ((a.0.0, sym (same_bytes-true x.state m.state a.0.1)), with_state pos x l a.1)

  agreed_known : (d : History) → IsPast d (w.histories h) → (pos : ℕ) (c : StableCert) → agreed_at system.schedule.shape d pos ≡ Some c → IsKnownCert c
  unfolding agreed_at
  agreed_known d past pos c e =
      let all : List Checkpoint = checkpoints_at system.schedule.shape d pos in
      let t = then_some_of (stable_cert system.schedule.shape pos) (first_agreed (same_state system.schedule.shape) (quorum system.schedule.shape) all all) c e in
      let g = agreed_shape (same_state system.schedule.shape) (quorum system.schedule.shape) all all t.0 t.1 in
      let kept : AllByRecursion (IsKept pos) all = all_found (λ (g : ℕ). Unit {0}) (IsKept pos) (λ g. checkpoint_of d g pos) (λ g m u is. kept_known d past g pos m is) (range_with_len 0 (host_count system.schedule.shape)) (all_any (range_with_len 0 (host_count system.schedule.shape))) in
      let alike = all_taken _ (quorum system.schedule.shape) _ (all_passed (IsKept pos) (same_state system.schedule.shape g.0) all kept) in
      made_known pos g.0.state t.0 (with_state pos g.0 t.0 (subst (λ (l : List Checkpoint). AllByRecursion (λ m. IsKept pos m × (same_state system.schedule.shape g.0 m ≡ true)) l) g.1 alike)) c t.2

  pub above_known : (d : History) → IsPast d (w.histories h) → (low : ℕ) (c : StableCert) → agreed_above system.schedule.shape d low ≡ Some c → IsKnownCert c
  above_known d past low c e = elim (or_some (agreed_at system.schedule.shape d (low + span system.schedule.shape)) (agreed_at system.schedule.shape d (low + interval system.schedule.shape)) c e) [
    | inl far ↦ agreed_known d past (low + span system.schedule.shape) c far
    | inr near ↦ agreed_known d past (low + interval system.schedule.shape) c near
  ]
