-- What a host knows to be stable fits and is good: kept CHECKPOINTs, the bases of plans, and the certificate of the stable position.
use Rattle.std.proofs.Common.{◌≡◌, ℕ, zero, suc, ◌+◌, ◌≤◌, Bool, true, ◌&&◌, List, [], ◌∷◌, ◌++◌, length, refl, sym, ap, subst, ◌∙◌, inl, inr, arith, Option, Some, None}
use Rattle.std.specs.Prelude.{◌==◌, ◌%◌, map, take, filter, nat_lt, nat_le}
use Rattle.std.specs.List.{AllByRecursion, flat_map}
use Rattle.std.proofs.lemmas.Bool.{and_parts, cases_Bool, eqb-true, leb-true}
use Rattle.std.proofs.lemmas.List.{length-take-le, length-map}
use Rattle.std.proofs.Math.Nat.{add-mul-mod_self_right, add-mod_right}
use Rattle.mb_base.specs.Shapes.{Bytes, interval, span, quorum, host_count}
use Rattle.mb_base.specs.Spelling.{Rises}
use Rattle.mb_usig.proofs.Laws.{same_bytes-true}
use Rattle.mb_parts.specs.declared.certificates.StableMember.{StableMember}
use Rattle.mb_parts.specs.declared.certificates.StableCert.{StableCert}
use Rattle.mb_parts.specs.declared.certificates.Evidence.{Evidence}
use Rattle.mb_parts.specs.Bares as bare
use Rattle.mb_parts.specs.Claims.{Claim, inner_claims, stable_claims, floor_claims, evidence_claims}
use Rattle.mb_parts.specs.Fits.{IsPosition, IsDigest, AreMembers, FitsUi, FitsHeld, FitsStableMember}
use Rattle.mb_msg.specs.declared.message.Body.{Body}
use Rattle.mb_msg.specs.declared.message.Body.TheVariants.{Whole, Bare as Short}
use Rattle.mb_msg.specs.declared.message.Message.TheVariants as message
use Rattle.mb_msg.specs.declared.normal.Checkpoint.{Checkpoint}
use Rattle.mb_msg.specs.declared.normal.Floors.{Floors}
use Rattle.mb_msg.specs.declared.change.ChangeBody.{ChangeBody}
use Rattle.mb_msg.specs.declared.change.ViewChange.{ViewChange}
use Rattle.mb_msg.specs.declared.change.NewView.{NewView}
use Rattle.mb_msg.specs.declared.change.NewViewBody.{NewViewBody}
use Rattle.mb_msg.specs.declared.change.Open.{Open as OpenMessage}
use Rattle.mb_msg.specs.declared.change.OpenBody.{OpenBody}
use Rattle.mb_msg.specs.declared.change.Join.{Join as JoinMessage}
use Rattle.mb_msg.specs.declared.change.Plan.{Plan}
use Rattle.mb_msg.specs.declared.transfer.Log.{Log}
use Rattle.mb_msg.specs.declared.stamped.Shown.{Shown}
use Rattle.mb_msg.specs.declared.stamped.Shown.TheVariants as shown
use Rattle.mb_msg.specs.declared.stamped.Stamped.TheVariants as stamped
use Rattle.mb_msg.specs.Bodies.{FitsBody, whole_body, inside_whole}
use Rattle.mb_msg.specs.Fits.{FitsCheckpoint, FitsFloorsBody, FitsShown, FitsOpen, FitsOpenBody, FitsJoin, FitsChangeBody, FitsMember, FitsNewView, FitsNewViewBody, FitsLog}
use Rattle.mb_msg.specs.Spelling.{floors_body_bytes}
use Rattle.mb_msg.specs.Stamps.{bare_of, bare_of_shown, ui_of_shown}
use Rattle.mb_model.specs.GateChecks.{stamp_claim}
use Rattle.mb_model.specs.Held.{is_current, logs_of, plan_from, plan_in_new_view, plan_in_open, gives_plan, plan_in, plan_held}
use Rattle.mb_model.specs.Histories.{Entry, Accepted, Stamped, History, Identity}
use Rattle.mb_model.specs.Plans.{no_base}
use Rattle.mb_model.specs.Stable.{checkpoint_in, checkpoint_by, checkpoint_of, first_agreed, checkpoints_at, same_state, stable_member, stable_cert, agreed_at, agreed_above, plan_base, further, learnt_in, stable_of}
use Rattle.mb_model.specs.Members.{In}
use Rattle.mb_model.proofs.Members.{in_left, in_right}
use Rattle.mb_model.proofs.Options.{or_some, if_some, map_some}
use Rattle.mb_model.proofs.RisingLists.{RiseFrom, rise_found, rise_passed, rise_take}
use Rattle.mb_model.specs.Inside.{claims_in, open_body_claims, open_claims, claims_in_shown, shown_claims, stamped_claims, change_claims, member_claims, new_view_claims, sender_claim, bodies_in}
use Rattle.mb_host_laws.proofs.Cases.{some_is, then_some_of, whole_is}
use Rattle.mb_host_laws.specs.Rests.{Each}
use Rattle.mb_host_laws.proofs.PartClaims.{own_claim_in, inner_claim_in}
use Rattle.mb_host_laws.proofs.PlanFits.{OfBody, OfEntry, HasBases, log_has, plan_has, none_fits}
use Rattle.mb_host_laws.proofs.OwnKnown.{GoodStable, Known}
use Rattle.mb_model.specs.Compared.{inside_some}
use Rattle.mb_host_laws.proofs.HeldViews.{all_in_good, digest_fits}

pub agreed_shape : {A : Type 0} (like : A → A → Bool) (many : ℕ) (all l r : List A) → first_agreed like many all l ≡ Some r
    → (x : A) × (nat_le many (length (filter (like x) all)) ≡ true) × (take many (filter (like x) all) ≡ r)
unfolding first_agreed
agreed_shape like many all [] r e = absurd cc
agreed_shape like many all (x ∷ l) r e = elim (cases_Bool (nat_le many (length (filter (like x) all)))) [
  | inl enough ↦ (x, enough, some_is (rw enough at e))
  | inr few ↦ agreed_shape like many all l r (rw few at e)
] where
  some_is : Some (take many (filter (like x) all)) ≡ Some r → take many (filter (like x) all) ≡ r
  some_is e = cc

module _ {S : Type 0} (self : Identity S) (Good : Claim → Type 0) (Text : Bytes → Type 0) where
  abbrev AllKnown : History → Type 0
  AllKnown d = Each (Known self Good Text) d

  abbrev IsGood : StableCert → Type 0
  IsGood c = GoodStable self Good Text c

  pub none_good : IsGood no_base
  none_good = record { fits = none_fits self.shape; claims = tt }

  -- ---- CHECKPOINTs

  pub record GoodCheckpoint (m : Checkpoint) : Type 0 where
    pub pos : IsPosition m.pos
    pub state : IsDigest m.state
    pub body : FitsBody (FitsFloorsBody self.shape) m.body
    pub ui : FitsUi self.shape m.ui
    pub claim : Good (stamp_claim (stamped.Checkpoint m))
    pub texts : (b : Floors) → m.body ≡ Whole b → Text (floors_body_bytes b)

  some_checkpoint : (x y : Checkpoint) → Some x ≡ Some y → x ≡ y
  some_checkpoint x y e = cc

  body_text : (m : Checkpoint) (b : Floors) → m.body ≡ Whole b → In (bodies_in (message.Checkpoint m)) (floors_body_bytes b)
  unfolding bodies_in
  body_text m b is = rw is (inl refl)

  entry_checkpoint : (d : History) (e : Entry) → Known self Good Text e d → (m : Checkpoint) → checkpoint_in e ≡ Some m → GoodCheckpoint m
  entry_checkpoint d (Accepted (message.Checkpoint n)) k m e =
      let f : FitsCheckpoint self.shape n = k.fits in
      subst GoodCheckpoint (some_checkpoint n m e) (record { pos = f.pos; state = f.state; body = f.body; ui = f.ui; claim = k.claims (stamp_claim (stamped.Checkpoint n)) (own_claim_in self.shape (stamped.Checkpoint n)); texts = λ b is. k.texts (floors_body_bytes b) (body_text n b is) })
  entry_checkpoint d (Stamped (stamped.Checkpoint n)) k m e =
      subst GoodCheckpoint (some_checkpoint n m e) (record { pos = k.bare.0; state = k.bare.1.0; body = k.body.0; ui = k.ui; claim = k.claim; texts = k.body.1 })
  entry_checkpoint d e k m is = absurd cc

  named : (h pos : ℕ) (x : Option Checkpoint) (m : Checkpoint) → checkpoint_by h pos x ≡ Some m → (x ≡ Some m) × (m.ui.host ≡ h) × (m.pos ≡ pos)
  named h pos None m e = absurd cc
  named h pos (Some n) m e =
      let t = if_some (n.ui.host == h && n.pos == pos) (Some n) m e in
      let a = and_parts (n.ui.host == h) (n.pos == pos) t.0 in
      let same : n ≡ m = some_checkpoint n m t.1 in
      (t.1, ap (λ (y : Checkpoint). y.ui.host) (sym same) ∙ eqb-true n.ui.host h a.0, ap (λ (y : Checkpoint). y.pos) (sym same) ∙ eqb-true n.pos pos a.1)

  pub record KeptAt (pos : ℕ) (m : Checkpoint) : Type 0 where
    pub good : GoodCheckpoint m
    pub place : m.pos ≡ pos

  checkpoint_good : (d : History) → AllKnown d → (h pos : ℕ) (m : Checkpoint) → checkpoint_of d h pos ≡ Some m → (m.ui.host ≡ h) × KeptAt pos m
  unfolding checkpoint_of
  checkpoint_good [] k h pos m e = absurd cc
  checkpoint_good (x ∷ d) k h pos m e = elim (or_some (checkpoint_by h pos (checkpoint_in x)) (checkpoint_of d h pos) m e) [
    | inl here ↦ let n = named h pos (checkpoint_in x) m here in (n.1, record { good = entry_checkpoint d x k.0 m n.0; place = n.2 })
    | inr before ↦ checkpoint_good d k.1 h pos m before
  ]

  abbrev pub sender_of : Checkpoint → ℕ
  sender_of m = m.ui.host

  pub kept_rise : (d : History) → AllKnown d → (pos : ℕ) → RiseFrom sender_of (KeptAt pos) 0 (checkpoints_at self.shape d pos)
  kept_rise d k pos = rise_found sender_of (KeptAt pos) (λ h. checkpoint_of d h pos) (λ h m e. checkpoint_good d k h pos m e) 0 (host_count self.shape)

  -- ---- the certificate that CHECKPOINTs make

  abbrev Agrees : ℕ → Checkpoint → Checkpoint → Type 0
  Agrees pos x m = KeptAt pos m × (same_state self.shape x m ≡ true)

  member_rises : (P : Checkpoint → Type 0) (n : ℕ) (l : List Checkpoint) → RiseFrom sender_of P n l → Rises n (map (λ (x : StableMember). x.host) (map (stable_member self.shape) l))
  member_rises P n [] r = tt
  member_rises P n (m ∷ l) r = (r.0, member_rises P (m.ui.host + 1) l r.2)

  members_fit : (pos : ℕ) (x : Checkpoint) (n : ℕ) (l : List Checkpoint) → RiseFrom sender_of (Agrees pos x) n l → AllByRecursion (FitsStableMember self.shape) (map (stable_member self.shape) l)
  members_fit pos x n [] r = tt
  members_fit pos x n (m ∷ l) r =
      let g : GoodCheckpoint m = r.1.0.good in
      (record { host = g.ui.host; counter = g.ui.counter; floors = digest_fits floors_body_bytes (FitsFloorsBody self.shape) m.body g.body; cert = g.ui.cert }, members_fit pos x (m.ui.host + 1) l r.2)

  abbrev state_claim : ℕ → Bytes → StableMember → Claim
  state_claim pos state n = record { host = n.host; counter = n.counter; says = bare.Checkpoint pos state n.floors; cert = n.cert }

  members_good : (pos : ℕ) (x : Checkpoint) (state : Bytes) → x.state ≡ state → (n : ℕ) (l : List Checkpoint) → RiseFrom sender_of (Agrees pos x) n l → AllByRecursion Good (map (state_claim pos state) (map (stable_member self.shape) l))
  members_good pos x state same n [] r = tt
  members_good pos x state same n (m ∷ l) r =
      let has : m.state ≡ state = sym (same_bytes-true x.state m.state r.1.1) ∙ same in
      (subst (λ (p : ℕ). Good (state_claim p state (stable_member self.shape m))) r.1.0.place (subst (λ (t : Bytes). Good (state_claim m.pos t (stable_member self.shape m))) has r.1.0.good.claim), members_good pos x state same (m.ui.host + 1) l r.2)

  held_at : (pos : ℕ) (state : Bytes) (members : List StableMember) → 1 ≤ pos → IsDigest state × AreMembers (λ m. m.host) (FitsStableMember self.shape) (quorum self.shape) members → FitsHeld self.shape pos state members
  held_at zero state members some f = absurd (omega (arith, some))
  held_at (suc pos) state members some f = f

  cert_good : (pos : ℕ) (x : Checkpoint) (r : List Checkpoint) → pos % interval self.shape ≡ 0 → RiseFrom sender_of (Agrees pos x) 0 r → length r ≡ quorum self.shape → (c : StableCert) → stable_cert self.shape pos r ≡ Some c → IsGood c
  cert_good pos x [] whole rise many c e = absurd cc
  cert_good pos x (m ∷ r) whole rise many c e =
      let made : StableCert = record { pos = pos; state = m.state; members = map (stable_member self.shape) (m ∷ r) } in
      let state : x.state ≡ m.state = same_bytes-true x.state m.state rise.1.1 in
      let g : GoodCheckpoint m = rise.1.0.good in
      let place : IsPosition pos = subst IsPosition rise.1.0.place g.pos in
      subst IsGood (some_is made c e) (record {
        fits = record { pos = (place.1, whole); held = held_at pos m.state made.members place.0 (g.state, (length-map (m ∷ r) (stable_member self.shape) ∙ many, (member_rises (Agrees pos x) 0 (m ∷ r) rise, members_fit pos x 0 (m ∷ r) rise))) };
        claims = members_good pos x m.state state 0 (m ∷ r) rise;
      })

  agreed_good : (d : History) → AllKnown d → (pos : ℕ) → pos % interval self.shape ≡ 0 → (c : StableCert) → agreed_at self.shape d pos ≡ Some c → IsGood c
  unfolding agreed_at
  agreed_good d k pos whole c e =
      let all : List Checkpoint = checkpoints_at self.shape d pos in
      let t = then_some_of (stable_cert self.shape pos) (first_agreed (same_state self.shape) (quorum self.shape) all all) c e in
      let g = agreed_shape (same_state self.shape) (quorum self.shape) all all t.0 t.1 in
      let rise = rise_take sender_of (Agrees pos g.0) (quorum self.shape) 0 (filter (same_state self.shape g.0) all) (rise_passed sender_of (KeptAt pos) (same_state self.shape g.0) 0 all (kept_rise d k pos)) in
      let many = length-take-le (quorum self.shape) (filter (same_state self.shape g.0) all) (leb-true (quorum self.shape) _ g.1) in
      cert_good pos g.0 t.0 whole (subst (λ (l : List Checkpoint). RiseFrom sender_of (Agrees pos g.0) 0 l) g.2 rise) (ap length (sym g.2) ∙ many) c t.2

  pub whole_span : (low : ℕ) → low % interval self.shape ≡ 0 → (low + span self.shape) % interval self.shape ≡ 0
  whole_span low e = add-mul-mod_self_right low 2 (interval self.shape) ∙ e

  pub whole_interval : (low : ℕ) → low % interval self.shape ≡ 0 → (low + interval self.shape) % interval self.shape ≡ 0
  whole_interval low e = add-mod_right low (interval self.shape) ∙ e

  above_good : (d : History) → AllKnown d → (low : ℕ) → low % interval self.shape ≡ 0 → (c : StableCert) → agreed_above self.shape d low ≡ Some c → IsGood c
  above_good d k low whole c e = elim (or_some (agreed_at self.shape d (low + span self.shape)) (agreed_at self.shape d (low + interval self.shape)) c e) [
    | inl far ↦ agreed_good d k (low + span self.shape) (whole_span low whole) c far
    | inr near ↦ agreed_good d k (low + interval self.shape) (whole_interval low whole) c near
  ]

  -- ---- the bases of plans

  entry_base : (e : Shown) → FitsShown self.shape e → ((c : Claim) → In (claims_in_shown self.shape e) c → Good c) → OfEntry IsGood e
  entry_base (shown.Open m) f g = go m.body refl f.body where
    go : (b : Body OpenBody) → m.body ≡ b → FitsBody (FitsOpenBody self.shape m.evidence) m.body → OfBody IsGood m.body
    go (Whole b) is f = rw is (record {
      fits = (subst (λ (x : Body OpenBody). FitsBody (FitsOpenBody self.shape m.evidence) x) is f).0.0;
      claims = all_in_good Good (stable_claims b.stable) (λ c i. g c (in_right (evidence_claims self.shape m.evidence) (inside_whole open_body_claims m.body) c (rw is i)));
    })
    go (Short d) is f = rw is tt
  entry_base (shown.Join m) f g = record { fits = f.stable; claims = all_in_good Good (stable_claims m.stable) (λ c i. g c (in_right (inside_some (evidence_claims self.shape) m.evidence) (stable_claims m.stable) c i)) }
  entry_base (shown.Prepare m) f g = tt
  entry_base (shown.Commit m) f g = tt
  entry_base (shown.Checkpoint m) f g = tt
  entry_base (shown.ViewChange m) f g = tt
  entry_base (shown.NewView m) f g = tt
  entry_base (shown.Enter m) f g = tt

  entries_base : (l : List Shown) → AllByRecursion (FitsShown self.shape) l → ((c : Claim) → In (flat_map (shown_claims self.shape) l) c → Good c) → AllByRecursion (OfEntry IsGood) l
  unfolding shown_claims
  entries_base [] f g = tt
  entries_base (e ∷ l) f g = (
    entry_base e f.0 (λ c i. g c (in_left (shown_claims self.shape e) (flat_map (shown_claims self.shape) l) c (in_left (claims_in_shown self.shape e) (sender_claim (ui_of_shown e) (bare_of_shown e) ∷ []) c i))),
    entries_base l f.1 (λ c i. g c (in_right (shown_claims self.shape e) (flat_map (shown_claims self.shape) l) c i)),
  )

  -- a VIEW_CHANGE's certificates for bases
  pub change_good : (h : ℕ) (b : ChangeBody) → FitsChangeBody self.shape b → ((c : Claim) → In (change_claims self.shape b) c → Good c) → HasBases self.shape IsGood none_good (record { host = h; body = b })
  change_good h b f g = log_has self.shape IsGood none_good (record { host = h; body = b })
      (record { fits = f.stable; claims = all_in_good Good (stable_claims b.stable) (λ c i. g c (in_left (inside_some floor_claims b.floor ++ stable_claims b.stable) (flat_map (shown_claims self.shape) b.entries) c (in_right (inside_some floor_claims b.floor) (stable_claims b.stable) c i))) })
      (entries_base b.entries f.entries (λ c i. g c (in_right (inside_some floor_claims b.floor ++ stable_claims b.stable) (flat_map (shown_claims self.shape) b.entries) c i)))

  one_log : (m : ViewChange) (l : List ViewChange) (b : Body ChangeBody) → m.body ≡ b → FitsBody (FitsChangeBody self.shape) m.body → ((c : Claim) → In (member_claims self.shape m) c → Good c)
      → AllByRecursion (HasBases self.shape IsGood none_good) (logs_of l) → AllByRecursion (HasBases self.shape IsGood none_good) (logs_of (m ∷ l))
  one_log m l (Whole b) is fits g more = rw is (
    change_good m.ui.host b (subst (λ (x : Body ChangeBody). FitsBody (FitsChangeBody self.shape) x) is fits)
        (λ c i. g c (in_left (inside_whole (change_claims self.shape) m.body) (sender_claim m.ui (bare_of (stamped.ViewChange m)) ∷ []) c (rw is i))),
    more,
  )
  one_log m l (Short d) is fits g more = rw is more

  logs_good : (l : List ViewChange) → AllByRecursion (FitsMember self.shape) l → ((c : Claim) → In (flat_map (member_claims self.shape) l) c → Good c) → AllByRecursion (HasBases self.shape IsGood none_good) (logs_of l)
  logs_good [] f g = tt
  logs_good (m ∷ l) f g = one_log m l m.body refl f.0.0.body (λ c i. g c (in_left (member_claims self.shape m) (flat_map (member_claims self.shape) l) c i))
      (logs_good l f.1 (λ c i. g c (in_right (member_claims self.shape m) (flat_map (member_claims self.shape) l) c i)))

  new_view_claims_in : (n : NewView) (b : NewViewBody) → n.body ≡ Whole b → (c : Claim) → In (flat_map (member_claims self.shape) b.changes) c → In (claims_in self.shape (message.NewView n)) c
  unfolding claims_in stamped_claims
  new_view_claims_in n b is c i = in_left (inside_whole (new_view_claims self.shape) n.body) (sender_claim n.ui (bare_of (stamped.NewView n)) ∷ []) c (rw is i)

  open_claims_in : (m : OpenMessage) (b : OpenBody) → m.body ≡ Whole b → (c : Claim) → In (stable_claims b.stable) c → In (claims_in self.shape (message.Open m)) c
  unfolding claims_in stamped_claims
  open_claims_in m b is c i = in_left (open_claims self.shape m) (sender_claim m.ui (bare_of (stamped.Open m)) ∷ []) c (in_right (evidence_claims self.shape m.evidence) (inside_whole open_body_claims m.body) c (rw is i))

  -- the plan that an entry brings
  pub plan_good : (d : History) (e : Entry) → Known self Good Text e d → (p : ℕ × Plan) → plan_in self d (plan_held self d) e ≡ Some p → IsGood p.1.base
  plan_good d (Accepted (message.NewView m)) k p e =
      let t = if_some (is_current self d m.view) (plan_in_new_view self m) p e in
      let b = map_some (λ (b : NewViewBody). (m.view, plan_from self b.changes)) (whole_body m.body) p t.1 in
      let is : m.body ≡ Whole b.0 = whole_is m.body b.0 b.1 in
      let f : FitsNewView self.shape m = k.fits in
      let body : FitsNewViewBody self.shape b.0 = subst (λ (x : Body NewViewBody). FitsBody (FitsNewViewBody self.shape) x) is f.body in
      subst (λ (q : ℕ × Plan). IsGood q.1.base) b.2 (plan_has self.shape IsGood none_good (logs_of b.0.changes) (logs_good b.0.changes body.1.1 (λ c i. k.claims c (new_view_claims_in m b.0 is c i))))
  plan_good d (Stamped (stamped.NewView m)) k p e =
      let b = map_some (λ (b : NewViewBody). (m.view, plan_from self b.changes)) (whole_body m.body) p e in
      subst (λ (q : ℕ × Plan). IsGood q.1.base) b.2 (k.body b.0 (whole_is m.body b.0 b.1))
  plan_good d (Accepted (message.Open m)) k p e =
      let t = if_some (gives_plan self d (plan_held self d) m.evidence) (plan_in_open m) p e in
      let b = map_some (λ (b : OpenBody). (m.evidence.view, record { base = b.stable; batches = b.batches })) (whole_body m.body) p t.1 in
      let is : m.body ≡ Whole b.0 = whole_is m.body b.0 b.1 in
      let f : FitsOpen self.shape m = k.fits in
      let body : FitsOpenBody self.shape m.evidence b.0 = subst (λ (x : Body OpenBody). FitsBody (FitsOpenBody self.shape m.evidence) x) is f.body in
      subst (λ (q : ℕ × Plan). IsGood q.1.base) b.2 (record { fits = body.0.0; claims = all_in_good Good (stable_claims b.0.stable) (λ c i. k.claims c (open_claims_in m b.0 is c i)) })
  plan_good d e k p is = absurd cc

  pub held_plan_good : (d : History) → AllKnown d → (p : ℕ × Plan) → plan_held self d ≡ Some p → IsGood p.1.base
  unfolding plan_held
  held_plan_good [] k p e = absurd cc
  held_plan_good (x ∷ d) k p e = elim (or_some (plan_in self d (plan_held self d) x) (plan_held self d) p e) [
    | inl new ↦ plan_good d x k.0 p new
    | inr old ↦ held_plan_good d k.1 p old
  ]

  -- ---- the stable position

  of_plan : (d : History) (x : Entry) → Known self Good Text x d → (c : StableCert) → plan_base (plan_in self d (plan_held self d) x) ≡ Some c → IsGood c
  of_plan d x k c e = go (plan_in self d (plan_held self d) x) refl e where
    go : (o : Option (ℕ × Plan)) → plan_in self d (plan_held self d) x ≡ o → plan_base o ≡ Some c → IsGood c
    go None is e = absurd cc
    go (Some p) is e = subst IsGood (some_is p.1.base c e) (plan_good d x k p is)

  join_claims_in : (m : JoinMessage) (c : Claim) → In (stable_claims m.stable) c → In (inner_claims self.shape (bare.Join m.view m.evidence m.stable)) c
  join_claims_in m c i = go m.evidence refl where
    go : (e : Option Evidence) → m.evidence ≡ e → In (inner_claims self.shape (bare.Join m.view m.evidence m.stable)) c
    go None is = rw is i
    go (Some e) is = rw is (in_right (evidence_claims self.shape e) (stable_claims m.stable) c i)

  log_claims_in : (l : Log) (c : Claim) → In (stable_claims l.stable) c → In (claims_in self.shape (message.Log l)) c
  unfolding claims_in
  log_claims_in l c i = in_left (inside_some floor_claims l.floor ++ stable_claims l.stable ++ inside_some (evidence_claims self.shape) l.evidence) (flat_map (stamped_claims self.shape) l.entries) c
      (in_left (inside_some floor_claims l.floor ++ stable_claims l.stable) (inside_some (evidence_claims self.shape) l.evidence) c (in_right (inside_some floor_claims l.floor) (stable_claims l.stable) c i))

  learnt_good : (d : History) (x : Entry) → AllKnown (x ∷ d) → (low : ℕ) → low % interval self.shape ≡ 0 → (c : StableCert) → learnt_in self d low x ≡ Some c → IsGood c
  learnt_good d (Accepted (message.Join m)) k low whole c e =
      let f : FitsJoin self.shape m = k.0.fits in
      subst IsGood (some_is m.stable c e) (record { fits = f.stable; claims = all_in_good Good (stable_claims m.stable) (λ x i. k.0.claims x (inner_claim_in self.shape (stamped.Join m) x (join_claims_in m x i))) })
  learnt_good d (Accepted (message.Log l)) k low whole c e =
      let f : FitsLog self.shape l = k.0.fits in
      subst IsGood (some_is l.stable c e) (record { fits = f.stable; claims = all_in_good Good (stable_claims l.stable) (λ x i. k.0.claims x (log_claims_in l x i)) })
  learnt_good d (Accepted (message.Checkpoint m)) k low whole c e =
      above_good (Accepted (message.Checkpoint m) ∷ d) k low whole c (if_some (nat_le low m.pos) (agreed_above self.shape (Accepted (message.Checkpoint m) ∷ d) low) c e).1
  learnt_good d (Stamped (stamped.Checkpoint m)) k low whole c e =
      above_good (Stamped (stamped.Checkpoint m) ∷ d) k low whole c (if_some (nat_le low m.pos) (agreed_above self.shape (Stamped (stamped.Checkpoint m) ∷ d) low) c e).1
  learnt_good d x k low whole c e = of_plan d x k.0 c e

  further_good : (old : StableCert) (x : Option StableCert) → IsGood old → ((c : StableCert) → x ≡ Some c → IsGood c) → IsGood (further old x)
  further_good old None o new = o
  further_good old (Some c) o new = elim (cases_Bool (nat_lt old.pos c.pos)) [
    | inl more ↦ rw more (new c refl)
    | inr less ↦ rw less o
  ]

  pub stable_good : (d : History) → AllKnown d → IsGood (stable_of self d)
  unfolding stable_of
  stable_good [] k = none_good
  stable_good (x ∷ d) k = let before = stable_good d k.1 in further_good (stable_of self d) (learnt_in self d (stable_of self d).pos x) before (learnt_good d x k (stable_of self d).pos before.fits.pos.1)
