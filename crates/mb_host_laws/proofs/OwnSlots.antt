-- A slot has the counter and the certificate of its PREPARE, which is good, or lies in an opened view at or below the last position of the own list.
use Rattle.std.proofs.Common.{◌≡◌, ℕ, ◌+◌, ◌≤◌, Bool, true, false, ◌&&◌, ◌||◌, List, [], ◌∷◌, length, refl, sym, ap, subst, ◌∙◌, inl, inr, ◌⊎◌, eqb, arith, Some}
use Rattle.std.specs.Prelude.{◌==◌, ◌-◌, not, nat_le, nat_lt, slice_get, if◌then◌else◌, option_map, option_and_then}
use Rattle.std.specs.List.{list_any}
use Rattle.std.proofs.lemmas.Bool.{and_parts, eqb-true, leb-true, ltb-true}
use Rattle.std.proofs.lemmas.Option.{slice_get_within}
use Rattle.mb_base.specs.Shapes.{Bytes, primary}
use Rattle.mb_parts.specs.declared.batch.Batch.{Batch}
use Rattle.mb_parts.specs.Spelling.{batch_bytes}
use Rattle.mb_parts.specs.Bares.{Bare, batch_digest}
use Rattle.mb_parts.specs.Bares as bare
use Rattle.mb_parts.specs.Claims.{Claim, prepare_claim}
use Rattle.mb_parts.specs.Fits.{IsCounter, IsDigest}
use Rattle.mb_parts.specs.Ordered.{initial_floor, is_opening, is_opened, last_position, permits}
use Rattle.mb_parts.proofs.OrderedParts.{head}
use Rattle.mb_msg.specs.declared.message.Body.{Body}
use Rattle.mb_msg.specs.declared.message.Body.TheVariants.{Whole, Bare as Short}
use Rattle.mb_msg.specs.declared.message.Message.TheVariants as message
use Rattle.mb_msg.specs.declared.normal.Prepare.{Prepare as PrepareMessage}
use Rattle.mb_msg.specs.declared.change.Open.{Open as OpenMessage}
use Rattle.mb_msg.specs.declared.change.OpenBody.{OpenBody}
use Rattle.mb_msg.specs.declared.stamped.Stamped.{Stamped as StampedMessage}
use Rattle.mb_msg.specs.declared.stamped.Stamped.TheVariants as stamped
use Rattle.mb_msg.specs.Bodies.{body_digest, whole_body}
use Rattle.mb_msg.specs.Fits.{FitsPrepare}
use Rattle.mb_msg.specs.Stamps.{bare_of, ui_of}
use Rattle.mb_model.specs.declared.known.KnownSlot.{KnownSlot}
use Rattle.mb_model.specs.GateChecks.{stamp_claim}
use Rattle.mb_model.specs.Histories.{Entry, Accepted, Stamped, History, Identity, origin, taken_of, said, stamped as all_stamped}
use Rattle.mb_steps.specs.OwnLists.{inner}
use Rattle.mb_model.specs.Positions.{batch_from, slot_of_plan, slot_of_prepare, slot_of_open, slot_by, slot_in}
use Rattle.mb_model.proofs.Options.{if_some, map_some}
use Rattle.mb_steps.specs.Arises.{Arises, Makes}
use Rattle.mb_steps.proofs.StepOwnSteady.{found_slot}
use Rattle.mb_steps.proofs.StepHeldEvidence.{prepare_by_primary}
use Rattle.mb_steps.proofs.StepOwnStamped.{steady}
use Rattle.mb_host_laws.proofs.Cases.{some_is}
use Rattle.mb_host_laws.specs.Rests.{Each}
use Rattle.mb_host_laws.proofs.PartClaims.{own_claim_in}
use Rattle.mb_host_laws.proofs.OwnKnown.{KnownStamp, Known}

-- ---- an opened view stays open, and its last position never falls

module _ {S : Type 0} (self : Identity S) where
  abbrev pub IsOpened : List Bare → ℕ → Type 0
  IsOpened l v = is_opened initial_floor l v ≡ true

  stays_open : (m : Bare) (l : List Bare) (v : ℕ) → IsOpened l v → IsOpened (m ∷ l) v
  unfolding is_opened
  stays_open m l v e = grow (is_opening v m) (list_any (is_opening v) l) (eqb 0 v && true) e where
    grow : (a b c : Bool) → (b || c) ≡ true → ((a || b) || c) ≡ true
    grow true b c e = refl
    grow false b c e = e

  abbrev IsPermitted : List Bare → Bare → Type 0
  IsPermitted l m = permits initial_floor self.shape self.host (inner self) l m ≡ true

  at_least : (w v q last : ℕ) (b : Bool) → (w == v) ≡ b → (w ≡ v → last ≤ q) → last ≤ (if b then q else last)
  at_least w v q last true e f = f (eqb-true w v e)
  at_least w v q last false e f = omega arith

  last_more : (m : Bare) (l : List Bare) (v : ℕ) → IsPermitted l m → IsOpened l v → last_position initial_floor l v ≤ last_position initial_floor (m ∷ l) v
  unfolding last_position permits
  last_more (bare.Prepare w q d) l v p o =
      let a = and_parts (is_opened initial_floor l w) (q == last_position initial_floor l w + 1) (and_parts (self.host == primary self.shape w) _ (and_parts _ _ p).1).1 in
      at_least w v q (last_position initial_floor l v) (w == v) refl (λ same. let next : q ≡ last_position initial_floor l w + 1 = eqb-true q (last_position initial_floor l w + 1) a.1 in subst (λ (x : ℕ). last_position initial_floor l x ≤ q) same (omega (arith, next)))
  last_more (bare.Commit w q n c d) l v p o =
      let a = and_parts (is_opened initial_floor l w) (q == last_position initial_floor l w + 1 && inner self (bare.Commit w q n c d)) (and_parts (not (self.host == primary self.shape w)) _ (and_parts _ _ p).1).1 in
      let b = and_parts (q == last_position initial_floor l w + 1) (inner self (bare.Commit w q n c d)) a.1 in
      at_least w v q (last_position initial_floor l v) (w == v) refl (λ same. let next : q ≡ last_position initial_floor l w + 1 = eqb-true q (last_position initial_floor l w + 1) b.0 in subst (λ (x : ℕ). last_position initial_floor l x ≤ q) same (omega (arith, next)))
  last_more (bare.Open e d) l v p o =
      let a = and_parts (not (is_opened initial_floor l e.view)) _ (and_parts _ _ p).1 in
      at_least e.view v e.end (last_position initial_floor l v) (e.view == v) refl (λ same. absurd (clash (is_opened initial_floor l e.view) (subst (λ (x : ℕ). IsOpened l x) (sym same) o) a.0)) where
        clash : (b : Bool) → b ≡ true → not b ≡ true → ⊥
        clash b x y = absurd cc
  last_more (bare.Join w e c) l v p o =
      let a = and_parts (nat_le _ c.pos) _ (and_parts (w == 0 || not (self.host == primary self.shape w) || _ || is_opened initial_floor l w) _ (and_parts _ _ p).1).1 in
      let b = and_parts (not (is_opened initial_floor l w) || nat_le (last_position initial_floor l w) c.pos) (inner self (bare.Join w e c)) a.1 in
      at_least w v c.pos (last_position initial_floor l v) (w == v) refl (λ same. subst (λ (x : ℕ). last_position initial_floor l x ≤ c.pos) same
      (leb-true (last_position initial_floor l w) c.pos (second (is_opened initial_floor l w) (nat_le (last_position initial_floor l w) c.pos) (subst (λ (x : ℕ). IsOpened l x) (sym same) o) b.0))) where
        second : (x y : Bool) → x ≡ true → (not x || y) ≡ true → y ≡ true
        second true y e f = f
        second false y e f = absurd cc
  last_more (bare.ViewChange w d) l v p o = omega arith
  last_more (bare.NewView w b e q d) l v p o = omega arith
  last_more (bare.Enter w c q) l v p o = omega arith
  last_more (bare.Checkpoint q t d) l v p o = omega arith

  -- The view was opened, and the position is at or below its last one.
  abbrev pub IsBehind : List Bare → ℕ → ℕ → Type 0
  IsBehind l v p = IsOpened l v × (p ≤ last_position initial_floor l v)

  -- What is behind the own list stays behind it.
  pub behind_stays : (d : History) (x : Entry) → Arises self (x ∷ d) → (v p : ℕ) → IsBehind (said d) v p → IsBehind (said (x ∷ d)) v p
  unfolding all_stamped
  behind_stays d (Stamped m) a v p b =
      let h : IsPermitted (said d) (bare_of m) = head initial_floor self.shape self.host (inner self) (bare_of m) (said d) (steady self (Stamped m ∷ d) a).list.ordered in
      let more = last_more (bare_of m) (said d) v h b.0 in
      (stays_open (bare_of m) (said d) v b.0, omega (arith, b.1, more))
  behind_stays d x a v p b = b

module _ {S : Type 0} (self : Identity S) (Good : Claim → Type 0) (Text : Bytes → Type 0) where
  abbrev AllKnown : History → Type 0
  AllKnown d = Each (Known self Good Text) d

  pub record GoodSlot (l : List Bare) (v p : ℕ) (k : KnownSlot) : Type 0 where
    pub counter : IsCounter k.counter
    pub cert : IsDigest k.cert
    pub named : (r : Batch) → k.batch ≡ Some r → batch_digest r ≡ k.digest
    pub from : Good (prepare_claim self.shape v p k.counter k.cert k.digest) ⊎ IsBehind self l v p

  body_named : (b : Body Batch) (r : Batch) → whole_body b ≡ Some r → batch_digest r ≡ body_digest batch_bytes b
  body_named (Whole q) r e = ap (λ (x : Batch). batch_digest x) (sym (some_is q r e))
  body_named (Short d) r e = absurd cc

  prepare_good : (l : List Bare) (m : PrepareMessage) (v p : ℕ) (k : KnownSlot) → slot_of_prepare m v p ≡ Some k → IsCounter m.ui.counter → IsDigest m.ui.cert → m.ui.host ≡ primary self.shape m.view → Good (stamp_claim (stamped.Prepare m)) → GoodSlot l v p k
  prepare_good l m v p k e counter cert leads good =
      let made : KnownSlot = record { counter = m.ui.counter; cert = m.ui.cert; digest = body_digest batch_bytes m.body; batch = whole_body m.body } in
      let t = if_some (m.view == v && m.pos == p) (Some made) k e in
      let a = and_parts (m.view == v) (m.pos == p) t.0 in
      let claim : Good (prepare_claim self.shape m.view m.pos m.ui.counter m.ui.cert (body_digest batch_bytes m.body)) =
      subst (λ (h : ℕ). Good (record { host = h; counter = m.ui.counter; says = bare.Prepare m.view m.pos (body_digest batch_bytes m.body); cert = m.ui.cert })) leads good in
      subst (GoodSlot l v p) (some_is made k t.1) (record {
        counter = counter;
        cert = cert;
        named = body_named m.body;
        from = inl (subst (λ (x : ℕ). Good (prepare_claim self.shape x p m.ui.counter m.ui.cert (body_digest batch_bytes m.body))) (eqb-true m.view v a.0) (subst (λ (y : ℕ). Good (prepare_claim self.shape m.view y m.ui.counter m.ui.cert (body_digest batch_bytes m.body))) (eqb-true m.pos p a.1) claim));
      })

  -- what was so stays so
  grows : (d : History) (x : Entry) → Arises self (x ∷ d) → (v p : ℕ) (k : KnownSlot) → GoodSlot (said d) v p k → GoodSlot (said (x ∷ d)) v p k
  grows d x a v p k g = record {
    counter = g.counter;
    cert = g.cert;
    named = g.named;
    from = elim g.from [
      | inl good ↦ inl good
      | inr b ↦ inr (behind_stays self d x a v p b)
    ];
  }

  -- a batch of the plan of an own OPEN
  opened_slot : (d : History) (m : OpenMessage) → KnownStamp self Good Text (stamped.Open m) → (v p : ℕ) (k : KnownSlot) → slot_of_open m v p ≡ Some k → GoodSlot (said (Stamped (stamped.Open m) ∷ d)) v p k
  unfolding all_stamped is_opened last_position
  opened_slot d m f v p k e =
      let t = if_some (m.evidence.view == v) (option_map (slot_of_plan m.evidence) (option_and_then (λ b. batch_from m.evidence.base p b.batches) (whole_body m.body))) k e in
      let r = map_some (slot_of_plan m.evidence) (option_and_then (λ b. batch_from m.evidence.base p b.batches) (whole_body m.body)) k t.1 in
      let same : m.evidence.view ≡ v = eqb-true m.evidence.view v t.0 in
      let low : p ≤ m.evidence.end = within m.body f.body.1 r.0 r.1 in
      subst (GoodSlot (bare_of (stamped.Open m) ∷ said d) v p) r.2 (record {
        counter = f.bare.0.counter;
        cert = f.bare.0.cert;
        named = λ q is. ap (λ (x : Batch). batch_digest x) (sym (some_is r.0 q is));
        from = inr (
          subst (λ (b : Bool). ((b || list_any (is_opening v) (said d)) || (eqb 0 v && true)) ≡ true) (sym t.0) refl,
          subst (λ (b : Bool). p ≤ (if b then m.evidence.end else last_position initial_floor (said d) v)) (sym t.0) low,
        );
      }) where
        within : (b : Body OpenBody) → ((x : OpenBody) → b ≡ Whole x → m.evidence.base + length x.batches ≡ m.evidence.end) → (r : Batch) → option_and_then (λ x. batch_from m.evidence.base p x.batches) (whole_body b) ≡ Some r → p ≤ m.evidence.end
        within (Whole x) ends r e =
            let t = if_some (nat_lt m.evidence.base p) (slice_get x.batches (p - m.evidence.base - 1)) r e in
            omega (arith, ltb-true m.evidence.base p t.0, slice_get_within x.batches (p - m.evidence.base - 1) r t.1, ends x refl)
        within (Short d) ends r e = absurd cc

  new_slot : (d : History) (x : Entry) → Arises self (x ∷ d) → Known self Good Text x d → (v p : ℕ) (k : KnownSlot) → slot_by x v p ≡ Some k → GoodSlot (said (x ∷ d)) v p k
  unfolding all_stamped
  new_slot d (Accepted (message.Prepare m)) a f v p k e =
      let t : FitsPrepare self.shape m = f.fits in
      prepare_good (said (Accepted (message.Prepare m) ∷ d)) m v p k e t.ui.counter t.ui.cert
      (prepare_by_primary (origin d m.ui.host) self.shape m.ui.host _ (taken_of d m.ui.host) m.view m.pos _ a.0.gate.permitted)
      (f.claims (stamp_claim (stamped.Prepare m)) (own_claim_in self.shape (stamped.Prepare m)))
  new_slot d (Stamped (stamped.Prepare m)) a f v p k e =
      let h : IsPermitted self (said d) (bare_of (stamped.Prepare m)) = head initial_floor self.shape self.host (inner self) (bare_of (stamped.Prepare m)) (said d) (steady self (Stamped (stamped.Prepare m) ∷ d) a).list.ordered in
      let leads : self.host ≡ primary self.shape m.view = prepare_by_primary initial_floor self.shape self.host (inner self) (said d) m.view m.pos (body_digest batch_bytes m.body) h in
      prepare_good (said (Stamped (stamped.Prepare m) ∷ d)) m v p k e f.ui.counter f.ui.cert (mine (a.0) ∙ leads) f.claim where
        mine : Makes self d (stamped.Prepare m) → m.ui.host ≡ self.host
        mine (q, r, e, is) = ap (λ (y : StampedMessage). (ui_of y).host) (sym is)
  new_slot d (Stamped (stamped.Open m)) a f v p k e = opened_slot d m f v p k e
  new_slot d x a f v p k e = absurd cc

  pub slot_good : (d : History) → Arises self d → AllKnown d → (v p : ℕ) (k : KnownSlot) → slot_in self d v p ≡ Some k → GoodSlot (said d) v p k
  unfolding slot_in
  slot_good [] a f v p k e = absurd cc
  slot_good (x ∷ d) a f v p k e = elim (found_slot self d x v p k e) [
    | inl before ↦ grows d x a v p k (slot_good d a.1 f.1 v p k before)
    | inr new ↦ new_slot d x a f.0 v p k new
  ]
