-- The plan of VIEW_CHANGEs that were found usable: its base is a stable certificate that verifies and fits, and the requests of its batches have
-- the tags of their clients. For so it is with all bases and batches that usable logs show.
use Rattle.std.proofs.Common.{◌≡◌, ℕ, zero, suc, Bool, true, not, List, [], ◌∷◌, refl, subst, inl, inr, lit<, Option, Some, None}
use Rattle.std.specs.Prelude.{◌==◌, ◌-◌, option_map, nat_lt, slice_get}
use Rattle.std.specs.List.{AllByRecursion, list_all}
use Rattle.std.proofs.Math.Nat.{zero-mod}
use Rattle.std.proofs.lemmas.Bool.{cases_Bool, and_parts, or_parts, not-false}
use Rattle.mb_parts.specs.declared.floor.Floor.{Floor}
use Rattle.mb_parts.specs.declared.batch.Batch.{Batch}
use Rattle.mb_parts.specs.declared.certificates.StableCert.{StableCert}
use Rattle.mb_parts.specs.Certificates.{is_stable, inner_valid}
use Rattle.mb_parts.specs.Fits.{FitsStable}
use Rattle.mb_msg.specs.declared.message.Body.{Body}
use Rattle.mb_msg.specs.declared.message.Body.TheVariants.{Whole, Bare as Short}
use Rattle.mb_msg.specs.declared.change.OpenBody.{OpenBody}
use Rattle.mb_msg.specs.declared.change.ChangeBody.{ChangeBody}
use Rattle.mb_msg.specs.declared.change.ViewChange.{ViewChange}
use Rattle.mb_msg.specs.declared.stamped.Shown.{Shown}
use Rattle.mb_msg.specs.declared.stamped.Shown.TheVariants as shown
use Rattle.mb_msg.specs.Bodies.{FitsBody}
use Rattle.mb_model.specs.Verified.{are_rightly_tagged}
use Rattle.mb_model.specs.UsableLogs.{bares, newest_first, floor_of, fault_from, is_comparable_body, is_sound_batch, is_sound_plan, log_fault}
use Rattle.mb_model.specs.Plans.{ShownLog, ShownVote, body_base, base_shown, vote_with, plan_vote, vote_since, no_base}
use Rattle.mb_model.specs.Histories.{Identity}
use Rattle.mb_model.specs.Held.{change_fault, shown_log, logs_of, plan_from}
use Rattle.mb_model.specs.GateChecks.{valid}
use Rattle.mb_model.proofs.Options.{or_none, then_none, map_some, if_some}
use Rattle.mb_model.proofs.UsableLaws.{AreSound, all_sound}
use Rattle.mb_steps.proofs.StepHeldEvidence.{some_is, join_inside, join_stable_valid}
use Rattle.mb_steps.proofs.StepPlanBases.{all_found}
use Rattle.mb_host_laws.proofs.Found.{all_newest}
use Rattle.mb_host_laws.proofs.PlanFits.{FitsBases, OfBody, OfEntry}
use Rattle.mb_host_laws.proofs.PlanShows.{ShowsSound, plan_holds}

list_member : {A : Type 0} (t : A → Bool) (l : List A) → list_all t l ≡ true → (i : ℕ) (x : A) → slice_get l i ≡ Some x → t x ≡ true
list_member t [] a i x e = absurd cc
list_member t (y ∷ l) a zero x e = subst (λ z. t z ≡ true) (some_is y x e) (and_parts (t y) (list_all t l) a).0
list_member t (y ∷ l) a (suc i) x e = list_member t l (and_parts (t y) (list_all t l) a).1 i x e

module _ {S : Type 0} (self : Identity S) where
  -- A base is a stable certificate that verifies, and fits.
  abbrev pub IsBaseCert : StableCert → Type 0
  IsBaseCert c = (is_stable self.shape (valid self) c ≡ true) × FitsStable self.shape c

  -- Each request of a batch has the tag of its client.
  abbrev pub AreTagged : Batch → Type 0
  AreTagged b = are_rightly_tagged self.secret b ≡ true

  pub none_based : IsBaseCert no_base
  unfolding is_stable
  none_based = (refl, record { pos = (lit< tt, zero-mod self.shape.k); held = (refl, refl) })

  abbrev Sound : ℕ → ℕ → Floor → List Shown → Type 0
  Sound host stable o l = AreSound self.shape self.secret (valid self) host stable o l

  open_based : (b : Body OpenBody) (base end : ℕ) (plan : _) → is_sound_plan self.shape self.secret (valid self) base end plan b ≡ true → OfBody (FitsStable self.shape) b → (c : StableCert) → body_base b ≡ Some c → IsBaseCert c
  open_based (Whole b) base end plan sound fits c e = subst IsBaseCert (some_is b.stable c e) ((and_parts (is_stable self.shape (valid self) b.stable) _ (and_parts (is_comparable_body self.shape self.secret (valid self) base end b) _ sound).0).0, fits)
  open_based (Short digest) base end plan sound fits c e = absurd cc

  base_sound : (host stable : ℕ) (o : Floor) (l : List Shown) → Sound host stable o l → AllByRecursion (OfEntry (FitsStable self.shape)) l → (c : StableCert) → base_shown l ≡ Some c → IsBaseCert c
  base_sound host stable o [] a f c e = absurd cc
  base_sound host stable o (shown.Open m ∷ l) a f c e = open_based m.body m.evidence.base m.evidence.end m.evidence.plan a.0.body f.0 c e
  base_sound host stable o (shown.Join m ∷ l) a f c e = subst IsBaseCert (some_is m.stable c e)
      (join_stable_valid self.shape (valid self) m.view m.evidence m.stable (join_inside o self.shape host (inner_valid self.shape (valid self)) (bares l) m.view m.evidence m.stable a.0.permitted), f.0)
  base_sound host stable o (_ ∷ l) a f c e = base_sound host stable o l a.1 f.1 c e

  batch_tagged : (counter : ℕ) (b : Body Batch) → is_sound_batch self.shape self.secret (valid self) b ≡ true → (z : ShownVote) → vote_with counter b ≡ Some z → AreTagged z.1
  batch_tagged counter (Whole r) sound z e = subst (λ (x : ShownVote). AreTagged x.1) (some_is (counter, r) z e) sound
  batch_tagged counter (Short d) sound z e = absurd cc

  plan_tagged : (base end counter p : ℕ) (plan : _) (b : Body OpenBody) → is_sound_plan self.shape self.secret (valid self) base end plan b ≡ true → (z : ShownVote) → plan_vote base counter p b ≡ Some z → AreTagged z.1
  plan_tagged base end counter p plan (Whole b) sound z e =
      let t = if_some (nat_lt base p) (option_map (λ r. (counter, r)) (slice_get b.batches (p - base - 1))) z e in
      let m = map_some (λ (r : Batch). (counter, r)) (slice_get b.batches _) z t.1 in
      let c = and_parts (is_comparable_body self.shape self.secret (valid self) base end b) _ sound in
      let d = and_parts (is_stable self.shape (valid self) b.stable) _ c.0 in
      let g = and_parts (b.stable.pos == base) _ d.1 in
      let r = and_parts _ (list_all (are_rightly_tagged self.secret) b.batches) g.1 in
      subst (λ (x : ShownVote). AreTagged x.1) m.2 (list_member (are_rightly_tagged self.secret) b.batches r.1 _ m.0 m.1)
  plan_tagged base end counter p plan (Short d) sound z e = absurd cc

  votes_tagged : (host stable : ℕ) (o : Floor) (l : List Shown) → Sound host stable o l → (p : ℕ) (z : ShownVote) → vote_since p l ≡ Some z → AreTagged z.1
  votes_tagged host stable o [] a p z e = absurd cc
  votes_tagged host stable o (shown.Prepare m ∷ l) a p z e = elim (cases_Bool (m.pos == p)) [
    | inl here ↦ batch_tagged m.ui.counter m.body a.0.body z (rw here at e)
    | inr other ↦ votes_tagged host stable o l a.1 p z (rw other at e)
  ]
  votes_tagged host stable o (shown.Commit m ∷ l) a p z e = elim (cases_Bool (m.pos == p)) [
    | inl here ↦ batch_tagged m.counter m.body a.0.body z (rw here at e)
    | inr other ↦ votes_tagged host stable o l a.1 p z (rw other at e)
  ]
  votes_tagged host stable o (shown.Open m ∷ l) a p z e = plan_tagged m.evidence.base m.evidence.end m.evidence.counter p m.evidence.plan m.body a.0.body z e
  votes_tagged host stable o (shown.Join m ∷ l) a p z e = absurd cc
  votes_tagged host stable o (_ ∷ l) a p z e = votes_tagged host stable o l a.1 p z e

  log_sound : (host view counter : ℕ) (b : ChangeBody) → log_fault self.shape self.secret (valid self) host view counter b ≡ None → FitsBases self.shape b → ShowsSound IsBaseCert AreTagged (record { host = host; body = b })
  unfolding log_fault
  log_sound host view counter b e fits = go (floor_of self.shape (valid self) host b.floor) e where
    go : (o : Option Floor) → fault_from self.shape self.secret (valid self) host view counter b o ≡ None → ShowsSound IsBaseCert AreTagged (record { host = host; body = b })
    go None e = absurd cc
    go (Some o) e =
        let a = or_none _ _ e in
        let c = or_none _ _ a.1 in
        let g = or_none _ _ c.1 in
        let sound : Sound host b.stable.pos o (newest_first [] b.entries) = all_sound self.shape self.secret (valid self) host b.stable.pos o [] b.entries g.0 tt in
        record {
          stable = (not-false _ (or_parts (not (is_stable self.shape (valid self) b.stable)) _ (then_none _ _ a.0)).0, fits.stable);
          base = base_sound host b.stable.pos o (newest_first [] b.entries) sound (all_newest (OfEntry (FitsStable self.shape)) [] b.entries tt fits.entries);
          batches = votes_tagged host b.stable.pos o (newest_first [] b.entries) sound;
        }

  -- A VIEW_CHANGE is usable, or shows nothing, and what it shows fits.
  abbrev pub IsSoundChange : ViewChange → Type 0
  IsSoundChange m = (change_fault self m ≡ None) × FitsBody (FitsBases self.shape) m.body

  change_sound : (m : ViewChange) (log : ShownLog) → IsSoundChange m → shown_log m ≡ Some log → ShowsSound IsBaseCert AreTagged log
  change_sound m log u e = go m.body refl u.1 where
    go : (b : Body ChangeBody) → m.body ≡ b → FitsBody (FitsBases self.shape) b → ShowsSound IsBaseCert AreTagged log
    go (Short d) is f = absurd (no (rw is at e)) where
      no : None ≡ Some log → ⊥
      no x = cc
    go (Whole b) is f = subst (ShowsSound IsBaseCert AreTagged) (some_is (record { host = m.ui.host; body = b }) log (rw is at e)) (log_sound m.ui.host m.view m.ui.counter b (rw is at u.0) f)

  -- The plan of such VIEW_CHANGEs has a base, and batches of tagged requests.
  pub changes_sound : (changes : List ViewChange) → AllByRecursion IsSoundChange changes → IsBaseCert (plan_from self changes).base × AllByRecursion AreTagged (plan_from self changes).batches
  changes_sound changes a = plan_holds IsBaseCert AreTagged self.shape none_based (logs_of changes) (all_found IsSoundChange (ShowsSound IsBaseCert AreTagged) shown_log change_sound changes a)
