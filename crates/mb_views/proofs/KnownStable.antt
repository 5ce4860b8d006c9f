-- The members of the stable certificate that a correct host holds are known to it: it stamped those CHECKPOINTs, or was given their certificates.
--
-- Such a certificate comes of a JOIN or a LOG, of kept CHECKPOINTs (`above_known`), or is the base of a plan. A base is shown by VIEW_CHANGEs or an OPEN that
-- came with all their certificates, or by the own VIEW_CHANGE, which shows the own stable certificate and those of own JOINs and OPENs. So all that a
-- host holds is known by one induction on its history (`all_known`).
use Rattle.std.proofs.Common.{◌≡◌, ℕ, List, [], ◌∷◌, ◌++◌, refl, subst, inr, Some, None}
use Rattle.std.specs.List.{AllByRecursion, flat_map}
use Rattle.mb_parts.specs.declared.batch.Batch.{Batch}
use Rattle.mb_parts.specs.declared.certificates.StableCert.{StableCert}
use Rattle.mb_parts.specs.Claims.{Claim, stable_claims, floor_claims, evidence_claims}
use Rattle.mb_msg.specs.declared.message.Body.{Body}
use Rattle.mb_msg.specs.declared.message.Body.TheVariants.{Whole, Bare as Short}
use Rattle.mb_msg.specs.declared.message.Message.{Message}
use Rattle.mb_msg.specs.declared.change.OpenBody.{OpenBody}
use Rattle.mb_msg.specs.declared.change.ChangeBody.{ChangeBody}
use Rattle.mb_msg.specs.declared.change.ViewChange.{ViewChange}
use Rattle.mb_msg.specs.declared.stamped.Shown.{Shown}
use Rattle.mb_msg.specs.declared.stamped.Shown.TheVariants as shown
use Rattle.mb_model.specs.UsableLogs.{newest_first}
use Rattle.mb_model.specs.Plans.{ShownLog, body_base, base_shown, no_base}
use Rattle.mb_model.specs.Histories.{Accepted, History, Identity}
use Rattle.mb_model.specs.Held.{shown_log, logs_of, plan_from}
use Rattle.mb_model.specs.Members.{In}
use Rattle.mb_model.proofs.Members.{in_left, in_right}
use Rattle.mb_steps.proofs.StepHeldEvidence.{some_is}
use Rattle.mb_steps.proofs.StepPlanBases.{all_found}
use Rattle.mb_model.specs.Inside.{claims_in, shown_claims, change_claims, member_claims, open_body_claims, open_claims, join_claims}
use Rattle.mb_world_model.specs.WorldEvents.{IsCorrect}
use Rattle.mb_world_model.specs.World.{World, System, self_of}
use Rattle.mb_host_laws.proofs.Found.{all_newest}
use Rattle.mb_world_laws.proofs.Facts.{Facts}
use Rattle.mb_host_laws.proofs.Moments.{IsPast, each_at}
use Rattle.mb_views.proofs.GateGiven.{claim_given}
use Rattle.mb_host_laws.proofs.PlanShows.{ShowsSound, plan_holds}
use Rattle.mb_model.specs.Compared.{inside_some}
use Rattle.mb_msg.specs.Bodies.{inside_whole}
use Rattle.mb_views.proofs.KnownCerts.{IsKnownClaim, IsKnownCert}

module _ {S : Type 0} (system : System S) (w : World) (f : Facts system w) (h : ℕ) (correct : IsCorrect system.schedule h) where
  abbrev self : Identity S
  self = self_of system h

  abbrev Known : StableCert → Type 0
  Known c = IsKnownCert system w f h correct c

  abbrev Claimed : Claim → Type 0
  Claimed c = IsKnownClaim system w f h correct c

  -- ---- what is shown

  -- The certificate that an entry shows as a base is known.
  abbrev pub EntryKnown : Shown → Type 0
  EntryKnown (shown.Open m) = (c : StableCert) → body_base m.body ≡ Some c → Known c
  EntryKnown (shown.Join m) = Known m.stable
  EntryKnown _ = Unit {0}

  pub record BodyKnown (b : ChangeBody) : Type 0 where
    pub stable : Known b.stable
    pub entries : AllByRecursion EntryKnown b.entries

  abbrev pub ChangeKnown : ViewChange → Type 0
  ChangeKnown m = (b : ChangeBody) → m.body ≡ Whole b → BodyKnown b

  base_known : (l : List Shown) → AllByRecursion EntryKnown l → (c : StableCert) → base_shown l ≡ Some c → Known c
  base_known [] a c e = absurd cc
  base_known (shown.Open m ∷ l) a c e = a.0 c e
  base_known (shown.Join m ∷ l) a c e = subst Known (some_is m.stable c e) a.0
  base_known (_ ∷ l) a c e = base_known l a.1 c e

  pub none_known : Known no_base
  none_known x i v = absurd i

  log_known : (m : ViewChange) (log : ShownLog) → ChangeKnown m → shown_log m ≡ Some log → ShowsSound Known (λ (b : Batch). Unit {0}) log
  log_known m log k e = go m.body refl where
    go : (b : Body ChangeBody) → m.body ≡ b → ShowsSound Known (λ (b : Batch). Unit {0}) log
    go (Short d) is = absurd (no (rw is at e)) where
      no : None ≡ Some log → ⊥
      no x = cc
    go (Whole b) is =
        let x : BodyKnown b = k b is in
        subst (ShowsSound Known (λ (b : Batch). Unit {0})) (some_is (record { host = m.ui.host; body = b }) log (rw is at e))
        (record { stable = x.stable; base = base_known (newest_first [] b.entries) (all_newest EntryKnown [] b.entries tt x.entries); batches = λ p z v. tt })

  pub plan_known : (changes : List ViewChange) → AllByRecursion ChangeKnown changes → Known (plan_from self changes).base
  plan_known changes a = (plan_holds Known (λ (b : Batch). Unit {0}) system.schedule.shape none_known (logs_of changes) (all_found ChangeKnown (ShowsSound Known (λ (b : Batch). Unit {0})) shown_log log_known changes a)).0

  -- ---- what was given, with all its certificates

  abbrev AllClaimed : List Claim → Type 0
  AllClaimed l = (x : Claim) → In l x → Claimed x

  pub left : (a b : List Claim) → AllClaimed (a ++ b) → AllClaimed a
  left a b all x i = all x (in_left a b x i)

  pub right : (a b : List Claim) → AllClaimed (a ++ b) → AllClaimed b
  right a b all x i = all x (in_right a b x i)

  given_entry : (e : Shown) → AllClaimed (shown_claims system.schedule.shape e) → EntryKnown e
  unfolding shown_claims
  given_entry (shown.Open m) all = go m.body (right (evidence_claims system.schedule.shape m.evidence) _ (left (open_claims system.schedule.shape m) _ all)) where
    go : (b : Body OpenBody) → AllClaimed (inside_whole open_body_claims b) → (c : StableCert) → body_base b ≡ Some c → Known c
    go (Whole b) all c e = subst Known (some_is b.stable c e) all
    go (Short d) all c e = absurd cc
  given_entry (shown.Join m) all = right (inside_some (evidence_claims system.schedule.shape) m.evidence) (stable_claims m.stable) (left (join_claims system.schedule.shape m) _ all)
  given_entry (shown.Prepare m) all = tt
  given_entry (shown.Commit m) all = tt
  given_entry (shown.Checkpoint m) all = tt
  given_entry (shown.ViewChange m) all = tt
  given_entry (shown.NewView m) all = tt
  given_entry (shown.Enter m) all = tt

  given_entries : (l : List Shown) → AllClaimed (flat_map (shown_claims system.schedule.shape) l) → AllByRecursion EntryKnown l
  given_entries [] all = tt
  given_entries (e ∷ l) all = (given_entry e (left (shown_claims system.schedule.shape e) _ all), given_entries l (right (shown_claims system.schedule.shape e) _ all))

  pub given_change : (m : ViewChange) → AllClaimed (inside_whole (change_claims system.schedule.shape) m.body) → ChangeKnown m
  given_change m all b is =
      let claims : AllClaimed (change_claims system.schedule.shape b) = rw is at all in
      let entries : AllClaimed (flat_map (shown_claims system.schedule.shape) b.entries) = right (inside_some floor_claims b.floor ++ stable_claims b.stable) _ claims in
      let stable : AllClaimed (stable_claims b.stable) = right (inside_some floor_claims b.floor) (stable_claims b.stable) (left (inside_some floor_claims b.floor ++ stable_claims b.stable) _ claims) in
      record { stable = stable; entries = given_entries b.entries entries }

  pub given_changes : (l : List ViewChange) → AllClaimed (flat_map (member_claims system.schedule.shape) l) → AllByRecursion ChangeKnown l
  given_changes [] all = tt
  given_changes (m ∷ l) all =
      (given_change m (left (inside_whole (change_claims system.schedule.shape) m.body) _ (left (member_claims system.schedule.shape m) _ all)), given_changes l (right (member_claims system.schedule.shape m) _ all))

  -- all that stands in an accepted message
  pub accepted_claims : (m : Message) (d : History) → IsPast (Accepted m ∷ d) (w.histories h) → AllClaimed (claims_in system.schedule.shape m)
  accepted_claims m d past x i v = inr (x.cert, claim_given system w f h m d (each_at _ (Accepted m ∷ d) (w.histories h) past (f.standing.rests h)).0 x i v)
