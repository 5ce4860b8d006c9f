-- The members of a stable certificate that a correct host holds were issued: the host knows of each (`all_known`), so that one stands in a delivered
-- message, which is clean, or it stamped it itself.
use Rattle.std.proofs.Common.{◌≡◌, ℕ, ◌+◌, true, List, [], ◌∷◌, length, refl, sym, ap, subst, ◌∙◌, inl, inr, eqb, Some}
use Rattle.std.specs.Prelude.{option_and_then}
use Rattle.std.specs.List.{AllByRecursion}
use Rattle.std.proofs.lemmas.Bool.{cases_Bool}
use Rattle.mb_base.specs.Shapes.{Bytes}
use Rattle.mb_parts.specs.Bares.{Bare, bare_bytes}
use Rattle.mb_parts.specs.BareReading.{bare_of_bytes}
use Rattle.mb_parts.specs.Claims.{Claim, stable_claims}
use Rattle.mb_parts.specs.CheckedCertificates.{Carries}
use Rattle.mb_parts.specs.Counters.{at_counter}
use Rattle.mb_parts.specs.Fits.{FitsBare}
use Rattle.mb_parts.specs.Issued.{stamped_at, is_issued}
use Rattle.mb_parts.proofs.BareLaws.{bare_again}
use Rattle.mb_parts.proofs.IssuedLaws.{issued_again}
use Rattle.mb_model.specs.Histories.{History, said}
use Rattle.mb_model.specs.Stable.{stable_of}
use Rattle.mb_model.specs.Verified.{verifies}
use Rattle.mb_model.proofs.Members.{in_contained}
use Rattle.mb_steps.specs.Arises.{Arises}
use Rattle.mb_promise.specs.Justification.{IsGiven, IsKnown}
use Rattle.mb_world_model.specs.WorldEvents.{IsCorrect}
use Rattle.mb_world_model.specs.World.{World, System, self_of, stamps}
use Rattle.mb_world_model.specs.WorldRecord.{issued}
use Rattle.mb_host_laws.proofs.Cases.{some_is}
use Rattle.mb_host_laws.proofs.Found.{bytes_at, each_carries}
use Rattle.mb_world_laws.proofs.Facts.{Facts}
use Rattle.mb_host_laws.proofs.Moments.{IsPast}
use Rattle.mb_one_log.proofs.Executions.{past_adds}
use Rattle.mb_views.proofs.KnownMembers.{all_known}

said_fits : (P : Bare → Type 0) (l : List Bare) (n : ℕ) (b : Bare) → AllByRecursion P l → at_counter l n ≡ Some b → P b
said_fits P [] n b a e = absurd cc
said_fits P (x ∷ l) n b a e = elim (cases_Bool (eqb n (length l + 1))) [
  | inl same ↦ subst P (some_is x b (rw same at e)) a.0
  | inr other ↦ said_fits P l n b a.1 (rw other at e)
]

module _ {S : Type 0} (system : System S) (w : World) (f : Facts system w) where
  -- What a correct host said was issued.
  own_issued : (h n : ℕ) (b : Bare) (c : Claim) → IsCorrect system.schedule h → at_counter (said (w.histories h)) n ≡ Some b → c.host ≡ h → c.counter ≡ n → c.says ≡ b → issued system.schedule w c ≡ true
  own_issued h n b c correct e host counter says =
      let fits : FitsBare system.schedule.shape b = said_fits (FitsBare system.schedule.shape) (said (w.histories h)) n b (f.fits h correct) e in
      let bytes : at_counter (stamps system.schedule w h) n ≡ Some (bare_bytes b) = rw correct.1 (bytes_at (said (w.histories h)) n b e) in
      let found : stamped_at system.schedule.shape (stamps system.schedule w) h n ≡ Some b = ap (option_and_then (bare_of_bytes system.schedule.shape)) bytes ∙ bare_again system.schedule.shape f.shape b fits in
      issued_again system.schedule.shape (stamps system.schedule w) c
      (subst (λ (i : ℕ). stamped_at system.schedule.shape (stamps system.schedule w) i c.counter ≡ Some c.says) (sym host)
      (subst (λ (i : ℕ). stamped_at system.schedule.shape (stamps system.schedule w) h i ≡ Some c.says) (sym counter) (found ∙ ap Some (sym says))))

  given_issued : (h : ℕ) (c : Claim) → IsGiven system.schedule w h c → issued system.schedule w c ≡ true
  given_issued h c x = (f.standing.clean h x.message (record { bytes = x.bytes; delivered = in_contained (w.given h) x.bytes x.delivered; reads = x.reads })).issues c (in_contained _ c x.holds) x.verifies

  -- It does not matter under which tag.
  same_claim : (c : Claim) (cert : Bytes) → issued system.schedule w (record { host = c.host; counter = c.counter; says = c.says; cert = cert }) ≡ true → issued system.schedule w c ≡ true
  unfolding is_issued
  same_claim c cert e = e

  known_issued : (h : ℕ) (c : Claim) → IsCorrect system.schedule h → IsKnown system.schedule w h c.host c.counter c.says → issued system.schedule w c ≡ true
  known_issued h c correct (inl (host, own)) = own_issued h c.counter c.says c correct own host refl refl
  known_issued h c correct (inr (cert, given)) = same_claim c cert (given_issued h (record { host = c.host; counter = c.counter; says = c.says; cert = cert }) given)

  pub stable_issued : (h : ℕ) (d : History) → IsCorrect system.schedule h → IsPast d (w.histories h) → Carries (verifies system.schedule.secret) (issued system.schedule w) (stable_claims (stable_of (self_of system h) d))
  stable_issued h d correct past =
      let arises : Arises (self_of system h) d = past_adds (self_of system h) past.later d (subst (λ (y : History). Arises (self_of system h) y) (sym past.is) (f.arises h)) in
      each_carries (verifies system.schedule.secret) (issued system.schedule w) (stable_claims (stable_of (self_of system h) d)) (λ c i v. known_issued h c correct ((all_known system w f h correct d past arises).stable c i v))
