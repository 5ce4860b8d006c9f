-- The ordered prefix of what a correct host stamped is all of it.
--
-- The own list is ordered where certificates verify. Those in it carry over to issued ones, so it is ordered for whoever checked them (`is_sound`),
-- and where they need only be issued. What fits is read back from its bytes, so what was stamped is read as the own list, and an ordered list is its
-- own longest ordered beginning.
use Rattle.std.proofs.Common.{◌≡◌, ℕ, Bool, true, false, ◌&&◌, List, [], ◌∷◌, ◌++◌, length, refl, sym, Some, None}
use Rattle.std.specs.Prelude.{map}
use Rattle.std.specs.List.{AllByRecursion}
use Rattle.std.proofs.lemmas.Bool.{eq-eqb}
use Rattle.std.proofs.lemmas.List.{length-map}
use Rattle.mb_base.specs.Shapes.{IsShape}
use Rattle.mb_base.specs.declared.shape.Shape.{Shape}
use Rattle.mb_parts.specs.Bares.{Bare, bare_bytes}
use Rattle.mb_parts.specs.Bares as bare
use Rattle.mb_parts.specs.BareReading.{bares_of}
use Rattle.mb_parts.specs.Claims.{Claim, inner_claims, stable_claims, evidence_claims}
use Rattle.mb_parts.specs.CheckedCertificates.{Carries}
use Rattle.mb_parts.specs.Certificates.{inner_valid, inner_checked, both}
use Rattle.mb_parts.specs.Ordered.{initial_floor, is_ordered, ordered_prefix}
use Rattle.mb_parts.specs.Fits.{FitsBare}
use Rattle.mb_parts.specs.Issued.{stamped_prefix}
use Rattle.mb_parts.proofs.BareLaws.{bare_again}
use Rattle.mb_parts.proofs.CertificateLaws.{certificate_laws, permits_more, inner_more}
use Rattle.mb_parts.proofs.OrderedParts.{head, tail, ordered_cons, ordered_nil}
use Rattle.mb_parts.proofs.LongestOrdered.{prefix_whole}
use Rattle.mb_model.specs.Verified.{verifies}
use Rattle.mb_model.specs.Histories.{said}
use Rattle.mb_steps.proofs.StepOwnStamped.{steady}
use Rattle.mb_world_model.specs.WorldEvents.{IsCorrect}
use Rattle.mb_world_model.specs.World.{World, System, self_of}
use Rattle.mb_world_model.specs.WorldRecord.{issued, prefix}
use Rattle.mb_promise.specs.Justification.{is_sound}
use Rattle.mb_world_laws.proofs.Facts.{Facts}

module _ (s : Shape) (verified issued : Claim → Bool) where
  pub twice : (claims : List Claim) → Carries verified issued claims → Carries verified (both verified issued) claims
  twice [] h = tt
  twice (c ∷ claims) h = (λ v. both_true (verified c) (issued c) v (h.0 v), twice claims h.1) where
    both_true : (a b : Bool) → a ≡ true → b ≡ true → (a && b) ≡ true
    both_true true true e f = refl
    both_true true false e f = absurd cc
    both_true false b e f = absurd cc

  -- What is valid where it verifies was checked, where its claims carry over.
  pub valid_checked : (m : Bare) → Carries verified issued (inner_claims s m) → inner_valid s verified m ≡ true → inner_checked s verified issued m ≡ true
  unfolding inner_valid
  valid_checked (bare.Commit v p n c d) h e = h.0 e
  valid_checked (bare.Open x d) h e = inner_more s verified (both verified issued) (bare.Open x d) (twice (evidence_claims s x) h) e
  valid_checked (bare.Join v None c) h e = inner_more s verified (both verified issued) (bare.Join v None c) (twice (stable_claims c) h) e
  valid_checked (bare.Join v (Some x) c) h e = inner_more s verified (both verified issued) (bare.Join v (Some x) c) (twice (evidence_claims s x ++ stable_claims c) h) e
  valid_checked (bare.Prepare v p d) h e = refl
  valid_checked (bare.Checkpoint p t d) h e = refl
  valid_checked (bare.ViewChange v d) h e = refl
  valid_checked (bare.NewView v b x p d) h e = refl
  valid_checked (bare.Enter v c p) h e = refl

  ordered_checked : (host : ℕ) (l : List Bare) → AllByRecursion (λ (b : Bare). Carries verified issued (inner_claims s b)) l → is_ordered initial_floor s host (inner_valid s verified) l ≡ true
      → is_ordered initial_floor s host (inner_checked s verified issued) l ≡ true
  ordered_checked host [] a e = ordered_nil initial_floor s host (inner_checked s verified issued)
  ordered_checked host (m ∷ l) a e = ordered_cons initial_floor s host (inner_checked s verified issued) m l
      (permits_more initial_floor s host (inner_valid s verified) (inner_checked s verified issued) l m (valid_checked m a.0) (head initial_floor s host (inner_valid s verified) m l e))
      (ordered_checked host l a.1 (tail initial_floor s host (inner_valid s verified) m l e))

-- What fits is read back from what was stamped.
pub reads_back : (s : Shape) → IsShape s → (l : List Bare) → AllByRecursion (FitsBare s) l → bares_of s (map bare_bytes l) ≡ l
unfolding bares_of
reads_back s k [] a = refl
reads_back s k (m ∷ l) a =
    let before : bares_of s (map bare_bytes l) ≡ l = reads_back s k l a.1 in
    let long : length l ≡ length (map bare_bytes l) = sym (length-map l bare_bytes) in
    rw (before, eq-eqb (length l) (length (map bare_bytes l)) long, bare_again s k m a.0) refl

whole_prefix : (s : Shape) (host : ℕ) (inner : Bare → Bool) (l : List Bare) → is_ordered initial_floor s host inner l ≡ true → ordered_prefix initial_floor s host inner l ≡ l
unfolding ordered_prefix
whole_prefix s host inner [] e = refl
whole_prefix s host inner (m ∷ l) e = prefix_whole initial_floor s host inner m l e

module _ {S : Type 0} (system : System S) (w : World) (f : Facts system w) where
  -- What a correct host stamped stands in order, for whoever checked it.
  pub sound_list : (h : ℕ) → IsCorrect system.schedule h → is_ordered initial_floor system.schedule.shape h (is_sound system.schedule w) (said (w.histories h)) ≡ true
  sound_list h c = ordered_checked system.schedule.shape (verifies system.schedule.secret) (issued system.schedule w) h (said (w.histories h)) (f.knows h c)
      (steady (self_of system h) (w.histories h) (f.arises h)).list.ordered

  pub issued_list : (h : ℕ) → IsCorrect system.schedule h → is_ordered initial_floor system.schedule.shape h (inner_valid system.schedule.shape (issued system.schedule w)) (said (w.histories h)) ≡ true
  issued_list h c = (certificate_laws.checked system.schedule.shape (verifies system.schedule.secret) (issued system.schedule w)).ordered initial_floor h (said (w.histories h)) (sound_list h c)

  -- The ordered prefix of a correct host is all that it stamped.
  pub prefix_said : (h : ℕ) → IsCorrect system.schedule h → prefix system.schedule w h ≡ said (w.histories h)
  unfolding stamped_prefix
  prefix_said h c = rw c.1 (rw (reads_back system.schedule.shape f.shape (said (w.histories h)) (f.fits h c)) (whole_prefix system.schedule.shape h _ (said (w.histories h)) (issued_list h c)))
