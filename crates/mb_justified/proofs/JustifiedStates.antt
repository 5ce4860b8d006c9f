-- Each state that a correct host installs is justified: f+1 hosts stamped CHECKPOINTs of its position with its digest, as the host knows.
--
-- The stable certificate at that moment verifies, its members are known (`all_known`), and the digest of the parts is the one that it gives (`certified`).
use Rattle.std.proofs.Common.{◌≡◌, ℕ, ◌<◌, true, ◌&&◌, List, [], ◌∷◌, length, refl, sym, ap, subst, ◌∙◌, inl, inr, arith}
use Rattle.std.specs.Prelude.{◌==◌, Contains, map, nat_lt}
use Rattle.std.specs.List.{list_all}
use Rattle.std.proofs.lemmas.Bool.{and_parts, eqb-true, or_cases}
use Rattle.std.proofs.lemmas.List.{length-map}
use Rattle.mb_base.specs.Shapes.{Bytes, quorum, host_count}
use Rattle.mb_parts.specs.declared.certificates.StableCert.{StableCert}
use Rattle.mb_parts.specs.declared.certificates.StableMember.{StableMember}
use Rattle.mb_parts.specs.Bares as bare
use Rattle.mb_parts.specs.Claims.{Claim, are_rising, stable_claims}
use Rattle.mb_parts.specs.Certificates.{is_stable}
use Rattle.mb_model.specs.Verified.{verifies}
use Rattle.mb_model.specs.States.{state_digest}
use Rattle.mb_model.specs.Histories.{Installed, History, Identity}
use Rattle.mb_model.specs.Stable.{stable_of}
use Rattle.mb_model.specs.Members.{In}
use Rattle.mb_model.proofs.Members.{in_contained}
use Rattle.mb_steps.specs.Arises.{Arises}
use Rattle.mb_steps.proofs.StepHeldStable.{stable_checks}
use Rattle.mb_model.specs.Inside.{claims_in}
use Rattle.mb_world_model.specs.WorldEvents.{IsCorrect}
use Rattle.mb_world_model.specs.World.{World, System, self_of}
use Rattle.mb_promise.specs.Justification.{IsKnown, IsJustifiedState}
use Rattle.mb_host_laws.proofs.Cases.{all_holds}
use Rattle.mb_world_laws.proofs.Facts.{Facts}
use Rattle.mb_world_laws.proofs.Grown.{IsGivenTo}
use Rattle.mb_views.proofs.EvidenceHost.{issued_host}
use Rattle.mb_one_log.proofs.Executions.{in_past}
use Rattle.mb_host_laws.proofs.Moments.{IsPast, past_tail, arises_by}
use Rattle.mb_one_log.proofs.StateDigests.{IsCertified, certified}
use Rattle.mb_views.proofs.KnownMembers.{all_known}

-- ---- members of a certificate

-- what stands in a list of hosts stands there with its member
member_host : (l : List StableMember) (g : ℕ) → In (map (λ m. m.host) l) g → (m : StableMember) × In l m × (m.host ≡ g)
member_host [] g i = absurd i
member_host (m ∷ l) g (inl is) = (m, inl refl, is)
member_host (m ∷ l) g (inr i) = let r = member_host l g i in (r.0, inr r.1, r.2)

in_mapped : {A B : Type 0} (t : A → B) (l : List A) (x : A) → In l x → In (map t l) (t x)
in_mapped t [] x i = absurd i
in_mapped t (y ∷ l) x (inl is) = inl (ap t is)
in_mapped t (y ∷ l) x (inr i) = inr (in_mapped t l x i)

says_is : (p q : ℕ) (a b x : Bytes) → p ≡ q → a ≡ b → bare.Checkpoint p a x ≡ bare.Checkpoint q b x
says_is p q a b x e g = cc

module _ {S : Type 0} (system : System S) (w : World) (f : Facts system w) (h : ℕ) (correct : IsCorrect system.schedule h) where
  abbrev self : Identity S
  self = self_of system h

  -- ---- an installed state

  pub record HasMembers (c : StableCert) : Type 0 where
    pub many : length c.members ≡ quorum system.schedule.shape
    pub rising : are_rising (map (λ m. m.host) c.members) ≡ true
    pub valid : list_all (verifies system.schedule.secret) (stable_claims c) ≡ true

  has_members : (c : StableCert) → is_stable system.schedule.shape (verifies system.schedule.secret) c ≡ true → 0 < c.pos → HasMembers c
  unfolding is_stable
  has_members c e above = elim (or_cases (c.pos == 0 && length c.members == 0) _ e) [
    | inl none ↦ absurd (omega (arith, above, eqb-true c.pos 0 (and_parts (c.pos == 0) _ none).0))
    | inr some ↦
        let a = and_parts (nat_lt 0 c.pos) _ some in
        let b = and_parts (length c.members == quorum system.schedule.shape) _ a.1 in
        let r = and_parts (are_rising (map (λ m. m.host) c.members)) _ b.1 in
        record { many = eqb-true _ _ b.0; rising = r.0; valid = r.1 }
  ]

  -- a host that is known to have stamped is one
  known_host : (c : Claim) → verifies system.schedule.secret c ≡ true → IsKnown system.schedule w h c.host c.counter c.says → c.host < host_count system.schedule.shape
  known_host c v (inl own) = subst (λ (g : ℕ). g < host_count system.schedule.shape) (sym own.0) correct.0
  known_host c v (inr (cert, g)) =
      let given : IsGivenTo system.schedule w h g.message = record { bytes = g.bytes; delivered = in_contained (w.given h) g.bytes g.delivered; reads = g.reads } in
      let claim : Claim = record { host = c.host; counter = c.counter; says = c.says; cert = cert } in
      issued_host system w f claim ((f.standing.clean h g.message given).issues claim (in_contained (claims_in system.schedule.shape g.message) claim g.holds) g.verifies)

  pub installed_justified : (pos : ℕ) (parts : List Bytes) → Contains (w.histories h) (Installed pos parts) → IsJustifiedState system.schedule w h pos parts
  installed_justified pos parts there =
      let at = in_past (w.histories h) (Installed pos parts) (in_contained (w.histories h) (Installed pos parts) there) in
      let d : History = at.0 in
      let past : IsPast d (w.histories h) = past_tail (Installed pos parts) d (w.histories h) at.1 in
      let a : Arises self d = arises_by self past.later d (subst (λ (x : History). Arises self x) (sym past.is) (f.arises h)) in
      let c : IsCertified system w f h d pos parts = certified system w f h pos parts d at.1 in
      let s : StableCert = stable_of self d in
      let place : pos ≡ s.pos = c.place in
      let m : HasMembers s = has_members s (stable_checks self d a) (omega (arith, place, c.above)) in
      let says : (n : StableMember) → bare.Checkpoint s.pos s.state n.floors ≡ bare.Checkpoint pos (state_digest parts pos) n.floors = λ n. says_is s.pos pos s.state (state_digest parts pos) n.floors (sym place) (sym c.state) in
      let member : (n : StableMember) → In s.members n → (n.host < host_count system.schedule.shape) × ((counter : ℕ) × (floors : Bytes) × IsKnown system.schedule w h n.host counter (bare.Checkpoint pos (state_digest parts pos) floors)) =
      λ n i.
      let claim : Claim = record { host = n.host; counter = n.counter; says = bare.Checkpoint s.pos s.state n.floors; cert = n.cert } in
      let in_claims : In (stable_claims s) claim = in_mapped (λ (x : StableMember). record { host = x.host; counter = x.counter; says = bare.Checkpoint s.pos s.state x.floors; cert = x.cert }) s.members n i in
      let v : verifies system.schedule.secret claim ≡ true = all_holds (verifies system.schedule.secret) (stable_claims s) m.valid claim in_claims in
      let known = (all_known system w f h correct d past a).stable claim in_claims v in
      (known_host claim v known, (n.counter, n.floors, subst (λ (b : bare.Bare). IsKnown system.schedule w h n.host n.counter b) (says n) known)) in
      record {
        hosts = map (λ (x : StableMember). x.host) s.members;
        many = length-map s.members (λ (x : StableMember). x.host) ∙ m.many;
        rising = m.rising;
        each = λ g i.
            let r = member_host s.members g (in_contained (map (λ (x : StableMember). x.host) s.members) g i) in
            subst (λ (k : ℕ). (k < host_count system.schedule.shape) × ((counter : ℕ) × (floors : Bytes) × IsKnown system.schedule w h k counter (bare.Checkpoint pos (state_digest parts pos) floors))) r.2 (member r.0 r.1);
      }
