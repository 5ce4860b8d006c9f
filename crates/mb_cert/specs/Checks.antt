-- What the checks of certificates answer, by cases of the answer. What makes a claim valid is a test: that its tag verifies.
use Rattle.std.specs.Prelude.{◌≡◌, ℕ, suc, Bool, true, false, ◌&&◌, not, length, map, ◌==◌, Option, Some, None, Result, Ok, Err, if◌then◌else◌}
use Rattle.mb_base.specs.Shapes.{max_faults, quorum, primary}
use Rattle.mb_base.specs.declared.shape.Shape.{Shape}
use Rattle.mb_parts.specs.declared.floor.Floor.{Floor}
use Rattle.mb_parts.specs.declared.certificates.StableCert.{StableCert}
use Rattle.mb_parts.specs.declared.certificates.FloorCert.{FloorCert}
use Rattle.mb_parts.specs.declared.certificates.Evidence.{Evidence}
use Rattle.mb_parts.specs.Claims.{Claim, stable_claims, floor_claims, new_view_claim, evidence_claims}
use Rattle.mb_parts.specs.Certificates.{is_stable, floor_for, first_floor, same_floor, certified_floor, is_evidence}
use Rattle.mb_cert.specs.declared.fault.Why.{Why}
use Rattle.mb_cert.specs.declared.fault.Why.TheVariants.{SameHost, BadUi, Differs}
use Rattle.mb_cert.specs.declared.fault.CertFault.{CertFault}
use Rattle.mb_cert.specs.Faults.{rises_at, passes_at, IsFaultOf}

-- how many members a stable certificate of a position has
abbrev pub members_at : Shape → ℕ → ℕ
members_at s pos = if pos == 0 then 0 else quorum s

-- The member of a floor certificate has the floor for the owner that the first has.
abbrev pub agrees_at : ℕ → FloorCert → ℕ → Bool
agrees_at owner c i = passes_at (λ m. same_floor (first_floor owner c.members) (floor_for owner m)) c.members i

-- The member of evidence is of a backup.
abbrev pub backs_at : Shape → Evidence → ℕ → Bool
backs_at s e i = passes_at (λ m. not (m.host == primary s e.view)) e.members i

-- ---- the reason for which a member fails, where it does

module _ (valid : Claim → Bool) where
  abbrev pub stable_reason : StableCert → ℕ → Option Why
  stable_reason c i =
      if not (rises_at (map (λ m. m.host) c.members) i) then Some SameHost
      else if not (passes_at valid (stable_claims c) i) then Some BadUi
      else None

  abbrev pub floor_reason : ℕ → FloorCert → ℕ → Option Why
  floor_reason owner c i =
      if not (rises_at (map (λ m. m.host) c.members) i) then Some SameHost
      else if not (passes_at valid (floor_claims c) i) then Some BadUi
      else if not (agrees_at owner c i) then Some Differs
      else None

module _ (s : Shape) (valid : Claim → Bool) where
  -- The first claim of evidence is that of the NEW_VIEW.
  abbrev pub evidence_reason : Evidence → ℕ → Option Why
  evidence_reason e i =
      if not (rises_at (map (λ m. m.host) e.members) i && backs_at s e i) then Some SameHost
      else if not (passes_at valid (evidence_claims s e) (suc i)) then Some BadUi
      else None

  -- ---- answers

  -- Yes exactly where the certificate is valid, or else its first fault.
  abbrev pub ChecksStable : StableCert → Result Unit CertFault → Type 0
  ChecksStable c (Ok x) = is_stable s valid c ≡ true
  ChecksStable c (Err fault) = (is_stable s valid c ≡ false) × IsFaultOf (members_at s c.pos) (length c.members) (stable_reason valid c) fault

  -- The floor that the certificate gives its owner, exactly where it gives one, or else its first fault.
  abbrev pub ChecksFloor : ℕ → FloorCert → Result Floor CertFault → Type 0
  ChecksFloor owner c (Ok floor) = certified_floor s valid owner c ≡ Some floor
  ChecksFloor owner c (Err fault) = (certified_floor s valid owner c ≡ None) × IsFaultOf (quorum s) (length c.members) (floor_reason valid owner c) fault

  -- Where the claim of the NEW_VIEW is valid, the fault is the members'.
  abbrev pub IsEvidenceFault : Bool → Evidence → CertFault → Type 0
  IsEvidenceFault true e fault = IsFaultOf (max_faults s) (length e.members) (evidence_reason e) fault
  IsEvidenceFault false e fault = fault ≡ record { index = 255; why = BadUi }

  -- Yes exactly where the evidence is valid, or else its first fault.
  abbrev pub ChecksEvidence : Evidence → Result Unit CertFault → Type 0
  ChecksEvidence e (Ok x) = is_evidence s valid e ≡ true
  ChecksEvidence e (Err fault) = (is_evidence s valid e ≡ false) × IsEvidenceFault (valid (new_view_claim s e)) e fault
