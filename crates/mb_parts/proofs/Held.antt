-- What a stable certificate has behind its position, and the members of evidence.
use Rattle.std.proofs.Common.{◌≡◌, ◌≢◌, ◌↔◌, ℕ, zero, suc, replicate, List, [], ◌∷◌, refl}
use Rattle.std.specs.List.{AllByRecursion}
use Rattle.mb_base.specs.Shapes.{Bytes, quorum}
use Rattle.mb_base.specs.declared.shape.Shape.{Shape}
use Rattle.mb_parts.specs.declared.certificates.StableMember.{StableMember}
use Rattle.mb_parts.specs.declared.certificates.EvidenceMember.{EvidenceMember}
use Rattle.mb_parts.specs.Fits.{IsDigest, AreMembers, FitsStableMember, FitsHeld, FitsEvidenceMember, FitsBackup}

pub held_at_zero : (s : Shape) (pos : ℕ) (state : Bytes) (members : List StableMember) → pos ≡ 0 → FitsHeld s pos state members ↔ ((state ≡ replicate 32 0) × (members ≡ []))
held_at_zero s zero state members e = (λ h. h, λ h. h)
held_at_zero s (suc pos) state members e = absurd cc

pub held_above : (s : Shape) (pos : ℕ) (state : Bytes) (members : List StableMember) → pos ≢ 0 → FitsHeld s pos state members ↔ (IsDigest state × AreMembers (λ m. m.host) (FitsStableMember s) (quorum s) members)
held_above s zero state members ne = absurd (ne refl)
held_above s (suc pos) state members ne = (λ h. h, λ h. h)

pub backups_fit : (s : Shape) (view : ℕ) (members : List EvidenceMember) → AllByRecursion (FitsBackup s view) members → AllByRecursion (FitsEvidenceMember s) members
backups_fit s view [] all = tt
backups_fit s view (m ∷ members) all = (all.0.0, backups_fit s view members all.1)
