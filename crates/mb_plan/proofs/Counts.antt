-- How many members certificates have that fit, and how many entries are not normal.
use Rattle.std.proofs.Common.{◌≡◌, ℕ, zero, suc, ◌+◌, ◌≤◌, Bool, true, false, not, List, [], ◌∷◌, length, refl, arith}
use Rattle.std.specs.Prelude.{count_by, if◌then◌else◌}
use Rattle.std.proofs.lemmas.List.Sums.{sum_by-cons}
use Rattle.mb_base.specs.Shapes.{quorum, max_faults}
use Rattle.mb_base.specs.declared.shape.Shape.{Shape}
use Rattle.mb_parts.specs.declared.certificates.StableMember.{StableMember}
use Rattle.mb_parts.specs.declared.certificates.StableCert.{StableCert}
use Rattle.mb_parts.specs.declared.certificates.FloorCert.{FloorCert}
use Rattle.mb_parts.specs.declared.certificates.Evidence.{Evidence}
use Rattle.mb_parts.specs.Fits.{FitsHeld, FitsStable, FitsFloorCert, FitsEvidence}
use Rattle.mb_base.specs.Shapes.{Bytes}

held_count : (s : Shape) (pos : ℕ) (state : Bytes) (ms : List StableMember) → FitsHeld s pos state ms → length ms ≤ quorum s
held_count s zero state ms fits = rw fits.1 (omega arith)
held_count s (suc pos) state ms fits = omega (arith, fits.1.0)

pub stable_count : (s : Shape) (c : StableCert) → FitsStable s c → length c.members ≤ quorum s
stable_count s c fits = held_count s c.pos c.state c.members fits.held

pub evidence_count : (s : Shape) (e : Evidence) → FitsEvidence s e → length e.members ≤ max_faults s
evidence_count s e fits = omega (arith, fits.members.0)

pub floor_count : (s : Shape) (c : FloorCert) → FitsFloorCert s c → length c.members ≤ quorum s
floor_count s c fits = omega (arith, fits.members.0)

one_of_two : (b : Bool) (m n l : ℕ) → m + n ≡ l → ((if b then 1 else 0) + m) + ((if not b then 1 else 0) + n) ≡ suc l
one_of_two true m n l e = omega (arith, e)
one_of_two false m n l e = omega (arith, e)

-- Each item passes the test or its contrary.
pub count_others : {A : Type 0} (p : A → Bool) (l : List A) → count_by p l + count_by (λ x. not (p x)) l ≡ length l
count_others p [] = refl
count_others p (x ∷ l) =
    rw (sum_by-cons (λ x. if p x then 1 else 0) x l, sum_by-cons (λ x. if not (p x) then 1 else 0) x l)
    (one_of_two (p x) (count_by p l) (count_by (λ x. not (p x)) l) (length l) (count_others p l))
