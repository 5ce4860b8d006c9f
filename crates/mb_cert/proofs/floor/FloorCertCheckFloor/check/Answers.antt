use Rattle.std.proofs.Common.{◌≡◌, ◌∙◌, ℕ, Bool, Option, Some, None, true, length, sym, refl, arith}
use Rattle.std.specs.Prelude.{is_some}
use Rattle.mb_base.specs.Shapes.{quorum}
use Rattle.mb_parts.specs.declared.floor.Floor.{Floor}
use Rattle.mb_parts.specs.Claims.{Claim}
use Rattle.mb_parts.specs.Certificates.{certified_floor, first_floor}
use Rattle.mb_model.specs.Verified.{verifies}
use Rattle.mb_cert.specs.declared.fault.CertFault.{CertFault}
use Rattle.mb_cert.specs.Faults.{IsFirstOf}
use Rattle.mb_cert.specs.Checks.{floor_reason}
use Rattle.mb_cert.proofs.Firsts.{few, found}
use Rattle.mb_cert.proofs.Checked.{one_fails, floor_is, floor_count, floor_none, floor_there}
use Rattle.mb_cert.proofs.floor.FloorCertCheckFloor.check.Goals as goal

-- What would contradict being there isn't there.
nothing : {A : Type 0} (o : Option A) → ((x : A) → o ≡ Some x → ⊥) → o ≡ None
nothing None deny = refl
nothing (Some x) deny = absurd (deny x refl)

not_there : (o : Option Floor) → is_some o ≡ true → o ≡ None → ⊥
not_there None e is = absurd cc
not_there (Some f) e is = absurd cc

pub returns-then-count-from : goal.returns-then-count-from
returns-then-count-from c =
    let s = c.args.shape.now in
    let valid : Claim → Bool = verifies c.args.usig.now.secret in
    let other : length c.args.self.now.members ≡ quorum s → ⊥ = λ same. omega (arith, same, c.if-count-from.true, c.len-count.ensures, c.quorum.ensures, c.from.ensures) in
    rw c.at.ensures (rw c.len-count.ensures
    (nothing _ (λ f is. other (floor_count s valid c.args.owner c.args.self.now f is)), few (quorum s) (length c.args.self.now.members) (floor_reason valid c.args.owner c.args.self.now) other))

pub returns-in-Some : goal.returns-in-Some
returns-in-Some c =
    let s = c.args.shape.now in
    let valid : Claim → Bool = verifies c.args.usig.now.secret in
    let fault : CertFault = record { index = c.loop-index.index; why = c.in-Some.why } in
    let same : length c.args.self.now.members ≡ quorum s = omega (arith, c.if-count-from.false, c.len-count.ensures, c.quorum.ensures, c.from.ensures) in
    let first : IsFirstOf (length c.args.self.now.members) (floor_reason valid c.args.owner c.args.self.now) fault = record {
      within = omega (arith, c.loop-index-test.true, c.len-count.ensures);
      fails = sym c.in-Some.ensures;
      before = c.loop-index.invariant;
    } in
    rw c.at-in-Some.ensures
    (nothing _ (λ f is. one_fails _ _ fault first (floor_none s valid c.args.owner c.args.self.now f is)), found (quorum s) (length c.args.self.now.members) (floor_reason valid c.args.owner c.args.self.now) fault same first)

pub returns : goal.returns
returns c =
    let s = c.args.shape.now in
    let valid : Claim → Bool = verifies c.args.usig.now.secret in
    floor_is s valid c.args.owner c.args.self.now c.in-Some-first_floor.floor
    (omega (arith, c.if-count-from.false, c.len-count.ensures, c.quorum.ensures, c.from.ensures))
    (λ i lt. c.loop-index.invariant i (omega (arith, lt, c.loop-index-test.false, c.len-count.ensures)))
    (sym c.in-Some-first_floor.ensures)
