use Rattle.std.proofs.Common.{◌≡◌, ℕ, Bool, length, sym, refl, arith}
use Rattle.mb_parts.specs.Claims.{Claim}
use Rattle.mb_parts.specs.Certificates.{is_stable}
use Rattle.mb_model.specs.Verified.{verifies}
use Rattle.mb_cert.specs.declared.fault.CertFault.{CertFault}
use Rattle.mb_cert.specs.Faults.{IsFirstOf}
use Rattle.mb_cert.specs.Checks.{members_at, stable_reason}
use Rattle.mb_cert.proofs.Firsts.{few, found, isnt}
use Rattle.mb_cert.proofs.Checked.{one_fails, stable_holds, stable_count, stable_none}
use Rattle.mb_cert.proofs.stable.StableCertCheckStable.check.Goals as goal

pub returns-then-count-members_at : goal.returns-then-count-members_at
returns-then-count-members_at c =
    let s = c.args.shape.now in
    let valid : Claim → Bool = verifies c.args.usig.now.secret in
    let other : length c.args.self.now.members ≡ members_at s c.args.self.now.pos → ⊥ = λ same. omega (arith, same, c.if-count-members_at.true, c.len-count.ensures, c.members_at.ensures) in
    rw c.at.ensures (rw c.len-count.ensures
    (isnt _ (λ is. other (stable_count s valid c.args.self.now is)), few (members_at s c.args.self.now.pos) (length c.args.self.now.members) (stable_reason valid c.args.self.now) other))

pub returns-in-Some : goal.returns-in-Some
returns-in-Some c =
    let s = c.args.shape.now in
    let valid : Claim → Bool = verifies c.args.usig.now.secret in
    let fault : CertFault = record { index = c.loop-index.index; why = c.in-Some.why } in
    let same : length c.args.self.now.members ≡ members_at s c.args.self.now.pos = omega (arith, c.if-count-members_at.false, c.len-count.ensures, c.members_at.ensures) in
    let first : IsFirstOf (length c.args.self.now.members) (stable_reason valid c.args.self.now) fault = record {
      within = omega (arith, c.loop-index-test.true, c.len-count.ensures);
      fails = sym c.in-Some.ensures;
      before = c.loop-index.invariant;
    } in
    rw c.at-in-Some.ensures
    (isnt _ (λ is. one_fails _ _ fault first (stable_none s valid c.args.self.now is)), found (members_at s c.args.self.now.pos) (length c.args.self.now.members) (stable_reason valid c.args.self.now) fault same first)

pub returns : goal.returns
returns c =
    let s = c.args.shape.now in
    let valid : Claim → Bool = verifies c.args.usig.now.secret in
    stable_holds s valid c.args.self.now (omega (arith, c.if-count-members_at.false, c.len-count.ensures, c.members_at.ensures))
    (λ i lt. c.loop-index.invariant i (omega (arith, lt, c.loop-index-test.false, c.len-count.ensures)))
