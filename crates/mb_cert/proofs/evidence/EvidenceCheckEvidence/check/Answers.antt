use Rattle.std.proofs.Common.{◌≡◌, ◌∙◌, ℕ, Bool, true, false, length, sym, refl, arith}
use Rattle.mb_base.specs.Shapes.{max_faults}
use Rattle.mb_parts.specs.Claims.{Claim, new_view_claim}
use Rattle.mb_parts.specs.Certificates.{is_evidence}
use Rattle.mb_model.specs.Verified.{verifies}
use Rattle.mb_cert.specs.declared.fault.CertFault.{CertFault}
use Rattle.mb_cert.specs.Faults.{IsFirstOf}
use Rattle.mb_cert.specs.Checks.{evidence_reason}
use Rattle.mb_cert.proofs.Firsts.{few, found, isnt}
use Rattle.mb_cert.proofs.Checked.{one_fails, evidence_holds, evidenced, evidence_none}
use Rattle.mb_cert.proofs.evidence.EvidenceCheckEvidence.check.Goals as goal

true-false : (b : Bool) → b ≡ true → b ≡ false → ⊥
true-false true t f = absurd cc
true-false false t f = absurd cc

pub returns-then-not-is_announced : goal.returns-then-not-is_announced
returns-then-not-is_announced c =
    let valid : Claim → Bool = verifies c.args.usig.now.secret in
    let claim = new_view_claim c.args.shape.now c.args.self.now in
    let is : valid claim ≡ false = sym c.is_announced.ensures ∙ c.if-not-is_announced.true in
    (isnt _ (λ v. true-false (valid claim) (evidenced c.args.shape.now valid c.args.self.now v).announced is), rw is refl)

pub returns-then-count-from : goal.returns-then-count-from
returns-then-count-from c =
    let s = c.args.shape.now in
    let valid : Claim → Bool = verifies c.args.usig.now.secret in
    let claim = new_view_claim s c.args.self.now in
    let is : valid claim ≡ true = sym c.is_announced.ensures ∙ c.if-not-is_announced.false in
    let other : length c.args.self.now.members ≡ max_faults s → ⊥ = λ same. omega (arith, same, c.if-count-from.true, c.len-count.ensures, c.f.ensures, c.from.ensures) in
    rw (is, c.at.ensures) (rw c.len-count.ensures
    (isnt _ (λ v. other (evidenced s valid c.args.self.now v).count), few (max_faults s) (length c.args.self.now.members) (evidence_reason s valid c.args.self.now) other))

pub returns-in-Some : goal.returns-in-Some
returns-in-Some c =
    let s = c.args.shape.now in
    let valid : Claim → Bool = verifies c.args.usig.now.secret in
    let claim = new_view_claim s c.args.self.now in
    let is : valid claim ≡ true = sym c.is_announced.ensures ∙ c.if-not-is_announced.false in
    let fault : CertFault = record { index = c.loop-index.index; why = c.in-Some.why } in
    let same : length c.args.self.now.members ≡ max_faults s = omega (arith, c.if-count-from.false, c.len-count.ensures, c.f.ensures, c.from.ensures) in
    let first : IsFirstOf (length c.args.self.now.members) (evidence_reason s valid c.args.self.now) fault = record {
      within = omega (arith, c.loop-index-test.true, c.len-count.ensures);
      fails = sym c.in-Some.ensures;
      before = c.loop-index.invariant;
    } in
    rw (is, c.at-in-Some.ensures)
    (isnt _ (λ v. one_fails _ _ fault first (evidence_none s valid c.args.self.now v)), found (max_faults s) (length c.args.self.now.members) (evidence_reason s valid c.args.self.now) fault same first)

pub returns : goal.returns
returns c =
    let s = c.args.shape.now in
    let valid : Claim → Bool = verifies c.args.usig.now.secret in
    evidence_holds s valid c.args.self.now (sym c.is_announced.ensures ∙ c.if-not-is_announced.false)
    (omega (arith, c.if-count-from.false, c.len-count.ensures, c.f.ensures, c.from.ensures))
    (λ i lt. c.loop-index.invariant i (omega (arith, lt, c.loop-index-test.false, c.len-count.ensures)))
