use Rattle.mb_model.specs.Verified.{verifies}
use Rattle.mb_cert.specs.Checks.{stable_reason}
use Rattle.mb_cert.proofs.Checked.{NoneFails}
use Rattle.mb_cert.proofs.stable.StableCertCheckStable.check.Given as goal

abbrev pub invariant-loop-index : goal.invariant-loop-index
invariant-loop-index l = NoneFails l.index (stable_reason (verifies l.usig.secret) l.self)
