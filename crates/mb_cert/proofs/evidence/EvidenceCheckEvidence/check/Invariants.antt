use Rattle.mb_model.specs.Verified.{verifies}
use Rattle.mb_cert.specs.Checks.{evidence_reason}
use Rattle.mb_cert.proofs.Checked.{NoneFails}
use Rattle.mb_cert.proofs.evidence.EvidenceCheckEvidence.check.Given as goal

abbrev pub invariant-loop-index : goal.invariant-loop-index
invariant-loop-index l = NoneFails l.index (evidence_reason l.shape (verifies l.usig.secret) l.self)
