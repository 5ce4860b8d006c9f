-- A consistent record of stamps in which a view was changed: what the agreement says is said of something.
use Rattle.std.specs.Prelude.{◌≡◌, ℕ, true, List, Some}
use Rattle.mb_base.specs.Shapes.{Bytes}
use Rattle.mb_base.specs.declared.shape.Shape.{Shape}
use Rattle.mb_parts.specs.declared.certificates.Evidence.{Evidence}
use Rattle.mb_parts.specs.Certificates.{is_evidence, inner_valid, both}
use Rattle.mb_parts.specs.Ordered.{initial_floor, is_ordered}
use Rattle.mb_parts.specs.Issued.{is_issued, stamped_prefix}
use Rattle.mb_model.specs.declared.known.Vote.{Vote}
use Rattle.mb_model.specs.Verified.{verifies}
use Rattle.mb_model.specs.Committed.{Plans, planned, IsCommitted}
use Rattle.mb_agreement.specs.Agreement.{IsConsistentRecord}

-- stamps of which the record is consistent, with a committed vote of view 0 and evidence of view 1
pub record HasViewChange : Type 0 where
  pub shape : Shape
  pub secret : Bytes
  pub plans : Plans
  -- what each host stamped, as bytes, newest first
  pub stamped : ℕ → List Bytes
  pub consistent : IsConsistentRecord shape secret plans (is_issued shape stamped) (stamped_prefix shape stamped)
  -- Each certificate in it verifies.
  pub certified : (h : ℕ) → is_ordered initial_floor shape h (inner_valid shape (both (verifies secret) (is_issued shape stamped))) (stamped_prefix shape stamped h) ≡ true
  -- Something is committed in view 0.
  pub vote : Vote
  pub committed : IsCommitted plans shape (stamped_prefix shape stamped) 0 1 vote
  -- There is evidence of view 1, which verifies and was issued.
  pub evidence : Evidence
  pub view : evidence.view ≡ 1
  pub evident : is_evidence shape (both (verifies secret) (is_issued shape stamped)) evidence ≡ true
  -- Its plan has the committed batch.
  pub carried : planned (plans evidence.plan) 1 ≡ Some vote.request
