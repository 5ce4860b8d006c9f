-- What a host's history has for the searches of a table.
use Rattle.std.proofs.Common.{◌≡◌, ℕ, refl}
use Rattle.mb_base.specs.declared.shape.Shape.{Shape}
use Rattle.mb_model.specs.Histories.{History}
use Rattle.mb_model.specs.Stable as history
use Rattle.mb_checkpoints.specs.Certificates.{agreed_above, floor_from}

-- the certificate that a host learns
pub learns : (s : Shape) (d : History) (low : ℕ) → agreed_above s (history.checkpoint_of d) low ≡ history.agreed_above s d low
unfolding history.agreed_at
learns s d low = refl

-- that with which it cuts its log
pub cuts : (s : Shape) (d : History) (owner low : ℕ) → floor_from s (history.checkpoint_of d) owner low ≡ history.floor_from s d owner low
unfolding history.floor_at
cuts s d owner low = refl
