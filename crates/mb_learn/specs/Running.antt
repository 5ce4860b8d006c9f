-- A learner that goes on.
use Rattle.std.specs.Prelude.{◌≡◌, length}
use Rattle.mb_base.specs.Shapes.{client_count}
use Rattle.mb_learn.specs.declared.heard.Heard.{Heard}
use Rattle.mb_learn.specs.declared.line.Line.{Line}
use Rattle.mb_learn.specs.Hearing.{IsReady}

-- What is heard and what is executed are of one shape, and of one position.
pub record IsRunning {S : Type 0} (t : Heard) (line : Line S) : Type 0 where
  pub ready : IsReady t
  pub shape : line.shape ≡ t.shape
  pub clients : length line.table ≡ client_count line.shape
  pub place : t.votes.executed ≡ length line.slots.items
