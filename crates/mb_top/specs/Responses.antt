-- What is answered to a schedule, and to a soak.
use Rattle.std.specs.Prelude.{◌≡◌, ℕ}
use Rattle.mb_base.specs.Shapes.{Bytes}
use Rattle.mb_edge.specs.Seen.{Device}
use Rattle.mb_answer.specs.Devices.{Says, Responds}
use Rattle.mb_top.specs.Answers.{Answers}
use Rattle.mb_top.specs.Soaks.{soak_text}

-- It is the text of a schedule.
abbrev pub Replays : Bytes → ℕ → Device → Device → Device → Device → Type 0
Replays text status source source' sink sink' = Responds (Answers text) status source source' sink sink'

-- The line that sums a soak up is written, or memory runs out before.
pub data Soaks (seed n status : ℕ) (sink sink' : Device) : Type 0 where
  summed_up : Says 0 (soak_text seed n) status sink sink' → Soaks seed n status sink sink'
  exhausted : status ≡ 4 → sink ≡ sink' → Soaks seed n status sink sink'
