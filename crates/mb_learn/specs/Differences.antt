-- Where hosts say another digest of their states than is noted.
use Rattle.std.specs.Prelude.{◌≡◌, ℕ, ◌≤◌, false, List, nat_lt, Option, Some, None, if◌then◌else◌, Contains}
use Rattle.mb_base.specs.Shapes.{HasQuorum}
use Rattle.mb_usig.specs.Tags.{same_bytes}
use Rattle.mb_learn.specs.declared.difference.Difference.{Difference}
use Rattle.mb_learn.specs.declared.heard.Heard.{Heard}
use Rattle.mb_learn.specs.declared.line.Line.{Line}
use Rattle.mb_learn.specs.Executed.{state_in}
use Rattle.mb_learn.specs.Tables.{said_at, says}

-- the one at the lower position
abbrev pub lower : Difference → Option Difference → Difference
lower a None = a
lower a (Some b) = if nat_lt b.pos a.pos then b else a

abbrev pub lowest : Option Difference → Option Difference → Option Difference
lowest None other = other
lowest (Some a) other = Some (lower a other)

module _ {S : Type 0} (t : Heard) (line : Line S) where
  -- At its position this digest is noted, and f+1 hosts say another one.
  pub record IsDifference (d : Difference) : Type 0 where
    pub noted : state_in line d.pos ≡ Some d.found
    pub said : HasQuorum t.shape (λ h. says (said_at t.checkpoints d.pos) h d.certified)
    pub other : same_bytes d.certified d.found ≡ false

  -- It is the lowest at these positions.
  pub record IsLowest (positions : List ℕ) (d : Difference) : Type 0 where
    pub differs : IsDifference d
    pub below : (x : Difference) → Contains positions x.pos → IsDifference x → d.pos ≤ x.pos

  -- There is none at these positions.
  abbrev pub IsNowhere : List ℕ → Type 0
  IsNowhere positions = (x : Difference) → Contains positions x.pos → IsDifference x → ⊥
