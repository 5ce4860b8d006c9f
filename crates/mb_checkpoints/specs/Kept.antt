-- The CHECKPOINTs that are kept: the last of each host at each of three positions.
use Rattle.std.specs.Prelude.{ℕ, ◌≡◌, ◌+◌, ◌*◌, ◌≤◌, ◌<◌, Option, Some, option_map}
use Rattle.std.specs.Option.{option_or}
use Rattle.mb_base.specs.Limits.{most_hosts}
use Rattle.mb_base.specs.declared.shape.Shape.{Shape}
use Rattle.mb_base.specs.Shapes.{interval, host_count}
use Rattle.mb_msg.specs.declared.normal.Checkpoint.{Checkpoint}
use Rattle.mb_model.specs.Stable.{checkpoint_by}
use Rattle.mb_window.specs.Places.{item_at}
use Rattle.mb_checkpoints.specs.declared.checkpoints.Checkpoints.{Checkpoints}
use Rattle.mb_checkpoints.specs.declared.checkpoints.KeptCheckpoint.{KeptCheckpoint}

-- the place of a host in the window, at the multiple of the interval with a number
abbrev pub place_of : ℕ → ℕ → ℕ
place_of number host = number * most_hosts + host + 1

abbrev pub kept_at : Checkpoints → ℕ → ℕ → Option KeptCheckpoint
kept_at t number host = item_at t.window (place_of number host)

-- the stable position
abbrev pub low_of : Checkpoints → ℕ
low_of t = t.first * interval t.shape

-- the stable position, or one or two intervals above it
abbrev pub IsKeptPlace : Checkpoints → ℕ → Type 0
IsKeptPlace t pos = (more : ℕ) × (more ≤ 2) × (pos ≡ (t.first + more) * interval t.shape)

-- The table stands for a search by host and position: its stable position is this one, and at each multiple of the interval from there on the
-- CHECKPOINT of each host is what the search finds.
pub record Represents (shape : Shape) (t : Checkpoints) (low : ℕ) (search : ℕ → ℕ → Option Checkpoint) : Type 0 where
  pub shape_is : t.shape ≡ shape
  pub low_is : low_of t ≡ low
  pub finds : (h number : ℕ) → h < host_count shape → t.first ≤ number → option_map (λ k. k.message) (kept_at t number h) ≡ search h (number * interval shape)

-- what each call makes of the search that the table stands for

-- one CHECKPOINT more, the last of its host at its position
abbrev pub Keeps : Checkpoints → Checkpoint → Checkpoints → Type 0
Keeps old m new = (s : Shape) (low : ℕ) (search : ℕ → ℕ → Option Checkpoint) → Represents s old low search
    → Represents s new low (λ h p. option_or (checkpoint_by h p (Some m)) (search h p))

-- Nobody asks for those below the stable position.
abbrev pub KeepsAbove : Checkpoints → ℕ → Checkpoints → Type 0
KeepsAbove old raised new = (s : Shape) (low : ℕ) (search : ℕ → ℕ → Option Checkpoint) → Represents s old low search → Represents s new raised search
