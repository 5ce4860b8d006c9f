-- What the tables of the normal case are.
use Rattle.std.specs.Prelude.{ℕ, ◌≡◌, ◌<◌, ◌≤◌, ◌+◌, Bool, true, false, Option, option_and_then, Result, Ok, Err}
use Rattle.mb_base.specs.declared.shape.Shape.{Shape}
use Rattle.mb_base.specs.Shapes.{client_count}
use Rattle.mb_parts.specs.declared.batch.Batch.{Batch}
use Rattle.mb_base.specs.Shapes.{Bytes}
use Rattle.mb_model.specs.declared.known.KnownSlot.{KnownSlot}
use Rattle.mb_window.specs.declared.refused.Refused.{Refused}
use Rattle.mb_window.specs.declared.refused.Refused.TheVariants.{Below, Beyond, Filled}
use Rattle.mb_window.specs.Represents.{Represents as WindowRepresents}
use Rattle.mb_votes.specs.Votes.{Represents as VotesRepresents}
use Rattle.mb_checkpoints.specs.Kept.{Represents as KeptRepresents}
use Rattle.mb_normal.specs.Waiting.{request_of}
use Rattle.mb_normal.specs.declared.normal.Normal.{Normal}
use Rattle.mb_normal.specs.Searches.{Searches}

-- Each table answers its search.
pub record Represents (shape : Shape) (host : ℕ) (t : Normal) (x : Searches) : Type 0 where
  pub shape_is : t.shape ≡ shape
  pub host_is : t.host ≡ host
  pub slots : WindowRepresents t.slots.window x.low x.slots
  pub votes : VotesRepresents shape t.votes x.low x.votes
  pub pending : (c : ℕ) → c < client_count shape → request_of t.pending.by_client.items c ≡ x.pending c
  pub checkpoints : KeptRepresents shape t.checkpoints x.low x.checkpoints

-- what a call makes of the searches
abbrev pub Becomes : Normal → Normal → (Searches → Searches) → Type 0
Becomes old new f = (s : Shape) (host : ℕ) (x : Searches) → Represents s host old x → Represents s host new (f x)

-- when an item is refused for a position, in a window above a low end, whose place holds something or not: each refusal exactly where it says,
-- with the item
abbrev pub RefusesIn : {X : Type 0} → ℕ → ℕ → Bool → ℕ → X → Result (Unit {0}) (Refused X) → Type 0
RefusesIn low span held pos item (Ok u) = (low < pos) × (pos ≤ low + span) × (held ≡ false)
RefusesIn low span held pos item (Err (Below l back)) = (pos ≤ low) × (l ≡ low) × (back ≡ item)
RefusesIn low span held pos item (Err (Beyond l back)) = (low + span < pos) × (l ≡ low) × (back ≡ item)
RefusesIn low span held pos item (Err (Filled back)) = (low < pos) × (pos ≤ low + span) × (held ≡ true) × (back ≡ item)

-- ---- what is asked of a slot

abbrev pub batch_of : Option KnownSlot → Option Batch
batch_of slot = option_and_then (λ k. k.batch) slot

-- the primary's counter and certificate
abbrev pub order_of : KnownSlot → ℕ × Bytes
order_of k = (k.counter, k.cert)
