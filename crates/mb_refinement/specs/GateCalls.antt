-- What the calls of a gate leave and answer, as their clauses say it.
use Rattle.std.specs.Prelude.{◌≡◌, ℕ, Bool, ◌∷◌, Option, Some}
use Rattle.mb_parts.specs.declared.floor.Floor.{Floor}
use Rattle.mb_parts.specs.declared.floor.Mark.{Mark}
use Rattle.mb_parts.specs.Bares.{Bare}
use Rattle.mb_msg.specs.declared.stamped.Stamped.{Stamped as StampedMessage}
use Rattle.mb_msg.specs.Stamps.{bare_of, ui_of}
use Rattle.mb_gate.specs.declared.gate.Gate.{Gate}
use Rattle.mb_gate.specs.declared.offer.Offer.{Offer}
use Rattle.mb_gate.specs.declared.offer.Offer.TheVariants as offer
use Rattle.mb_gate.specs.SenderLogs.{SenderLog, standing, floor_below}
use Rattle.mb_gate.specs.Answers.{answer, log_after_jump}
use Rattle.mb_gate.specs.Marks.{IsMarkOf}
use Rattle.mb_gate.specs.Represents.{Represents}

-- the mark of a stamped message
pub record Marks (mark : Mark) (m : StampedMessage) : Type 0 where
  pub says : IsMarkOf mark (bare_of m)
  pub counter : mark.counter ≡ (ui_of m).counter

-- ---- what is left

-- behind a message that is next
abbrev pub Follows : Gate → Mark → Gate → Type 0
Follows old mark new = (log : SenderLog) (m : Bare) (inner : Bool) → Represents old log → IsMarkOf mark m → answer log m mark.counter inner ≡ offer.Next → Represents new (record log { taken = m ∷ log.taken })

abbrev pub Closes : Gate → ℕ → Gate → Type 0
Closes old counter new = (log : SenderLog) → Represents old log → Represents new (record log { closed = Some counter })

abbrev pub Jumps : Gate → Floor → Gate → Type 0
Jumps old floor new = (log : SenderLog) → Represents old log → Represents new (log_after_jump log floor)

-- ---- what is answered

abbrev pub Judges : Gate → Mark → Bool → Offer → Type 0
Judges gate mark inner o = (log : SenderLog) (m : Bare) → Represents gate log → IsMarkOf mark m → o ≡ answer log m mark.counter inner

abbrev pub StandsAt : Gate → Floor → Type 0
StandsAt gate floor = (log : SenderLog) → Represents gate log → floor ≡ standing log

abbrev pub HasFloor : Gate → ℕ → Option Floor → Type 0
HasFloor gate below found = (log : SenderLog) → Represents gate log → found ≡ floor_below log below
