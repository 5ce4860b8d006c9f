-- The gate of a host as the list of what it took.
use Rattle.std.specs.Prelude.{◌≡◌, ◌==◌, false, ℕ, ◌<◌, [], ◌∷◌, Option, Some, None}
use Rattle.mb_msg.specs.declared.event.Outcome.{Outcome}
use Rattle.mb_msg.specs.declared.event.Outcome.TheVariants as outcome
use Rattle.mb_gate.specs.declared.offer.Offer.{Offer}
use Rattle.mb_gate.specs.declared.offer.Offer.TheVariants as offer
use Rattle.mb_gate.specs.SenderLogs.{SenderLog}
use Rattle.mb_model.specs.Histories.{Entry, Closed, Jumped, History, Identity, origin, taken_of, closed_at, gate}

abbrev pub log_of : {S : Type 0} → Identity S → History → ℕ → SenderLog
log_of self d h = record { shape = self.shape; sender = h; from = origin d h; taken = taken_of d h; closed = closed_at d h }

-- Each gate jumped forward, and the own one was never closed.
abbrev pub GatesMove : {S : Type 0} → Identity S → History → Type 0
GatesMove self [] = Unit {0}
GatesMove self (Jumped h floor ∷ d) = ((gate d h).counter < floor.counter) × GatesMove self d
GatesMove self (Closed h counter ∷ d) = ((h == self.host) ≡ false) × GatesMove self d
GatesMove self (e ∷ d) = GatesMove self d

-- so it is with the gate that an entry moves
abbrev pub MovesGate : {S : Type 0} → Identity S → Entry → History → Type 0
MovesGate self (Jumped h floor) d = (gate d h).counter < floor.counter
MovesGate self (Closed h counter) d = (h == self.host) ≡ false
MovesGate self e d = Unit {0}

-- what a gate answers, as a refusal
abbrev pub refusal_of : Offer → Option Outcome
refusal_of offer.Next = None
refusal_of (offer.Stale next) = Some (outcome.Stale next)
refusal_of (offer.Ahead next) = Some (outcome.Ahead next)
refusal_of (offer.Illegal rule) = Some (outcome.Illegal rule)
refusal_of (offer.Convicted counter) = Some (outcome.Convicted counter)
