-- Where each datagram is of bytes, so is each event.
use Rattle.std.proofs.Common.{◌≡◌, inl, inr, ℕ, Bool, true, false, [], ◌∷◌, List, Option, Some, None, refl, subst}
use Rattle.std.specs.Prelude.{if◌then◌else◌}
use Rattle.std.specs.List.{AllByRecursion}
use Rattle.std.proofs.lemmas.Bool.{cases_Bool}
use Rattle.mb_base.specs.Shapes.{Bytes}
use Rattle.mb_base.specs.Spelling.{IsBytes}
use Rattle.mb_base.specs.declared.shape.Shape.{Shape}
use Rattle.mb_msg.specs.declared.event.Event.{Event}
use Rattle.mb_msg.specs.declared.event.Event.TheVariants as event
use Rattle.mb_model.specs.Histories.{History, Identity}
use Rattle.mb_sched.specs.Records.{EventFits}
use Rattle.mb_frag.specs.declared.pushed.Pushed.TheVariants as pushed
use Rattle.mb_frag.specs.Held.{Step, push_of}
use Rattle.mb_frag.proofs.ByteLemmas.{IsBytes-nil, push_bytes}
use Rattle.mb_node.specs.Receives.{Receives, ReceiveFits, held_of, is_from, is_peer, whole_message, made_whole}
use Rattle.mb_node.specs.Events.{given_to, events}

held_bytes : (sender : ℕ) (receives : Receives) → AllByRecursion ReceiveFits receives → IsBytes (held_of sender receives).bytes
unfolding held_of
held_bytes sender [] fits = IsBytes-nil
held_bytes sender (None ∷ before) fits = held_bytes sender before fits.1
held_bytes sender (Some datagram ∷ before) fits = elim (cases_Bool (is_from sender datagram)) [
  | inl from ↦ rw from (push_bytes (held_of sender before) datagram (held_bytes sender before fits.1) fits.0)
  | inr other ↦ rw other (held_bytes sender before fits.1)
]

whole_bytes : (step : Step) (message : Bytes) → IsBytes step.1.bytes → whole_message step ≡ Some message → IsBytes message
whole_bytes (pushed.Whole, held) message fits is = let same : held.bytes ≡ message = cc in subst IsBytes same fits
whole_bytes (pushed.NotYet n, held) message fits is = absurd cc
whole_bytes (pushed.Dropped n, held) message fits is = absurd cc
whole_bytes (pushed.BadPiece at, held) message fits is = absurd cc

made_bytes : (s : Shape) (before : Receives) (datagram message : Bytes) → AllByRecursion ReceiveFits before → IsBytes datagram → made_whole s before datagram ≡ Some message → IsBytes message
unfolding made_whole
made_bytes s before [] message fits more is = absurd cc
made_bytes s before (sender ∷ rest) message fits more is = elim (cases_Bool (is_peer s sender)) [
  | inl peer ↦
      let step = push_of (held_of sender before) (sender ∷ rest) in
      whole_bytes step message (push_bytes (held_of sender before) (sender ∷ rest) (held_bytes sender before fits) more) (rw peer at is)
  | inr other ↦ let none : None ≡ Some message = rw other at is in absurd cc
]

quiet_fits : (b : Bool) → EventFits (if b then event.Patience else event.Nudge)
quiet_fits true = tt
quiet_fits false = tt

module _ {S : Type 0} (self : Identity S) (start : History) where
  given_fits : (es : List Event) (message : Option Bytes) → AllByRecursion EventFits es → ((m : Bytes) → message ≡ Some m → IsBytes m) → AllByRecursion EventFits (given_to self start es message)
  given_fits es None all fits = all
  given_fits es (Some m) all fits = (fits m refl, all)

  pub events_of_bytes : (receives : Receives) → AllByRecursion ReceiveFits receives → AllByRecursion EventFits (events self start receives)
  unfolding events
  events_of_bytes [] fits = tt
  events_of_bytes (None ∷ before) fits = (quiet_fits _, events_of_bytes before fits.1)
  events_of_bytes (Some datagram ∷ before) fits =
      given_fits (events self start before) (made_whole self.shape before datagram) (events_of_bytes before fits.1) (λ m is. made_bytes self.shape before datagram m fits.1 fits.0 is)
