-- A host's counter does not go beyond the greatest: each stamp needs room, and there is room only below it.
use Rattle.std.proofs.Common.{◌≡◌, ℕ, ◌+◌, ◌-◌, ◌^◌, ◌<◌, ◌≤◌, true, [], ◌∷◌, ◌++◌, subst, arith}
use Rattle.std.specs.Prelude.{nat_lt}
use Rattle.std.proofs.lemmas.Bool.{and_parts, ltb-true}
use Rattle.mb_msg.specs.declared.message.Message.TheVariants as message
use Rattle.mb_msg.specs.declared.stamped.Stamped.{Stamped as StampedMessage}
use Rattle.mb_msg.specs.declared.transfer.StateMsg.{StateMsg}
use Rattle.mb_msg.specs.declared.event.Placed.{Placed}
use Rattle.mb_msg.specs.declared.event.Slot.{Slot}
use Rattle.mb_model.specs.Histories.{Entry, Accepted, Stamped, Jumped, Closed, Served, Executed, Installed, DroppedParts, LostPatience, Nudged, History, Identity, counter_of, stamped as all_stamped}
use Rattle.mb_model.specs.OwnLog.{is_unspent, has_room, has_other_room}
use Rattle.mb_host_laws.proofs.KeptByEvents.{is_plain, IsKept, event_keeps, execution_keeps, state_keeps}
use Rattle.mb_host_laws.proofs.Moments.{IsPast}
use Rattle.mb_msg.specs.declared.event.Event.{Event}
use Rattle.mb_model.specs.HostStep.{transition}

module _ {S : Type 0} (self : Identity S) where
  abbrev IsLow : History → Type 0
  IsLow d = counter_of d < 2 ^ 64

  unspent : (d : History) → is_unspent self d ≡ true → counter_of d + 1 < 2 ^ 64
  unspent d e = omega (arith, ltb-true (counter_of d) (2 ^ 64 - 1) e)

  normal_low : (m : StampedMessage) (d : History) → has_room self d ≡ true → IsLow (Stamped m ∷ d)
  unfolding all_stamped
  normal_low m d e = omega (arith, unspent d (and_parts (nat_lt _ _) (is_unspent self d) e).1)

  change_low : (m : StampedMessage) (d : History) → has_other_room self d ≡ true → IsLow (Stamped m ∷ d)
  unfolding all_stamped
  change_low m d e = omega (arith, unspent d (and_parts (nat_lt _ _) (is_unspent self d) e).1)

  plain_low : (e : Entry) (d : History) → is_plain e ≡ true → IsLow d → IsLow (e ∷ d)
  unfolding all_stamped
  plain_low (Stamped m) d e p = absurd cc
  plain_low (Accepted m) d e p = p
  plain_low (Jumped h f) d e p = p
  plain_low (Closed h c) d e p = p
  plain_low (Served pos x) d e p = p
  plain_low (Executed slot) d e p = p
  plain_low (Installed pos parts) d e p = p
  plain_low DroppedParts d e p = p
  plain_low LostPatience d e p = p
  plain_low Nudged d e p = p

  served_low : (d : History) (pos : ℕ) (x : Placed) → IsLow d → IsLow (Served pos x ∷ d)
  unfolding all_stamped
  served_low d pos x p = p

  executed_low : (d : History) (slot : Slot) → IsLow d → IsLow (Executed slot ∷ d)
  unfolding all_stamped
  executed_low d slot p = p

  given_low : (m : StateMsg) (d : History) → IsLow d → IsLow (Accepted (message.State m) ∷ d)
  unfolding all_stamped
  given_low m d p = p

  kept_low : IsKept self IsLow
  kept_low = record {
    plain = plain_low;
    normal = λ m d n room p. normal_low m d room;
    change = λ m d n room p. change_low m d room;
    executed = λ pos r x p. execution_keeps self IsLow (λ m d n room q. normal_low m d room) (λ pos x d q. served_low d pos x q) (λ slot d q. executed_low d slot q) pos r x p;
    state = λ m x p. state_keeps self IsLow (λ m d q. given_low m d q) plain_low m x p;
  }

  -- So an event leaves it below.
  pub event_low : (d : History) (e : Event) → counter_of d < 2 ^ 64 → counter_of (transition self d e).left.history < 2 ^ 64
  event_low d e p = event_keeps self IsLow kept_low d e p

later_more : (later d : History) → counter_of d ≤ counter_of (later ++ d)
unfolding all_stamped
later_more [] d = omega arith
later_more (Stamped x ∷ later) d = omega (arith, later_more later d)
later_more (e ∷ later) d = later_more later d

-- So it was below it at each stamp.
pub stamp_low : (m : StampedMessage) (d whole : History) → IsPast (Stamped m ∷ d) whole → counter_of whole < 2 ^ 64 → counter_of d + 1 < 2 ^ 64
unfolding all_stamped
stamp_low m d whole p lt = let more : counter_of (Stamped m ∷ d) ≤ counter_of whole = subst (λ (x : History). counter_of (Stamped m ∷ d) ≤ counter_of x) p.is (later_more p.later (Stamped m ∷ d)) in omega (arith, more, lt)
