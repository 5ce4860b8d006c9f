-- Logs keep their limits at each moment of a history that events lead to, also within a step: what stamps asked for room then.
use Rattle.std.proofs.Common.{◌≡◌, ℕ, ◌++◌, true, [], ◌∷◌, refl}
use Rattle.mb_msg.specs.declared.event.Slot.{Slot}
use Rattle.mb_msg.specs.declared.message.Message.TheVariants as message
use Rattle.mb_msg.specs.declared.stamped.Stamped.{Stamped as StampedMessage}
use Rattle.mb_model.specs.Histories.{Entry, Accepted, Stamped, Served, Executed, History, Identity}
use Rattle.mb_model.specs.OwnLog.{is_normal, has_room}
use Rattle.mb_world_model.specs.World.{System, self_of}
use Rattle.mb_world_model.specs.WorldSteps.{world}
use Rattle.mb_each_host.proofs.LogLimits.{stamped_same, state_same, executed_same, InLimits, begins_in_limits, same_limits, normal_limits, change_limits}
use Rattle.mb_host_laws.proofs.KeptByEvents.{is_plain, IsKept, event_keeps, execution_keeps, state_keeps}
use Rattle.mb_world_laws.proofs.KeptByWorlds.{world_keeps}

module _ {S : Type 0} (self : Identity S) where
  -- at all moments of a history but its beginning
  abbrev pub InLimitsSince : History → Type 0
  InLimitsSince [] = Unit {0}
  InLimitsSince (e ∷ d) = InLimits self (e ∷ d) × InLimitsSince d

  pub limits_then : (later d : History) → InLimitsSince (later ++ d) → InLimits self d
  limits_then [] [] x = begins_in_limits self
  limits_then [] (e ∷ d) x = x.0
  limits_then (e ∷ later) d x = limits_then later d x.1

  now : (d : History) → InLimitsSince d → InLimits self d
  now d x = limits_then [] d x

  executed_since : (slot : Slot) (d : History) → InLimitsSince d → InLimitsSince (Executed slot ∷ d)
  executed_since slot d x = (same_limits self (Executed slot) d (executed_same self slot d) (now d x), x)

  plain_since : (e : Entry) (d : History) → is_plain e ≡ true → InLimitsSince d → InLimitsSince (e ∷ d)
  plain_since e d plain x = (same_limits self e d (stamped_same self e d plain) (now d x), x)

  normal_since : (m : StampedMessage) (d : History) → is_normal m ≡ true → has_room self d ≡ true → InLimitsSince d → InLimitsSince (Stamped m ∷ d)
  normal_since m d kind room x = (normal_limits self m d kind room (now d x), x)

  since_kept : IsKept self InLimitsSince
  since_kept = record {
    plain = plain_since;
    normal = normal_since;
    change = λ m d kind room x. (change_limits self m d kind room (now d x), x);
    executed = λ pos b x p. execution_keeps self InLimitsSince normal_since (λ pos p d x. plain_since (Served pos p) d refl x) executed_since pos b x p;
    state = λ m x p. state_keeps self InLimitsSince (λ m d y. (same_limits self (Accepted (message.State m)) d (state_same self m d) (now d y), y)) plain_since m x p;
  }

pub limits_since : {S : Type 0} (system : System S) (k h : ℕ) → InLimitsSince (self_of system h) ((world system k).histories h)
limits_since system k h = world_keeps system (λ g d. InLimitsSince (self_of system g) d) (λ g. tt) (λ g d e x. event_keeps (self_of system g) (InLimitsSince (self_of system g)) (since_kept (self_of system g)) d e x) k h
