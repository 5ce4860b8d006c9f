-- Why a stamped message is refused by its certificate, its counter, or the gate of its sender: a test for each reason, in the order in
-- which they are asked.
use Rattle.std.specs.Prelude.{ℕ, ◌+◌, Bool, ◌&&◌, not, nat_lt, nat_le, ◌==◌, Option, option_map}
use Rattle.std.specs.Bool.{then_some}
use Rattle.std.specs.Option.{option_or}
use Rattle.mb_base.specs.declared.names.Ui.{Ui}
use Rattle.mb_parts.specs.Claims.{Claim}
use Rattle.mb_parts.specs.Certificates.{inner_valid}
use Rattle.mb_parts.specs.Ordered.{permits}
use Rattle.mb_parts.specs.Rules.{rule_of, shut_before}
use Rattle.mb_msg.specs.declared.stamped.Stamped.{Stamped as StampedMessage}
use Rattle.mb_msg.specs.Stamps.{bare_of, ui_of}
use Rattle.mb_model.specs.Verified.{verifies}
use Rattle.mb_msg.specs.declared.event.Outcome.{Outcome}
use Rattle.mb_msg.specs.declared.event.Outcome.TheVariants as outcome
use Rattle.mb_model.specs.Histories.{History, Identity, gate, origin, taken_of, closed_at, counter_of}
use Rattle.mb_model.specs.Sending.{next_of}

-- what a stamped message claims: that its sender stamped it
abbrev pub stamp_claim : StampedMessage → Claim
stamp_claim m = record { host = (ui_of m).host; counter = (ui_of m).counter; says = bare_of m; cert = (ui_of m).cert }

module _ {S : Type 0} (self : Identity S) where
  -- a claim whose tag verifies
  abbrev pub valid : Claim → Bool
  valid = verifies self.secret

  -- The certificate is not that of these bare bytes under this counter.
  abbrev pub is_bad_ui : StampedMessage → Bool
  is_bad_ui m = not (valid (stamp_claim m))

  -- of this host itself, with a counter that it has not reached
  abbrev pub is_own_future : History → Ui → Bool
  is_own_future d u = u.host == self.host && nat_lt (counter_of d) u.counter

  -- the counter at which the sender's gate was closed, where this one is not below it
  abbrev pub conviction : History → Ui → Option ℕ
  conviction d u = shut_before (closed_at d u.host) u.counter

  abbrev pub is_stale : History → Ui → Bool
  is_stale d u = nat_le u.counter (gate d u.host).counter

  abbrev pub is_ahead : History → Ui → Bool
  is_ahead d u = nat_lt ((gate d u.host).counter + 1) u.counter

  -- It may stand behind what was taken of its sender.
  abbrev pub is_permitted : History → StampedMessage → Bool
  is_permitted d m = permits (origin d (ui_of m).host) self.shape (ui_of m).host (inner_valid self.shape valid) (taken_of d (ui_of m).host) (bare_of m)

  -- by the gate of its sender
  unfoldable pub gate_refusal : History → StampedMessage → Option Outcome
  gate_refusal d m =
      option_or (option_map outcome.Convicted (conviction d (ui_of m)))
      (option_or (then_some (is_stale d (ui_of m)) (outcome.Stale (next_of d (ui_of m).host)))
      (option_or (then_some (is_ahead d (ui_of m)) (outcome.Ahead (next_of d (ui_of m).host)))
      (then_some (not (is_permitted d m)) (outcome.Illegal (rule_of (bare_of m))))))

  -- before its kind is looked at
  unfoldable pub identifier_refusal : History → StampedMessage → Option Outcome
  identifier_refusal d m =
      option_or (then_some (is_bad_ui m) outcome.BadUi)
      (option_or (then_some (is_own_future d (ui_of m)) outcome.Idle)
      (gate_refusal d m))
