-- What is refused sends nothing, but for the stored reply of a request that comes again; and a LOG that is not valid does nothing at all.
use Rattle.std.proofs.Common.{◌≡◌, ℕ, [], refl, sym, ap, subst, inl, inr, Some, Result, Ok}
use Rattle.mb_parts.specs.declared.request.Request.{Request}
use Rattle.mb_msg.specs.declared.message.Message.{Message}
use Rattle.mb_msg.specs.declared.message.Message.TheVariants as message
use Rattle.mb_msg.specs.declared.transfer.Log.{Log}
use Rattle.mb_msg.specs.declared.transfer.StateMsg.{StateMsg}
use Rattle.mb_msg.specs.declared.stamped.Stamped.{Stamped as StampedMessage}
use Rattle.mb_msg.specs.declared.stamped.Stamped.TheVariants as stamped
use Rattle.mb_msg.specs.declared.event.Outcome.{Outcome}
use Rattle.mb_msg.specs.declared.event.Outcome.TheVariants as outcome
use Rattle.mb_msg.specs.Reading.{message_of}
use Rattle.mb_msg.specs.Stamps.{as_message, ui_of}
use Rattle.mb_model.specs.Histories.{History, Identity}
use Rattle.mb_model.specs.Compared.{compared_in}
use Rattle.mb_model.specs.Sending.{Progress, begin, note}
use Rattle.mb_model.specs.PlainChecks.{log_refusal}
use Rattle.mb_model.specs.Given.{Answer, closing, answer_request, answer_state, give_log}
use Rattle.mb_model.specs.HostStep.{on_bytes, transition}
use Rattle.mb_model.proofs.Options.{option_cases}
use Rattle.mb_steps.proofs.StepPassed.{passes_log}
use Rattle.mb_each_host.proofs.Refused.{of_refused}
use Rattle.mb_promise.specs.TakesLogs.{IsValidLog}
use Rattle.mb_world_model.specs.World.{self_of}
use Rattle.mb_world_model.specs.WorldSteps.{world}
use Rattle.mb_world_laws.proofs.KeptByWorlds.{world_arises}
use Rattle.mb_pins.specs.OnlyValid.{RefusesLogs, IsSilent, RefusesSilently, MalformedSilently, HostsTakeOnlyValid}
use Rattle.mb_pins.proofs.ClosedGates.{gates_shut}
use Rattle.mb_pins.proofs.OnlyValid.{log_so, only_valid, only_valid_logs}

module _ {S : Type 0} (self : Identity S) (d : History) where
  -- ---- each kind

  closing_silent : (o : Outcome) (m : StampedMessage) (x : Progress) → x.sent ≡ [] → (closing o (ui_of m) x).sent ≡ []
  closing_silent (outcome.Illegal r) m x none = none
  closing_silent o m x none = none

  stamped_silent : (m : StampedMessage) (o : Outcome) → (closing o (ui_of m) (note (compared_in self d m) (begin d))).sent ≡ []
  stamped_silent m o = closing_silent o m (note (compared_in self d m) (begin d)) refl

  stamp_silent : (m : StampedMessage) (o : Outcome) → IsSilent self d (as_message m) o (closing o (ui_of m) (note (compared_in self d m) (begin d))).sent
  stamp_silent (stamped.Prepare m) o = stamped_silent (stamped.Prepare m) o
  stamp_silent (stamped.Commit m) o = stamped_silent (stamped.Commit m) o
  stamp_silent (stamped.Checkpoint m) o = stamped_silent (stamped.Checkpoint m) o
  stamp_silent (stamped.ViewChange m) o = stamped_silent (stamped.ViewChange m) o
  stamp_silent (stamped.NewView m) o = stamped_silent (stamped.NewView m) o
  stamp_silent (stamped.Enter m) o = stamped_silent (stamped.Enter m) o
  stamp_silent (stamped.Open m) o = stamped_silent (stamped.Open m) o
  stamp_silent (stamped.Join m) o = stamped_silent (stamped.Join m) o

  abbrev IsSilentAt : Message → Answer → Type 0
  IsSilentAt m a = IsSilent self d m a.outcome a.left.sent

  request_silent : (m : Request) (o : Outcome) → IsSilentAt (message.Request m) (answer_request self (Some o) m (begin d))
  request_silent m outcome.Again = refl
  request_silent m o = refl

  state_silent : (m : StateMsg) (o : Outcome) → IsSilentAt (message.State m) (answer_state self (Some o) m (begin d))
  state_silent m (outcome.BadState part at) = refl
  state_silent m o = refl

  refuses_silently : RefusesSilently self d
  refuses_silently = of_refused self d IsSilentAt (record {
    stamp = stamp_silent;
    request = request_silent;
    state = state_silent;
    wish = λ m o. refl;
    resend = λ m o. refl;
    fetch = λ m o. refl;
    reply = λ m o. refl;
    stop = λ m o. refl;
  })

  malformed_silently : MalformedSilently self d
  unfolding transition
  malformed_silently bytes at reads = rw reads refl

  -- ---- LOG

  log_left : (m : Log) (o : Outcome) → log_refusal self m ≡ Some o → (on_bytes self (Ok (message.Log m)) d).left ≡ begin d
  unfolding give_log
  log_left m o some = rw some refl

  refused_log : (m : Log) → (IsValidLog self m → ⊥) → (on_bytes self (Ok (message.Log m)) d).left ≡ begin d
  refused_log m never = elim (option_cases (log_refusal self m)) [
    | inl none ↦ absurd (never (log_so self m (passes_log self m none)))
    | inr (o, some) ↦ log_left m o some
  ]

  refuses_logs : RefusesLogs self d
  unfolding transition
  refuses_logs bytes m reads never =
      let left = refused_log m never in
      let all : (on_bytes self (message_of self.shape bytes) d).left ≡ begin d = subst (λ (r : Result Message ℕ). (on_bytes self r d).left ≡ begin d) (sym reads) left in
      (ap (λ (x : Progress). x.history) all, ap (λ (x : Progress). x.sent) all)

pub hosts_take_only_valid : (S : Type 0) → HostsTakeOnlyValid S
hosts_take_only_valid S system k h =
    let self : Identity S = self_of system h in
    let d : History = (world system k).histories h in
    record {
      valid = only_valid self d (world_arises system k h) (gates_shut system k h);
      logs = only_valid_logs self d (world_arises system k h);
      refused_logs = refuses_logs self d;
      silent = refuses_silently self d;
      malformed = malformed_silently self d;
    }
