-- What becomes of a message that is refused: by its kind alone, since no rule follows. A LOG is left out, which has outcomes of its entries.
use Rattle.std.proofs.Common.{◌≡◌, ℕ, Bool, true, false, refl, sym, subst, inl, inr, Some, Result, Ok}
use Rattle.mb_base.specs.Shapes.{Bytes}
use Rattle.mb_parts.specs.declared.request.Request.{Request}
use Rattle.mb_msg.specs.declared.message.Message.{Message}
use Rattle.mb_msg.specs.declared.message.Message.TheVariants as message
use Rattle.mb_msg.specs.declared.normal.Reply.{Reply}
use Rattle.mb_msg.specs.declared.change.ReqViewChange.{ReqViewChange}
use Rattle.mb_msg.specs.declared.transfer.Resend.{Resend}
use Rattle.mb_msg.specs.declared.transfer.Fetch.{Fetch}
use Rattle.mb_msg.specs.declared.transfer.StateMsg.{StateMsg}
use Rattle.mb_msg.specs.declared.normal.Stop.{Stop}
use Rattle.mb_msg.specs.declared.stamped.Stamped.{Stamped as StampedMessage}
use Rattle.mb_msg.specs.declared.stamped.Stamped.TheVariants as stamped
use Rattle.mb_msg.specs.declared.event.Event.TheVariants as event
use Rattle.mb_msg.specs.declared.event.Outcome.{Outcome}
use Rattle.mb_msg.specs.declared.event.Outcome.TheVariants as outcome
use Rattle.mb_msg.specs.Reading.{message_of}
use Rattle.mb_msg.specs.Stamps.{as_message, ui_of}
use Rattle.mb_model.specs.Histories.{History, Identity}
use Rattle.mb_model.specs.Compared.{compared_in}
use Rattle.mb_model.specs.Sending.{begin, note}
use Rattle.mb_model.specs.KindChecks.{stamped_refusal}
use Rattle.mb_model.specs.PlainChecks.{request_refusal, wish_refusal, resend_refusal, fetch_refusal, state_refusal, stop_answer}
use Rattle.mb_model.specs.Given.{Answer, answer, closing, answer_request, answer_state, give_stamped, give_request, give_wish, give_resend, give_fetch, give_state, give}
use Rattle.mb_model.specs.HostStep.{is_taken, rules_follow, asks_on, finished_where, on_bytes, transition}
use Rattle.mb_model.proofs.Options.{option_cases}
use Rattle.mb_promise.specs.NothingLeft.{IsNoLog}

abbrev pub IsRefused : Answer → Type 0
IsRefused a = a.outcome ≡ outcome.Took → ⊥

module _ {S : Type 0} (self : Identity S) (d : History) (G : Message → Answer → Type 0) where
  -- It holds of what a refused message of each kind is answered and leaves.
  pub record OfRefused : Type 0 where
    pub stamp : (m : StampedMessage) (o : Outcome) → G (as_message m) (answer o (closing o (ui_of m) (note (compared_in self d m) (begin d))))
    pub request : (m : Request) (o : Outcome) → G (message.Request m) (answer_request self (Some o) m (begin d))
    pub state : (m : StateMsg) (o : Outcome) → G (message.State m) (answer_state self (Some o) m (begin d))
    pub wish : (m : ReqViewChange) (o : Outcome) → G (message.ReqViewChange m) (answer o (begin d))
    pub resend : (m : Resend) (o : Outcome) → G (message.Resend m) (answer o (begin d))
    pub fetch : (m : Fetch) (o : Outcome) → G (message.Fetch m) (answer o (begin d))
    pub reply : (m : Reply) (o : Outcome) → G (message.Reply m) (answer o (begin d))
    pub stop : (m : Stop) (o : Outcome) → G (message.Stop m) (answer o (begin d))

  module _ (of : OfRefused) where
    -- ---- each kind

    of_stamped : (m : StampedMessage) → IsRefused (give_stamped self m (begin d)) → G (as_message m) (give_stamped self m (begin d))
    unfolding give_stamped
    of_stamped m = elim (option_cases (stamped_refusal self d m)) [
      | inl none ↦ rw none (λ never. absurd (never refl))
      | inr (o, some) ↦ rw some (λ never. of.stamp m o)
    ]

    of_request : (m : Request) → IsRefused (give_request self m (begin d)) → G (message.Request m) (give_request self m (begin d))
    unfolding give_request
    of_request m = elim (option_cases (request_refusal self d m)) [
      | inl none ↦ rw none (λ never. absurd (never refl))
      | inr (o, some) ↦ rw some (λ never. of.request m o)
    ]

    of_wish : (m : ReqViewChange) → IsRefused (give_wish self m (begin d)) → G (message.ReqViewChange m) (give_wish self m (begin d))
    unfolding give_wish
    of_wish m = elim (option_cases (wish_refusal self d m)) [
      | inl none ↦ rw none (λ never. absurd (never refl))
      | inr (o, some) ↦ rw some (λ never. of.wish m o)
    ]

    of_resend : (m : Resend) → IsRefused (give_resend self m (begin d)) → G (message.Resend m) (give_resend self m (begin d))
    unfolding give_resend
    of_resend m = elim (option_cases (resend_refusal self d m)) [
      | inl none ↦ rw none (λ never. absurd (never refl))
      | inr (o, some) ↦ rw some (λ never. of.resend m o)
    ]

    of_fetch : (m : Fetch) → IsRefused (give_fetch self m (begin d)) → G (message.Fetch m) (give_fetch self m (begin d))
    unfolding give_fetch
    of_fetch m = elim (option_cases (fetch_refusal self d m)) [
      | inl none ↦ rw none (λ never. absurd (never refl))
      | inr (o, some) ↦ rw some (λ never. of.fetch m o)
    ]

    of_state : (m : StateMsg) → IsRefused (give_state self m (begin d)) → G (message.State m) (give_state self m (begin d))
    unfolding give_state
    of_state m = elim (option_cases (state_refusal self d m)) [
      | inl none ↦ rw none (λ never. absurd (never refl))
      | inr (o, some) ↦ rw some (λ never. of.state m o)
    ]

    pub of_given : (m : Message) → IsNoLog self d m → IsRefused (give self m (begin d)) → G m (give self m (begin d))
    of_given (message.Request m) n never = of_request m never
    of_given (message.Prepare m) n never = of_stamped (stamped.Prepare m) never
    of_given (message.Commit m) n never = of_stamped (stamped.Commit m) never
    of_given (message.Reply m) n never = of.reply m outcome.Idle
    of_given (message.Checkpoint m) n never = of_stamped (stamped.Checkpoint m) never
    of_given (message.ReqViewChange m) n never = of_wish m never
    of_given (message.ViewChange m) n never = of_stamped (stamped.ViewChange m) never
    of_given (message.NewView m) n never = of_stamped (stamped.NewView m) never
    of_given (message.Enter m) n never = of_stamped (stamped.Enter m) never
    of_given (message.Open m) n never = of_stamped (stamped.Open m) never
    of_given (message.Join m) n never = of_stamped (stamped.Join m) never
    of_given (message.Resend m) n never = of_resend m never
    of_given (message.Log m) n never = absurd n
    of_given (message.Fetch m) n never = of_fetch m never
    of_given (message.State m) n never = of_state m never
    of_given (message.Stop m) n never = of.stop m (stop_answer self m)

    -- ---- no rule follows

    not_taken : (o : Outcome) → (o ≡ outcome.Took → ⊥) → is_taken self o ≡ false
    not_taken outcome.Took never = absurd (never refl)
    not_taken o never = refl

    none_follow : (m : Message) → IsNoLog self d m → (o : Outcome) → (o ≡ outcome.Took → ⊥) → rules_follow self o m ≡ false
    none_follow (message.Log m) n o never = absurd n
    none_follow m n o never = not_taken o never

    ends_so : (m : Message) → IsNoLog self d m → (a : Answer) → (IsRefused a → G m a) → IsRefused (finished_where self (rules_follow self a.outcome m) (asks_on self m) d a)
        → G m (finished_where self (rules_follow self a.outcome m) (asks_on self m) d a)
    ends_so m n a left never =
        let refused : IsRefused a = λ e. never (same (rules_follow self a.outcome m) e) in
        rw (none_follow m n a.outcome refused) (left refused) where
          same : (runs : Bool) → a.outcome ≡ outcome.Took → (finished_where self runs (asks_on self m) d a).outcome ≡ outcome.Took
          same true e = e
          same false e = e

    of_read : (m : Message) → IsNoLog self d m → (r : Result Message ℕ) → Ok m ≡ r → IsRefused (on_bytes self r d) → G m (on_bytes self r d)
    of_read m n r is = subst (λ (r : Result Message ℕ). IsRefused (on_bytes self r d) → G m (on_bytes self r d)) is (ends_so m n (give self m (begin d)) (of_given m n))

    -- So it holds of what the event is answered and leaves.
    pub of_refused : (bytes : Bytes) (m : Message) → message_of self.shape bytes ≡ Ok m → IsNoLog self d m → IsRefused (transition self d (event.Given bytes)) → G m (transition self d (event.Given bytes))
    unfolding transition
    of_refused bytes m reads n = of_read m n _ (sym reads)
