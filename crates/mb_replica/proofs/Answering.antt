-- What became of a given message, as the code answers it and as the history says it.
use Rattle.std.proofs.Common.{◌≡◌, false, Some, None, refl, sym, ap, subst, ◌∙◌}
use Rattle.std.proofs.lemmas.Option.{same_Some}
use Rattle.mb_base.specs.declared.shape.Shape.{Shape}
use Rattle.mb_msg.specs.declared.stamped.Stamped.{Stamped as StampedMessage}
use Rattle.mb_msg.specs.declared.stamped.Stamped.TheVariants as stamped
use Rattle.mb_msg.specs.Fits.{FitsFields, FitsStamped}
use Rattle.mb_msg.specs.Stamps.{as_stamped}
use Rattle.mb_model.specs.Sending.{Progress}
use Rattle.mb_msg.specs.declared.message.Message.{Message}
use Rattle.mb_msg.specs.declared.message.Message.TheVariants as message
use Rattle.mb_parts.specs.declared.request.Request.{Request}
use Rattle.mb_msg.specs.declared.change.ReqViewChange.{ReqViewChange}
use Rattle.mb_msg.specs.declared.transfer.Resend.{Resend}
use Rattle.mb_msg.specs.declared.transfer.Log.{Log}
use Rattle.mb_msg.specs.declared.transfer.Fetch.{Fetch}
use Rattle.mb_msg.specs.declared.transfer.StateMsg.{StateMsg}
use Rattle.mb_msg.specs.declared.normal.Stop.{Stop}
use Rattle.mb_msg.specs.declared.event.Outcome.{Outcome}
use Rattle.mb_msg.specs.declared.event.Outcome.TheVariants as outcome
use Rattle.mb_model.specs.Histories.{Identity}
use Rattle.mb_model.specs.Given.{Answer, answer, give, give_stamped}
use Rattle.mb_model.specs.HostStep.{rules_follow, asks_on}
use Rattle.mb_model.specs.HostStep as host
use Rattle.mb_replica.specs.declared.given.Reaction.{Reaction as GivenAnswer}
use Rattle.mb_replica.specs.Answers.{is_taken}
use Rattle.mb_replica.specs.Represents.{Answers, IsOther}

-- that of a message other than LOG and STATE
abbrev pub answer_of : Outcome → GivenAnswer
answer_of o = record { outcome = o; rules_follow = is_taken o; asks = false }

module _ {S : Type 0} (me : Identity S) where
  pub same_taken : (o : Outcome) → is_taken o ≡ host.is_taken me o
  same_taken outcome.Took = refl
  same_taken o = refl

  -- The rules follow what is taken, and no parts are asked for.
  abbrev pub IsPlain : Message → Type 0
  IsPlain m = ((o : Outcome) → rules_follow me o m ≡ host.is_taken me o) × (asks_on me m ≡ false)

  pub answered : (m : Message) (a : GivenAnswer) (o : Outcome) (is : Answer) → IsPlain m → a ≡ answer_of o → o ≡ is.outcome → Answers me m a is
  answered m a o is plain of same = record {
    outcome = ap (λ (x : GivenAnswer). x.outcome) of ∙ same;
    follow = ap (λ (x : GivenAnswer). x.rules_follow) of ∙ (ap is_taken same ∙ (same_taken is.outcome ∙ sym (plain.0 is.outcome)));
    asks = ap (λ (x : GivenAnswer). x.asks) of ∙ sym plain.1;
  }

  -- stamped messages and REPLYs are so
  pub other_plain : (m : Message) → IsOther m → IsPlain m
  other_plain (message.Prepare m) is = ((λ o. refl), refl)
  other_plain (message.Commit m) is = ((λ o. refl), refl)
  other_plain (message.Reply m) is = ((λ o. refl), refl)
  other_plain (message.Checkpoint m) is = ((λ o. refl), refl)
  other_plain (message.ViewChange m) is = ((λ o. refl), refl)
  other_plain (message.NewView m) is = ((λ o. refl), refl)
  other_plain (message.Enter m) is = ((λ o. refl), refl)
  other_plain (message.Open m) is = ((λ o. refl), refl)
  other_plain (message.Join m) is = ((λ o. refl), refl)
  other_plain m is = absurd is

  -- ---- a stamped message is given as such

  pub given_stamped : (m : Message) (x : StampedMessage) (p : Progress) → as_stamped m ≡ Some x → give me m p ≡ give_stamped me x p
  given_stamped (message.Prepare m) x p e = ap (λ (y : StampedMessage). give_stamped me y p) (same_Some (stamped.Prepare m) x e)
  given_stamped (message.Commit m) x p e = ap (λ (y : StampedMessage). give_stamped me y p) (same_Some (stamped.Commit m) x e)
  given_stamped (message.Checkpoint m) x p e = ap (λ (y : StampedMessage). give_stamped me y p) (same_Some (stamped.Checkpoint m) x e)
  given_stamped (message.ViewChange m) x p e = ap (λ (y : StampedMessage). give_stamped me y p) (same_Some (stamped.ViewChange m) x e)
  given_stamped (message.NewView m) x p e = ap (λ (y : StampedMessage). give_stamped me y p) (same_Some (stamped.NewView m) x e)
  given_stamped (message.Enter m) x p e = ap (λ (y : StampedMessage). give_stamped me y p) (same_Some (stamped.Enter m) x e)
  given_stamped (message.Open m) x p e = ap (λ (y : StampedMessage). give_stamped me y p) (same_Some (stamped.Open m) x e)
  given_stamped (message.Join m) x p e = ap (λ (y : StampedMessage). give_stamped me y p) (same_Some (stamped.Join m) x e)
  given_stamped m x p e = absurd cc

  -- what else is given of those is a REPLY
  pub given_reply : (m : Message) (p : Progress) → IsOther m → as_stamped m ≡ None → give me m p ≡ answer outcome.Idle p
  given_reply (message.Prepare m) p is none = absurd cc
  given_reply (message.Commit m) p is none = absurd cc
  given_reply (message.Checkpoint m) p is none = absurd cc
  given_reply (message.ViewChange m) p is none = absurd cc
  given_reply (message.NewView m) p is none = absurd cc
  given_reply (message.Enter m) p is none = absurd cc
  given_reply (message.Open m) p is none = absurd cc
  given_reply (message.Join m) p is none = absurd cc
  given_reply (message.Reply m) p is none = refl
  given_reply m p is none = absurd is

pub stamped_fits : (s : Shape) (m : Message) (x : StampedMessage) → FitsFields s m → as_stamped m ≡ Some x → FitsStamped s x
stamped_fits s (message.Prepare m) x f e = subst (FitsStamped s) (same_Some (stamped.Prepare m) x e) f
stamped_fits s (message.Commit m) x f e = subst (FitsStamped s) (same_Some (stamped.Commit m) x e) f
stamped_fits s (message.Checkpoint m) x f e = subst (FitsStamped s) (same_Some (stamped.Checkpoint m) x e) f
stamped_fits s (message.ViewChange m) x f e = subst (FitsStamped s) (same_Some (stamped.ViewChange m) x e) f
stamped_fits s (message.NewView m) x f e = subst (FitsStamped s) (same_Some (stamped.NewView m) x e) f
stamped_fits s (message.Enter m) x f e = subst (FitsStamped s) (same_Some (stamped.Enter m) x e) f
stamped_fits s (message.Open m) x f e = subst (FitsStamped s) (same_Some (stamped.Open m) x e) f
stamped_fits s (message.Join m) x f e = subst (FitsStamped s) (same_Some (stamped.Join m) x e) f
stamped_fits s m x f e = absurd cc

-- what is left behind the seven kinds that are no stamped message and no REPLY
pub is_other : (m : Message) → ((x : Request) → m ≡ message.Request x → ⊥) → ((x : ReqViewChange) → m ≡ message.ReqViewChange x → ⊥) → ((x : Resend) → m ≡ message.Resend x → ⊥)
    → ((x : Log) → m ≡ message.Log x → ⊥) → ((x : Fetch) → m ≡ message.Fetch x → ⊥) → ((x : StateMsg) → m ≡ message.State x → ⊥) → ((x : Stop) → m ≡ message.Stop x → ⊥) → IsOther m
is_other (message.Request x) request wish resend log fetch state stop = absurd (request x refl)
is_other (message.ReqViewChange x) request wish resend log fetch state stop = absurd (wish x refl)
is_other (message.Resend x) request wish resend log fetch state stop = absurd (resend x refl)
is_other (message.Log x) request wish resend log fetch state stop = absurd (log x refl)
is_other (message.Fetch x) request wish resend log fetch state stop = absurd (fetch x refl)
is_other (message.State x) request wish resend log fetch state stop = absurd (state x refl)
is_other (message.Stop x) request wish resend log fetch state stop = absurd (stop x refl)
is_other m request wish resend log fetch state stop = tt
