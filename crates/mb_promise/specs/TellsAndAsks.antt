-- Lost patience is told, and where a host falls behind what is stable, it asks for the state.
use Rattle.std.specs.Prelude.{◌≡◌, ℕ, ◌+◌, ◌<◌, List, Contains, max}
use Rattle.mb_usig.specs.Tags.{wish_tag}
use Rattle.mb_msg.specs.declared.message.Message.TheVariants as message
use Rattle.mb_msg.specs.declared.change.ReqViewChange.{ReqViewChange}
use Rattle.mb_msg.specs.declared.event.Event.{Event}
use Rattle.mb_msg.specs.declared.event.Event.TheVariants as event
use Rattle.mb_model.specs.Histories.{History, Identity, view_of}
use Rattle.mb_model.specs.Held.{view_limit, wish_of}
use Rattle.mb_model.specs.Stable.{low_of}
use Rattle.mb_model.specs.Sending.{Letter, to_all}
use Rattle.mb_model.specs.HostStep.{transition}
use Rattle.mb_promise.specs.Answers.{AsksWhereBehind}

module _ {S : Type 0} (self : Identity S) (d : History) where
  -- All are told a wish of this host for this view.
  pub record IsToldWishFor (view : ℕ) (sent : List Letter) : Type 0 where
    pub wish : ReqViewChange
    pub host : wish.host ≡ self.host
    pub view_is : wish.view ≡ view
    pub tag : wish.tag ≡ wish_tag self.secret self.host view
    pub told : Contains sent (to_all (message.ReqViewChange wish))

  -- Behind lost patience it is one for the view behind the own one, or for the greater one that the host wished for already.
  abbrev pub TellsPatience : Type 0
  TellsPatience = (view_of self d ≡ view_limit → ⊥) → IsToldWishFor (max (wish_of self d self.host) (view_of self d + 1)) (transition self d event.Patience).left.sent

  -- The parts that are missing are asked for where the stable position rose in this step.
  abbrev pub FetchesWhereRisen : Type 0
  FetchesWhereRisen = (e : Event) → low_of self d < low_of self (transition self d e).left.history → AsksWhereBehind self d (transition self d e).left

  pub record TellsAndAsks : Type 0 where
    pub patience : TellsPatience
    pub fetches : FetchesWhereRisen
