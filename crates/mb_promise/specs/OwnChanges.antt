-- What a host stamps in a change of the view says what it holds: a VIEW_CHANGE its floor and what is stable, a NEW_VIEW the VIEW_CHANGEs to its view that it
-- holds and the plan that they lead to, an ENTER the NEW_VIEW that it answers.
use Rattle.std.specs.Prelude.{◌≡◌, ◌∷◌, ◌++◌, length, Some, Contains}
use Rattle.mb_base.specs.Shapes.{quorum}
use Rattle.mb_msg.specs.declared.message.Body.TheVariants.{Whole}
use Rattle.mb_msg.specs.declared.change.ChangeBody.{ChangeBody}
use Rattle.mb_msg.specs.declared.change.ViewChange.{ViewChange}
use Rattle.mb_msg.specs.declared.change.NewViewBody.{NewViewBody}
use Rattle.mb_msg.specs.declared.change.NewView.{NewView}
use Rattle.mb_msg.specs.declared.change.Enter.{Enter}
use Rattle.mb_msg.specs.declared.stamped.Stamped.TheVariants as stamped
use Rattle.mb_msg.specs.Plans.{plan_end, plan_digest}
use Rattle.mb_model.specs.Histories.{Stamped, History, Identity, view_of}
use Rattle.mb_model.specs.Held.{changes_of, new_view_of, plan_from}
use Rattle.mb_model.specs.Stable.{stable_of, log_floor}

module _ {S : Type 0} (self : Identity S) where
  -- A VIEW_CHANGE is whole. It shows the floor of the host's log, and what is stable.
  pub record ChangeShows (before : History) (m : ViewChange) : Type 0 where
    pub body : ChangeBody
    pub whole : m.body ≡ Whole body
    pub floor : body.floor ≡ log_floor self before
    pub stable : body.stable ≡ stable_of self before

  -- A NEW_VIEW is whole, and of the host's view. It shows f+1 VIEW_CHANGEs to this view, each of which the host holds, and announces the plan that they
  -- lead to.
  pub record NewViewShows (before : History) (m : NewView) : Type 0 where
    pub view : m.view ≡ view_of self before
    pub body : NewViewBody
    pub whole : m.body ≡ Whole body
    pub many : length body.changes ≡ quorum self.shape
    pub held : (c : ViewChange) → Contains body.changes c → Contains (changes_of self before) c × (c.view ≡ m.view)
    pub base : m.base ≡ (plan_from self body.changes).base.pos
    pub end : m.end ≡ plan_end (plan_from self body.changes)
    pub plan : m.plan ≡ plan_digest (plan_from self body.changes)

  -- An ENTER answers the NEW_VIEW of the host's view, which it holds.
  pub record EnterAnswers (before : History) (m : Enter) : Type 0 where
    pub announced : NewView
    pub held : new_view_of self before ≡ Some announced
    pub current : announced.view ≡ view_of self before
    pub view : m.view ≡ announced.view
    pub counter : m.counter ≡ announced.ui.counter
    pub plan : m.plan ≡ announced.plan

  -- So it is of each of them, as it was stamped.
  pub record ShowsInChanges (d : History) : Type 0 where
    pub changes : (later before : History) (m : ViewChange) → d ≡ later ++ Stamped (stamped.ViewChange m) ∷ before → ChangeShows before m
    pub new_views : (later before : History) (m : NewView) → d ≡ later ++ Stamped (stamped.NewView m) ∷ before → NewViewShows before m
    pub enters : (later before : History) (m : Enter) → d ≡ later ++ Stamped (stamped.Enter m) ∷ before → EnterAnswers before m
