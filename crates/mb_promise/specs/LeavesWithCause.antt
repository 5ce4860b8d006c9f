-- A host leaves its view only with cause: f+1 hosts wish for a later one, or it holds the NEW_VIEW of a later one or evidence of it.
use Rattle.std.specs.Prelude.{◌≡◌, ℕ, ◌<◌, ◌⊎◌, ◌∷◌, ◌++◌}
use Rattle.mb_msg.specs.declared.change.ViewChange.{ViewChange}
use Rattle.mb_msg.specs.declared.stamped.Stamped.TheVariants as stamped
use Rattle.mb_model.specs.Histories.{Stamped, History, Identity, view_of}
use Rattle.mb_promise.specs.NothingLeft.{IsWished, IsAnnounced, IsEvident}

module _ {S : Type 0} (self : Identity S) (d : History) where
  -- a view above the host's own, which f+1 hosts wish for, or of which the host holds the NEW_VIEW or evidence
  pub record HasCause (v : ℕ) : Type 0 where
    pub above : view_of self d < v
    pub cause : IsWished self d v ⊎ (IsAnnounced self d v ⊎ IsEvident self d v)

module _ {S : Type 0} (self : Identity S) where
  -- Right before the host stamped a VIEW_CHANGE, there was cause to leave for its view.
  abbrev pub LeavesWithCause : History → Type 0
  LeavesWithCause d = (later before : History) (m : ViewChange) → d ≡ later ++ Stamped (stamped.ViewChange m) ∷ before → HasCause self before m.view
