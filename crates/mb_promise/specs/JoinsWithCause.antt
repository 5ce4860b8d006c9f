-- A host joins only with cause: all that is stable is executed, with evidence of its view, and what is stable lies beyond what its view has ordered.
use Rattle.std.specs.Prelude.{◌≡◌, ◌≤◌, ◌<◌, ◌⊎◌, true, false, ◌∷◌, ◌++◌}
use Rattle.mb_parts.specs.Ordered.{end_of}
use Rattle.mb_msg.specs.declared.change.Join.{Join}
use Rattle.mb_msg.specs.declared.stamped.Stamped.TheVariants as stamped
use Rattle.mb_model.specs.Histories.{Stamped, History, Identity, here, view_of, is_open, is_changing, is_primary}
use Rattle.mb_model.specs.Held.{evidence_of}
use Rattle.mb_model.specs.Stable.{stable_of, low_of}
use Rattle.mb_model.specs.Positions.{exec_of}
use Rattle.mb_promise.specs.NothingLeft.{IsEvident}

module _ {S : Type 0} (self : Identity S) (d : History) where
  -- The open view has ordered less than what is stable.
  pub record FellBehind : Type 0 where
    pub opened : is_open self d ≡ true
    pub last : (here self d).last < low_of self d

  -- The view is above 0 and not open, and its plan ends at or below what is stable; the primary has announced it.
  pub record IsPastItsPlan : Type 0 where
    pub above : 0 < view_of self d
    pub closed : is_open self d ≡ false
    pub announced : is_primary self d ≡ true → is_changing self d ≡ false
    pub some : 0 < low_of self d
    pub past : end_of (evidence_of self d) ≤ low_of self d

  -- The JOIN is of the host's view and at the stable position, and there is cause for it.
  pub record MayStampJoin (m : Join) : Type 0 where
    pub view : m.view ≡ view_of self d
    pub stable : m.stable ≡ stable_of self d
    pub executed : low_of self d ≤ exec_of d
    pub evident : (view_of self d ≡ 0) ⊎ IsEvident self d (view_of self d)
    pub cause : FellBehind ⊎ IsPastItsPlan

module _ {S : Type 0} (self : Identity S) where
  -- So it was right before the host stamped one.
  abbrev pub JoinsWithCause : History → Type 0
  JoinsWithCause d = (later before : History) (m : Join) → d ≡ later ++ Stamped (stamped.Join m) ∷ before → MayStampJoin self before m
