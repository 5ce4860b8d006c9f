-- What is kept represents a host's history.
use Rattle.std.specs.Prelude.{ℕ, ◌≡◌, Option, Some, None}
use Rattle.mb_model.specs.Histories.{History, Identity}
use Rattle.mb_model.specs.Execution.{state_of, part_held}
use Rattle.mb_fetch.specs.Fetched.{Fetched}
use Rattle.mb_fetch.specs.Histories.{RepresentsParts, RepresentsSnapshots}
use Rattle.mb_executor.specs.Keeping.{Keeping}

module _ {S : Type 0} (self : Identity S) where
  -- the parts of the state at the stable position that were fetched
  abbrev pub RepresentsFetched : Option Fetched → History → Type 0
  RepresentsFetched None d = (i : ℕ) → part_held self d i ≡ None
  RepresentsFetched (Some t) d = RepresentsParts self t d

  pub record Represents (k : Keeping S) (d : History) : Type 0 where
    pub state_is : k.served ≡ state_of self d
    pub snapshots_are : RepresentsSnapshots self k.snapshots d
    pub parts_are : RepresentsFetched k.fetched d
