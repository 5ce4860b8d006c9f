-- What joining the parts of a STATE to those that were held comes to.
use Rattle.std.proofs.Common.{◌≡◌, ℕ, false, Option, None, Result, Ok, Err}
use Rattle.mb_base.specs.Shapes.{Bytes}
use Rattle.mb_base.specs.declared.writing.NoMemory.{NoMemory}
use Rattle.mb_msg.specs.declared.transfer.StateMsg.{StateMsg}
use Rattle.mb_model.specs.States.{Snapshots}
use Rattle.mb_fetch.specs.Checks.{first_wrong}
use Rattle.mb_fetch.specs.Parts.{joined}
use Rattle.mb_executor.specs.declared.fetching.Fetched.{Fetched}
use Rattle.mb_executor.specs.declared.fetching.Fetched.TheVariants.{WrongDigest, Nothing, Parts, State, BadState}
use Rattle.mb_executor.specs.Keeping.{Keeping}
use Rattle.mb_executor.specs.Taking.{are_held, HoldsParts, emptied, Completes, Takes}

module _ {S : Type 0} (snapshots : Snapshots S) (certified : Bytes) (search : ℕ → Option Bytes) (m : StateMsg) (old new : Keeping S) where
  pub more_taken : first_wrong certified m ≡ None → are_held search m ≡ false → (r : Result Fetched NoMemory) → Completes snapshots m.pos certified (joined search m) old new r → Takes snapshots certified search m old new r
  more_taken right more (Ok Parts) h = ((right, more), h)
  more_taken right more (Ok State) h = ((right, more), h)
  more_taken right more (Ok (BadState part at)) h = ((right, more), h)
  more_taken right more (Ok Nothing) h = absurd h
  more_taken right more (Ok (WrongDigest part)) h = absurd h
  more_taken right more (Err e) h = h

  holds : (s : ℕ → Option Bytes) → HoldsParts m.pos certified s (emptied old) new → HoldsParts m.pos certified s old new
  holds s h = record { rest_stays = h.rest_stays; parts_of = h.parts_of; finds = h.finds }

  -- Whether the parts were taken out before makes no difference.
  pub taken_from : (r : Result Fetched NoMemory) → Takes snapshots certified search m (emptied old) new r → Takes snapshots certified search m old new r
  taken_from (Ok Parts) h = (h.0, (h.1.0, holds (joined search m) h.1.1))
  taken_from (Ok State) h = h
  taken_from (Ok (BadState part at)) h = h
  taken_from (Ok Nothing) h = (h.0, (h.1.0, holds search h.1.1))
  taken_from (Ok (WrongDigest part)) h = (h.0, holds search h.1)
  taken_from (Err e) h = h
