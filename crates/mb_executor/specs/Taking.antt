-- What a STATE of the stable position comes to. The parts that were held before are those that a search finds by number.
use Rattle.std.specs.Prelude.{ℕ, ◌≡◌, Bool, true, false, List, length, Option, Some, None, Result, Ok, Err, is_some}
use Rattle.std.specs.List.{range_with_len, list_all}
use Rattle.mb_base.specs.Shapes.{Bytes}
use Rattle.mb_base.specs.declared.writing.NoMemory.{NoMemory}
use Rattle.mb_service.specs.declared.restore.Restore.{Restore}
use Rattle.mb_service.specs.declared.restore.Restore.TheVariants as restore
use Rattle.mb_msg.specs.declared.transfer.StateMsg.{StateMsg}
use Rattle.mb_model.specs.Service.{Served}
use Rattle.mb_model.specs.States.{Snapshots, restored}
use Rattle.mb_fetch.specs.Checks.{first_wrong}
use Rattle.mb_fetch.specs.Parts.{joined, first_missing, all_found}
use Rattle.mb_executor.specs.declared.fetching.Fetched.{Fetched}
use Rattle.mb_executor.specs.declared.fetching.Fetched.TheVariants.{WrongDigest, Nothing, Parts, State, BadState}
use Rattle.mb_executor.specs.Keeping.{Keeping, found, AreOf, with_served, with_fetched}

-- Each part of a STATE is held.
abbrev pub are_held : (ℕ → Option Bytes) → StateMsg → Bool
are_held search m = list_all (λ i. is_some (search i)) (range_with_len m.first (length m.parts))

module _ {S : Type 0} where
  -- The parts that are held now are these, of this position, under this state digest. All else is as it was.
  pub record HoldsParts (pos : ℕ) (digest : Bytes) (search : ℕ → Option Bytes) (old new : Keeping S) : Type 0 where
    pub rest_stays : new ≡ with_fetched old new.fetched
    pub parts_of : AreOf new.fetched pos digest
    pub finds : (i : ℕ) → found new.fetched i ≡ search i

  -- No part is held any more.
  abbrev pub emptied : Keeping S → Keeping S
  emptied k = with_fetched k None

  module _ (snapshots : Snapshots S) where
    -- the state of these parts, with as many clients
    abbrev pub state_from : Keeping S → List Bytes → Result (Served S) (ℕ × ℕ)
    state_from k parts = restored snapshots (length k.served.table) parts

    -- The state is that of the parts, or stays where they are none, or where memory ran out.
    abbrev pub Installs : {U : Type 0} → List Bytes → Keeping S → Keeping S → Result U Restore → Type 0
    Installs parts old new (Ok u) = (state_from old parts ≡ Ok new.served) × (new ≡ with_served old new.served)
    Installs parts old new (Err (restore.BadSnapshot part at)) = (state_from old parts ≡ Err (part, at)) × (new ≡ old)
    Installs parts old new (Err restore.NoMemory) = new ≡ old

    -- Behind a STATE whose parts are held: others are missing still, or with all of them their state is installed, or they are no state.
    abbrev pub Completes : ℕ → Bytes → (ℕ → Option Bytes) → Keeping S → Keeping S → Result Fetched NoMemory → Type 0
    Completes pos digest search old new (Ok Parts) = (is_some (first_missing search) ≡ true) × HoldsParts pos digest search old new
    Completes pos digest search old new (Ok State) =
        (first_missing search ≡ None) × ((state_from old (all_found search) ≡ Ok new.served) × (new ≡ emptied (with_served old new.served)))
    Completes pos digest search old new (Ok (BadState part at)) = (first_missing search ≡ None) × ((state_from old (all_found search) ≡ Err (part, at)) × (new ≡ emptied old))
    Completes pos digest search old new (Ok Nothing) = ⊥
    Completes pos digest search old new (Ok (WrongDigest part)) = ⊥
    Completes pos digest search old new (Err e) = new ≡ emptied old

    -- the same of all parts
    abbrev pub InstallsAll : List Bytes → Keeping S → Keeping S → Result Fetched NoMemory → Type 0
    InstallsAll parts old new (Ok State) = (state_from old parts ≡ Ok new.served) × (new ≡ with_served old new.served)
    InstallsAll parts old new (Ok (BadState part at)) = (state_from old parts ≡ Err (part, at)) × (new ≡ old)
    InstallsAll parts old new (Ok Parts) = ⊥
    InstallsAll parts old new (Ok Nothing) = ⊥
    InstallsAll parts old new (Ok (WrongDigest part)) = ⊥
    InstallsAll parts old new (Err e) = new ≡ old

    -- its parts are right, and one of them is not held yet
    abbrev pub IsMore : Bytes → (ℕ → Option Bytes) → StateMsg → Type 0
    IsMore certified search m = (first_wrong certified m ≡ None) × (are_held search m ≡ false)

    -- A wrong list of digests or a wrong part, or parts that are all held, change nothing. Else the parts are held too.
    abbrev pub Takes : Bytes → (ℕ → Option Bytes) → StateMsg → Keeping S → Keeping S → Result Fetched NoMemory → Type 0
    Takes certified search m old new (Ok (WrongDigest part)) = (first_wrong certified m ≡ Some part) × HoldsParts m.pos certified search old new
    Takes certified search m old new (Ok Nothing) = (first_wrong certified m ≡ None) × ((are_held search m ≡ true) × HoldsParts m.pos certified search old new)
    Takes certified search m old new (Ok Parts) = IsMore certified search m × Completes m.pos certified (joined search m) old new (Ok Parts)
    Takes certified search m old new (Ok State) = IsMore certified search m × Completes m.pos certified (joined search m) old new (Ok State)
    Takes certified search m old new (Ok (BadState part at)) = IsMore certified search m × Completes m.pos certified (joined search m) old new (Ok (BadState part at))
    Takes certified search m old new (Err e) = new ≡ emptied old
