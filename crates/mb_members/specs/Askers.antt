-- What the code's list of clients is: each is a side of the definitions.
use Rattle.std.specs.Prelude.{◌≡◌, ℕ, ◌≤◌, List, Some, slice_get}
use Rattle.mb_base.specs.declared.shape.Shape.{Shape}
use Rattle.mb_model.specs.Clients.{Asker}
use Rattle.mb_schedule.specs.declared.schedule.Schedule.{Schedule}
use Rattle.mb_client.specs.declared.asker.Asker.{Asker as Kept}
use Rattle.mb_client.specs.Represents.{Represents}

-- No client asked more often than there were events.
abbrev pub AskedWithin : ℕ → List Kept → Type 0
AskedWithin events askers = (c : ℕ) (a : Kept) → slice_get askers c ≡ Some a → a.number ≤ events

-- They are of a system of this size.
abbrev pub AreOfShape : Shape → List Kept → Type 0
AreOfShape s askers = (c : ℕ) (a : Kept) → slice_get askers c ≡ Some a → a.shape ≡ s

-- each client's side
abbrev pub RepresentsAskers : Schedule → List Kept → (ℕ → Asker) → Type 0
RepresentsAskers s askers sides = (c : ℕ) (a : Kept) → slice_get askers c ≡ Some a → Represents s.shape s.secret c a (sides c)
