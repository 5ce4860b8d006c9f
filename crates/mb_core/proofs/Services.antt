-- A host's service keeps the property of its states, and gives short results, as the laws of every service say.
use Rattle.std.proofs.Common.{◌≡◌, ◌∙◌, List, ap, sym, subst, Ok}
use Rattle.mb_base.specs.Shapes.{Bytes}
use Rattle.mb_service.specs.Machine.{ServiceMachine}
use Rattle.mb_parts.specs.Fits.{FitsText}
use Rattle.mb_service.specs.Parts.{IsShort, AreParts, parts_of}
use Rattle.mb_model.specs.Service.{Machine}
use Rattle.mb_model.specs.States.{Snapshots}
use Rattle.mb_model.specs.Histories.{Identity}
use Rattle.mb_encodable.specs.Fitting.{KeepsStates}
use Rattle.mb_replica.specs.Represents.{Serves}

module _ {V : Type 0} (machine : ServiceMachine V) where
  pub keeps_states : ((s : V) (op : Bytes) → machine.is_state s → machine.is_state (machine.after s op)) → ((s : V) (op : Bytes) → machine.is_state s → IsShort (machine.answer s op))
      → ((parts : List Bytes) (s : V) → AreParts parts → machine.restored parts ≡ Ok s → machine.is_state s × (parts ≡ parts_of machine.part_of s)) → (me : Identity V) → Serves machine me → KeepsStates me machine.is_state
  keeps_states stay short one me serves = record {
    first = serves.first;
    stays = λ x op i. subst (λ (m : Machine V). machine.is_state (m.after x op)) (sym serves.machine) (stay x op i);
    short = λ x op i. subst (λ (m : Machine V). FitsText (m.result x op)) (sym serves.machine) (short x op i);
    restored = λ parts x many bytes is. (one parts x (many, bytes) (ap (λ (y : Snapshots V). y.restored parts) (sym serves.snapshots) ∙ is)).0;
  }
