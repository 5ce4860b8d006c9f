-- A LOG of another host is taken, and then its entries one after the other.
use Rattle.std.specs.Prelude.{◌≡◌, ◌≤◌, true, List, [], ◌∷◌, Some, None, Ok, Contains}
use Rattle.mb_base.specs.Shapes.{Bytes}
use Rattle.mb_parts.specs.declared.floor.Floor.{Floor}
use Rattle.mb_parts.specs.declared.certificates.FloorCert.{FloorCert}
use Rattle.mb_parts.specs.declared.certificates.Evidence.{Evidence}
use Rattle.mb_parts.specs.Certificates.{certified_floor, is_stable, is_evidence}
use Rattle.mb_msg.specs.declared.message.Message.TheVariants as message
use Rattle.mb_msg.specs.declared.transfer.Log.{Log}
use Rattle.mb_msg.specs.declared.stamped.Stamped.{Stamped as StampedMessage}
use Rattle.mb_msg.specs.declared.event.Event.TheVariants as event
use Rattle.mb_msg.specs.Stamps.{ui_of, as_message}
use Rattle.mb_msg.specs.Reading.{message_of}
use Rattle.mb_model.specs.Verified.{verifies}
use Rattle.mb_model.specs.Histories.{Accepted, History, Identity, gate, closed_at}
use Rattle.mb_model.specs.Sending.{begin}
use Rattle.mb_model.specs.Given.{accept, jump, floor_shown}
use Rattle.mb_model.specs.HostStep.{transition}
use Rattle.mb_promise.specs.TakesValid.{IsCertified, IsValid}

module _ {S : Type 0} (self : Identity S) where
  -- A LOG of another host: the floor that it shows, its stable certificate and its evidence hold.
  pub record IsValidLog (m : Log) : Type 0 where
    pub other : m.host ≡ self.host → ⊥
    pub floor : (c : FloorCert) → m.floor ≡ Some c → (f : Floor) × (certified_floor self.shape (verifies self.secret) m.host c ≡ Some f)
    pub stable : is_stable self.shape (verifies self.secret) m.stable ≡ true
    pub evidence : (e : Evidence) → m.evidence ≡ Some e → is_evidence self.shape (verifies self.secret) e ≡ true

  -- the history with what stands before the entries of a LOG: the gate of its sender jumps forward to the floor, where it isn't closed
  abbrev pub with_floor_of : Log → History → History
  with_floor_of m d = Accepted (message.Log m) ∷ (jump self m.host (floor_shown self m.host m.floor) (begin d)).history

  -- ---- its entries

  -- a stamped message of another host or of this one, rightly certified, which its gate has passed already
  pub record IsPassed (d : History) (x : StampedMessage) : Type 0 where
    pub certified : IsCertified self x
    pub free : closed_at d (ui_of x).host ≡ None
    pub passed : (ui_of x).counter ≤ (gate d (ui_of x).host).counter

  -- the history with a stamped message that is accepted, and with the PREPARE that a COMMIT brings
  abbrev pub with_accepted : StampedMessage → History → History
  with_accepted x d = (accept self x (begin d)).history

  -- As long as each of these messages is valid behind those before it, or passed already, all valid ones are accepted.
  abbrev pub AreTaken : History → History → List StampedMessage → Type 0
  AreTaken left d [] = Unit {0}
  AreTaken left d (x ∷ l) = (IsValid self d (as_message x) → Contains left (Accepted (as_message x)) × AreTaken left (with_accepted x d) l) × (IsPassed d x → AreTaken left d l)

module _ {S : Type 0} (self : Identity S) (d : History) where
  -- A valid LOG stands in the history from then on.
  abbrev pub LogsStand : Type 0
  LogsStand = (bytes : Bytes) (m : Log) → message_of self.shape bytes ≡ Ok (message.Log m) → IsValidLog self m
      → Contains (transition self d (event.Given bytes)).left.history (Accepted (message.Log m))

  -- The gate of its sender, where it is not closed, stands at the floor that the LOG shows, or further on.
  abbrev pub JumpsToFloors : Type 0
  JumpsToFloors = (bytes : Bytes) (m : Log) (c : FloorCert) (f : Floor) → message_of self.shape bytes ≡ Ok (message.Log m) → IsValidLog self m → m.floor ≡ Some c
      → certified_floor self.shape (verifies self.secret) m.host c ≡ Some f → closed_at d m.host ≡ None → f.counter ≤ (gate (transition self d (event.Given bytes)).left.history m.host).counter

  -- Behind its floor its entries are taken.
  abbrev pub TakesEntries : Type 0
  TakesEntries = (bytes : Bytes) (m : Log) → message_of self.shape bytes ≡ Ok (message.Log m) → IsValidLog self m
      → AreTaken self (transition self d (event.Given bytes)).left.history (with_floor_of self m d) m.entries

  pub record TakesLogs : Type 0 where
    pub keeps : LogsStand
    pub jumps : JumpsToFloors
    pub entries : TakesEntries
