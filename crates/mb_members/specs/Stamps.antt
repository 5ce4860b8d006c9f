-- What a correct host's step leaves in the ledger.
use Rattle.std.specs.Prelude.{◌≡◌, ◌++◌, ℕ, List, map, fold, reverse, filter_map, Option, IfSome, Result, OnOk}
use Rattle.std.specs.List.{AllByRecursion}
use Rattle.std.specs.Option.{option_to_list}
use Rattle.mb_base.specs.Shapes.{Bytes}
use Rattle.mb_base.specs.declared.shape.Shape.{Shape}
use Rattle.mb_parts.specs.declared.request.Request.{Request}
use Rattle.mb_msg.specs.declared.message.Message.{Message}
use Rattle.mb_msg.specs.Fits.{Fits}
use Rattle.mb_msg.specs.Signed.{covered}
use Rattle.mb_parts.specs.Bares.{bare_bytes}
use Rattle.mb_model.specs.Histories.{History, said}
use Rattle.mb_model.specs.Sending.{Letter}
use Rattle.mb_replica.specs.declared.told.Outgoing.{Outgoing}
use Rattle.mb_replica.specs.Told.{as_outgoing}
use Rattle.mb_world_model.specs.World.{update, with_tagged}
use Rattle.mb_forgery.specs.declared.ledger.Ledger.{Ledger}
use Rattle.mb_forgery.specs.Ledgers.{Keeps}

-- what its sender stamped, where a message is stamped
abbrev pub bare_in : Letter → Option Bytes
bare_in letter = covered letter.says

-- Where it is stamped, it can be read again.
abbrev pub IsReadable : Shape → Letter → Type 0
IsReadable s letter = IfSome (bare_in letter) (λ bare. Fits s letter.says)

-- So can each of these.
abbrev pub FitsWhereStamped : Shape → List Letter → Type 0
FitsWhereStamped s letters = AllByRecursion (IsReadable s) letters

-- These messages were sent, as bytes with what is stamped, and what is stamped can be read again.
pub record IsSent (s : Shape) (letters : List Letter) (bytes : List Outgoing) : Type 0 where
  pub sent : bytes ≡ map as_outgoing letters
  pub fit : FitsWhereStamped s letters

-- what a host stamped, as bytes, newest first
abbrev pub bares_of : History → List Bytes
bares_of d = map bare_bytes (said d)

-- ---- what is noted in the ledger

-- Whatever was kept, what was sent is kept behind it: what is stamped, as its host's, and what is tagged.
abbrev pub NotesStep : {X E : Type 0} → Ledger → ℕ → List Outgoing → Result X E → Ledger → Type 0
NotesStep old host sent result new = (stamps : ℕ → List Bytes) (asked : List Request) (tagged : List Message) (letters : List Letter) → Keeps old.shape old stamps asked tagged
    → IsSent old.shape letters sent → OnOk result (Keeps old.shape new (update stamps host (reverse (filter_map bare_in letters) ++ stamps host)) asked (fold with_tagged tagged letters))

-- So is one message.
abbrev pub NotesMessage : {X E : Type 0} → Ledger → ℕ → Outgoing → Result X E → Ledger → Type 0
NotesMessage old host sent result new = (stamps : ℕ → List Bytes) (asked : List Request) (tagged : List Message) (letter : Letter) → Keeps old.shape old stamps asked tagged
    → IsReadable old.shape letter → sent ≡ as_outgoing letter → OnOk result (Keeps old.shape new (update stamps host (option_to_list (bare_in letter) ++ stamps host)) asked (with_tagged tagged letter))
