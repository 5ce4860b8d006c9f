-- What the code's ledger is: all that was stamped, asked and tagged.
use Rattle.std.specs.Prelude.{◌≡◌, ℕ, ◌<◌, Bool, List, reverse, Some, option_map, slice_get}
use Rattle.std.specs.List.{list_any, AllByRecursion}
use Rattle.std.specs.Ordering.{nat_cmp}
use Rattle.std.specs.Cmp.Lexicographic.{slice_cmp}
use Rattle.std.specs.BTreeSet.{BTreeSet, contains_by}
use Rattle.std.specs.declared.vec.Vec.{Vec}
use Rattle.std.specs.declared.alloc.Global.{Global}
use Rattle.mb_base.specs.Shapes.{Bytes, host_count}
use Rattle.mb_base.specs.declared.shape.Shape.{Shape}
use Rattle.mb_base.specs.Spelling.{IsBytes}
use Rattle.mb_usig.specs.Tags.{same_bytes}
use Rattle.mb_parts.specs.declared.request.Request.{Request}
use Rattle.mb_parts.specs.Bares.{Bare, bare_bytes}
use Rattle.mb_parts.specs.Fits.{FitsRequest, FitsBare}
use Rattle.mb_parts.specs.Issued.{is_issued}
use Rattle.mb_msg.specs.declared.message.Message.{Message}
use Rattle.mb_msg.specs.Spelling.{spelling}
use Rattle.mb_forgery.specs.declared.ledger.Ledger.{Ledger}
use Rattle.mb_forgery.specs.Asked.{HoldsAsked}
use Rattle.mb_schedule.specs.declared.schedule.Schedule.{Schedule}
use Rattle.mb_world_model.specs.World.{World, stamps}

-- The bytes stand in the set.
abbrev pub has_bytes : BTreeSet (Vec ℕ Global) → Bytes → Bool
has_bytes set bytes = contains_by (λ k. slice_cmp nat_cmp bytes k.items) set

-- the stamped bytes of all hosts, newest first, each below 256; the requests that clients asked, which fit, and the replies and wishes that correct hosts made
pub record Keeps (s : Shape) (l : Ledger) (by_host : ℕ → List Bytes) (requests : List Request) (messages : List Message) : Type 0 where
  pub shape : l.shape ≡ s
  pub bytes : (h : ℕ) → h < host_count s → AllByRecursion IsBytes (by_host h)
  pub stamps : (h : ℕ) → h < host_count s → option_map (λ v. reverse v.items) (slice_get l.stamps.items h) ≡ Some (by_host h)
  pub fits : AllByRecursion (FitsRequest s) requests
  pub asked : HoldsAsked l.asked requests
  pub tagged : (bytes : Bytes) → has_bytes l.tagged bytes ≡ list_any (λ m. same_bytes (spelling m) bytes) messages

-- So it is whatever the ledger keeps,
abbrev pub FromKept : Ledger → ((ℕ → List Bytes) → List Request → List Message → Type 0) → Type 0
FromKept l P = (by_host : ℕ → List Bytes) (requests : List Request) (messages : List Message) → Keeps l.shape l by_host requests messages → P by_host requests messages

-- and whatever something else is;
abbrev pub FromKeptWith : (A : Type 0) → Ledger → ((ℕ → List Bytes) → List Request → List Message → A → Type 0) → Type 0
FromKeptWith A l P = (by_host : ℕ → List Bytes) (requests : List Request) (messages : List Message) (a : A) → Keeps l.shape l by_host requests messages → P by_host requests messages a

-- and in a system of any size that it keeps it of.
abbrev pub OfKept : Ledger → ((ℕ → List Bytes) → List Request → List Message → Type 0) → Type 0
OfKept l P = (s : Shape) (by_host : ℕ → List Bytes) (requests : List Request) (messages : List Message) → Keeps s l by_host requests messages → P by_host requests messages

-- Whether a host stamped the bare bytes of a message at a counter is told.
abbrev pub TellsIssued : Ledger → ℕ → ℕ → Bytes → Bool → Type 0
TellsIssued l host counter bytes told = (s : Shape) (by_host : ℕ → List Bytes) (requests : List Request) (messages : List Message) (says : Bare) (cert : Bytes)
    → Keeps s l by_host requests messages → FitsBare s says → bytes ≡ bare_bytes says → told ≡ is_issued s by_host (record { host = host; counter = counter; says = says; cert = cert })

-- all that was made in a world
abbrev pub KeepsWorld : Schedule → Ledger → World → Type 0
KeepsWorld s l w = Keeps s.shape l (stamps s w) w.asked w.tagged
