-- When a record is what its host does: each of its entries is that of the host's own step, from the start on.
use Rattle.std.specs.Prelude.{◌≡◌, ◌≢◌, ℕ, ◌+◌, List, [], ◌∷◌, ◌++◌, length, map, reverse, Result, Ok, Err}
use Rattle.mb_base.specs.Shapes.{Bytes}
use Rattle.mb_msg.specs.declared.event.Event.{Event}
use Rattle.mb_model.specs.Histories.{Identity, History}
use Rattle.mb_model.specs.HostStep.{transition}
use Rattle.mb_steps.specs.Arises.{IsWhole}
use Rattle.mb_core.specs.declared.replica.Replica.{Replica}
use Rattle.mb_core.specs.Represents.{Represents}
use Rattle.mb_sched.specs.declared.records.Entry.{Entry}
use Rattle.mb_sched.specs.declared.records.Record.{Record}
use Rattle.mb_node.specs.declared.retracing.RetraceStop.{RetraceStop}
use Rattle.mb_node.specs.declared.retracing.RetraceStop.TheVariants as stop
use Rattle.mb_node.specs.Events.{left_by}
use Rattle.mb_node.specs.Recording.{entry_at, entries_of}

-- the events of entries, the last of them first
abbrev pub events_in : List Entry → List Event
events_in entries = reverse (map (λ e. e.event) entries)

module _ {S : Type 0} (self : Identity S) where
  -- This is the host of the record.
  pub record IsOf (written : Record) : Type 0 where
    pub shape : self.shape ≡ written.config.shape
    pub host : self.host ≡ written.id
    pub secret : self.secret ≡ written.config.secret

  -- Each entry is that of the host's own step.
  abbrev pub AreOwn : List Entry → Type 0
  AreOwn entries = entries ≡ entries_of self [] (events_in entries)

  -- the entry of an event behind those of these entries
  abbrev pub own_entry : List Entry → Event → Entry
  own_entry before e = entry_at self (left_by self [] (events_in before)) e

  -- The first entry that isn't has this number, counted from 1, and these are its digest and the one that it should have.
  pub record Differs (entries : List Entry) (number : ℕ) (recorded found : Bytes) : Type 0 where
    pub before : List Entry
    pub entry : Entry
    pub later : List Entry
    pub place : entries ≡ before ++ entry ∷ later
    pub counted : number ≡ length before + 1
    pub own : AreOwn before
    pub other : entry ≢ own_entry before entry.event
    pub recorded_is : recorded ≡ entry.digest
    pub found_is : found ≡ (own_entry before entry.event).digest

  -- what is answered to a record
  abbrev pub Retraces : List Entry → Result ℕ RetraceStop → Type 0
  Retraces entries (Ok count) = AreOwn entries × (count ≡ length entries)
  Retraces entries (Err (stop.Differs number recorded found)) = Differs entries number recorded found
  Retraces entries (Err stop.NoMemory) = Unit {0}

-- ---- one entry

module _ {V : Type 0} (me : Identity V) (d : History) where
  -- It is that of the host's own step, and the host stands behind it.
  pub record IsOwn (entry : Entry) (r : Replica V) : Type 0 where
    pub same : entry ≡ entry_at me d entry.event
    pub represents : Represents me r (transition me d entry.event).left.history
    pub whole : IsWhole (transition me d entry.event).left.history

  -- It isn't, and this is told of it.
  pub record IsOther (event : ℕ) (entry : Entry) (number : ℕ) (recorded found : Bytes) : Type 0 where
    pub number_is : number ≡ event
    pub other : entry ≢ entry_at me d entry.event
    pub recorded_is : recorded ≡ entry.digest
    pub found_is : found ≡ (entry_at me d entry.event).digest

  abbrev pub Compares : ℕ → Entry → Replica V → Result (Unit {0}) RetraceStop → Type 0
  Compares event entry r (Ok _) = IsOwn entry r
  Compares event entry r (Err (stop.Differs number recorded found)) = IsOther event entry number recorded found
  Compares event entry r (Err stop.NoMemory) = Unit {0}
