-- Orders of writing that no append may have: whichever journal it is and whatever is appended, some crash breaks what is promised.
use Rattle.std.specs.Prelude.{ℕ, ◌+◌, List, [], ◌∷◌, ◌++◌, length}
use Rattle.mb_base.specs.Shapes.{Bytes}
use Rattle.mb_edge.specs.Disks.{Content, settled, after_write, IsImage}
use Rattle.mb_msg.specs.declared.event.Event.{Event}
use Rattle.mb_journal.specs.Files.{record_text, entries}
use Rattle.mb_journal.specs.Keeping.{RestsAt, IsShut, IsCut}

-- ---- before the second sync

-- A crash leaves a file that keeps the events neither with this one nor without.
pub record Breaks (header : Bytes) (events : List Event) (event : Event) (content : Content) : Type 0 where
  pub image : Bytes
  pub is : IsImage content image
  pub broken : ¬ IsCut header events event image

-- a journal whose file ends behind its gate
abbrev pub resting : Bytes → List Event → Content
resting header events = settled ((header ++ entries events) ++ 0 ∷ [])

-- the record behind the gate, and the next gate
abbrev pub staged : Event → Bytes
staged event = record_text event ++ 0 ∷ []

-- The gate and the record are written in one: a crash may keep the gate alone.
abbrev pub OneWriteLoses : Type 0
OneWriteLoses = (header : Bytes) (events : List Event) (event : Event) → Breaks header events event (after_write (length (header ++ entries events)) (1 ∷ staged event) (resting header events))

-- The record is written, and then the gate, with no sync between them: the same.
abbrev pub NoSyncLoses : Type 0
NoSyncLoses = (header : Bytes) (events : List Event) (event : Event)
    → Breaks header events event (after_write (length (header ++ entries events)) (1 ∷ []) (after_write (length (header ++ entries events) + 1) (staged event) (resting header events)))

-- ---- at the end

-- A crash leaves a file that says the events from before alone, so that the disk is at rest at no more.
pub record Forgets (header : Bytes) (events : List Event) (event : Event) (content : Content) : Type 0 where
  pub image : Bytes
  pub is : IsImage content image
  pub shut : IsShut header events image
  pub not_at_rest : (end : ℕ) → ¬ RestsAt header end (events ++ event ∷ []) content

-- The event is acknowledged once its gate is written and not synced.
abbrev pub NoSecondSyncLoses : Type 0
NoSecondSyncLoses = (header : Bytes) (events : List Event) (event : Event) (tail : Bytes)
    → Forgets header events event (after_write (length (header ++ entries events)) (1 ∷ []) (settled ((header ++ entries events) ++ 0 ∷ (record_text event ++ 0 ∷ tail))))
