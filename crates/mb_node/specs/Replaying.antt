-- The steps of events that a journal kept, taken again.
use Rattle.std.specs.Prelude.{◌≡◌, List}
use Rattle.mb_msg.specs.declared.event.Event.{Event}
use Rattle.mb_model.specs.Histories.{History, Identity}
use Rattle.mb_steps.specs.Arises.{IsWhole}
use Rattle.mb_core.specs.declared.replica.Replica.{Replica}
use Rattle.mb_core.specs.Represents.{Represents}
use Rattle.mb_sched.specs.declared.records.Entry.{Entry}
use Rattle.mb_node.specs.Events.{left_by}
use Rattle.mb_node.specs.Recording.{entries_of}

-- A host stands where these events lead, the last of them first, and their entries are those of its steps.
pub record IsReplayed {V : Type 0} (me : Identity V) (start : History) (es : List Event) (entries : List Entry) (r : Replica V) : Type 0 where
  pub represents : Represents me r (left_by me start es)
  pub whole : IsWhole (left_by me start es)
  pub entries_are : entries ≡ entries_of me start es
