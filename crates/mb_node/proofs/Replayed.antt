-- The steps of events that a journal kept, one after the other.
use Rattle.std.proofs.Common.{◌≡◌, List, [], ◌∷◌, ◌++◌, refl, ap, ◌∙◌}
use Rattle.mb_msg.specs.declared.event.Event.{Event}
use Rattle.mb_msg.specs.declared.event.Sent.{Sent}
use Rattle.mb_msg.specs.declared.event.Step.{Step}
use Rattle.mb_model.specs.Histories.{History, Identity}
use Rattle.mb_steps.specs.Arises.{IsWhole}
use Rattle.mb_sched.specs.declared.records.Entry.{Entry}
use Rattle.mb_core.specs.declared.replica.Replica.{Replica}
use Rattle.mb_core.specs.Represents.{Represents}
use Rattle.mb_node.specs.Events.{left_by}
use Rattle.mb_node.specs.Recording.{entry_with, entry_at, entries_of}
use Rattle.mb_node.specs.Turns.{Steps}
use Rattle.mb_node.specs.Replaying.{IsReplayed}

module _ {V : Type 0} (me : Identity V) (d : History) where
  pub replayed_none : (r : Replica V) → Represents me r d → IsWhole d → IsReplayed me d [] [] r
  unfolding left_by entries_of
  replayed_none r rep whole = record { represents = rep; whole = whole; entries_are = refl }

  -- one event
  pub replayed_one : (e : Event) (s : Step) (r : Replica V) (entry : Entry) → Steps me d e s r → entry ≡ entry_with e s.sent → IsReplayed me d (e ∷ []) (entry ∷ []) r
  unfolding left_by entries_of
  replayed_one e s r entry steps is =
      let own : entry ≡ entry_at me d e = is ∙ ap (λ (l : List Sent). entry_with e l) steps.step.sent in
      record { represents = steps.represents; whole = steps.whole; entries_are = ap (λ (x : Entry). x ∷ []) own }

  -- one more behind others
  pub replayed_more : (es : List Event) (e : Event) (entries : List Entry) (entry : Entry) (old now : Replica V) → IsReplayed me d es entries old → IsReplayed me (left_by me d es) (e ∷ []) (entry ∷ []) now
      → IsReplayed me d (e ∷ es) (entries ++ entry ∷ []) now
  unfolding left_by entries_of
  replayed_more es e entries entry old now before one = record {
    represents = one.represents;
    whole = one.whole;
    entries_are = (λ i. before.entries_are i ++ one.entries_are i);
  }
