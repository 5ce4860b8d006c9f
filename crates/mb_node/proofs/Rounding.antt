-- One receive of a node, and what follows.
use Rattle.std.proofs.Common.{◌≡◌, ℕ, Bool, true, false, List, [], ◌∷◌, length, sym, ap, ◌∙◌, Option, Some, None, subst, arith}
use Rattle.std.specs.Prelude.{◌%◌, ◌^◌}
use Rattle.mb_base.specs.Shapes.{host_count}
use Rattle.mb_service.specs.Machine.{ServiceMachine}
use Rattle.mb_msg.specs.declared.event.Event.{Event}
use Rattle.mb_model.specs.Histories.{History, Identity, onto}
use Rattle.mb_steps.specs.Arises.{IsWhole}
use Rattle.mb_core.specs.declared.replica.Replica.{Replica}
use Rattle.mb_core.specs.Represents.{Represents}
use Rattle.mb_replica.specs.Represents.{Serves}
use Rattle.mb_node.specs.declared.patience.Patience.{Patience}
use Rattle.mb_node.specs.declared.node.Node.{Node}
use Rattle.mb_node.specs.declared.receiving.Arrival.{Arrival}
use Rattle.mb_node.specs.declared.receiving.Receiver.{Receiver}
use Rattle.mb_node.specs.declared.turn.Turn.{Turn}
use Rattle.mb_node.specs.Receives.{Receives}
use Rattle.mb_node.specs.Inboxes.{HasReceived, arrival_at}
use Rattle.mb_node.specs.Receiving.{GivesOne, LosesOne}
use Rattle.mb_node.specs.Events.{left_by, patience, has_stop, events}
use Rattle.mb_node.specs.Patience.{standing, is_spent, behind}
use Rattle.mb_node.specs.Recording.{sent_of}
use Rattle.mb_node.specs.Outside.{Outside}
use Rattle.mb_node.specs.Serving.{AreDone, AreCutOff, IsCutOff}
use Rattle.mb_node.specs.Turns.{HasTurned}
use Rattle.mb_node.specs.Rounds.{event_of, IsServing, Goes, GoesOn, IsStopped}
use Rattle.mb_node.proofs.Runs.{next_events, spent_at, cut_lost, cut_more, serving_same, goes_to_stop, goes_on}

module _ {V : Type 0} (machine : ServiceMachine V) (node : Node) (old : Replica V) (here mid : Outside) (told told_mid : Option Receives)
    (written : mid.written ≡ here.written) (sent : mid.sent ≡ here.sent) where
  pub done_moved : (me : Identity V) (start : History) (o : Outside) (es : List Event) → AreDone me start o here es → AreDone me start o mid es
  done_moved me start o es done = record { written = rw written done.written; sent = sent ∙ done.sent }

  pub serving_moved : (me : Identity V) (start : History) (o : Outside) (receives : Receives) → IsServing me start o receives here node old → IsServing me start o receives mid node old
  serving_moved me start o receives so_far = record {
    done = done_moved me start o (events me start receives) so_far.done;
    stands = so_far.stands;
    inbox = so_far.inbox;
    counted = so_far.counted;
    hosts = so_far.hosts;
    host = so_far.host;
    number = so_far.number;
  }

  -- ---- the receive failed

  unfoldable pub round_lost : old.halted ≡ false → LosesOne told told_mid → IsStopped machine node old old told told_mid here mid
  round_lost runs lost = record {
    more = lost.more;
    told = lost.told;
    few = lost.few;
    of_bytes = lost.of_bytes;
    cut = λ me start o receives serves so_far unstopped. cut_lost me start o mid old.halted receives lost.more runs lost.few (done_moved me start o (events me start receives) so_far.done) unstopped;
  }

  -- ---- there was a receive

  module _ (next : Receiver) (arrival : Arrival) (gives : GivesOne node.receiver next arrival told told_mid) (ev : Option Event)
      (ev_is : (me : Identity V) (d : History) → Represents me old d → ev ≡ event_of (is_spent (standing me d) node.patience) arrival) where
    pub events_now : (me : Identity V) (start : History) (o : Outside) (receives : Receives) → IsServing me start o receives here node old → events me start (gives.one ∷ receives) ≡ onto ev (events me start receives)
    events_now me start o receives so_far =
        let d : History = left_by me start (events me start receives) in
        let arrives : arrival ≡ arrival_at me.shape receives gives.one = gives.is me.shape receives so_far.inbox in
        next_events me start receives gives.one
        ∙ ap (λ (x : Option Event). onto x (events me start receives))
        (sym (ev_is me d so_far.stands.represents ∙ ap (λ (p : Patience). event_of (spent_at me start (events me start receives) p) arrival) so_far.counted
        ∙ ap (event_of (spent_at me start (events me start receives) (patience me start (events me start receives)))) arrives))

    -- that is no event
    unfoldable pub round_quietly : (now : Node) → ev ≡ None → now.receiver ≡ next → now.patience ≡ node.patience → now.outbox ≡ node.outbox → GoesOn machine node now old old told told_mid here mid false
    round_quietly now none receiver counted outbox = record {
      one = gives.one;
      told = gives.told;
      of_bytes = gives.of_bytes;
      goes = λ me start o receives serves so_far unstopped.
          let same : events me start (gives.one ∷ receives) ≡ events me start receives = events_now me start o receives so_far ∙ ap (λ (x : Option Event). onto x (events me start receives)) none in
          let has : HasReceived me.shape (gives.one ∷ receives) now.receiver.inbox = subst (λ (x : Receiver). HasReceived me.shape (gives.one ∷ receives) x.inbox) (sym receiver) (gives.has me.shape receives so_far.inbox) in
          (serving_same me start o mid receives gives.one node now old (serving_moved me start o receives so_far) same has counted outbox, rw same unstopped);
    }

    -- its event
    module _ (e : Event) (some : ev ≡ Some e) (later : Replica V) (there : Outside) where
      pub event_now : (me : Identity V) (start : History) (o : Outside) (receives : Receives) → IsServing me start o receives here node old → events me start (gives.one ∷ receives) ≡ e ∷ events me start receives
      event_now me start o receives so_far = events_now me start o receives so_far ∙ ap (λ (x : Option Event). onto x (events me start receives)) some

      -- where it stopped on the way
      unfoldable pub round_cut : ((me : Identity V) (d : History) (n : ℕ) → Serves machine me → Represents me old d → IsWhole d → node.outbox.hosts ≡ host_count me.shape → node.outbox.host ≡ me.host → node.outbox.number ≡ n % 2 ^ 32 → IsCutOff me mid there later.halted n d e)
          → IsStopped machine node old later told told_mid here there
      round_cut cut = record {
        more = gives.one ∷ [];
        told = gives.told;
        few = omega arith;
        of_bytes = (gives.of_bytes, tt);
        cut = λ me start o receives serves so_far unstopped.
            let es : List Event = events me start receives in
            subst (AreCutOff me start o there later.halted) (sym (event_now me start o receives so_far))
            (cut_more me start o mid there later.halted es e (done_moved me start o es so_far.done) unstopped
            (cut me (left_by me start es) (length (sent_of me start es)) serves so_far.stands.represents so_far.stands.whole so_far.hosts so_far.host so_far.number));
      }

      -- where it is whole
      unfoldable pub round_turned : (now : Node) (t : Turn) (stopped : Bool) → t.stops ≡ stopped → later.halted ≡ false → now.receiver ≡ next → now.patience ≡ behind t.shown node.patience
          → now.outbox.hosts ≡ node.outbox.hosts → now.outbox.host ≡ node.outbox.host
          → ((me : Identity V) (d : History) (n : ℕ) → Serves machine me → Represents me old d → IsWhole d → node.outbox.hosts ≡ host_count me.shape → node.outbox.host ≡ me.host → node.outbox.number ≡ n % 2 ^ 32 → HasTurned me d n e mid there later now.outbox t)
          → GoesOn machine node now old later told told_mid here there stopped
      round_turned now t stopped stopping runs receiver counted hosts host turned = record {
        one = gives.one;
        told = gives.told;
        of_bytes = gives.of_bytes;
        goes = λ me start o receives serves so_far unstopped. either me start o receives serves so_far unstopped stopped stopping;
      } where
        either : (me : Identity V) (start : History) (o : Outside) (receives : Receives) → Serves machine me → IsServing me start o receives here node old → has_stop me start (events me start receives) ≡ false
            → (b : Bool) → t.stops ≡ b → Goes me start o (gives.one ∷ receives) there now later b
        either me start o receives serves so_far unstopped true is =
            let es : List Event = events me start receives in
            goes_to_stop me start o mid there receives gives.one e node now old later t (serving_moved me start o receives so_far) (event_now me start o receives so_far) unstopped
            (turned me (left_by me start es) (length (sent_of me start es)) serves so_far.stands.represents so_far.stands.whole so_far.hosts so_far.host so_far.number) runs is
        either me start o receives serves so_far unstopped false is =
            let es : List Event = events me start receives in
            let has : HasReceived me.shape (gives.one ∷ receives) now.receiver.inbox = subst (λ (x : Receiver). HasReceived me.shape (gives.one ∷ receives) x.inbox) (sym receiver) (gives.has me.shape receives so_far.inbox) in
            goes_on me start o mid there receives gives.one e node now old later t (serving_moved me start o receives so_far) (event_now me start o receives so_far) unstopped
            (turned me (left_by me start es) (length (sent_of me start es)) serves so_far.stands.represents so_far.stands.whole so_far.hosts so_far.host so_far.number) runs is has counted hosts host
