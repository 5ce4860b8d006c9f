-- One receive of a node with a journal, and all receives.
use Rattle.std.proofs.Common.{◌≡◌, ◌⊎◌, inl, inr, ℕ, ◌+◌, ◌≤◌, Bool, true, false, List, [], ◌∷◌, ◌++◌, length, refl, sym, ap, ◌∙◌, subst, Option, Some, None, Ok, Err, arith}
use Rattle.std.specs.Prelude.{◌%◌, ◌^◌, Result}
use Rattle.mb_base.specs.Shapes.{host_count}
use Rattle.mb_service.specs.Machine.{ServiceMachine}
use Rattle.mb_edge.specs.Disks.{Moments}
use Rattle.mb_msg.specs.declared.event.Event.{Event}
use Rattle.mb_model.specs.Histories.{History, Identity, onto, view_of}
use Rattle.mb_steps.specs.Arises.{IsWhole}
use Rattle.mb_core.specs.declared.replica.Replica.{Replica}
use Rattle.mb_core.specs.Represents.{Represents}
use Rattle.mb_replica.specs.Represents.{Serves}
use Rattle.mb_journal.specs.Keeping.{JournalState}
use Rattle.mb_node.specs.declared.node.Node.{Node}
use Rattle.mb_node.specs.declared.receiving.Arrival.{Arrival}
use Rattle.mb_node.specs.declared.receiving.Receiver.{Receiver}
use Rattle.mb_node.specs.declared.stops.ServeStop.{ServeStop}
use Rattle.mb_node.specs.declared.stops.ServeStop.TheVariants as stop
use Rattle.mb_node.specs.declared.turn.Turn.{Turn}
use Rattle.mb_node.specs.Receives.{Receives}
use Rattle.mb_node.specs.Inboxes.{HasReceived, arrival_at}
use Rattle.mb_node.specs.Receiving.{GivesOne, LosesOne}
use Rattle.mb_node.specs.Events.{patience, events}
use Rattle.mb_node.specs.Patience.{standing, fresh, is_spent, behind}
use Rattle.mb_node.specs.Outside.{Outside}
use Rattle.mb_node.specs.Serving.{AreDone, AreCutOff, IsCutOff, StandsBehind}
use Rattle.mb_node.specs.Turns.{HasTurned}
use Rattle.mb_node.specs.Rounds.{event_of, IsServing}
use Rattle.mb_node.specs.Stops.{IsOfDisk}
use Rattle.mb_node.specs.Keeping.{AreKept, IsFullFor, KeepsOn, KeepsLast, LacksLast, KeepsUntil, KeptRounds, HasAll, LacksOne, EndsKept, HasServedKept}
use Rattle.mb_node.proofs.Runs.{next_events, spent_at, cut_begun, SoFar, so_far_none, so_far_more, ends_unbegun, ends_by_stop, ends_cut, ends_by_budget}
use Rattle.mb_node.proofs.Rounding.{done_moved, events_now, event_now, round_lost, round_quietly, round_cut, round_turned}
use Rattle.mb_node.proofs.Kept.{kept_none, lost_one, kept_both, full_unless}

-- ---- one receive

module _ {V : Type 0} (machine : ServiceMachine V) (node : Node) (old : Replica V) (here mid : Outside) (told told_mid : Option Receives)
    (written : mid.written ≡ here.written) (sent : mid.sent ≡ here.sent) where
  -- the receive failed: what it brought, if it brought an event, is lost
  module _ (s : ServeStop) (other : ¬ IsOfDisk s) (unwritten : ¬ (s ≡ stop.SinkFault)) (journal : JournalState) (disk : Option Moments) (on : journal.halted ≡ false) where
    by_event : (me : Identity V) (start : History) (before : Outside) (es : List Event) → AreDone me start before mid es → StandsBehind me start old es → (e : Option Event)
        → KeepsLast s journal journal disk disk es (onto e es) ⊎ LacksLast me start before mid old s journal journal disk disk es (onto e es)
    by_event me start before es done stands None = inl (record { more = []; events_are = refl; keeps = kept_none journal disk; runs = on; other = other })
    by_event me start before es done stands (Some e) = inr (record {
      last = e;
      events_are = refl;
      keeps = lost_one journal disk e;
      unsent = done;
      stands = stands;
      unwritten = unwritten;
      full = full_unless s journal e other;
    })

    by_more : (me : Identity V) (start : History) (before : Outside) (receives : Receives) → IsServing me start before receives here node old → (more : Receives) → length more ≤ 1
        → KeepsLast s journal journal disk disk (events me start receives) (events me start (more ++ receives)) ⊎ LacksLast me start before mid old s journal journal disk disk (events me start receives) (events me start (more ++ receives))
    by_more me start before receives so_far [] few = inl (record { more = []; events_are = refl; keeps = kept_none journal disk; runs = on; other = other })
    by_more me start before receives so_far (one ∷ []) few =
        let es = events me start receives in
        let done = done_moved machine node old here mid told told_mid written sent me start before es so_far.done in
        let e = event_of (spent_at me start es (patience me start es)) (arrival_at me.shape receives one) in
        subst (λ (l : List Event). KeepsLast s journal journal disk disk es l ⊎ LacksLast me start before mid old s journal journal disk disk es l) (sym (next_events me start receives one)) (by_event me start before es done so_far.stands e)
    by_more me start before receives so_far (one ∷ (two ∷ more)) few = absurd (omega (arith, few))

    pub kept_lost : old.halted ≡ false → LosesOne told told_mid → KeepsUntil machine node old old s journal journal disk disk told told_mid here mid
    unfolding round_lost
    kept_lost runs lost = record {
      until = round_lost machine node old here mid told told_mid written sent runs lost;
      keeps = λ me start before receives so_far. by_more me start before receives so_far lost.more lost.few;
    }

  module _ (next : Receiver) (arrival : Arrival) (gives : GivesOne node.receiver next arrival told told_mid) (ev : Option Event)
      (ev_is : (me : Identity V) (d : History) → Represents me old d → ev ≡ event_of (is_spent (standing me d) node.patience) arrival) where
    -- it is no event
    pub kept_quietly : (now : Node) (journal : JournalState) (disk : Option Moments) → ev ≡ None → now.receiver ≡ next → now.patience ≡ node.patience → now.outbox ≡ node.outbox
        → KeepsOn machine node now old old journal journal disk disk told told_mid here mid false
    unfolding round_quietly
    kept_quietly now journal disk none receiver counted outbox = record {
      on = round_quietly machine node old here mid told told_mid written sent next arrival gives ev ev_is now none receiver counted outbox;
      more = [];
      events_are = λ me start before receives so_far.
          events_now machine node old here mid told told_mid written sent next arrival gives ev ev_is me start before receives so_far ∙ ap (λ (x : Option Event). onto x (events me start receives)) none;
      keeps = kept_none journal disk;
    }

    module _ (e : Event) (some : ev ≡ Some e) (journal journal' : JournalState) (disk disk' : Option Moments) where
      -- its event was not acknowledged
      pub kept_unsaid : (s : ServeStop) → ¬ (s ≡ stop.SinkFault) → old.halted ≡ false → AreKept journal journal' disk disk' (e ∷ []) [] × IsFullFor s journal' e → KeepsUntil machine node old old s journal journal' disk disk' told told_mid here mid
      kept_unsaid s unwritten runs keeps = record {
        until = record {
          more = gives.one ∷ [];
          told = gives.told;
          few = omega arith;
          of_bytes = (gives.of_bytes, tt);
          cut = λ me start o receives serves so_far unstopped.
              let es = events me start receives in
              let is = event_now machine node old here mid told told_mid written sent next arrival gives ev ev_is e some old mid me start o receives so_far in
              subst (AreCutOff me start o mid old.halted) (sym is) (cut_begun me start o mid old.halted es e (done_moved machine node old here mid told told_mid written sent me start o es so_far.done) unstopped);
        };
        keeps = λ me start o receives so_far. inr (record {
          last = e;
          events_are = event_now machine node old here mid told told_mid written sent next arrival gives ev ev_is e some old mid me start o receives so_far;
          keeps = keeps.0;
          unsent = done_moved machine node old here mid told told_mid written sent me start o (events me start receives) so_far.done;
          stands = so_far.stands;
          unwritten = unwritten;
          full = keeps.1;
        });
      }

      module _ (later : Replica V) (there : Outside) where
        -- it was, and then its turn stopped on the way
        pub kept_cut : (s : ServeStop) → ¬ IsOfDisk s → AreKept journal journal' disk disk' (e ∷ []) (e ∷ []) → journal'.halted ≡ false
            → ((me : Identity V) (d : History) (n : ℕ) → Serves machine me → Represents me old d → IsWhole d → node.outbox.hosts ≡ host_count me.shape → node.outbox.host ≡ me.host → node.outbox.number ≡ n % 2 ^ 32 → IsCutOff me mid there later.halted n d e)
            → KeepsUntil machine node old later s journal journal' disk disk' told told_mid here there
        unfolding round_cut
        kept_cut s other keeps on cut = record {
          until = round_cut machine node old here mid told told_mid written sent next arrival gives ev ev_is e some later there cut;
          keeps = λ me start o receives so_far. inl (record {
            more = e ∷ [];
            events_are = event_now machine node old here mid told told_mid written sent next arrival gives ev ev_is e some later there me start o receives so_far;
            keeps = keeps;
            runs = on;
            other = other;
          });
        }

        -- or was whole
        pub kept_turned : (now : Node) (t : Turn) (stopped : Bool) → AreKept journal journal' disk disk' (e ∷ []) (e ∷ [])
            → t.stops ≡ stopped → later.halted ≡ false → now.receiver ≡ next → now.patience ≡ behind t.shown node.patience
            → now.outbox.hosts ≡ node.outbox.hosts → now.outbox.host ≡ node.outbox.host
            → ((me : Identity V) (d : History) (n : ℕ) → Serves machine me → Represents me old d → IsWhole d → node.outbox.hosts ≡ host_count me.shape → node.outbox.host ≡ me.host → node.outbox.number ≡ n % 2 ^ 32 → HasTurned me d n e mid there later now.outbox t)
            → KeepsOn machine node now old later journal journal' disk disk' told told_mid here there stopped
        unfolding round_turned
        kept_turned now t stopped keeps stopping runs receiver counted hosts host turned = record {
          on = round_turned machine node old here mid told told_mid written sent next arrival gives ev ev_is e some later there now t stopped stopping runs receiver counted hosts host turned;
          more = e ∷ [];
          events_are = λ me start o receives so_far. event_now machine node old here mid told told_mid written sent next arrival gives ev ev_is e some later there me start o receives so_far;
          keeps = keeps;
        }

-- ---- all receives

module _ {V : Type 0} (machine : ServiceMachine V) (old : Replica V) (journal : JournalState) (disk : Option Moments) (told : Option Receives) (before : Outside) where
  -- so many receives, and the events of all of them are kept
  pub record KeptSoFar (now : Replica V) (journal_now : JournalState) (disk_now : Option Moments) (told_now : Option Receives) (here : Outside) (node : Node) (count : ℕ) : Type 0 where
    pub so_far : SoFar machine old told before now told_now here node count
    pub keeps : (me : Identity V) (d : History) → Serves machine me → Represents me old d → IsWhole d → AreKept journal journal_now disk disk_now (events me d so_far.receives) (events me d so_far.receives)

  pub kept_begins : (node : Node) → old.halted ≡ false → ((me : Identity V) (d : History) → Represents me old d → HasReceived me.shape [] node.receiver.inbox)
      → ((me : Identity V) (d : History) → Represents me old d → node.outbox ≡ record { host = me.host; hosts = host_count me.shape; number = 0 }) → ((me : Identity V) (d : History) → Represents me old d → node.patience ≡ fresh (view_of me d)) → KeptSoFar old journal disk told before node 0
  unfolding so_far_none events
  kept_begins node runs inbox outbox none = record {
    so_far = so_far_none machine old told before node runs inbox outbox none;
    keeps = λ me d serves rep whole. kept_none journal disk;
  }

  -- memory ran out before the first receive
  pub kept_unbegun : journal.halted ≡ false → (budget : ℕ) → HasServedKept machine old old journal journal disk disk budget told told before before (Err stop.NoMemory)
  unfolding ends_unbegun events
  kept_unbegun on budget =
      let served = ends_unbegun machine old told before budget in
      record {
        receives = [];
        told_is = served.told;
        of_bytes = served.of_bytes;
        ends = λ me d serves rep whole. (served.ends me d serves rep whole, inl (record { keeps = kept_none journal disk; runs = on }, λ of. of));
      }

  module _ (mid now : Replica V) (journal_mid journal_now : JournalState) (disk_mid disk_now : Option Moments) (told_mid told_now : Option Receives) (here there : Outside) (node later : Node) (count : ℕ) (so_far : KeptSoFar mid journal_mid disk_mid told_mid here node count)
      (runs : journal_mid.halted ≡ false) where
    -- all events with those of one receive more
    all_kept : (stopped : Bool) (on : KeepsOn machine node later mid now journal_mid journal_now disk_mid disk_now told_mid told_now here there stopped)
        → (me : Identity V) (d : History) → Serves machine me → Represents me old d → IsWhole d
        → AreKept journal journal_now disk disk_now (events me d (on.on.one ∷ so_far.so_far.receives)) (events me d (on.on.one ∷ so_far.so_far.receives))
    all_kept stopped on me d serves rep whole =
        let x = so_far.so_far.stands me d serves rep whole in
        let es = events me d so_far.so_far.receives in
        subst (λ (l : List Event). AreKept journal journal_now disk disk_now l l) (sym (on.events_are me d before so_far.so_far.receives x.0))
        (kept_both journal journal_mid journal_now disk disk_mid disk_now es on.more on.more runs (so_far.keeps me d serves rep whole) on.keeps)

    pub kept_more : KeepsOn machine node later mid now journal_mid journal_now disk_mid disk_now told_mid told_now here there false → KeptSoFar now journal_now disk_now told_now there later (count + 1)
    unfolding so_far_more
    kept_more on = record {
      so_far = so_far_more machine old told before mid now told_mid told_now here there node later count so_far.so_far on.on;
      keeps = all_kept false on;
    }

    pub kept_to_stop : (budget : ℕ) → count + 1 ≤ budget → journal_now.halted ≡ false → KeepsOn machine node later mid now journal_mid journal_now disk_mid disk_now told_mid told_now here there true
        → HasServedKept machine old now journal journal_now disk disk_now budget told told_now before there (Ok tt)
    unfolding ends_by_stop
    kept_to_stop budget within on_runs on =
        let served = ends_by_stop machine old told before mid now told_mid told_now here there node later count so_far.so_far budget within on.on in
        record {
          receives = on.on.one ∷ so_far.so_far.receives;
          told_is = served.told;
          of_bytes = served.of_bytes;
          ends = λ me d serves rep whole. (served.ends me d serves rep whole, record { keeps = all_kept true on me d serves rep whole; runs = on_runs });
        }

    -- on the way
    last_kept : (s : ServeStop) (is : KeepsUntil machine node mid now s journal_mid journal_now disk_mid disk_now told_mid told_now here there)
        → (me : Identity V) (d : History) → Serves machine me → Represents me old d → IsWhole d
        → (HasAll journal journal_now disk disk_now (events me d (is.until.more ++ so_far.so_far.receives)) × ¬ IsOfDisk s)
        ⊎ LacksOne me d before there now s journal journal_now disk disk_now (events me d (is.until.more ++ so_far.so_far.receives))
    last_kept s is me d serves rep whole =
        let x = so_far.so_far.stands me d serves rep whole in
        let es = events me d so_far.so_far.receives in
        let kept = so_far.keeps me d serves rep whole in
        elim (is.keeps me d before so_far.so_far.receives x.0) [
          | inl all ↦ inl (
            record {
              keeps = subst (λ (l : List Event). AreKept journal journal_now disk disk_now l l) (sym all.events_are) (kept_both journal journal_mid journal_now disk disk_mid disk_now es all.more all.more runs kept all.keeps);
              runs = all.runs;
            },
            all.other,
          )
          | inr lacks ↦ inr (record {
            last = lacks.last;
            es = es;
            events_are = lacks.events_are;
            keeps = kept_both journal journal_mid journal_now disk disk_mid disk_now es (lacks.last ∷ []) [] runs kept lacks.keeps;
            unsent = lacks.unsent;
            stands = lacks.stands;
            unwritten = lacks.unwritten;
            full = lacks.full;
          })
        ]

    pub kept_until : (budget : ℕ) (s : ServeStop) → ((n : ℕ) → s ≡ stop.Budget n → ⊥) → count + 1 ≤ budget
        → KeepsUntil machine node mid now s journal_mid journal_now disk_mid disk_now told_mid told_now here there
        → HasServedKept machine old now journal journal_now disk disk_now budget told told_now before there (Err s)
    unfolding ends_cut
    kept_until budget s other within is =
        let served = ends_cut machine old told before mid now told_mid told_now here there node later count so_far.so_far budget s other within is.until in
        record {
          receives = is.until.more ++ so_far.so_far.receives;
          told_is = served.told;
          of_bytes = served.of_bytes;
          ends = λ me d serves rep whole. (served.ends me d serves rep whole, by_stop s other me d (last_kept s is me d serves rep whole));
        }
      where
        by_stop : (f : ServeStop) → ((n : ℕ) → f ≡ stop.Budget n → ⊥) → (me : Identity V) (d : History)
            → (HasAll journal journal_now disk disk_now (events me d (is.until.more ++ so_far.so_far.receives)) × ¬ IsOfDisk f)
            ⊎ LacksOne me d before there now f journal journal_now disk disk_now (events me d (is.until.more ++ so_far.so_far.receives))
            → EndsKept me d before there now journal journal_now disk disk_now (events me d (is.until.more ++ so_far.so_far.receives)) (Err f)
        by_stop stop.LinkFault never me d last = last
        by_stop stop.SinkFault never me d last = last
        by_stop stop.DiskFault never me d last = last
        by_stop (stop.Budget n) never me d last = absurd (never n refl)
        by_stop (stop.Full length) never me d last = last
        by_stop stop.NoMemory never me d last = last

  pub kept_by_budget : (now : Replica V) (journal_now : JournalState) (disk_now : Option Moments) (told_now : Option Receives) (here : Outside) (node : Node) (budget : ℕ) → journal_now.halted ≡ false → (so_far : KeptSoFar now journal_now disk_now told_now here node budget)
      → HasServedKept machine old now journal journal_now disk disk_now budget told told_now before here (Err (stop.Budget budget))
  unfolding ends_by_budget
  kept_by_budget now journal_now disk_now told_now here node budget runs so_far =
      let served = ends_by_budget machine old told before now told_now here node budget so_far.so_far in
      record {
        receives = so_far.so_far.receives;
        told_is = served.told;
        of_bytes = served.of_bytes;
        ends = λ me d serves rep whole. (served.ends me d serves rep whole, record { keeps = so_far.keeps me d serves rep whole; runs = runs });
      }

-- a round that stopped
pub kept_stopped : {V : Type 0} (machine : ServiceMachine V) (old now : Node) (r_old r_now : Replica V) (journal journal' : JournalState) (disk disk' : Option Moments) (told told_now : Option Receives) (here there : Outside) (s : ServeStop)
    → KeptRounds machine old now r_old r_now journal journal' disk disk' told told_now here there (Err s)
    → ((n : ℕ) → s ≡ stop.Budget n → ⊥) × KeepsUntil machine old r_old r_now s journal journal' disk disk' told told_now here there
kept_stopped machine old now r_old r_now journal journal' disk disk' told told_now here there stop.LinkFault is = (λ n e. absurd cc, is)
kept_stopped machine old now r_old r_now journal journal' disk disk' told told_now here there stop.SinkFault is = (λ n e. absurd cc, is)
kept_stopped machine old now r_old r_now journal journal' disk disk' told told_now here there stop.DiskFault is = (λ n e. absurd cc, is)
kept_stopped machine old now r_old r_now journal journal' disk disk' told told_now here there (stop.Budget n) is = absurd is
kept_stopped machine old now r_old r_now journal journal' disk disk' told told_now here there (stop.Full length) is = (λ n e. absurd cc, is)
kept_stopped machine old now r_old r_now journal journal' disk disk' told told_now here there stop.NoMemory is = (λ n e. absurd cc, is)

stopped_as : {V : Type 0} (machine : ServiceMachine V) (old now : Node) (r_old r_now : Replica V) (journal journal' : JournalState) (disk disk' : Option Moments) (told told_now : Option Receives) (here there : Outside) (s : ServeStop)
    → ((n : ℕ) → s ≡ stop.Budget n → ⊥) → KeepsUntil machine old r_old r_now s journal journal' disk disk' told told_now here there
    → KeptRounds machine old now r_old r_now journal journal' disk disk' told told_now here there (Err s)
stopped_as machine old now r_old r_now journal journal' disk disk' told told_now here there stop.LinkFault never stopped = stopped
stopped_as machine old now r_old r_now journal journal' disk disk' told told_now here there stop.SinkFault never stopped = stopped
stopped_as machine old now r_old r_now journal journal' disk disk' told told_now here there stop.DiskFault never stopped = stopped
stopped_as machine old now r_old r_now journal journal' disk disk' told told_now here there (stop.Budget n) never stopped = absurd (never n refl)
stopped_as machine old now r_old r_now journal journal' disk disk' told told_now here there (stop.Full length) never stopped = stopped
stopped_as machine old now r_old r_now journal journal' disk disk' told told_now here there stop.NoMemory never stopped = stopped

pub stopped_kept : {V : Type 0} (machine : ServiceMachine V) (old now : Node) (r_old r_now : Replica V) (journal journal' : JournalState) (disk disk' : Option Moments) (told told_now : Option Receives) (here there : Outside) (ended : Result Bool ServeStop) (s : ServeStop)
    → ended ≡ Err s → ((n : ℕ) → s ≡ stop.Budget n → ⊥) → KeepsUntil machine old r_old r_now s journal journal' disk disk' told told_now here there
    → KeptRounds machine old now r_old r_now journal journal' disk disk' told told_now here there ended
stopped_kept machine old now r_old r_now journal journal' disk disk' told told_now here there ended s is other stopped =
    rw is (stopped_as machine old now r_old r_now journal journal' disk disk' told told_now here there s other stopped)
