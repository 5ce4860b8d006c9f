-- The letters of a run are those that serving sent, and the file that it leaves is that of a run.
use Rattle.std.proofs.Common.{◌≡◌, ◌⊎◌, inl, inr, ℕ, ◌+◌, ◌≤◌, Bool, List, [], ◌∷◌, ◌++◌, length, reverse, map, refl, sym, ap, subst, ◌∙◌, append-nil, arith, Option, Some, None, Ok, Err}
use Rattle.std.specs.Prelude.{Result}
use Rattle.std.specs.List.{AllByRecursion}
use Rattle.std.proofs.lemmas.List.{map-append}
use Rattle.mb_base.specs.Shapes.{Bytes, host_count}
use Rattle.mb_service.specs.Machine.{ServiceMachine}
use Rattle.mb_parts.specs.Counters.{IsBeginning}
use Rattle.mb_msg.specs.declared.event.Event.{Event}
use Rattle.mb_msg.specs.declared.event.Sent.{Sent}
use Rattle.mb_model.specs.Histories.{History, Identity, onto}
use Rattle.mb_model.specs.Sending.{Letter}
use Rattle.mb_model.specs.HostStep.{transition, after}
use Rattle.mb_edge.specs.Disks.{Content, Moments, next_all, IsImage, HoldsInImages, LeavesOnly}
use Rattle.mb_journal.specs.Keeping.{JournalState, RestsAt, IsAtRest, IsLeftBy}
use Rattle.mb_journal.proofs.Crashes.{leaves_same, leaves_weaker, leaves_both}
use Rattle.mb_core.specs.declared.replica.Replica.{Replica}
use Rattle.mb_replica.specs.Represents.{as_sent}
use Rattle.mb_node.specs.declared.stops.ServeStop.{ServeStop}
use Rattle.mb_node.specs.declared.stops.ServeStop.TheVariants as stop
use Rattle.mb_node.specs.Receives.{Receives}
use Rattle.mb_node.specs.Events.{left_by, events}
use Rattle.mb_node.specs.Recording.{sent_of}
use Rattle.mb_node.specs.Sends.{Sends, numbered}
use Rattle.mb_node.specs.Outside.{Outside, SendsPart}
use Rattle.mb_node.specs.Stops.{IsOfDisk}
use Rattle.mb_node.specs.Serving.{datagrams_of, AreDone, AreCutOff, Ends}
use Rattle.mb_node.specs.Keeping.{IsAppended, AreAppended, HasAll, LacksOne, EndsKept}
use Rattle.mb_node.proofs.Told.{part_whole, part_behind}
use Rattle.mb_node.proofs.Runs.{sends_more}
use Rattle.mb_restart.specs.Runs.{sent_behind, IsLeft}
use Rattle.mb_restart.specs.Servings.{IsWholeEnd, IsRunOf, IsRunMeanwhile, EndsRun, ServingsAreRuns}
use Rattle.mb_restart.proofs.Reopened.{resting_files_are_left}

-- ---- what is left

same_moments : (new old : Moments) → Some new ≡ Some old → new ≡ old
same_moments new old is = cc

-- The file says these events; this one may have been being appended behind them.
record IsLeftThen (header : Bytes) (events : List Event) (e : Event) (image : Bytes) : Type 0 where
  begun : Option Event
  only : (begun ≡ None) ⊎ (begun ≡ Some e)
  left : IsLeft header events begun image

-- while an event was appended, and behind it
left_behind : (header : Bytes) (end : ℕ) (events : List Event) (e : Event) (old new : Moments) (image : Bytes) → RestsAt header end events old.now → (since : List Content) → new ≡ next_all old since → AllByRecursion (HoldsInImages (IsLeftBy header events e)) since
    → IsImage new.now image → IsLeftThen header events e image
left_behind header end events e old new image rests [] is each at = record {
  begun = None;
  only = inl refl;
  left = resting_files_are_left header end events old.now image rests (subst (λ (m : Moments). IsImage m.now image) is at);
}
left_behind header end events e old new image rests (content ∷ more) is each at = record {
  begun = Some e;
  only = inr refl;
  left = each.0 image (subst (λ (m : Moments). IsImage m.now image) is at);
}

left_by_append : (header : Bytes) (events : List Event) (e : Event) (old new : Moments) (image : Bytes) → IsAppended header events e old new → IsImage new.now image → IsLeftThen header events e image
left_by_append header events e old new image appended at =
    let since = appended.leaves.since in
    left_behind header appended.end events e old new image appended.rests since (same_moments new (next_all old since) appended.leaves.is) appended.leaves.each at

-- ---- what is sent

module _ {S : Type 0} (me : Identity S) where
  left_is : (start es : List Event) → left_by me (after me start) es ≡ after me (es ++ start)
  unfolding left_by after
  left_is start [] = refl
  left_is start (e ∷ es) = ap (λ (d : History). (transition me d e).left.history) (left_is start es)

  sent_is : (start es : List Event) → sent_of me (after me start) es ≡ map as_sent (sent_behind me start es)
  unfolding sent_of sent_behind
  sent_is start [] = refl
  sent_is start (e ∷ es) =
      let letters : List Letter = (transition me (after me (es ++ start)) e).left.sent in
      ap (λ (d : History). sent_of me (after me start) es ++ map as_sent (transition me d e).left.sent) (left_is start es)
      ∙ ap (λ (l : List Sent). l ++ map as_sent letters) (sent_is start es) ∙ sym (map-append as_sent (sent_behind me start es) letters)

  module _ (start : History) (before now : Outside) where
    abbrev IsSent : List Event → Type 0
    IsSent es = SendsPart (datagrams_of me start es) before.sent now.sent

    sent_done : (es : List Event) → AreDone me start before now es → IsSent es
    sent_done es done = record { part = datagrams_of me start es; first = part_whole (datagrams_of me start es); sent = done.sent }

    sent_cut : (halted : Bool) (es : List Event) → AreCutOff me start before now halted es → IsSent es
    sent_cut halted [] done = sent_done [] done
    sent_cut halted (e ∷ es) cut =
        subst (λ (all : Sends). SendsPart all before.sent now.sent) (sym (sends_more me start es e))
        (record { part = datagrams_of me start es ++ cut.datagrams; first = part_behind (datagrams_of me start es) cut.datagrams _ cut.part.some_sent; sent = cut.adds.sent })

-- ---- at each moment

module _ {S : Type 0} (me : Identity S) (header : Bytes) (kept : List Event) where
  run_meanwhile : (e : Event) (es : List Event) (image : Bytes) → IsLeftBy header (kept ++ reverse es) e image → IsRunMeanwhile me header kept (e ∷ es) image
  run_meanwhile e es image left = record {
    acknowledged = es;
    next = e;
    earlier = record { later = []; is = refl };
    is = λ sent unsent sends. record { unsent = unsent; sends = sends; leaves = left };
  }

  one_begun : (e : Event) (es : List Event) (image : Bytes) → IsRunMeanwhile me header kept es image → IsRunMeanwhile me header kept (e ∷ es) image
  one_begun e es image run = record {
    acknowledged = run.acknowledged;
    next = run.next;
    earlier = record { later = e ∷ run.earlier.later; is = ap (λ (l : List Event). e ∷ l) run.earlier.is };
    is = run.is;
  }

  runs_meanwhile : (es : List Event) (old new : Moments) → AreAppended header kept es old new → LeavesOnly (IsRunMeanwhile me header kept es) old (Some new)
  runs_meanwhile [] old new same = leaves_same (IsRunMeanwhile me header kept []) old (Some new) (ap Some same)
  runs_meanwhile (e ∷ es) old new appended =
      let mid : Moments = appended.0 in
      let first : LeavesOnly (IsRunMeanwhile me header kept (e ∷ es)) old (Some mid) =
      leaves_weaker (IsRunMeanwhile me header kept es) (IsRunMeanwhile me header kept (e ∷ es)) old (Some mid) (one_begun e es) (runs_meanwhile es old mid appended.1) in
      let last : LeavesOnly (IsRunMeanwhile me header kept (e ∷ es)) mid (Some new) =
      leaves_weaker (IsLeftBy header (kept ++ reverse es) e) (IsRunMeanwhile me header kept (e ∷ es)) mid (Some new)
      (run_meanwhile e es) appended.2.leaves in
      leaves_both (IsRunMeanwhile me header kept (e ∷ es)) old (Some mid) (Some new) first
      (subst (λ (m : Moments). LeavesOnly (IsRunMeanwhile me header kept (e ∷ es)) m (Some new)) (same_moments mid (next_all old first.since) first.is) last)

-- ---- a run

module _ {V : Type 0} (me : Identity V) (kept : List Event) (journal journal' : JournalState) (m : Moments) (told : Option Moments) (before now : Outside) (rests : IsAtRest journal kept m.now) where
  abbrev start : History
  start = after me (reverse kept)

  module _ (ended : Result (Unit {0}) ServeStop) where
    abbrev IsOne : List Event → Bytes → Type 0
    IsOne es image = IsRunOf me journal.header kept es ended before.sent now.sent image

    run_of : (acknowledged es : List Event) (begun : Option Event) (image : Bytes) → IsSent me start before now acknowledged → IsBeginning (onto begun acknowledged) es → length es ≤ length acknowledged + 1
        → (IsWholeEnd ended → (acknowledged ≡ es) × (begun ≡ None)) → IsLeft journal.header (kept ++ reverse acknowledged) begun image → IsOne es image
    run_of acknowledged es begun image sent earlier few all left = record {
      run = record { kept = kept; acknowledged = acknowledged; begun = begun; sent = sent_behind me (reverse kept) acknowledged; left = image };
      kept_is = refl;
      left_is = refl;
      is = record { unsent = []; sends = append-nil (sent_behind me (reverse kept) acknowledged); leaves = left };
      earlier = earlier;
      few = few;
      all = all;
      sends = subst (λ (l : List Sent). SendsPart (numbered (host_count me.shape) me.host 0 l) before.sent now.sent) (sent_is me (reverse kept) acknowledged) sent;
    }

    -- all events were acknowledged
    run_all : (es : List Event) (image : Bytes) → IsSent me start before now es → IsLeft journal.header (kept ++ reverse es) None image → IsOne es image
    run_all es image sent left = run_of es es None image sent (record { later = []; is = refl }) (omega arith) (λ whole. (refl, refl)) left

    -- all but the last one, where serving stopped on the way
    begins_then : (e : Event) (es : List Event) (begun : Option Event) → (begun ≡ None) ⊎ (begun ≡ Some e) → IsBeginning (onto begun es) (e ∷ es)
    begins_then e es begun (inl none) = record { later = e ∷ []; is = ap (λ (o : Option Event). e ∷ onto o es) none }
    begins_then e es begun (inr some) = record { later = []; is = ap (λ (o : Option Event). onto o es) some }

    run_but_last : (e : Event) (es : List Event) (image : Bytes) → ¬ IsWholeEnd ended → IsSent me start before now es → IsLeftThen journal.header (kept ++ reverse es) e image → IsOne (e ∷ es) image
    run_but_last e es image partly sent so = run_of es (e ∷ es) so.begun image sent (begins_then e es so.begun so.only) (omega arith) (λ whole. absurd (partly whole)) so.left

    abbrev EndsSo : List Event → Type 0
    EndsSo es = EndsRun me journal.header kept es ended m before.sent now.sent told

    all_moments : (es : List Event) (later : Moments) → told ≡ Some later → AreAppended journal.header kept es m later → LeavesOnly (IsRunMeanwhile me journal.header kept es) m told
    all_moments es later is appended =
        subst (λ (o : Option Moments). LeavesOnly (IsRunMeanwhile me journal.header kept es) m o) (sym is) (runs_meanwhile me journal.header kept es m later appended)

    ends_all : (es : List Event) → IsSent me start before now es → HasAll journal journal' (Some m) told es → EndsSo es
    ends_all es sent has =
        let x = has.keeps.keeps m refl kept rests in
        record {
          later = x.later;
          told_is = x.told_is;
          appended = x.appended;
          each = λ image at. run_all es image sent
              (subst (λ (h : Bytes). IsLeft h (kept ++ reverse es) None image) has.keeps.goes_on.header (resting_files_are_left journal'.header journal'.end (kept ++ reverse es) x.later.now image (x.rests has.runs) at));
          meanwhile = all_moments es x.later x.told_is x.appended;
        }

    ends_lacking : (new : Replica V) (s : ServeStop) (all : List Event) → ¬ IsWholeEnd ended → LacksOne me start before now new s journal journal' (Some m) told all → EndsSo all
    ends_lacking new s all partly lacks =
        let x = lacks.keeps.keeps m refl kept rests in
        subst EndsSo (sym lacks.events_are) (record {
          later = x.later;
          told_is = x.told_is;
          appended = x.appended;
          each = λ image at. run_but_last lacks.last lacks.es image partly (sent_done me start before now lacks.es lacks.unsent)
              (left_by_append journal.header (kept ++ reverse lacks.es) lacks.last x.appended.0 x.later image x.appended.2 at);
          meanwhile = all_moments (lacks.last ∷ lacks.es) x.later x.told_is x.appended;
        })

    by_stop : (s : ServeStop) (new : Replica V) (es : List Event) → ¬ IsWholeEnd ended → AreCutOff me start before now new.halted es
        → (HasAll journal journal' (Some m) told es × ¬ IsOfDisk s) ⊎ LacksOne me start before now new s journal journal' (Some m) told es → EndsSo es
    by_stop s new es partly cut (inl all) = ends_all es (sent_cut me start before now new.halted es cut) all.0
    by_stop s new es partly cut (inr lacks) = ends_lacking new s es partly lacks

  pub ends_run : (budget : ℕ) (new : Replica V) (receives : Receives) (ended : Result (Unit {0}) ServeStop) → Ends me start budget before now new receives ended
      → EndsKept me start before now new journal journal' (Some m) told (events me start receives) ended → EndsSo ended (events me start receives)
  ends_run budget new receives (Ok done) ends keeps = ends_all (Ok done) (events me start receives) (sent_done me start before now (events me start receives) ends.0) keeps
  ends_run budget new receives (Err (stop.Budget n)) ends keeps = ends_all (Err (stop.Budget n)) (events me start receives) (sent_done me start before now (events me start receives) ends.0) keeps
  ends_run budget new receives (Err stop.LinkFault) ends keeps = by_stop (Err stop.LinkFault) stop.LinkFault new (events me start receives) (λ whole. whole) ends.0 keeps
  ends_run budget new receives (Err stop.SinkFault) ends keeps = by_stop (Err stop.SinkFault) stop.SinkFault new (events me start receives) (λ whole. whole) ends.0 keeps
  ends_run budget new receives (Err stop.DiskFault) ends keeps = by_stop (Err stop.DiskFault) stop.DiskFault new (events me start receives) (λ whole. whole) ends.0 keeps
  ends_run budget new receives (Err (stop.Full n)) ends keeps = by_stop (Err (stop.Full n)) (stop.Full n) new (events me start receives) (λ whole. whole) ends.0 keeps
  ends_run budget new receives (Err stop.NoMemory) ends keeps = by_stop (Err stop.NoMemory) stop.NoMemory new (events me start receives) (λ whole. whole) ends.0 keeps

pub servings_are_runs : {V : Type 0} (machine : ServiceMachine V) → ServingsAreRuns machine
servings_are_runs machine me kept old new journal journal' m told budget told_before told_now before now ended serves rep whole rests served =
    let x = served.ends me (after me (reverse kept)) serves rep whole in
    ends_run me kept journal journal' m told before now rests budget new served.receives ended x.0 x.1
