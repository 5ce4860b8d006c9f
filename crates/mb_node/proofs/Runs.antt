-- A node's receives and events, one after the other.
use Rattle.std.proofs.Common.{◌≡◌, ℕ, ◌+◌, ◌≤◌, Bool, true, false, List, [], ◌∷◌, ◌++◌, length, reverse, refl, sym, ap, ◌∙◌, append-nil, append_assoc, length-append, Option, Some, None, Ok, Err, arith}
use Rattle.std.specs.Prelude.{◌%◌, ◌^◌, ◌||◌, Result}
use Rattle.std.specs.Io.KnownBytes.{Appends}
use Rattle.std.proofs.lemmas.Bool.{false≢true}
use Rattle.std.specs.List.{flat_map, AllByRecursion}
use Rattle.std.proofs.lemmas.List.{reverse-append}
use Rattle.std.proofs.lemmas.List.Concat.{flat_map-append}
use Rattle.mb_base.specs.Shapes.{Bytes, host_count}
use Rattle.mb_service.specs.Machine.{ServiceMachine}
use Rattle.mb_msg.specs.declared.event.Event.{Event}
use Rattle.mb_model.specs.Histories.{History, Identity, onto, view_of}
use Rattle.mb_steps.specs.Arises.{IsWhole}
use Rattle.mb_sched.specs.declared.records.Entry.{Entry}
use Rattle.mb_sched.specs.Records.{entry_text}
use Rattle.mb_model.proofs.Lists.{all_append}
use Rattle.mb_edge.specs.Told.{with_more}
use Rattle.mb_edge.proofs.PieceLemmas.{appended_both}
use Rattle.mb_edge.proofs.ToldLemmas.{with_more-nil, with_more-append}
use Rattle.mb_core.specs.declared.replica.Replica.{Replica}
use Rattle.mb_core.specs.Represents.{Represents}
use Rattle.mb_replica.specs.Represents.{Serves}
use Rattle.mb_node.specs.declared.node.Node.{Node}
use Rattle.mb_node.specs.declared.outbox.Outbox.{Outbox}
use Rattle.mb_node.specs.declared.patience.Patience.{Patience}
use Rattle.mb_node.specs.declared.patience.Shown.{Shown}
use Rattle.mb_node.specs.declared.stops.ServeStop.{ServeStop}
use Rattle.mb_node.specs.declared.stops.ServeStop.TheVariants as stop
use Rattle.mb_node.specs.declared.turn.Turn.{Turn}
use Rattle.mb_node.specs.Receives.{Receives, ReceiveFits, made_whole}
use Rattle.mb_node.specs.Inboxes.{HasReceived, arrival_of, arrival_at}
use Rattle.mb_node.specs.Events.{left_by, worked_in, asked_again, quiets, patience, stops, has_stop, events, given_to}
use Rattle.mb_node.specs.Recording.{end_line, entry_at, lines_at, entries_of, lines_of, sent_at, sent_of}
use Rattle.mb_node.specs.Sends.{Sends, numbered}
use Rattle.mb_node.specs.Outside.{Outside, Adds}
use Rattle.mb_node.specs.Serving.{datagrams_at, datagrams_of, IsDone, IsCutOff, AreDone, AreCutOff, StandsBehind, Ends, HasServed}
use Rattle.mb_node.specs.Patience.{standing, fresh, is_spent, behind}
use Rattle.mb_node.specs.Turns.{shown_by, HasTurned, Turned}
use Rattle.mb_node.specs.Rounds.{event_of, IsServing, Goes, GoesOn, IsStopped, Rounds}
use Rattle.mb_node.proofs.Told.{part_none, part_whole, sent_both}
use Rattle.mb_node.proofs.Patient.{patience_more}
use Rattle.mb_node.proofs.Peers.{numbered_both, numbered_none}

-- nothing more was written
pub appends_none : (told : Option Bytes) → Appends told told []
appends_none None = tt
appends_none (Some xs) = sym (append-nil xs)

pub adds_none : (o : Outside) → Adds o o [] []
adds_none o = record { written = appends_none o.written; sent = sym (with_more-nil o.sent) }

adds_both : (o here there : Outside) (text more : Bytes) (s t : Sends) → Adds o here text s → Adds here there more t → Adds o there (text ++ more) (s ++ t)
adds_both o here there text more s t a b = record {
  written = appended_both o.written here.written there.written text more a.written b.written;
  sent = sent_both o.sent here.sent there.sent s t a.sent b.sent;
}

-- what is received is told in order
pub told_more : (told mid now : Option Receives) (receives more : Receives) → mid ≡ with_more told (reverse receives) → now ≡ with_more mid (reverse more) → now ≡ with_more told (reverse (more ++ receives))
told_more told mid now receives more a b =
    b ∙ ap (λ (t : Option Receives). with_more t (reverse more)) a ∙ with_more-append told (reverse receives) (reverse more) ∙ ap (with_more told) (sym (reverse-append more receives))

pub few_reversed : (more : Receives) → length more ≤ 1 → more ≡ reverse more
few_reversed [] le = refl
few_reversed (x ∷ []) le = refl
few_reversed (x ∷ (y ∷ more)) le = absurd (omega (arith, le))

module _ {V : Type 0} (me : Identity V) (start : History) where
  -- ---- the events of one receive more

  given_events : (es : List Event) (spent : Bool) (o : Option Bytes) → given_to me start es o ≡ onto (event_of spent (arrival_of o)) es
  given_events es spent None = refl
  given_events es spent (Some m) = refl

  -- The next quiet is the last that the host bears.
  abbrev pub spent_at : List Event → Patience → Bool
  spent_at es p = is_spent (standing me (left_by me start es)) p

  pub next_events : (receives : Receives) (one : Option Bytes) → events me start (one ∷ receives)
      ≡ onto (event_of (spent_at (events me start receives) (patience me start (events me start receives))) (arrival_at me.shape receives one)) (events me start receives)
  unfolding events
  next_events receives None = refl
  next_events receives (Some datagram) = given_events (events me start receives) (spent_at (events me start receives) (patience me start (events me start receives))) (made_whole me.shape receives datagram)

  -- ---- what one event more adds

  pub sends_more : (es : List Event) (e : Event) → datagrams_of me start (e ∷ es) ≡ datagrams_of me start es ++ datagrams_at me (length (sent_of me start es)) (left_by me start es) e
  unfolding sent_of
  sends_more es e =
      numbered_both (host_count me.shape) me.host 0 (sent_of me start es) (sent_at me (left_by me start es) e)
      ∙ ap (λ (n : ℕ). numbered (host_count me.shape) me.host 0 (sent_of me start es) ++ numbered (host_count me.shape) me.host n (sent_at me (left_by me start es) e)) (zero_plus (length (sent_of me start es))) where
        zero_plus : (k : ℕ) → 0 + k ≡ k
        zero_plus k = omega arith

  or_false_is : (a b : Bool) → b ≡ false → (a || b) ≡ a
  or_false_is true b is = refl
  or_false_is false b is = is

  pub lines_more : (es : List Event) (e : Event) → has_stop me start es ≡ false → lines_of me start (e ∷ es) ≡ lines_of me start es ++ lines_at me (left_by me start es) e
  unfolding lines_of entries_of has_stop
  lines_more es e unstopped =
      let x : Entry = entry_at me (left_by me start es) e in
      let all : Bytes = flat_map entry_text (entries_of me start es) in
      let stop_now : Bool = stops me (left_by me start es) e in
      ap (λ (b : Bool). flat_map entry_text (entries_of me start es ++ x ∷ []) ++ end_line b) (or_false_is stop_now (has_stop me start es) unstopped)
      ∙ ap (λ (s : Bytes). s ++ end_line stop_now) (flat_map-append entry_text (entries_of me start es) (x ∷ []) ∙ ap (λ (s : Bytes). all ++ s) (append-nil (entry_text x)))
      ∙ append_assoc all (entry_text x) (end_line stop_now)
      ∙ ap (λ (s : Bytes). s ++ (entry_text x ++ end_line stop_now)) (sym (ap (λ (b : Bool). all ++ end_line b) unstopped ∙ append-nil all))

  pub done_none : (o : Outside) → AreDone me start o o []
  unfolding lines_of entries_of has_stop sent_of
  done_none o = rw (numbered_none (host_count me.shape) me.host 0) (adds_none o)

  pub done_more : (o here there : Outside) (es : List Event) (e : Event) → has_stop me start es ≡ false → AreDone me start o here es → IsDone me here there (length (sent_of me start es)) (left_by me start es) e → AreDone me start o there (e ∷ es)
  done_more o here there es e unstopped done is = rw (lines_more es e unstopped, sends_more es e) (adds_both o here there _ _ _ _ done is.adds)

  -- ---- stopped on the way

  pub cut_more : (o here there : Outside) (halted : Bool) (es : List Event) (e : Event) → AreDone me start o here es → has_stop me start es ≡ false → IsCutOff me here there halted (length (sent_of me start es)) (left_by me start es) e
      → AreCutOff me start o there halted (e ∷ es)
  cut_more o here there halted es e done unstopped cut = record {
    text = cut.text;
    datagrams = cut.datagrams;
    adds = adds_both o here there _ _ _ _ done cut.adds;
    part = cut.part;
    halts = cut.halts;
    unstopped = unstopped;
  }

  -- of the last event nothing was done
  pub cut_begun : (o here : Outside) (halted : Bool) (es : List Event) (e : Event) → AreDone me start o here es → has_stop me start es ≡ false → AreCutOff me start o here halted (e ∷ es)
  cut_begun o here halted es e done unstopped = record {
    text = [];
    datagrams = [];
    adds = rw (append-nil (lines_of me start es), append-nil (datagrams_of me start es)) done;
    part = record { some_lines = part_none _; some_sent = part_none _; lines_first = λ some. absurd (some refl) };
    halts = λ _. refl;
    unstopped = unstopped;
  }

  or_false : (a b : Bool) → (a || b) ≡ false → (a ≡ false) × (b ≡ false)
  or_false true b is = absurd cc
  or_false false b is = (refl, is)

  unstopped_before : (es : List Event) (e : Event) → has_stop me start (e ∷ es) ≡ false → (stops me (left_by me start es) e ≡ false) × (has_stop me start es ≡ false)
  unfolding has_stop
  unstopped_before es e is = or_false (stops me (left_by me start es) e) (has_stop me start es) is

  pub unstopped_more : (es : List Event) (e : Event) → stops me (left_by me start es) e ≡ false → has_stop me start es ≡ false → has_stop me start (e ∷ es) ≡ false
  unfolding has_stop
  unstopped_more es e a b = rw (a, b) refl

  pub unstopped_none : has_stop me start [] ≡ false
  unfolding has_stop
  unstopped_none = refl

  -- all that was begun is done
  pub cut_done : (o here : Outside) (halted : Bool) (es : List Event) → halted ≡ false → AreDone me start o here es → has_stop me start es ≡ false → AreCutOff me start o here halted es
  cut_done o here halted [] runs done unstopped = done
  cut_done o here halted (e ∷ es) runs done unstopped = record {
    text = lines_at me (left_by me start es) e;
    datagrams = datagrams_at me (length (sent_of me start es)) (left_by me start es) e;
    adds = rw (← lines_more es e (unstopped_before es e unstopped).1, ← sends_more es e) done;
    part = record { some_lines = part_whole _; some_sent = part_whole _; lines_first = λ some. refl };
    halts = λ stopped. absurd (false≢true (sym runs ∙ stopped));
    unstopped = (unstopped_before es e unstopped).1;
  }

  -- one receive more, or none, of which nothing was done
  pub cut_lost : (o here : Outside) (halted : Bool) (receives more : Receives) → halted ≡ false → length more ≤ 1 → AreDone me start o here (events me start receives) → has_stop me start (events me start receives) ≡ false
      → AreCutOff me start o here halted (events me start (more ++ receives))
  cut_lost o here halted receives [] runs few done unstopped = cut_done o here halted (events me start receives) runs done unstopped
  cut_lost o here halted receives (one ∷ []) runs few done unstopped =
      rw (next_events receives one) (either (event_of (spent_at (events me start receives) (patience me start (events me start receives))) (arrival_at me.shape receives one))) where
        either : (e : Option Event) → AreCutOff me start o here halted (onto e (events me start receives))
        either None = cut_done o here halted (events me start receives) runs done unstopped
        either (Some e) = cut_begun o here halted (events me start receives) e done unstopped
  cut_lost o here halted receives (one ∷ (two ∷ more)) runs few done unstopped = absurd (omega (arith, few))

  -- ---- a node behind one receive more

  -- that is no event
  pub serving_same : (o here : Outside) (receives : Receives) (one : Option Bytes) (node now : Node) (r : Replica V) → IsServing me start o receives here node r → events me start (one ∷ receives) ≡ events me start receives
      → HasReceived me.shape (one ∷ receives) now.receiver.inbox → now.patience ≡ node.patience → now.outbox ≡ node.outbox → IsServing me start o (one ∷ receives) here now r
  serving_same o here receives one node now r so_far same has counted outbox = record {
    done = rw same so_far.done;
    stands = rw same so_far.stands;
    inbox = has;
    counted = rw same (counted ∙ so_far.counted);
    hosts = ap (λ (b : Outbox). b.hosts) outbox ∙ so_far.hosts;
    host = ap (λ (b : Outbox). b.host) outbox ∙ so_far.host;
    number = rw same (ap (λ (b : Outbox). b.number) outbox ∙ so_far.number);
  }

  module _ (o here there : Outside) (receives : Receives) (one : Option Bytes) (e : Event) (node now : Node) (r later : Replica V) (t : Turn)
      (so_far : IsServing me start o receives here node r)
      (is : events me start (one ∷ receives) ≡ e ∷ events me start receives)
      (unstopped : has_stop me start (events me start receives) ≡ false)
      (turned : HasTurned me (left_by me start (events me start receives)) (length (sent_of me start (events me start receives))) e here there later now.outbox t)
      (runs : later.halted ≡ false) where
    es : List Event
    es = events me start receives

    turned_done : AreDone me start o there (events me start (one ∷ receives))
    turned_done = rw is (done_more o here there (events me start receives) e unstopped so_far.done turned.done)

    turned_stands : StandsBehind me start later (events me start (one ∷ receives))
    unfolding left_by
    turned_stands = rw is (record { represents = turned.represents; whole = turned.whole; runs = runs })

    stops_now : t.stops ≡ true → has_stop me start (events me start (one ∷ receives)) ≡ true
    unfolding has_stop
    stops_now stopping = rw is (rw (sym turned.stopping ∙ stopping) refl)

    pub goes_to_stop : t.stops ≡ true → Goes me start o (one ∷ receives) there now later true
    goes_to_stop stopping = (turned_done, (stops_now stopping, unstopped), turned_stands)

    counted_more : now.patience ≡ behind t.shown node.patience → now.patience ≡ patience me start (events me start (one ∷ receives))
    counted_more count =
        rw is (count ∙ ap (λ (s : Shown). behind s node.patience) turned.showing ∙ ap (behind (shown_by me (left_by me start (events me start receives)) e)) so_far.counted ∙ sym (patience_more me start (events me start receives) e))

    number_more : now.outbox.number ≡ length (sent_of me start (events me start (one ∷ receives))) % 2 ^ 32
    unfolding sent_of
    number_more = rw is (turned.numbers ∙ ap (λ (n : ℕ). n % 2 ^ 32) (sym (length-append (sent_of me start (events me start receives)) (sent_at me (left_by me start (events me start receives)) e))))

    pub goes_on : t.stops ≡ false → HasReceived me.shape (one ∷ receives) now.receiver.inbox → now.patience ≡ behind t.shown node.patience
        → now.outbox.hosts ≡ node.outbox.hosts → now.outbox.host ≡ node.outbox.host → Goes me start o (one ∷ receives) there now later false
    goes_on going has count hosts host = (
      record {
        done = turned_done;
        stands = turned_stands;
        inbox = has;
        counted = counted_more count;
        hosts = hosts ∙ so_far.hosts;
        host = host ∙ so_far.host;
        number = number_more;
      },
      rw is (unstopped_more (events me start receives) e (sym turned.stopping ∙ going) unstopped),
    )

-- ---- all receives

module _ {V : Type 0} (machine : ServiceMachine V) (old : Replica V) (told : Option Receives) (before : Outside) where
  -- so many receives, and a node that stands behind them, whatever history the host stood for
  pub record SoFar (now : Replica V) (told_now : Option Receives) (here : Outside) (node : Node) (count : ℕ) : Type 0 where
    pub receives : Receives
    pub told_is : told_now ≡ with_more told (reverse receives)
    pub counted : length receives ≡ count
    pub of_bytes : AllByRecursion ReceiveFits receives
    pub stands : (me : Identity V) (d : History) → Serves machine me → Represents me old d → IsWhole d → IsServing me d before receives here node now × (has_stop me d (events me d receives) ≡ false)

  unfoldable pub so_far_none : (node : Node) → old.halted ≡ false → ((me : Identity V) (d : History) → Represents me old d → HasReceived me.shape [] node.receiver.inbox)
      → ((me : Identity V) (d : History) → Represents me old d → node.outbox ≡ record { host = me.host; hosts = host_count me.shape; number = 0 }) → ((me : Identity V) (d : History) → Represents me old d → node.patience ≡ fresh (view_of me d)) → SoFar old told before node 0
  unfolding left_by events quiets worked_in asked_again sent_of
  so_far_none node runs inbox outbox none = record {
    receives = [];
    told_is = sym (with_more-nil told);
    counted = refl;
    of_bytes = tt;
    stands = λ me d serves rep whole. (
      record {
        done = done_none me d before;
        stands = record { represents = rep; whole = whole; runs = runs };
        inbox = inbox me d rep;
        counted = none me d rep;
        hosts = ap (λ (b : Outbox). b.hosts) (outbox me d rep);
        host = ap (λ (b : Outbox). b.host) (outbox me d rep);
        number = ap (λ (b : Outbox). b.number) (outbox me d rep);
      },
      unstopped_none me d,
    );
  }

  -- memory ran out before the first receive
  unfoldable pub ends_unbegun : (budget : ℕ) → HasServed machine old old budget told told before before (Err stop.NoMemory)
  unfolding events
  ends_unbegun budget = record {
    receives = [];
    told = sym (with_more-nil told);
    of_bytes = tt;
    ends = λ me d serves rep whole. (done_none me d before, omega arith);
  }

  module _ (mid now : Replica V) (told_mid told_now : Option Receives) (here there : Outside) (node later : Node) (count : ℕ) (so_far : SoFar mid told_mid here node count) where
    unfoldable pub so_far_more : GoesOn machine node later mid now told_mid told_now here there false → SoFar now told_now there later (count + 1)
    so_far_more on = record {
      receives = on.one ∷ so_far.receives;
      told_is = told_more told told_mid told_now so_far.receives (on.one ∷ []) so_far.told_is on.told;
      counted = omega (arith, so_far.counted);
      of_bytes = (on.of_bytes, so_far.of_bytes);
      stands = λ me d serves rep whole. let x = so_far.stands me d serves rep whole in on.goes me d before so_far.receives serves x.0 x.1;
    }

    unfoldable pub ends_by_stop : (budget : ℕ) → count + 1 ≤ budget → GoesOn machine node later mid now told_mid told_now here there true → HasServed machine old now budget told told_now before there (Ok tt)
    ends_by_stop budget within on = record {
      receives = on.one ∷ so_far.receives;
      told = told_more told told_mid told_now so_far.receives (on.one ∷ []) so_far.told_is on.told;
      of_bytes = (on.of_bytes, so_far.of_bytes);
      ends = λ me d serves rep whole.
          let x = so_far.stands me d serves rep whole in
          let y = on.goes me d before so_far.receives serves x.0 x.1 in
          (y.0, y.1, y.2, omega (arith, so_far.counted, within));
    }

    unfoldable pub ends_cut : (budget : ℕ) (e : ServeStop) → ((n : ℕ) → e ≡ stop.Budget n → ⊥) → count + 1 ≤ budget → IsStopped machine node mid now told_mid told_now here there → HasServed machine old now budget told told_now before there (Err e)
    ends_cut budget e other within is = record {
      receives = is.more ++ so_far.receives;
      told = told_more told told_mid told_now so_far.receives is.more so_far.told_is (is.told ∙ ap (with_more told_mid) (few_reversed is.more is.few));
      of_bytes = all_append ReceiveFits is.more so_far.receives is.of_bytes so_far.of_bytes;
      ends = λ me d serves rep whole. let x = so_far.stands me d serves rep whole in by_error e other me d (is.cut me d before so_far.receives serves x.0 x.1);
    } where
      short : length (is.more ++ so_far.receives) ≤ budget
      short = let few : length is.more ≤ 1 = is.few in omega (arith, few, so_far.counted, within, length-append is.more so_far.receives)

      by_error : (f : ServeStop) → ((n : ℕ) → f ≡ stop.Budget n → ⊥) → (me : Identity V) (d : History) → AreCutOff me d before there now.halted (events me d (is.more ++ so_far.receives))
          → Ends me d budget before there now (is.more ++ so_far.receives) (Err f)
      by_error stop.LinkFault never me d cut = (cut, short)
      by_error stop.SinkFault never me d cut = (cut, short)
      by_error (stop.Budget n) never me d cut = absurd (never n refl)
      by_error stop.NoMemory never me d cut = (cut, short)
      by_error stop.DiskFault never me d cut = (cut, short)
      by_error (stop.Full length) never me d cut = (cut, short)

  unfoldable pub ends_by_budget : (now : Replica V) (told_now : Option Receives) (here : Outside) (node : Node) (budget : ℕ) → SoFar now told_now here node budget → HasServed machine old now budget told told_now before here (Err (stop.Budget budget))
  ends_by_budget now told_now here node budget so_far = record {
    receives = so_far.receives;
    told = so_far.told_is;
    of_bytes = so_far.of_bytes;
    ends = λ me d serves rep whole. let x = so_far.stands me d serves rep whole in (x.0.done, x.1, x.0.stands, refl, so_far.counted);
  }

-- a round that stopped
pub round_stopped : {V : Type 0} (machine : ServiceMachine V) (old now : Node) (r_old r_now : Replica V) (told_before told_now : Option Receives) (here there : Outside) (e : ServeStop)
    → Rounds machine old now r_old r_now told_before told_now here there (Err e) → ((n : ℕ) → e ≡ stop.Budget n → ⊥) × IsStopped machine old r_old r_now told_before told_now here there
round_stopped machine old now r_old r_now told_before told_now here there stop.LinkFault is = (λ n e. absurd cc, is)
round_stopped machine old now r_old r_now told_before told_now here there stop.SinkFault is = (λ n e. absurd cc, is)
round_stopped machine old now r_old r_now told_before told_now here there (stop.Budget n) is = absurd is
round_stopped machine old now r_old r_now told_before told_now here there stop.NoMemory is = (λ n e. absurd cc, is)
round_stopped machine old now r_old r_now told_before told_now here there stop.DiskFault is = (λ n e. absurd cc, is)
round_stopped machine old now r_old r_now told_before told_now here there (stop.Full length) is = (λ n e. absurd cc, is)

pub stopped_round : {V : Type 0} (machine : ServiceMachine V) (old now : Node) (r_old r_now : Replica V) (told_before told_now : Option Receives) (here there : Outside) (ended : Result Bool ServeStop) (e : ServeStop)
    → ended ≡ Err e → ((n : ℕ) → e ≡ stop.Budget n → ⊥) → IsStopped machine old r_old r_now told_before told_now here there → Rounds machine old now r_old r_now told_before told_now here there ended
stopped_round machine old now r_old r_now told_before told_now here there ended e is other stopped = rw is (by_stop e other) where
  by_stop : (x : ServeStop) → ((n : ℕ) → x ≡ stop.Budget n → ⊥) → Rounds machine old now r_old r_now told_before told_now here there (Err x)
  by_stop stop.LinkFault never = stopped
  by_stop stop.SinkFault never = stopped
  by_stop (stop.Budget n) never = absurd (never n refl)
  by_stop stop.NoMemory never = stopped
  by_stop stop.DiskFault never = stopped
  by_stop (stop.Full length) never = stopped

-- a turn that stopped
pub turn_stopped : {V : Type 0} (me : Identity V) (d : History) (number : ℕ) (e : Event) (here there : Outside) (r : Replica V) (outbox : Outbox) (s : ServeStop) → Turned me d number e here there r outbox (Err s) → ((n : ℕ) → s ≡ stop.Budget n → ⊥) × IsCutOff me here there r.halted number d e
turn_stopped me d number e here there r outbox stop.LinkFault is = (λ n x. absurd cc, is)
turn_stopped me d number e here there r outbox stop.SinkFault is = (λ n x. absurd cc, is)
turn_stopped me d number e here there r outbox (stop.Budget n) is = absurd is
turn_stopped me d number e here there r outbox stop.NoMemory is = (λ n x. absurd cc, is)
turn_stopped me d number e here there r outbox stop.DiskFault is = (λ n x. absurd cc, is)
turn_stopped me d number e here there r outbox (stop.Full length) is = (λ n x. absurd cc, is)
