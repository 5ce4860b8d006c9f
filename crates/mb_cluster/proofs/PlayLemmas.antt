-- A whole run: what was played, the stops, and the ends of the nodes.
use Rattle.std.proofs.Common.{◌≡◌, ◌⊎◌, ℕ, ◌+◌, ◌≤◌, List, [], ◌∷◌, ◌++◌, length, map, Option, Result, Ok, Err, refl, sym, ap, subst, ◌∙◌, append-nil, arith, inl, inr}
use Rattle.std.specs.Io.KnownBytes.{Appends}
use Rattle.std.proofs.lemmas.List.{take_all, length-map}
use Rattle.mb_base.specs.Shapes.{Bytes, host_count}
use Rattle.mb_edge.specs.declared.outside.Failed.{Failed}
use Rattle.mb_edge.specs.declared.outside.Failed.TheVariants as failed
use Rattle.mb_edge.specs.declared.spawner.Start.{Start}
use Rattle.mb_edge.specs.Told.{with_more}
use Rattle.mb_sched.specs.declared.configs.Config.{Config}
use Rattle.mb_cluster.specs.declared.stop.ClusterStop.{ClusterStop}
use Rattle.mb_cluster.specs.declared.stop.ClusterStop.TheVariants.{ChildEnded, Budget, LinkFault, SpawnFault, SinkFault, NoMemory}
use Rattle.mb_cluster.specs.declared.asking.Program.{Program}
use Rattle.mb_cluster.specs.Stops.{link_stop}
use Rattle.mb_base.specs.declared.shape.Shape.{Shape}
use Rattle.mb_cluster.specs.Hearing.{Hearing, no_hearing}
use Rattle.mb_cluster.specs.Posts.{program, posts, number_after, requests, stops, AreSome}
use Rattle.mb_cluster.specs.Sends.{SendsSome, SendsInTurn}
use Rattle.mb_cluster.specs.Exchanges.{Exchange, result_text}
use Rattle.mb_cluster.specs.Nodes.{spawned, AreStarted, AwaitsSome, StartsNodes, RunEach, RunFirst, RunsNodes, EndsAs}
use Rattle.mb_cluster.specs.Ends.{IsSpawnStop, AwaitsNodes, EndsWell}
use Rattle.mb_cluster.specs.Runs.{Wire, AppendsFront, all_receives, AsksAll, SendsThenStops, IsBroken, IsCutOff, AsksNone, Asks, Opens}
use Rattle.mb_cluster.specs.Missing.{MissesFew, SendsBut, EndsByStops, AwaitsBut, AwaitsEach}
use Rattle.mb_cluster.specs.Steps.{AsksThese, Breaks, CutsOff, AsksOps}
use Rattle.mb_cluster.specs.Plays.{PlaysNone, Plays}
use Rattle.mb_cluster.specs.Order.{GoesInOrder, PlaysInOrder}
use Rattle.mb_cluster.proofs.FewLemmas.{few_since}
use Rattle.mb_cluster.proofs.EndLemmas.{started_none, started_as, some_none}
use Rattle.mb_cluster.proofs.WireLemmas.{more_both, more_none}
use Rattle.mb_cluster.proofs.SendLemmas.{posts-append, requests_asked, sends_all, turns_none, turns_all}
use Rattle.mb_cluster.proofs.StepLemmas.{appends_none, front_none}

-- all of it is a first part too
front_of_all : (bytes : Bytes) (old new : Option Bytes) → Appends old new bytes → AppendsFront bytes old new
front_of_all bytes old new appended = record { count = length bytes; appended = rw (take_all (length bytes) bytes (omega arith)) appended }

module _ (c : Config) where
  -- ---- what is played

  -- nothing was asked yet
  module _ (p : Program) (old new : Wire) (written : Option Bytes) (kept : new.received ≡ old.received) (unsent : new.sent ≡ old.sent) where
    breaks_at_once : Breaks c.shape c.secret c.ops (no_hearing c.shape) p p old new written written
    breaks_at_once = record {
      exchanges = [];
      got = [];
      answered = tt;
      few = omega arith;
      waits = refl;
      received = kept ∙ more_none old.received;
      sends = turns_none (requests c.secret 1 c.ops ([] ∷ [])) p.post.hosts p.post.number old.sent new.sent unsent;
      lines = appends_none written;
    }

    cuts_at_once : CutsOff c.shape c.secret c.ops (no_hearing c.shape) p p old new written written
    cuts_at_once = record {
      exchanges = [];
      got = [];
      answered = tt;
      few = omega arith;
      received = kept ∙ more_none old.received;
      sends = turns_none (requests c.secret 1 c.ops ([] ∷ [])) p.post.hosts p.post.number old.sent new.sent unsent;
      lines = front_none [] written;
    }

    pub plays_unopened : (cause : Failed) → Plays c (Err (link_stop cause)) p p old new written written
    plays_unopened failed.Device = breaks_at_once
    plays_unopened failed.NoMemory = cuts_at_once

    pub plays_unstarted : (e : ClusterStop) → IsSpawnStop {T = Unit {0}} (Err e) → Plays c (Err e) p p old new written written
    plays_unstarted SpawnFault kind = record { received = kept; sent = unsent; number = refl; kept = refl }
    plays_unstarted NoMemory kind = cuts_at_once
    plays_unstarted LinkFault kind = absurd kind
    plays_unstarted SinkFault kind = absurd kind
    plays_unstarted (ChildEnded h st) kind = absurd kind
    plays_unstarted (Budget seq matching) kind = absurd kind

  pub plays_asked : (r : Result (Unit {0}) ClusterStop) (before after : Program) (old new : Wire) (written written' : Option Bytes) → AsksOps c.shape c.secret c.ops r (no_hearing c.shape) before after old new written written'
      → Plays c r before after old new written written'
  plays_asked (Ok done) before after old new written written' asks = asks
  plays_asked (Err (Budget seq matching)) before after old new written written' asks = asks
  plays_asked (Err (ChildEnded h st)) before after old new written written' asks = absurd asks
  plays_asked (Err SpawnFault) before after old new written written' asks = absurd asks
  plays_asked (Err LinkFault) before after old new written written' asks = asks
  plays_asked (Err SinkFault) before after old new written written' asks = asks
  plays_asked (Err NoMemory) before after old new written written' asks = asks

  -- the link was opened, and the nodes started, whatever comes of asking
  pub opens_asked : (r : Result (Unit {0}) ClusterStop) (old new : Option (List (ℕ × ℕ))) → new ≡ with_more old ((c.port, program) ∷ []) → Opens c r old new
  opens_asked (Ok done) old new opened = opened
  opens_asked (Err (Budget seq matching)) old new opened = opened
  opens_asked (Err (ChildEnded h st)) old new opened = opened
  opens_asked (Err SpawnFault) old new opened = opened
  opens_asked (Err SinkFault) old new opened = opened
  opens_asked (Err LinkFault) old new opened = inr opened
  opens_asked (Err NoMemory) old new opened = inr opened

  pub starts_asked : (r : Result (Unit {0}) ClusterStop) (children : List ℕ) (old new : Option (List (ℕ × Start))) → AreStarted c (length children) children old new → length children ≡ host_count c.shape → StartsNodes c r children old new
  starts_asked (Ok done) children old new started all = subst (λ (n : ℕ). AreStarted c n children old new) all started
  starts_asked (Err (Budget seq matching)) children old new started all = subst (λ (n : ℕ). AreStarted c n children old new) all started
  starts_asked (Err SinkFault) children old new started all = subst (λ (n : ℕ). AreStarted c n children old new) all started
  starts_asked (Err (ChildEnded h st)) children old new started all = started
  starts_asked (Err SpawnFault) children old new started all = started
  starts_asked (Err LinkFault) children old new started all = started
  starts_asked (Err NoMemory) children old new started all = started

  pub opens_unopened : (cause : Failed) (old new : Option (List (ℕ × ℕ))) → new ≡ with_more old [] → Opens c (Err (link_stop cause)) old new
  opens_unopened failed.Device old new kept = inl (kept ∙ sym (more_none old))
  opens_unopened failed.NoMemory old new kept = inl (kept ∙ sym (more_none old))

  pub starts_unopened : (cause : Failed) (children : List ℕ) (old : Option (List (ℕ × Start))) → children ≡ [] → StartsNodes c (Err (link_stop cause)) children old old
  starts_unopened failed.Device children old none = started_as c 0 children old old (started_none c children old none)
  starts_unopened failed.NoMemory children old none = started_as c 0 children old old (started_none c children old none)

  pub none_started : (children : List ℕ) (old : Option (List (ℕ × Start))) → children ≡ [] → AreStarted c (length children) children old old
  none_started children old none = started_as c 0 children old old (started_none c children old none)

  pub opens_unstarted : (e : ClusterStop) → IsSpawnStop {T = Unit {0}} (Err e) → (old new : Option (List (ℕ × ℕ))) → new ≡ with_more old ((c.port, program) ∷ []) → Opens c (Err e) old new
  opens_unstarted SpawnFault kind old new opened = opened
  opens_unstarted NoMemory kind old new opened = inr opened
  opens_unstarted LinkFault kind old new opened = absurd kind
  opens_unstarted SinkFault kind old new opened = absurd kind
  opens_unstarted (ChildEnded h st) kind old new opened = absurd kind
  opens_unstarted (Budget seq matching) kind old new opened = absurd kind

  pub starts_unstarted : (e : ClusterStop) → IsSpawnStop {T = Unit {0}} (Err e) → (children : List ℕ) (old new : Option (List (ℕ × Start))) → AreStarted c (length children) children old new → StartsNodes c (Err e) children old new
  starts_unstarted SpawnFault kind children old new started = started
  starts_unstarted NoMemory kind children old new started = started
  starts_unstarted LinkFault kind children old new started = absurd kind
  starts_unstarted SinkFault kind children old new started = absurd kind
  starts_unstarted (ChildEnded h st) kind children old new started = absurd kind
  starts_unstarted (Budget seq matching) kind children old new started = absurd kind

  -- nothing was begun
  pub cut_at_once : (turns : ℕ) (at : Wire) (written : Option Bytes) → IsCutOff c turns at at written written
  cut_at_once turns at written = record {
    exchanges = [];
    receives = [];
    answered = tt;
    few = omega arith;
    received = more_none at.received;
    sends = record {
      stop_number = 0;
      unstopped = at.sent;
      in_turn = turns_none (requests c.secret 1 c.ops ([] ∷ [])) (host_count c.shape) 0 at.sent at.sent refl;
      stopped = [];
      some = tt;
      sent = more_none at.sent;
    };
    lines = front_none [] written;
  }

  -- ---- the whole

  module _ (turns : ℕ) (before after : Program) (old mid new : Wire) (written written' : Option Bytes) (turns_are : before.turns ≡ turns) (hosts : before.post.hosts ≡ host_count c.shape) (after_hosts : after.post.hosts ≡ before.post.hosts)
      (first : before.post.number ≡ 0) (kept : new.received ≡ mid.received) where
    -- the STOPs behind what was sent
    then_stops : (messages : List Bytes) (q : Result (Unit {0}) Failed) → SendsInTurn messages before.post.hosts before.post.number after.post.number old.sent mid.sent → SendsSome (posts after.post.hosts after.post.number (stops c.secret)) q mid.sent new.sent
        → SendsThenStops c turns messages old.sent new.sent
    then_stops messages q turned sends = record {
      stop_number = after.post.number;
      unstopped = mid.sent;
      in_turn = subst (λ n. SendsInTurn messages (host_count c.shape) n after.post.number old.sent mid.sent) first (subst (λ h. SendsInTurn messages h before.post.number after.post.number old.sent mid.sent) hosts turned);
      stopped = sends.some;
      some = subst (λ h. AreSome sends.some (posts h after.post.number (stops c.secret))) (after_hosts ∙ hosts) sends.among;
      sent = sends.told;
    }

    cut_later : (q : Result (Unit {0}) Failed) → CutsOff c.shape c.secret c.ops (no_hearing c.shape) before after old mid written written' → SendsSome (posts after.post.hosts after.post.number (stops c.secret)) q mid.sent new.sent
        → IsCutOff c turns old new written written'
    cut_later q cut sends = record {
      exchanges = cut.exchanges;
      receives = cut.got;
      answered = rw (← turns_are) cut.answered;
      few = rw (← turns_are) cut.few;
      received = kept ∙ cut.received;
      sends = then_stops (requests c.secret 1 c.ops (map (λ (x : Exchange). x.receives) cut.exchanges ++ cut.got ∷ [])) q cut.sends sends;
      lines = cut.lines;
    }

    broken_later : (q : Result (Unit {0}) Failed) → Breaks c.shape c.secret c.ops (no_hearing c.shape) before after old mid written written' → SendsSome (posts after.post.hosts after.post.number (stops c.secret)) q mid.sent new.sent
        → IsBroken c turns old new written written'
    broken_later q cut sends = record {
      exchanges = cut.exchanges;
      receives = cut.got;
      answered = rw (← turns_are) cut.answered;
      few = rw (← turns_are) cut.few;
      waits = cut.waits;
      received = kept ∙ cut.received;
      sends = then_stops (requests c.secret 1 c.ops (map (λ (x : Exchange). x.receives) cut.exchanges ++ cut.got ∷ [])) q cut.sends sends;
      lines = cut.lines;
    }

    none_asked : (q : Result (Unit {0}) Failed) → PlaysNone before after old mid written written' → SendsSome (posts after.post.hosts after.post.number (stops c.secret)) q mid.sent new.sent → AsksNone c turns old new written written'
    none_asked q plays sends = record {
      received = kept ∙ plays.received;
      stopped = sends.some;
      some =
          let number : after.post.number ≡ 0 = plays.number ∙ first in
          subst (λ n. AreSome sends.some (posts (host_count c.shape) n (stops c.secret))) number (subst (λ h. AreSome sends.some (posts h after.post.number (stops c.secret))) (after_hosts ∙ hosts) sends.among);
      sent = subst (λ (told : Option (List (ℕ × Bytes))). new.sent ≡ with_more told sends.some) plays.sent sends.told;
      kept = plays.kept;
    }

    -- all requests were sent
    asked_turns : (all : AsksThese c.shape c.secret c.ops (no_hearing c.shape) before after old mid written written')
        → SendsInTurn (requests c.secret 1 c.ops (map (λ (x : Exchange). x.receives) all.exchanges ++ [] ∷ [])) before.post.hosts before.post.number after.post.number old.sent mid.sent
    asked_turns all =
        let lists = map (λ (x : Exchange). x.receives) all.exchanges in
        let len : length lists ≡ length c.ops = length-map all.exchanges (λ (x : Exchange). x.receives) ∙ all.all in
        rw (requests_asked c.secret 1 c.ops lists [] len) (turns_all (requests c.secret 1 c.ops lists) before.post.hosts before.post.number after.post.number old.sent mid.sent all.does.sent all.does.number)

    cut_asked : (q : Result (Unit {0}) Failed) → AsksThese c.shape c.secret c.ops (no_hearing c.shape) before after old mid written written' → SendsSome (posts after.post.hosts after.post.number (stops c.secret)) q mid.sent new.sent
        → IsCutOff c turns old new written written'
    cut_asked q all sends = record {
      exchanges = all.exchanges;
      receives = [];
      answered = rw (← turns_are) all.answered;
      few = omega arith;
      received = rw (append-nil (all_receives all.exchanges)) (kept ∙ all.does.received);
      sends = then_stops (requests c.secret 1 c.ops (map (λ (x : Exchange). x.receives) all.exchanges ++ [] ∷ [])) q (asked_turns all) sends;
      lines = front_of_all (result_text all.exchanges) written written' all.lines;
    }

    broken_asked : (q : Result (Unit {0}) Failed) → AsksThese c.shape c.secret c.ops (no_hearing c.shape) before after old mid written written' → SendsSome (posts after.post.hosts after.post.number (stops c.secret)) q mid.sent new.sent
        → IsBroken c turns old new written written'
    broken_asked q all sends = record {
      exchanges = all.exchanges;
      receives = [];
      answered = rw (← turns_are) all.answered;
      few = omega arith;
      waits = refl;
      received = rw (append-nil (all_receives all.exchanges)) (kept ∙ all.does.received);
      sends = then_stops (requests c.secret 1 c.ops (map (λ (x : Exchange). x.receives) all.exchanges ++ [] ∷ [])) q (asked_turns all) sends;
      lines = all.lines;
    }

    -- the stops behind these messages
    all_sent : (messages : List Bytes) → mid.sent ≡ with_more old.sent (posts before.post.hosts before.post.number messages) → after.post.number ≡ number_after before.post.number messages
        → new.sent ≡ with_more mid.sent (posts after.post.hosts after.post.number (stops c.secret)) → new.sent ≡ with_more old.sent (posts (host_count c.shape) 0 (messages ++ stops c.secret))
    all_sent messages sent number more =
        let m0 : mid.sent ≡ with_more old.sent (posts (host_count c.shape) 0 messages) = subst (λ n. mid.sent ≡ with_more old.sent (posts (host_count c.shape) n messages)) first (subst (λ h. mid.sent ≡ with_more old.sent (posts h before.post.number messages)) hosts sent) in
        let n0 : after.post.number ≡ number_after 0 messages = number ∙ ap (λ n. number_after n messages) first in
        let m1 : new.sent ≡ with_more mid.sent (posts (host_count c.shape) (number_after 0 messages) (stops c.secret)) =
        subst (λ n. new.sent ≡ with_more mid.sent (posts (host_count c.shape) n (stops c.secret))) n0 (subst (λ h. new.sent ≡ with_more mid.sent (posts h after.post.number (stops c.secret))) (after_hosts ∙ hosts) more) in
        more_both old.sent mid.sent new.sent (posts (host_count c.shape) 0 messages) (posts (host_count c.shape) (number_after 0 messages) (stops c.secret)) m0 m1
        ∙ ap (with_more old.sent) (sym (posts-append (host_count c.shape) 0 messages (stops c.secret)))

    all_asked : AsksThese c.shape c.secret c.ops (no_hearing c.shape) before after old mid written written' → new.sent ≡ with_more mid.sent (posts after.post.hosts after.post.number (stops c.secret)) → AsksAll c turns old new written written'
    all_asked all more = rw (← turns_are) (record {
      exchanges = all.exchanges;
      answered = all.answered;
      all = all.all;
      received = kept ∙ all.does.received;
      sent = all_sent (requests c.secret 1 c.ops (map (λ (x : Exchange). x.receives) all.exchanges)) all.does.sent all.does.number more;
      lines = all.lines;
    })

    -- at the end: the nodes' ends are the answer
    pub asks_ended : (awaited : Result (Unit {0}) ClusterStop) (children : List ℕ) (w0 w1 : Option (List (ℕ × ℕ))) → AsksThese c.shape c.secret c.ops (no_hearing c.shape) before after old mid written written'
        → SendsSome {E = Failed} (posts after.post.hosts after.post.number (stops c.secret)) (Ok tt) mid.sent new.sent → AwaitsNodes children awaited w0 w1 → Asks c turns awaited old new written written'
    asks_ended (Ok done) children w0 w1 all sends awaits = all_asked all (sends_all (posts after.post.hosts after.post.number (stops c.secret)) mid.sent new.sent sends)
    asks_ended (Err (ChildEnded h st)) children w0 w1 all sends awaits = all_asked all (sends_all (posts after.post.hosts after.post.number (stops c.secret)) mid.sent new.sent sends)
    asks_ended (Err SpawnFault) children w0 w1 all sends awaits = inr (all_asked all (sends_all (posts after.post.hosts after.post.number (stops c.secret)) mid.sent new.sent sends))
    asks_ended (Err NoMemory) children w0 w1 all sends awaits = cut_asked (Ok tt) all sends
    asks_ended (Err LinkFault) children w0 w1 all sends awaits = absurd awaits
    asks_ended (Err SinkFault) children w0 w1 all sends awaits = absurd awaits
    asks_ended (Err (Budget seq matching)) children w0 w1 all sends awaits = absurd awaits

    -- at the end, where a STOP was not sent
    pub asks_unstopped : (cause : Failed) → AsksThese c.shape c.secret c.ops (no_hearing c.shape) before after old mid written written' → SendsSome (posts after.post.hosts after.post.number (stops c.secret)) (Err cause) mid.sent new.sent
        → Asks c turns (Err (link_stop cause)) old new written written'
    asks_unstopped failed.Device all sends = broken_asked (Err failed.Device) all sends
    asks_unstopped failed.NoMemory all sends = cut_asked (Err failed.NoMemory) all sends

    -- where the run stopped
    pub asks_stopped : (e : ClusterStop) (sent : Result (Unit {0}) Failed) → Plays c (Err e) before after old mid written written' → SendsSome (posts after.post.hosts after.post.number (stops c.secret)) sent mid.sent new.sent
        → Asks c turns (Err e) old new written written'
    asks_stopped LinkFault sent plays sends = broken_later sent plays sends
    asks_stopped SpawnFault sent plays sends = inl (none_asked sent plays sends)
    asks_stopped SinkFault sent plays sends = cut_later sent plays sends
    asks_stopped NoMemory sent plays sends = cut_later sent plays sends
    asks_stopped (ChildEnded h st) sent plays sends = absurd plays
    asks_stopped (Budget seq matching) sent plays sends =
        let all = requests c.secret 1 c.ops (map (λ (x : Exchange). x.receives) plays.exchanges ++ plays.got ∷ []) in
        let next : 0 + (length plays.exchanges + 1) ≡ seq = plays.next in
        rw (← turns_are) (record {
          exchanges = plays.exchanges;
          receives = plays.got;
          stopped = sends.some;
          answered = plays.answered;
          next = omega (arith, next);
          within = omega (arith, next, plays.within);
          spent = plays.spent;
          waits = plays.waits;
          most = plays.most;
          received = kept ∙ plays.does.received;
          some =
              let n0 : after.post.number ≡ number_after 0 all = plays.does.number ∙ ap (λ n. number_after n all) first in
              subst (λ n. AreSome sends.some (posts (host_count c.shape) n (stops c.secret))) n0 (subst (λ h. AreSome sends.some (posts h after.post.number (stops c.secret))) (after_hosts ∙ hosts) sends.among);
          sent =
              let m0 : mid.sent ≡ with_more old.sent (posts (host_count c.shape) 0 all) = subst (λ n. mid.sent ≡ with_more old.sent (posts (host_count c.shape) n all)) first (subst (λ h. mid.sent ≡ with_more old.sent (posts h before.post.number all)) hosts plays.does.sent) in
              more_both old.sent mid.sent new.sent (posts (host_count c.shape) 0 all) sends.some m0 sends.told;
          lines = plays.lines;
        })

    -- ---- the STOPs

    -- what was sent before them
    plays_sent : (r : Result (Unit {0}) ClusterStop) → Plays c r before after old mid written written' → (front : List (ℕ × Bytes)) × (mid.sent ≡ with_more old.sent front)
    plays_sent (Ok done) plays = (posts before.post.hosts before.post.number (requests c.secret 1 c.ops (map (λ (x : Exchange). x.receives) plays.exchanges)), plays.does.sent)
    plays_sent (Err (Budget seq matching)) plays = (posts before.post.hosts before.post.number (requests c.secret 1 c.ops (map (λ (x : Exchange). x.receives) plays.exchanges ++ plays.got ∷ [])), plays.does.sent)
    plays_sent (Err (ChildEnded h st)) plays = absurd plays
    plays_sent (Err LinkFault) plays = (plays.sends.front, plays.sends.told)
    plays_sent (Err SpawnFault) plays = ([], plays.sent ∙ more_none old.sent)
    plays_sent (Err SinkFault) plays = (plays.sends.front, plays.sends.told)
    plays_sent (Err NoMemory) plays = (plays.sends.front, plays.sends.told)

    -- Behind that no more are missing than the link failed.
    pub ends_by_stops : (r : Result (Unit {0}) ClusterStop) (f g h : ℕ) → f ≤ g → Plays c r before after old mid written written' → SendsBut (posts after.post.hosts after.post.number (stops c.secret)) g h mid.sent new.sent
        → EndsByStops c f h old.sent new.sent
    ends_by_stops r f g h sooner plays sends =
        let front = plays_sent r plays in
        let few = subst (λ (n : ℕ). MissesFew sends.some (posts n after.post.number (stops c.secret)) g h) (after_hosts ∙ hosts) sends.few in
        record {
          front = front.0;
          number = after.post.number;
          stopped = sends.some;
          few = few_since sends.some (posts (host_count c.shape) after.post.number (stops c.secret)) f g h sooner few;
          sent = more_both old.sent mid.sent new.sent front.0 sends.some front.1 sends.told;
        }

    -- ---- the order

    -- It is kept by the STOPs and the waits.
    module _ (opens o1 o2 : Option (List (ℕ × ℕ))) (children : List ℕ) (s0 s1 s2 : Option (List (ℕ × Start))) (w0 w1 w2 : Option (List (ℕ × ℕ))) (q : Result (Unit {0}) Failed) (unopened : o2 ≡ o1) (stays : s2 ≡ s1) (unawaited : w1 ≡ w0)
        (some : AwaitsSome children w1 w2) (sends : SendsSome (posts after.post.hosts after.post.number (stops c.secret)) q mid.sent new.sent) where
      each_or_none : AreStarted c (host_count c.shape) children s0 s1 ⊎ PlaysNone before after old mid written written' → RunEach c (spawned s0 w1) (spawned s1 w2) ⊎ AsksNone c turns old new written written'
      each_or_none (inl all) = inl (record { children = children; started = all; awaited = some })
      each_or_none (inr none) = inr (none_asked q none sends)

      pub stays_in_order : PlaysInOrder c before after opens o1 old mid written written' children s0 s1 → GoesInOrder c turns opens o2 old new written written' (spawned s0 w0) (spawned s2 w2)
      stays_in_order plays = rw (stays, ← unawaited, unopened) (record { opened = plays.opened; started = each_or_none plays.started })

  -- Nothing was begun.
  pub in_order_at_once : (turns : ℕ) (opens : Option (List (ℕ × ℕ))) (at : Wire) (written : Option Bytes) (s : Option (List (ℕ × Start))) (w : Option (List (ℕ × ℕ))) → GoesInOrder c turns opens opens at at written written (spawned s w) (spawned s w)
  in_order_at_once turns opens at written s w = record {
    opened = inr (refl, refl);
    started = inr (record { received = refl; stopped = []; some = tt; sent = more_none at.sent; kept = refl });
  }

  -- The link was not opened, so nothing else was done.
  pub plays_in_no_order : (p : Program) (opens opens' : Option (List (ℕ × ℕ))) (old new : Wire) (written : Option Bytes) (children : List ℕ) (s : Option (List (ℕ × Start))) → new.received ≡ old.received → new.sent ≡ old.sent → opens' ≡ with_more opens []
      → PlaysInOrder c p p opens opens' old new written written children s s
  plays_in_no_order p opens opens' old new written children s kept unsent unopened = record {
    opened = inr (unopened ∙ sym (more_none opens), refl);
    started = inr (record { received = kept; sent = unsent; number = refl; kept = refl });
  }

  -- Not every node was started, so nothing was asked.
  pub plays_unasked : (p : Program) (opens opens' : Option (List (ℕ × ℕ))) (old new : Wire) (written : Option Bytes) (children : List ℕ) (s s' : Option (List (ℕ × Start))) → new.received ≡ old.received → new.sent ≡ old.sent
      → opens' ≡ with_more opens ((c.port, program) ∷ []) → PlaysInOrder c p p opens opens' old new written written children s s'
  plays_unasked p opens opens' old new written children s s' kept unsent opened = record { opened = inl opened; started = inr (record { received = kept; sent = unsent; number = refl; kept = refl }) }

  -- ---- nodes

  pub nodes_at_once : (s : Option (List (ℕ × Start))) (w : Option (List (ℕ × ℕ))) → RunsNodes c (Err NoMemory) (spawned s w) (spawned s w)
  nodes_at_once s w = record { children = []; few = omega arith; started = started_none c [] s refl; awaited = some_none w }

  module _ (children : List ℕ) (s0 s1 s2 : Option (List (ℕ × Start))) (w0 w1 w2 : Option (List (ℕ × ℕ))) (stays : s2 ≡ s1) (unawaited : w1 ≡ w0) (few : length children ≤ host_count c.shape) (some : AwaitsSome children w1 w2) where
    first_run : AreStarted c (length children) children s0 s1 → RunFirst c (spawned s0 w0) (spawned s2 w2)
    first_run started = rw (stays, ← unawaited) (record { children = children; few = few; started = started; awaited = some })

    pub nodes_ended : (awaited : Result (Unit {0}) ClusterStop) → AreStarted c (host_count c.shape) children s0 s1 → AwaitsNodes children awaited w1 w2 → RunsNodes c awaited (spawned s0 w0) (spawned s2 w2)
    nodes_ended (Ok done) started awaits = rw (stays, ← unawaited) (record { children = children; started = started; awaited = awaits })
    nodes_ended (Err (ChildEnded h st)) started awaits = rw (stays, ← unawaited) (record { children = children; started = started; awaited = awaits })
    nodes_ended (Err SpawnFault) started awaits = first_run (started_as c (host_count c.shape) children s0 s1 started)
    nodes_ended (Err NoMemory) started awaits = first_run (started_as c (host_count c.shape) children s0 s1 started)
    nodes_ended (Err LinkFault) started awaits = absurd awaits
    nodes_ended (Err SinkFault) started awaits = absurd awaits
    nodes_ended (Err (Budget seq matching)) started awaits = absurd awaits

    pub nodes_unstopped : (cause : Failed) → AreStarted c (length children) children s0 s1 → RunsNodes c (Err (link_stop cause)) (spawned s0 w0) (spawned s2 w2)
    nodes_unstopped failed.Device started = first_run started
    nodes_unstopped failed.NoMemory started = first_run started

    pub nodes_stopped : (e : ClusterStop) (before after : Program) (old mid : Wire) (written written' : Option Bytes) → Plays c (Err e) before after old mid written written' → StartsNodes c (Err e) children s0 s1 → RunsNodes c (Err e) (spawned s0 w0) (spawned s2 w2)
    nodes_stopped LinkFault before after old mid written written' plays starts = first_run starts
    nodes_stopped SpawnFault before after old mid written written' plays starts = first_run starts
    nodes_stopped NoMemory before after old mid written written' plays starts = first_run starts
    nodes_stopped SinkFault before after old mid written written' plays starts = rw (stays, ← unawaited) (record { children = children; started = starts; awaited = some })
    nodes_stopped (Budget seq matching) before after old mid written written' plays starts = rw (stays, ← unawaited) (record { children = children; started = starts; awaited = some })
    nodes_stopped (ChildEnded h st) before after old mid written written' plays starts = absurd plays

    -- No more waits are missing than the spawner failed.
    pub waits_each : (f g h : ℕ) → f ≤ g → AreStarted c (length children) children s0 s1 → AwaitsBut children g h w1 w2 → AwaitsEach c f h (spawned s0 w0) (spawned s2 w2)
    waits_each f g h sooner started awaits = rw (stays, ← unawaited) (record {
      children = children;
      started = started;
      awaited = record { some = awaits.some; told = awaits.told; few = few_since (map (λ (w : ℕ × ℕ). w.0) awaits.some) children f g h sooner awaits.few };
    })

-- ---- counts of bad ends

pub ends_later : (r : Result (Unit {0}) ClusterStop) (b0 b1 : ℕ) → EndsAs r b0 b1 → b0 ≤ b1
ends_later (Ok done) b0 b1 ends = omega (arith, ends)
ends_later (Err (ChildEnded h st)) b0 b1 ends = ends.0
ends_later (Err SpawnFault) b0 b1 ends = ends
ends_later (Err NoMemory) b0 b1 ends = ends
ends_later (Err LinkFault) b0 b1 ends = ends
ends_later (Err SinkFault) b0 b1 ends = ends
ends_later (Err (Budget seq matching)) b0 b1 ends = ends

pub ends_unstopped : (cause : Failed) (b0 b1 : ℕ) → b0 ≤ b1 → EndsAs (Err (link_stop cause)) b0 b1
ends_unstopped failed.Device b0 b1 later = later
ends_unstopped failed.NoMemory b0 b1 later = later

pub ends_stopped : (c : Config) (e : ClusterStop) (before after : Program) (old mid : Wire) (written written' : Option Bytes) → Plays c (Err e) before after old mid written written' → (b0 b1 : ℕ) → b0 ≤ b1 → EndsAs (Err e) b0 b1
ends_stopped c LinkFault before after old mid written written' plays b0 b1 later = later
ends_stopped c SpawnFault before after old mid written written' plays b0 b1 later = later
ends_stopped c SinkFault before after old mid written written' plays b0 b1 later = later
ends_stopped c NoMemory before after old mid written written' plays b0 b1 later = later
ends_stopped c (ChildEnded h st) before after old mid written written' plays b0 b1 later = absurd plays
ends_stopped c (Budget seq matching) before after old mid written written' plays b0 b1 later = later

pub well_unstopped : (cause : Failed) → EndsWell (Err (link_stop cause))
well_unstopped failed.Device = tt
well_unstopped failed.NoMemory = tt

pub well_stopped : (c : Config) (e : ClusterStop) (before after : Program) (old mid : Wire) (written written' : Option Bytes) → Plays c (Err e) before after old mid written written' → EndsWell (Err e)
well_stopped c LinkFault before after old mid written written' plays = tt
well_stopped c SpawnFault before after old mid written written' plays = tt
well_stopped c SinkFault before after old mid written written' plays = tt
well_stopped c NoMemory before after old mid written written' plays = tt
well_stopped c (ChildEnded h st) before after old mid written written' plays = absurd plays
well_stopped c (Budget seq matching) before after old mid written written' plays = tt

-- Asking tells no fault of the spawner.
pub no_spawn_fault : (s : Shape) (secret : Bytes) (ops : List Bytes) (r : Result (Unit {0}) ClusterStop) (c : Hearing) (before after : Program) (old new : Wire) (written written' : Option Bytes)
    → AsksOps s secret ops r c before after old new written written' → r ≡ Err SpawnFault → ⊥
no_spawn_fault s secret ops (Ok done) c before after old new written written' asks is = absurd cc
no_spawn_fault s secret ops (Err SpawnFault) c before after old new written written' asks is = asks
no_spawn_fault s secret ops (Err LinkFault) c before after old new written written' asks is = absurd cc
no_spawn_fault s secret ops (Err SinkFault) c before after old new written written' asks is = absurd cc
no_spawn_fault s secret ops (Err NoMemory) c before after old new written written' asks is = absurd cc
no_spawn_fault s secret ops (Err (ChildEnded h st)) c before after old new written written' asks is = absurd cc
no_spawn_fault s secret ops (Err (Budget seq matching)) c before after old new written written' asks is = absurd cc
