-- Steps of the program, one after the other.
use Rattle.std.proofs.Common.{◌≡◌, ℕ, ◌+◌, ◌≤◌, true, List, [], ◌∷◌, ◌++◌, length, map, take, Option, Some, None, Result, Ok, Err, refl, sym, ap, subst, ◌∙◌, append_assoc, append-nil, arith, length-append}
use Rattle.std.specs.Io.KnownBytes.{Appends}
use Rattle.std.proofs.lemmas.List.{map-append, length-map}
use Rattle.std.proofs.lemmas.Grind.{flat_map-append}
use Rattle.std.proofs.Math.Seq.{take-append-add}
use Rattle.mb_base.specs.Shapes.{Bytes}
use Rattle.mb_base.specs.declared.shape.Shape.{Shape}
use Rattle.mb_edge.specs.Told.{with_more}
use Rattle.mb_edge.specs.Pieces.{AppendsPart}
use Rattle.mb_edge.proofs.PieceLemmas.{appended_both}
use Rattle.mb_msg.specs.declared.normal.Reply.{Reply}
use Rattle.mb_model.proofs.ShapesFit.{shape_fits}
use Rattle.mb_cluster.specs.declared.stop.ClusterStop.{ClusterStop}
use Rattle.mb_cluster.specs.declared.stop.ClusterStop.TheVariants as stop
use Rattle.mb_cluster.specs.declared.asking.Program.{Program}
use Rattle.mb_cluster.specs.Hearing.{Receive, Hearing, asked, hears, hears_all}
use Rattle.mb_cluster.specs.Posts.{to_all, next_number, posts, number_after, request_bytes, repeats, request_each, requests}
use Rattle.mb_cluster.specs.Sends.{SendsFront, SendsInTurn}
use Rattle.mb_cluster.specs.Exchanges.{Exchange, result_line, result_text, AreAnswered, hearing_after}
use Rattle.mb_cluster.specs.Runs.{Wire, AppendsFront, all_receives}
use Rattle.mb_cluster.specs.Listens.{Listens, HeardAs}
use Rattle.mb_cluster.specs.Steps.{Receives, Does, HearsOne, Completes, WaitsOn, Awaits, IsExchanged, IsSpent, Exchanges, AsksThese, SpendsOn, messages_for, Breaks, CutsOff, AsksOps}
use Rattle.mb_cluster.specs.Stops.{link_stop}
use Rattle.mb_cluster.specs.Writes.{WritesLine}
use Rattle.mb_edge.specs.declared.outside.Failed.{Failed}
use Rattle.mb_edge.specs.declared.outside.Failed.TheVariants as failed
use Rattle.mb_cluster.proofs.WireLemmas.{more_both, more_none}
use Rattle.mb_cluster.proofs.SendLemmas.{posts-append, number_after-append, turns_none, turns_one, turns_all, turns_behind, turns_before, requests-append, requests_front, requests_more, quiets_more}
use Rattle.mb_cluster.proofs.HearingLemmas.{hears_more, hears-append, after-append, answered-append, after_number, hears_number}
use Rattle.mb_cluster.proofs.QuorumLemmas.{quorum_heard}

-- ---- what is written

pub appends_none : (old : Option Bytes) → Appends old old []
appends_none None = tt
appends_none (Some xs) = sym (append-nil xs)

pub front_none : (bytes : Bytes) (old : Option Bytes) → AppendsFront bytes old old
front_none bytes old = record { count = 0; appended = appends_none old }

pub front_of_part : (bytes : Bytes) (old new : Option Bytes) → AppendsPart bytes old new → AppendsFront bytes old new
front_of_part bytes old new part = record { count = part.count; appended = part.appended }

pub front_more : (xs ys : Bytes) (old mid new : Option Bytes) → Appends old mid xs → AppendsFront ys mid new → AppendsFront (xs ++ ys) old new
front_more xs ys old mid new first second = record {
  count = length xs + second.count;
  appended = rw (take-append-add xs ys second.count) (appended_both old mid new xs (take second.count ys) first second.appended);
}

module _ (s : Shape) (secret : Bytes) where
  pub does_nothing : (c : Hearing) (p : Program) (w : Wire) → Listens s secret p.listener c → Does s secret [] [] c p p w w
  does_nothing c p w listens = record { received = more_none w.received; sent = more_none w.sent; number = refl; listens = listens }

  pub does_both : (got more : List Receive) (ms ns : List Bytes) (c side : Hearing) (before mid after : Program) (old middle new : Wire) → Does s secret got ms c before mid old middle → Does s secret more ns side mid after middle new
      → mid.post.hosts ≡ before.post.hosts → Does s secret (got ++ more) (ms ++ ns) side before after old new
  does_both got more ms ns c side before mid after old middle new first second hosts = record {
    received = more_both old.received middle.received new.received got more first.received second.received;
    sent =
        let hosts_are = before.post.hosts in
        let next : new.sent ≡ with_more middle.sent (posts hosts_are (number_after before.post.number ms) ns) = subst (λ n. new.sent ≡ with_more middle.sent (posts hosts_are n ns)) first.number (subst (λ h. new.sent ≡ with_more middle.sent (posts h mid.post.number ns)) hosts second.sent) in
        more_both old.sent middle.sent new.sent (posts hosts_are before.post.number ms) (posts hosts_are (number_after before.post.number ms) ns) first.sent next
        ∙ ap (with_more old.sent) (sym (posts-append hosts_are before.post.number ms ns));
    number = second.number ∙ ap (λ n. number_after n ns) first.number ∙ sym (number_after-append before.post.number ms ns);
    listens = second.listens;
  }

  -- ---- one receive

  pub got_datagram : (request : Bytes) (h : Option Reply) (d : Bytes) (c : Hearing) (before after : Program) (old new : Wire) → new.received ≡ with_more old.received (Some d ∷ []) → new.sent ≡ old.sent → after.post ≡ before.post
      → Listens s secret after.listener (hears s secret c (Some d)) → HeardAs h c.asker (hears s secret c (Some d)).asker → HearsOne s secret request h c before after old new
  got_datagram request h d c before after old new received sent post listens heard_as = record {
    got = Some d;
    does = record { received = received; sent = sent ∙ more_none old.sent; number = ap (λ p. p.number) post; listens = listens };
    heard_as = heard_as;
  }

  pub got_quiet : (request : Bytes) (c : Hearing) (before after : Program) (old new : Wire) → new.received ≡ with_more old.received (None ∷ []) → new.sent ≡ with_more old.sent (to_all before.post.hosts before.post.number request)
      → after.post.number ≡ next_number before.post.number → after.listener ≡ before.listener → Listens s secret before.listener c → HearsOne s secret request None c before after old new
  got_quiet request c before after old new received sent number same listens = record {
    got = None;
    does = record {
      received = received;
      sent = rw (append-nil (to_all before.post.hosts before.post.number request)) sent;
      number = number;
      listens = rw same (record { held = listens.held; asker = listens.asker; most = listens.most });
    };
    heard_as = (refl, refl);
  }

  -- nothing was received and nothing sent
  pub fails_first : (limit : ℕ) (messages : List Receive → List Bytes) (cause : Failed) (c : Hearing) (before after : Program) (old new : Wire) → new.received ≡ old.received → new.sent ≡ old.sent → after.post.number ≡ before.post.number
      → Receives s secret limit messages cause c before after old new
  fails_first limit messages cause c before after old new received sent number = record {
    got = [];
    received = received ∙ more_none old.received;
    sends = rw number (turns_none (messages []) before.post.hosts before.post.number old.sent new.sent sent);
    few = omega arith;
    waits = λ is. refl;
  }

  pub fails_quiet : (request : Bytes) (cause : Failed) (c : Hearing) (before after : Program) (old new : Wire) → new.received ≡ with_more old.received (None ∷ [])
      → SendsFront {E = Failed} (to_all before.post.hosts before.post.number request) (Err cause) old.sent new.sent → after.post.number ≡ next_number before.post.number → Receives s secret 1 (repeats request) cause c before after old new
  fails_quiet request cause c before after old new received sent number = record {
    got = None ∷ [];
    received = received;
    sends = turns_one {E = Failed} request before.post.hosts before.post.number after.post.number (Err cause) old.sent new.sent sent number;
    few = omega arith;
    waits = λ is. refl;
  }

  pub fails_datagram : (request d : Bytes) (c : Hearing) (before after : Program) (old new : Wire) → new.received ≡ with_more old.received (Some d ∷ []) → new.sent ≡ old.sent → after.post.number ≡ before.post.number
      → Receives s secret 1 (repeats request) failed.NoMemory c before after old new
  fails_datagram request d c before after old new received sent number = record {
    got = Some d ∷ [];
    received = received;
    sends = rw number (turns_none [] before.post.hosts before.post.number old.sent new.sent sent);
    few = omega arith;
    waits = λ is. absurd cc;
  }

  -- the request was not sent whole
  pub fails_asking : (limit : ℕ) (request : Bytes) (cause : Failed) (c : Hearing) (before after : Program) (old new : Wire) → new.received ≡ old.received → SendsFront {E = Failed} (to_all before.post.hosts before.post.number request) (Err cause) old.sent new.sent
      → after.post.number ≡ next_number before.post.number → Receives s secret limit (request_each request) cause c before after old new
  fails_asking limit request cause c before after old new received sent number = record {
    got = [];
    received = received ∙ more_none old.received;
    sends = turns_one {E = Failed} request before.post.hosts before.post.number after.post.number (Err cause) old.sent new.sent sent number;
    few = omega arith;
    waits = λ is. refl;
  }

  -- it was, and a call failed behind that
  pub fails_behind : (limit : ℕ) (request : Bytes) (cause : Failed) (c : Hearing) (before asking after : Program) (old middle new : Wire) → asking.post.hosts ≡ before.post.hosts → asking.post.number ≡ next_number before.post.number
      → middle.received ≡ old.received → middle.sent ≡ with_more old.sent (to_all before.post.hosts before.post.number request) → Receives s secret limit (repeats request) cause c asking after middle new
      → Receives s secret limit (request_each request) cause c before after old new
  fails_behind limit request cause c before asking after old middle new hosts number kept told fails = record {
    got = fails.got;
    received = rw kept at fails.received;
    sends =
        let again = repeats request fails.got in
        let first : middle.sent ≡ with_more old.sent (posts before.post.hosts before.post.number (request ∷ [])) = told ∙ ap (with_more old.sent) (sym (append-nil (to_all before.post.hosts before.post.number request))) in
        turns_behind (request ∷ []) again before.post.hosts before.post.number asking.post.number after.post.number old.sent middle.sent new.sent first number
        (subst (λ (h : ℕ). SendsInTurn again h asking.post.number after.post.number middle.sent new.sent) hosts fails.sends);
    few = fails.few;
    waits = fails.waits;
  }

  -- ---- the receives for a request

  module _ (request : Bytes) (c : Hearing) (before mid after : Program) (old middle new : Wire) (hosts : mid.post.hosts ≡ before.post.hosts) where
    heard_too : (n : ℕ) (w : WaitsOn s secret n request c before mid old middle) (h : Option Reply) (one : HearsOne s secret request h (hears_all s secret c w.got) mid after middle new)
        → Does s secret (w.got ++ one.got ∷ []) (repeats request (w.got ++ one.got ∷ [])) (hears_all s secret c (w.got ++ one.got ∷ [])) before after old new
    heard_too n w h one =
        rw (quiets_more request w.got (one.got ∷ []), hears_more s secret c w.got one.got)
        (does_both w.got (one.got ∷ []) (repeats request w.got) (repeats request (one.got ∷ [])) (hears_all s secret c w.got) (hears s secret (hears_all s secret c w.got) one.got) before mid after old middle new w.does one.does hosts)

    one_more : (xs : List Receive) (x : Receive) (n : ℕ) → length xs ≡ n → length (xs ++ x ∷ []) ≡ n + 1
    one_more xs x n len = omega (arith, length-append xs (x ∷ []))

    pub nothing_more : (n : ℕ) (w : WaitsOn s secret n request c before mid old middle) → HearsOne s secret request None (hears_all s secret c w.got) mid after middle new → WaitsOn s secret (n + 1) request c before after old new
    nothing_more n w one = record {
      got = w.got ++ one.got ∷ [];
      does = heard_too n w None one;
      made = one_more w.got one.got n w.made;
      none = rw (hears_more s secret c w.got one.got) (one.heard_as.1 ∙ w.none);
      waits = rw (hears_more s secret c w.got one.got) (one.heard_as.0 ∙ w.waits);
    }

    pub answer_more : (n : ℕ) (r : Reply) → n + 1 ≤ before.turns → (w : WaitsOn s secret n request c before mid old middle) → HearsOne s secret request (Some r) (hears_all s secret c w.got) mid after middle new
        → Completes s secret r request c before after old new
    answer_more n r few w one = record {
      earlier = w.got;
      last = one.got;
      does = heard_too n w (Some r) one;
      waits = w.waits;
      accepted = rw (hears_more s secret c w.got one.got) (one.heard_as.0 ∙ ap (λ a. r ∷ a) w.none);
      seq = one.heard_as.1 ∙ hears_number s secret c w.got;
      few = let len = one_more w.got one.got n w.made in omega (arith, len);
    }

  pub waits_first : (request : Bytes) (c : Hearing) (p : Program) (w : Wire) → Listens s secret p.listener c → c.asker.waits ≡ true → WaitsOn s secret 0 request c p p w w
  waits_first request c p w listens waits = record {
    got = [];
    does = does_nothing c p w listens;
    made = refl;
    waits = waits;
    none = refl;
  }

  -- a call failed at the next receive
  pub stops_more : (n limit : ℕ) (request : Bytes) (cause : Failed) (c : Hearing) (before mid after : Program) (old middle new : Wire) → mid.post.hosts ≡ before.post.hosts → n + 1 ≤ limit → (w : WaitsOn s secret n request c before mid old middle)
      → c.asker.waits ≡ true → Receives s secret 1 (repeats request) cause (hears_all s secret c w.got) mid after middle new → Receives s secret limit (repeats request) cause c before after old new
  stops_more n limit request cause c before mid after old middle new hosts few w waits one = record {
    got = w.got ++ one.got;
    received = more_both old.received middle.received new.received w.got one.got w.does.received one.received;
    sends =
        rw (quiets_more request w.got one.got)
        (turns_behind (repeats request w.got) (repeats request one.got) before.post.hosts before.post.number mid.post.number after.post.number old.sent middle.sent new.sent w.does.sent w.does.number
        (subst (λ (h : ℕ). SendsInTurn (repeats request one.got) h mid.post.number after.post.number middle.sent new.sent) hosts one.sends));
    few = omega (arith, length-append w.got one.got, w.made, one.few);
    waits = λ is. rw (hears-append s secret c w.got one.got) (one.waits is ∙ w.waits ∙ sym waits);
  }

  -- ---- an operation

  -- the request was sent, and then there were these receives
  module _ (op : Bytes) (c : Hearing) (before sent after : Program) (old middle new : Wire) (turns : sent.turns ≡ before.turns)
      (hosts : sent.post.hosts ≡ before.post.hosts) (number : sent.post.number ≡ next_number before.post.number) (received : middle.received ≡ old.received)
      (told : middle.sent ≡ with_more old.sent (to_all before.post.hosts before.post.number (request_bytes secret (c.asker.number + 1) op))) where
    first_does : (got : List Receive) (side : Hearing) → Does s secret got (repeats (request_bytes secret (c.asker.number + 1) op) got) side sent after middle new → Does s secret got (request_each (request_bytes secret (c.asker.number + 1) op) got) side before after old new
    first_does got side does = record {
      received = subst (λ r. new.received ≡ with_more r got) received does.received;
      sent =
          let again = repeats (request_bytes secret (c.asker.number + 1) op) got in
          let next : new.sent ≡ with_more middle.sent (posts before.post.hosts (next_number before.post.number) again) =
          subst (λ n. new.sent ≡ with_more middle.sent (posts before.post.hosts n again)) number (subst (λ h. new.sent ≡ with_more middle.sent (posts h sent.post.number again)) hosts does.sent) in
          more_both old.sent middle.sent new.sent (to_all before.post.hosts before.post.number (request_bytes secret (c.asker.number + 1) op)) (posts before.post.hosts (next_number before.post.number) again) told next;
      number = does.number ∙ ap (λ n. number_after n (repeats (request_bytes secret (c.asker.number + 1) op) got)) number;
      listens = does.listens;
    }

    pub op_answered : (r : Reply) → Completes s secret r (request_bytes secret (c.asker.number + 1) op) (asked c) sent after middle new → IsExchanged s secret op r c before after old new
    op_answered r done = record {
      x = record { receives = done.earlier ++ done.last ∷ []; reply = r };
      reply = refl;
      answered = record {
        earlier = done.earlier;
        last = done.last;
        all = refl;
        waits = done.waits;
        accepted = done.accepted;
        number = done.seq;
        quorum = quorum_heard s secret (shape_fits s) c (done.earlier ++ done.last ∷ []) r done.accepted;
      };
      few = rw (← turns) done.few;
      does = first_does (done.earlier ++ done.last ∷ []) (hears_all s secret (asked c) (done.earlier ++ done.last ∷ [])) done.does;
    }

    pub op_spent : WaitsOn s secret sent.turns (request_bytes secret (c.asker.number + 1) op) (asked c) sent after middle new → IsSpent s secret op c before after old new
    op_spent w = record {
      got = w.got;
      does = first_does w.got (hears_all s secret (asked c) w.got) w.does;
      spent = w.made ∙ turns;
      waits = w.waits;
    }

    -- what comes of the receives
    pub op_awaited : (r : Result (Option Reply) Failed) → Awaits s secret (request_bytes secret (c.asker.number + 1) op) r (asked c) sent after middle new → Exchanges s secret op r c before after old new
    op_awaited (Ok (Some r)) a = op_answered r a
    op_awaited (Ok None) a = op_spent a
    op_awaited (Err cause) a =
        let request = request_bytes secret (c.asker.number + 1) op in
        fails_behind before.turns request cause (asked c) before sent after old middle new hosts number received told (subst (λ (n : ℕ). Receives s secret n (repeats request) cause (asked c) sent after middle new) turns a)

  -- ---- one operation

  pub asks_one : (op : Bytes) (r : Reply) (c : Hearing) (before after : Program) (old new : Wire) (written written' : Option Bytes) → IsExchanged s secret op r c before after old new → Appends written written' (result_line r)
      → AsksThese s secret (op ∷ []) c before after old new written written'
  asks_one op r c before after old new written written' done line = record {
    exchanges = done.x ∷ [];
    answered = (done.answered, (done.few, tt));
    all = refl;
    does = rw (append-nil done.x.receives, append-nil (request_each (request_bytes secret (c.asker.number + 1) op) done.x.receives)) done.does;
    lines = rw (append-nil (result_line done.x.reply), done.reply) line;
  }

  pub spends_one : (op : Bytes) (seq matching : ℕ) (c : Hearing) (before after : Program) (old new : Wire) (written : Option Bytes) → IsSpent s secret op c before after old new → c.asker.number + 1 ≡ seq → matching ≡ after.listener.most
      → SpendsOn s secret (op ∷ []) seq matching c before after old new written written
  spends_one op seq matching c before after old new written done seq_is most_is = record {
    exchanges = [];
    got = done.got;
    answered = tt;
    next = seq_is;
    within = omega arith;
    does = rw (append-nil (request_each (request_bytes secret (c.asker.number + 1) op) done.got)) done.does;
    spent = done.spent;
    waits = done.waits;
    most = most_is ∙ done.does.listens.most;
    lines = appends_none written;
  }

  -- the line was not written whole
  pub cuts_line : (op : Bytes) (r : Reply) (c : Hearing) (before after : Program) (old new : Wire) (written written' : Option Bytes) → IsExchanged s secret op r c before after old new → AppendsFront (result_line r) written written'
      → CutsOff s secret (op ∷ []) c before after old new written written'
  cuts_line op r c before after old new written written' done line = record {
    exchanges = done.x ∷ [];
    got = [];
    answered = (done.answered, (done.few, tt));
    few = omega arith;
    received = rw (append-nil (done.x.receives ++ []), append-nil done.x.receives) done.does.received;
    sends =
        let each = request_each (request_bytes secret (c.asker.number + 1) op) done.x.receives in
        rw (append-nil each) (turns_all each before.post.hosts before.post.number after.post.number old.sent new.sent done.does.sent done.does.number);
    lines = rw (append-nil (result_line done.x.reply), done.reply) line;
  }

  -- what was sent for an operation of which the receives were broken off
  sends_broken : (op : Bytes) (got : List Receive) (c : Hearing) (before after : Program) (old new : Wire) → SendsInTurn (request_each (request_bytes secret (c.asker.number + 1) op) got) before.post.hosts before.post.number after.post.number old.sent new.sent
      → SendsInTurn (messages_for s secret (op ∷ []) c [] got) before.post.hosts before.post.number after.post.number old.sent new.sent
  sends_broken op got c before after old new sends = rw (append-nil (request_each (request_bytes secret (c.asker.number + 1) op) got)) sends

  -- a call of the link failed
  pub link_stops : (op : Bytes) (cause : Failed) (c : Hearing) (before after : Program) (old new : Wire) (written : Option Bytes) → Receives s secret before.turns (request_each (request_bytes secret (c.asker.number + 1) op)) cause (asked c) before after old new
      → AsksOps s secret (op ∷ []) (Err (link_stop cause)) c before after old new written written
  link_stops op failed.Device c before after old new written got = record {
    exchanges = [];
    got = got.got;
    answered = tt;
    few = got.few;
    waits = got.waits refl;
    received = got.received;
    sends = sends_broken op got.got c before after old new got.sends;
    lines = appends_none written;
  }
  link_stops op failed.NoMemory c before after old new written got = record {
    exchanges = [];
    got = got.got;
    answered = tt;
    few = got.few;
    received = got.received;
    sends = sends_broken op got.got c before after old new got.sends;
    lines = front_none [] written;
  }

  -- what comes of writing the line
  pub line_written : (op : Bytes) (q : Result (Unit {0}) ClusterStop) (r : Reply) (c : Hearing) (before after : Program) (old new : Wire) (written written' : Option Bytes) → IsExchanged s secret op r c before after old new → WritesLine q (result_line r) written written'
      → AsksOps s secret (op ∷ []) q c before after old new written written'
  line_written op (Ok unit) r c before after old new written written' done line = asks_one op r c before after old new written written' done line
  line_written op (Err stop.SinkFault) r c before after old new written written' done line = cuts_line op r c before after old new written written' done line
  line_written op (Err stop.NoMemory) r c before after old new written written' done line = cuts_line op r c before after old new written written' done line
  line_written op (Err stop.LinkFault) r c before after old new written written' done line = absurd line
  line_written op (Err stop.SpawnFault) r c before after old new written written' done line = absurd line
  line_written op (Err (stop.ChildEnded h st)) r c before after old new written written' done line = absurd line
  line_written op (Err (stop.Budget seq matching)) r c before after old new written written' done line = absurd line

  -- ---- several operations

  pub asks_none : (c : Hearing) (p : Program) (w : Wire) (written : Option Bytes) → Listens s secret p.listener c → AsksThese s secret [] c p p w w written written
  asks_none c p w written listens = record {
    exchanges = [];
    answered = tt;
    all = refl;
    does = does_nothing c p w listens;
    lines = appends_none written;
  }

  module _ (ops : List Bytes) (c : Hearing) (before mid after : Program) (old middle new : Wire) (w0 w1 w2 : Option Bytes) (first : AsksThese s secret ops c before mid old middle w0 w1)
      (turns : mid.turns ≡ before.turns) (hosts : mid.post.hosts ≡ before.post.hosts) where
    -- the number behind the first ones
    number_is : (hearing_after s secret c first.exchanges).asker.number ≡ c.asker.number + length first.exchanges
    number_is = after_number s secret c first.exchanges

    len_is : length (map (λ (x : Exchange). x.receives) first.exchanges) ≡ length ops
    len_is = length-map first.exchanges (λ (x : Exchange). x.receives) ∙ first.all

    -- what stands behind their requests
    behind : (more : List Bytes) (later : List (List Receive)) → requests secret (c.asker.number + 1) (ops ++ more) (map (λ (x : Exchange). x.receives) first.exchanges ++ later)
        ≡ requests secret (c.asker.number + 1) ops (map (λ (x : Exchange). x.receives) first.exchanges) ++ requests secret ((hearing_after s secret c first.exchanges).asker.number + 1) more later
    behind more later =
        let n : c.asker.number + 1 + length (map (λ (x : Exchange). x.receives) first.exchanges) ≡ (hearing_after s secret c first.exchanges).asker.number + 1 = omega (arith, number_is, len_is, first.all) in
        requests-append secret (c.asker.number + 1) ops more (map (λ (x : Exchange). x.receives) first.exchanges) later len_is
        ∙ ap (λ k. requests secret (c.asker.number + 1) ops (map (λ (x : Exchange). x.receives) first.exchanges) ++ requests secret k more later) n

    pub asks_both : (more : List Bytes) → AsksThese s secret more (hearing_after s secret c first.exchanges) mid after middle new w1 w2 → AsksThese s secret (ops ++ more) c before after old new w0 w2
    asks_both more second =
        let xs = first.exchanges in
        let ys = second.exchanges in
        record {
          exchanges = xs ++ ys;
          answered = answered-append s secret before.turns c xs ys first.answered (subst (λ n. AreAnswered s secret n (hearing_after s secret c xs) ys) turns second.answered);
          all = omega (arith, length-append xs ys, length-append ops more, first.all, second.all);
          does = rw (flat_map-append (λ (x : Exchange). x.receives) xs ys, map-append (λ (x : Exchange). x.receives) xs ys, behind more (map (λ (x : Exchange). x.receives) ys), after-append s secret c xs ys)
              (does_both (all_receives xs) (all_receives ys) (requests secret (c.asker.number + 1) ops (map (λ (x : Exchange). x.receives) xs)) (requests secret ((hearing_after s secret c xs).asker.number + 1) more (map (λ (x : Exchange). x.receives) ys))
              (hearing_after s secret c xs) (hearing_after s secret (hearing_after s secret c xs) ys) before mid after old middle new first.does second.does hosts);
          lines = rw (flat_map-append (λ (x : Exchange). result_line x.reply) xs ys) (appended_both w0 w1 w2 (result_text xs) (result_text ys) first.lines second.lines);
        }

    -- and there may be operations behind the one whose budget was spent
    pub spends_behind : (more rest : List Bytes) (seq matching : ℕ) → SpendsOn s secret more seq matching (hearing_after s secret c first.exchanges) mid after middle new w1 w2 → SpendsOn s secret ((ops ++ more) ++ rest) seq matching c before after old new w0 w2
    spends_behind more rest seq matching second =
        let xs = first.exchanges in
        let ys = second.exchanges in
        let all : List (List Receive) = map (λ (x : Exchange). x.receives) ys ++ second.got ∷ [] in
        let len : length (map (λ (x : Exchange). x.receives) xs ++ all) ≤ length (ops ++ more) = omega (arith, length-append (map (λ (x : Exchange). x.receives) xs) all, length-append ops more, len_is, length-append (map (λ (x : Exchange). x.receives) ys) (second.got ∷ []), length-map ys (λ (x : Exchange). x.receives), second.within) in
        let parts : map (λ (x : Exchange). x.receives) (xs ++ ys) ++ second.got ∷ [] ≡ map (λ (x : Exchange). x.receives) xs ++ all =
        ap (λ l. l ++ second.got ∷ []) (map-append (λ (x : Exchange). x.receives) xs ys) ∙ append_assoc (map (λ (x : Exchange). x.receives) xs) (map (λ (x : Exchange). x.receives) ys) (second.got ∷ []) in
        let requests_are = requests_front secret (c.asker.number + 1) (ops ++ more) rest (map (λ (x : Exchange). x.receives) xs ++ all) len ∙ behind more all in
        let receives_are : all_receives (xs ++ ys) ++ second.got ≡ all_receives xs ++ (all_receives ys ++ second.got) =
        ap (λ l. l ++ second.got) (flat_map-append (λ (x : Exchange). x.receives) xs ys) ∙ append_assoc (all_receives xs) (all_receives ys) second.got in
        record {
          exchanges = xs ++ ys;
          got = second.got;
          answered = answered-append s secret before.turns c xs ys first.answered (subst (λ n. AreAnswered s secret n (hearing_after s secret c xs) ys) turns second.answered);
          next = omega (arith, length-append xs ys, number_is, second.next);
          within = omega (arith, length-append xs ys, length-append (ops ++ more) rest, length-append ops more, first.all, second.within);
          does = rw (receives_are, parts, requests_are, after-append s secret c xs ys)
              (does_both (all_receives xs) (all_receives ys ++ second.got) (requests secret (c.asker.number + 1) ops (map (λ (x : Exchange). x.receives) xs)) (requests secret ((hearing_after s secret c xs).asker.number + 1) more all)
              (hearing_after s secret c xs) (hears_all s secret (asked (hearing_after s secret (hearing_after s secret c xs) ys)) second.got) before mid after old middle new first.does second.does hosts);
          spent = second.spent ∙ turns;
          waits = rw (after-append s secret c xs ys) second.waits;
          most = rw (after-append s secret c xs ys) second.most;
          lines = rw (flat_map-append (λ (x : Exchange). result_line x.reply) xs ys) (appended_both w0 w1 w2 (result_text xs) (result_text ys) first.lines second.lines);
        }

    -- what was sent for these operations and the next ones, which were broken off
    sends_behind : (more rest : List Bytes) (ys : List Exchange) (got : List Receive)
        → SendsInTurn (messages_for s secret more (hearing_after s secret c first.exchanges) ys got) mid.post.hosts mid.post.number after.post.number middle.sent new.sent
        → SendsInTurn (messages_for s secret ((ops ++ more) ++ rest) c (first.exchanges ++ ys) got) before.post.hosts before.post.number after.post.number old.sent new.sent
    sends_behind more rest ys got second =
        let xs = first.exchanges in
        let lists = map (λ (x : Exchange). x.receives) xs in
        let later = map (λ (x : Exchange). x.receives) ys ++ got ∷ [] in
        let earlier = requests secret (c.asker.number + 1) ops lists in
        let next = messages_for s secret more (hearing_after s secret c xs) ys got in
        let parts : map (λ (x : Exchange). x.receives) (xs ++ ys) ++ got ∷ [] ≡ lists ++ later =
        ap (λ l. l ++ got ∷ []) (map-append (λ (x : Exchange). x.receives) xs ys) ∙ append_assoc lists (map (λ (x : Exchange). x.receives) ys) (got ∷ []) in
        let begun = turns_behind earlier next before.post.hosts before.post.number mid.post.number after.post.number old.sent middle.sent new.sent first.does.sent first.does.number
        (subst (λ (h : ℕ). SendsInTurn next h mid.post.number after.post.number middle.sent new.sent) hosts second) in
        let all = requests_more secret (c.asker.number + 1) (ops ++ more) rest (lists ++ later) in
        rw parts
        (turns_before (earlier ++ next) all.0 (requests secret (c.asker.number + 1) ((ops ++ more) ++ rest) (lists ++ later)) before.post.hosts before.post.number after.post.number old.sent new.sent
        (ap (λ ms. ms ++ all.0) (sym (behind more later)) ∙ all.1) begun)

    cuts_behind : (more rest : List Bytes) → CutsOff s secret more (hearing_after s secret c first.exchanges) mid after middle new w1 w2 → CutsOff s secret ((ops ++ more) ++ rest) c before after old new w0 w2
    cuts_behind more rest second =
        let xs = first.exchanges in
        let ys = second.exchanges in
        record {
          exchanges = xs ++ ys;
          got = second.got;
          answered = answered-append s secret before.turns c xs ys first.answered (subst (λ n. AreAnswered s secret n (hearing_after s secret c xs) ys) turns second.answered);
          few = rw turns at second.few;
          received = rw (flat_map-append (λ (x : Exchange). x.receives) xs ys, append_assoc (all_receives xs) (all_receives ys) second.got)
              (more_both old.received middle.received new.received (all_receives xs) (all_receives ys ++ second.got) first.does.received second.received);
          sends = sends_behind more rest ys second.got second.sends;
          lines = rw (flat_map-append (λ (x : Exchange). result_line x.reply) xs ys) (front_more (result_text xs) (result_text ys) w0 w1 w2 first.lines second.lines);
        }

    breaks_behind : (more rest : List Bytes) → Breaks s secret more (hearing_after s secret c first.exchanges) mid after middle new w1 w2 → Breaks s secret ((ops ++ more) ++ rest) c before after old new w0 w2
    breaks_behind more rest second =
        let xs = first.exchanges in
        let ys = second.exchanges in
        record {
          exchanges = xs ++ ys;
          got = second.got;
          answered = answered-append s secret before.turns c xs ys first.answered (subst (λ n. AreAnswered s secret n (hearing_after s secret c xs) ys) turns second.answered);
          few = rw turns at second.few;
          waits = rw (after-append s secret c xs ys) second.waits;
          received = rw (flat_map-append (λ (x : Exchange). x.receives) xs ys, append_assoc (all_receives xs) (all_receives ys) second.got)
              (more_both old.received middle.received new.received (all_receives xs) (all_receives ys ++ second.got) first.does.received second.received);
          sends = sends_behind more rest ys second.got second.sends;
          lines = rw (flat_map-append (λ (x : Exchange). result_line x.reply) xs ys) (appended_both w0 w1 w2 (result_text xs) (result_text ys) first.lines second.lines);
        }

    -- one operation behind the first ones stopped
    pub stops_behind : (more rest : List Bytes) (e : ClusterStop) → AsksOps s secret more (Err e) (hearing_after s secret c first.exchanges) mid after middle new w1 w2 → AsksOps s secret ((ops ++ more) ++ rest) (Err e) c before after old new w0 w2
    stops_behind more rest stop.LinkFault second = breaks_behind more rest second
    stops_behind more rest stop.SinkFault second = cuts_behind more rest second
    stops_behind more rest stop.NoMemory second = cuts_behind more rest second
    stops_behind more rest stop.SpawnFault second = absurd second
    stops_behind more rest (stop.ChildEnded h st) second = absurd second
    stops_behind more rest (stop.Budget seq matching) second = spends_behind more rest seq matching second
