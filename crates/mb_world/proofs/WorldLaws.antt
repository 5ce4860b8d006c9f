-- What each event does to the tables of a world.
use Rattle.std.proofs.Common.{◌≡◌, ℕ, suc, ◌+◌, Bool, true, false, List, [], ◌∷◌, ◌++◌, length, map, Option, Some, None, Result, Ok, Err, IfOk, OnOk, IfSome, take, refl, sym, ap, subst, inl, inr, ◌∙◌, arith}
use Rattle.std.specs.Prelude.{reverse, filter_map, fold, slice_get}
use Rattle.std.specs.Option.{option_to_list}
use Rattle.std.proofs.lemmas.List.{append-nil}
use Rattle.std.proofs.lemmas.Bool.{cases_Bool}
use Rattle.std.proofs.lemmas.Option.{same_Some}
use Rattle.mb_base.specs.Shapes.{Bytes}
use Rattle.mb_base.specs.declared.shape.Shape.{Shape}
use Rattle.mb_service.specs.Machine.{ServiceMachine}
use Rattle.mb_msg.specs.declared.event.Event.TheVariants as event
use Rattle.mb_model.specs.Clients.{Asker}
use Rattle.mb_model.specs.Given.{Answer}
use Rattle.mb_schedule.specs.declared.schedule.Schedule.{Schedule}
use Rattle.mb_schedule.specs.Limits.{is_faulty, is_faulty_client}
use Rattle.mb_core.specs.declared.replica.Replica.{Replica}
use Rattle.mb_replica.specs.declared.told.Outgoing.{Outgoing}
use Rattle.mb_replica.specs.declared.told.StepRecord.{StepRecord}
use Rattle.mb_replica.specs.Told.{KnowsBytes}
use Rattle.mb_replica.specs.Represents.{IsTold}
use Rattle.mb_world_model.specs.Refusals.{refusals, refusal_in}
use Rattle.mb_world_model.specs.World.{World as WorldState, System, self_of, Made, Lost, FaultyStamp, update, extended, with_tagged, answered, lost_or, heard, numbered, arrives, made, stamps, steps, partway, client_reads, give_host, give_client, Seen as AnswerState}
use Rattle.mb_world_model.specs.WorldSteps.{with_message}
use Rattle.mb_world_model.specs.FaultyHosts.{stamp_as}
use Rattle.mb_msg.specs.Reading.{message_of}
use Rattle.mb_forgery.specs.Ledgers.{Keeps, KeepsWorld}
use Rattle.mb_forgery.specs.Checks.{MadeMore}
use Rattle.mb_world.specs.declared.seen.Seen.{Seen}
use Rattle.mb_service.specs.declared.service.Service.{Ghosts}
use Rattle.mb_world.specs.declared.world.World.{World}
use Rattle.mb_members.specs.Hosts.{IsSystem}
use Rattle.mb_members.specs.declared.members.Member.TheVariants as member
use Rattle.mb_members.specs.Members.{AllRest, IsCorrectHost, RepresentsMembers}
use Rattle.mb_members.specs.Askers.{RepresentsAskers}
use Rattle.mb_world.specs.Answers.{as_answer}
use Rattle.mb_members.specs.Marks.{IsBodyAt, lengthened, sent_mark, mark_at}
use Rattle.mb_members.specs.Stamps.{FitsWhereStamped, bare_in, bares_of}
use Rattle.mb_world.specs.Sent.{SendsClean, SentIsClean}
use Rattle.mb_world.specs.Tables.{RepresentsRest, RepresentsWorld, Leaves}
use Rattle.mb_members.proofs.MarkLaws.{GoesOn, goes_same, goes_still, longer_stamps, still_marked, marks_sent}
use Rattle.mb_members.proofs.KeepLaws.{keeps_same, correct_stamps, faulty_stamps_more, sent_bytes, went_partway}

-- ---- what stays

-- What never changes is as it was, and the marks are.
pub record IsFixed {V : Type 0} {g : Ghosts V} (v w : World V g) : Type 0 where
  pub shape : w.shape ≡ v.shape
  pub usig : w.usig ≡ v.usig
  pub pens : w.pens ≡ v.pens
  pub hosts : w.faulty_hosts ≡ v.faulty_hosts
  pub clients : w.faulty_clients ≡ v.faulty_clients
  pub marks : w.marks ≡ v.marks

-- the same without the marks
pub record IsHeld {V : Type 0} {g : Ghosts V} (v w : World V g) : Type 0 where
  pub shape : w.shape ≡ v.shape
  pub usig : w.usig ≡ v.usig
  pub pens : w.pens ≡ v.pens
  pub hosts : w.faulty_hosts ≡ v.faulty_hosts
  pub clients : w.faulty_clients ≡ v.faulty_clients

-- the tables of another world that goes on from the first, for which what never changes is as it was
pub rest_of : {V : Type 0} {g : Ghosts V} (s : Schedule) (v w : World V g) (x z : WorldState) → RepresentsRest s v x → IsFixed v w → GoesOn s x z → RepresentsAskers s w.askers.items z.askers → KeepsWorld s w.ledger z
    → w.pool.items ≡ z.pool → w.line.items ≡ z.line → w.refused.items ≡ refusals z.seen → w.events ≡ length z.seen → RepresentsRest s w z
rest_of s v w x z old fixed on askers ledger pool line refused events = record {
  shape = fixed.shape ∙ old.shape;
  verifier = fixed.usig ∙ old.verifier;
  pens = rw fixed.pens old.pens;
  hosts = rw fixed.hosts old.hosts;
  clients = rw fixed.clients old.clients;
  askers = askers;
  ledger = ledger;
  pool = pool;
  marks = rw fixed.marks (still_marked s x z v.marks.items on old.marks);
  line = line;
  refused = refused;
  events = events;
}

same_fixed : {V : Type 0} {g : Ghosts V} (v : World V g) → IsFixed v v
same_fixed v = record { shape = refl; usig = refl; pens = refl; hosts = refl; clients = refl; marks = refl }

-- The same tables stand for another world that has the same parts.
pub rest_same : {V : Type 0} {g : Ghosts V} (s : Schedule) (v : World V g) (x z : WorldState) → RepresentsRest s v x → GoesOn s x z → x.askers ≡ z.askers → KeepsWorld s v.ledger z → x.pool ≡ z.pool → x.line ≡ z.line → x.seen ≡ z.seen → RepresentsRest s v z
rest_same s v x z old on askers ledger pool line seen =
    rest_of s v v x z old (same_fixed v) on (subst (λ (a : ℕ → Asker). RepresentsAskers s v.askers.items a) askers old.askers) ledger (old.pool ∙ pool) (old.line ∙ line)
    (old.refused ∙ ap refusals seen) (old.events ∙ ap length seen)

module _ {V : Type 0} {g : Ghosts V} (y : System V) where
  -- What the host of these bytes is told of hashed strings and of what it was given is no table.
  pub also_heard : (v : World V g) (x : WorldState) (bytes : Bytes) → RepresentsWorld y v x → RepresentsWorld y v (heard y.schedule bytes x)
  also_heard v x bytes old = record { members = old.members; rest = rest_same y.schedule v x (heard y.schedule bytes x) old.rest (goes_same y.schedule x (heard y.schedule bytes x) (λ h. refl) refl refl refl) refl old.rest.ledger refl refl refl }

  pub also_arrived : (v : World V g) (x : WorldState) (h : ℕ) (bytes : Bytes) → RepresentsWorld y v x → RepresentsWorld y v (arrives y.schedule h bytes x)
  also_arrived v x h bytes old = record { members = old.members; rest = rest_same y.schedule v x (arrives y.schedule h bytes x) old.rest (goes_same y.schedule x (arrives y.schedule h bytes x) (λ g. refl) refl refl refl) refl old.rest.ledger refl refl refl }

  -- Whether an event runs is no table.
  pub unchanged : (v w : World V g) (x : WorldState) → RepresentsWorld y v x → IsFixed v w → w.members ≡ v.members → w.askers ≡ v.askers → w.ledger ≡ v.ledger → w.pool ≡ v.pool → w.line ≡ v.line → w.refused ≡ v.refused
      → w.events ≡ v.events → RepresentsWorld y w x
  unchanged v w x old fixed members askers ledger pool line refused events = record {
    members = rw members old.members;
    rest = rest_of y.schedule v w x x old.rest fixed (goes_still y.schedule x) (rw askers old.rest.askers) (rw ledger old.rest.ledger) (rw pool old.rest.pool) (rw line old.rest.line) (rw refused old.rest.refused) (events ∙ old.rest.events);
  }

  -- the same from an earlier world with the same answers
  pub leaves_from : (w : World V g) (a : AnswerState) (x z t : WorldState) → z.seen ≡ x.seen → Leaves y w a z t → Leaves y w a x t
  leaves_from w a x z t same left = record { stands = left.stands; answered = left.answered ∙ ap (λ (l : List AnswerState). a ∷ l) same }

  pub leaves_at : (w : World V g) (a : AnswerState) (x z t : WorldState) → z ≡ t → Leaves y w a x z → Leaves y w a x t
  leaves_at w a x z t same left = subst (λ (u : WorldState). Leaves y w a x u) same left

pub if_ok_more : {T E : Type 0} (r : Result T E) (P Q : T → Type 0) → IfOk r P → ((a : T) → P a → Q a) → IfOk r Q
if_ok_more (Ok x) P Q h f = f x h
if_ok_more (Err e) P Q h f = tt

pub on_ok_more : {T E : Type 0} (r : Result T E) (P Q : Type 0) → OnOk r P → (P → Q) → OnOk r Q
on_ok_more (Ok x) P Q h f = f h
on_ok_more (Err e) P Q h f = tt

-- both, where a call made it so
pub if_both : {T E : Type 0} (r : Result T E) (P : Type 0) (Q R : T → Type 0) → OnOk r P → IfOk r Q → ((a : T) → P → Q a → R a) → IfOk r R
if_both (Ok x) P Q R p q f = f x p q
if_both (Err e) P Q R p q f = tt

module _ {V : Type 0} {g : Ghosts V} (y : System V) where
  -- ---- an answer

  pub noted : (v w : World V g) (x : WorldState) (a : Seen) → RepresentsWorld y v x → IsFixed v w → w.members ≡ v.members → w.askers ≡ v.askers → w.ledger ≡ v.ledger → w.pool ≡ v.pool → w.line ≡ v.line
      → w.events ≡ v.events + 1 → w.refused.items ≡ v.refused.items ++ option_to_list (refusal_in (v.events + 1) (as_answer a)) → Leaves y w (as_answer a) x (answered (as_answer a) x)
  unfolding refusals
  noted v w x a old fixed members askers ledger pool line events refused = record {
    stands = record {
      members = rw members old.members;
      rest = rest_of y.schedule v w x (answered (as_answer a) x) old.rest fixed (goes_same y.schedule x (answered (as_answer a) x) (λ h. refl) refl refl refl) (rw askers old.rest.askers) (rw ledger old.rest.ledger) (rw pool old.rest.pool) (rw line old.rest.line)
          (refused ∙ rw (old.rest.refused, old.rest.events) refl) (omega (arith, events, old.rest.events));
    };
    answered = refl;
  }

  -- ---- one more message

  pub made_one : (v w : World V g) (x z : WorldState) (bytes : Bytes) (a : Seen) → RepresentsRest y.schedule v x → IsFixed v w → MadeMore y.schedule x z
      → RepresentsMembers y w.members.items z.histories z.faulty_stamps → RepresentsAskers y.schedule w.askers.items z.askers → KeepsWorld y.schedule w.ledger z → z.pool ≡ x.pool → z.line ≡ x.line → z.seen ≡ x.seen
      → w.pool.items ≡ v.pool.items ++ bytes ∷ [] → w.line ≡ v.line → w.refused ≡ v.refused → w.events ≡ v.events + 1 → as_answer a ≡ Made (length v.pool.items + 1) 1
      → Leaves y w (as_answer a) x (made y.schedule bytes z)
  unfolding refusals
  made_one v w x z bytes a old fixed more members askers ledger same_pool same_line same_seen pool line refused events answer = record {
    stands = record {
      members = members;
      rest = rest_of y.schedule v w x (made y.schedule bytes z) old fixed
          (record { made = record { stamps = more.stamps; asked = more.asked; tagged = more.tagged }; pool = (bytes ∷ [], ap (λ (p : List Bytes). p ++ bytes ∷ []) same_pool) }) askers ledger
          (pool ∙ rw (old.pool, same_pool) refl) (rw line old.line ∙ sym same_line)
          (rw refused old.refused ∙ (ap refusals (sym same_seen) ∙ sym (append-nil (refusals z.seen)))) (events ∙ (ap (λ (n : ℕ). n + 1) (old.events ∙ ap length (sym same_seen)) ∙ plus_one (length z.seen)));
    };
    answered = rw (answer, old.pool, same_pool, same_seen) refl;
  } where
    plus_one : (n : ℕ) → n + 1 ≡ suc n
    plus_one n = omega arith

-- ---- one more stamp

module _ {V : Type 0} {g : Ghosts V} (y : System V) where
  pub stamped_one : (v w : World V g) (x : WorldState) (h : ℕ) (k : FaultyStamp) (a : Seen) → RepresentsWorld y v x → IsFixed v w → is_faulty y.schedule h ≡ true
      → RepresentsMembers y w.members.items x.histories (update x.faulty_stamps h (k ∷ x.faulty_stamps h)) → w.askers ≡ v.askers
      → Keeps y.schedule.shape w.ledger (update (stamps y.schedule x) h (k.bare ∷ stamps y.schedule x h)) x.asked x.tagged
      → w.pool.items ≡ v.pool.items ++ k.message ∷ [] → w.line ≡ v.line → w.refused ≡ v.refused → w.events ≡ v.events + 1 → as_answer a ≡ Made (length v.pool.items + 1) 1
      → Leaves y w (as_answer a) x (stamp_as y.schedule h k.bare k.message x)
  stamped_one v w x h k a old fixed faulty members askers ledger pool line refused events answer =
      let s : Schedule = y.schedule in
      let z : WorldState = record x { faulty_stamps = update x.faulty_stamps h (k ∷ x.faulty_stamps h) } in
      made_one y v w x z k.message a old.rest fixed
      (record { stamps = longer_stamps (stamps s x) (stamps s z) h (k.bare ∷ []) (faulty_stamps_more s x h k faulty); asked = ([], refl); tagged = ([], refl) }) members (rw askers old.rest.askers)
      (keeps_same s.shape w.ledger (update (stamps s x) h (k.bare ∷ stamps s x h)) (stamps s z) x.asked x.tagged (faulty_stamps_more s x h k faulty) ledger)
      refl refl refl pool line refused events answer

-- ---- a host's step

-- the tables once a step's messages and batches are kept
pub partway_stands : {V : Type 0} {g : Ghosts V} (y : System V) (v w : World V g) (x : WorldState) (h : ℕ) (told : StepRecord) (a : Answer) → RepresentsMembers y v.members.items (update x.histories h a.left.history) x.faulty_stamps → RepresentsRest y.schedule v x
    → IsTold told a → IsHeld v w → FitsWhereStamped y.schedule.shape a.left.sent → w.marks.items ≡ take (length v.pool.items + 1) (lengthened v.marks.items (length v.pool.items + 1)) ++ map sent_mark told.sent → w.members ≡ v.members → w.askers ≡ v.askers
    → Keeps y.schedule.shape w.ledger (update (stamps y.schedule x) h (reverse (filter_map bare_in a.left.sent) ++ stamps y.schedule x h)) x.asked (fold with_tagged x.tagged a.left.sent)
    → w.pool.items ≡ v.pool.items ++ map (λ (m : Outgoing). m.bytes) told.sent → w.line.items ≡ fold extended v.line.items told.executed → w.refused ≡ v.refused → w.events ≡ v.events
    → is_faulty y.schedule h ≡ false → bares_of a.left.history ≡ reverse (filter_map bare_in a.left.sent) ++ bares_of (x.histories h) → SentIsClean y x h a
    → RepresentsWorld y w (partway y.schedule h a.left x)
partway_stands y v w x h told a members old is fixed fit marks same_members same_askers ledger pool line refused events correct longer clean =
    let s : Schedule = y.schedule in
    record {
      members = rw same_members members;
      rest = record {
        shape = fixed.shape ∙ old.shape;
        verifier = fixed.usig ∙ old.verifier;
        pens = rw fixed.pens old.pens;
        hosts = rw fixed.hosts old.hosts;
        clients = rw fixed.clients old.clients;
        askers = rw same_askers old.askers;
        ledger = keeps_same s.shape w.ledger (update (stamps s x) h (reverse (filter_map bare_in a.left.sent) ++ stamps s x h)) (stamps s (record x { histories = update x.histories h a.left.history })) x.asked (fold with_tagged x.tagged a.left.sent)
            (correct_stamps s x h a.left.history (reverse (filter_map bare_in a.left.sent)) correct longer) ledger;
        pool = pool ∙ rw (old.pool, is.sent) (ap (λ (l : List Bytes). x.pool ++ l) (sent_bytes a.left.sent));
        marks = marks_sent s x (partway s h a.left x) v.marks.items w.marks.items a.left.sent (length v.pool.items + 1) old.marks (went_partway s x h a.left correct longer) fit clean refl
            (ap (λ (p : List Bytes). length p + 1) old.pool) (marks ∙ ap (λ (l : List Outgoing). take (length v.pool.items + 1) (lengthened v.marks.items (length v.pool.items + 1)) ++ map sent_mark l) is.sent);
        line = line ∙ rw (old.line, is.executed) refl;
        refused = rw refused old.refused;
        events = events ∙ old.events;
      };
    }

not_both : (b : Bool) → b ≡ true → b ≡ false → ⊥
not_both true e f = absurd cc
not_both false e f = absurd cc

-- ---- a client reads

module _ {V : Type 0} {g : Ghosts V} (y : System V) where
  -- the tables where a client has another side
  pub side_stands : (v w : World V g) (x : WorldState) (bytes : Bytes) (sides : ℕ → Asker) → RepresentsWorld y v x → IsFixed v w → w.members ≡ v.members → RepresentsAskers y.schedule w.askers.items sides → w.ledger ≡ v.ledger
      → w.pool ≡ v.pool → w.line ≡ v.line → w.refused ≡ v.refused → w.events ≡ v.events → RepresentsWorld y w (record (heard y.schedule bytes x) { askers = sides })
  side_stands v w x bytes sides old fixed members askers ledger pool line refused events = record {
    members = rw members old.members;
    rest = rest_of y.schedule v w x (record (heard y.schedule bytes x) { askers = sides }) old.rest fixed (goes_same y.schedule x (record (heard y.schedule bytes x) { askers = sides }) (λ h. refl) refl refl refl) askers (rw ledger old.rest.ledger) (rw pool old.rest.pool) (rw line old.rest.line) (rw refused old.rest.refused) (events ∙ old.rest.events);
  }

  -- ---- what comes to a host or a client

  -- Bytes are given to a host, whose step is that of any world in which it was given them.
  pub host_given : {E : Type 0} (v w : World V g) (x : WorldState) (h : ℕ) (bytes : Bytes) (r : Result Seen E) → RepresentsWorld y v x
      → ((z : WorldState) → RepresentsWorld y v z → SendsClean y z h (event.Given bytes) → IfOk r (λ a. Leaves y w (as_answer a) z (lost_or (is_faulty y.schedule h) (steps y h (event.Given bytes)) z)))
      → SendsClean y (arrives y.schedule h bytes x) h (event.Given bytes)
      → IfOk r (λ a. Leaves y w (as_answer a) x (give_host y h bytes x))
  unfolding give_host
  host_given v w x h bytes r old all clean = elim (cases_Bool (is_faulty y.schedule h)) [
    | inl faulty ↦ let there = all x old (λ correct. absurd (not_both (is_faulty y.schedule h) faulty correct)) in rw faulty (rw faulty at there)
    | inr correct ↦
        let there = all (arrives y.schedule h bytes x) (also_arrived y v x h bytes old) clean in
        let here = rw correct at there in
        rw correct (if_ok_more r _ _ here (λ a left. leaves_from y w (as_answer a) x (arrives y.schedule h bytes x) _ refl left))
  ]

  -- Bytes are given to a faulty client.
  pub client_lost : {E : Type 0} (w : World V g) (x : WorldState) (c : ℕ) (bytes : Bytes) (r : Result Seen E) → is_faulty_client y.schedule c ≡ true
      → IfOk r (λ a. Leaves y w (as_answer a) x (answered Lost x)) → IfOk r (λ a. Leaves y w (as_answer a) x (give_client y.schedule c bytes x))
  unfolding give_client
  client_lost w x c bytes r faulty left = rw faulty left

  -- Bytes are given to a correct one.
  pub client_given : {E : Type 0} (w : World V g) (x : WorldState) (c : ℕ) (bytes : Bytes) (r : Result Seen E) → is_faulty_client y.schedule c ≡ false
      → IfOk r (λ a. Leaves y w (as_answer a) x (client_reads y.schedule c (message_of y.schedule.shape bytes) (heard y.schedule bytes x))) → IfOk r (λ a. Leaves y w (as_answer a) x (give_client y.schedule c bytes x))
  unfolding give_client
  client_given w x c bytes r correct left = rw correct left

  -- what is given, where it was made
  pub message_there : {E : Type 0} (w : World V g) (x : WorldState) (f : Bytes → WorldState → WorldState) (o : Option Bytes) (bytes : Bytes) (r : Result Seen E) → o ≡ Some bytes
      → IfOk r (λ a. Leaves y w (as_answer a) x (f bytes x)) → IfOk r (λ a. Leaves y w (as_answer a) x (with_message f o x))
  message_there w x f o bytes r there left = rw there left

  -- Each correct host is of this size.
  pub all_of : (w : World V g) (x : WorldState) → RepresentsWorld y w x → (h : ℕ) (r : Replica V) → slice_get w.members.items h ≡ Some (member.Correct r) → r.state.protocol.shape ≡ w.shape
  all_of w x rep h r at =
      let host : IsCorrectHost y h r (x.histories h) = rep.members h (member.Correct r) at in
      sym host.represents.who.shape ∙ sym rep.rest.shape

  -- What the mark of a message says of its body is known of its bytes.
  pub known_at : (w : World V g) (x : WorldState) → RepresentsWorld y w x → (n : ℕ) (bytes : Bytes) → numbered w.pool.items n ≡ Some bytes → KnowsBytes w.shape (mark_at w.marks.items n).body bytes
  known_at w x rep n bytes there = subst (λ (s : Shape). KnowsBytes s (mark_at w.marks.items n).body bytes) (sym rep.rest.shape) (of_body (mark_at w.marks.items n).body (rep.rest.marks n).body) where
    same : (o : Option Bytes) (a b : Bytes) → o ≡ Some a → o ≡ Some b → a ≡ b
    same o a b ea eb = same_Some a b (sym ea ∙ eb)

    of_body : (o : Option Bytes) → IfSome o (IsBodyAt y.schedule x n) → KnowsBytes y.schedule.shape o bytes
    of_body None is = λ m reads st stamped. tt
    of_body (Some k) is =
        subst (λ (b : Bytes). KnowsBytes y.schedule.shape (Some k) b) (same (numbered x.pool n) is.bytes bytes is.made (ap (λ (p : List Bytes). numbered p n) (sym rep.rest.pool) ∙ there)) is.knows

  -- Each correct host is between two events.
  pub all_rest : (machine : ServiceMachine V) (w : World V g) (x : WorldState)
      → IsSystem machine y → RepresentsWorld y w x → AllRest machine w.members.items
  all_rest machine w x is rep = λ h r at.
      let host : IsCorrectHost y h r (x.histories h) = rep.members h (member.Correct r) at in
      record {
        me = self_of y h;
        history = x.histories h;
        serves = record { machine = is.machine; snapshots = is.snapshots; first = is.first };
        represents = host.represents;
        whole = host.whole;
      }
