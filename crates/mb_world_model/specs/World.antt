-- All hosts, all clients, and all that was ever made and delivered, after the first events of a schedule.
use Rattle.std.specs.Prelude.{ℕ, zero, suc, ◌+◌, Bool, true, false, List, [], ◌∷◌, ◌++◌, length, map, fold, ◌==◌, Option, None, Result, Ok, Err, if◌then◌else◌, option_and_then, slice_get}
use Rattle.std.specs.List.{flat_map}
use Rattle.mb_base.specs.Shapes.{Bytes}
use Rattle.mb_usig.specs.Tags.{request_tag}
use Rattle.mb_parts.specs.declared.request.Request.{Request}
use Rattle.mb_parts.specs.Bares.{bare_bytes}
use Rattle.mb_msg.specs.declared.event.Slot.{Slot}
use Rattle.mb_msg.specs.declared.normal.Reply.{Reply}
use Rattle.mb_msg.specs.declared.message.Message.{Message}
use Rattle.mb_msg.specs.declared.message.Message.TheVariants as message
use Rattle.mb_msg.specs.Spelling.{spelling}
use Rattle.mb_msg.specs.Reading.{message_of}
use Rattle.mb_model.specs.Service.{Machine}
use Rattle.mb_model.specs.States.{Snapshots, digest_string}
use Rattle.mb_msg.specs.declared.event.Event.{Event}
use Rattle.mb_msg.specs.declared.event.Outcome.{Outcome}
use Rattle.mb_msg.specs.declared.event.Event.TheVariants as event
use Rattle.mb_msg.specs.declared.event.Outcome.TheVariants as outcome
use Rattle.mb_model.specs.Histories.{History, Identity, said}
use Rattle.mb_model.specs.Sending.{Letter, Progress}
use Rattle.mb_model.specs.Given.{Answer}
use Rattle.mb_model.specs.HostStep.{transition}
use Rattle.mb_model.specs.Clients.{Asker, Taken, no_asker, asks, taken, takes}
use Rattle.mb_model.specs.Inside.{if_read, strings_in}
use Rattle.mb_model.specs.Compared.{inside_some}
use Rattle.mb_schedule.specs.declared.schedule.Schedule.{Schedule}
use Rattle.mb_schedule.specs.Limits.{is_faulty, is_faulty_client}

-- what an event answers
pub data Seen : Type 0 where
  OfHost : Outcome → Seen
  OfClient : Taken → Seen
  Unread : Outcome → Seen  -- a client was given what is no REPLY
  Made : ℕ → ℕ → Seen  -- messages were made: the number of the first, and how many
  Lost : Seen  -- it came to someone faulty

-- what a faulty host stamped: the bytes that its USIG covered, and the message with the identifier
pub record FaultyStamp : Type 0 where
  pub bare : Bytes
  pub message : Bytes

-- what is there after some events
pub record World : Type 0 where
  pub pool : List Bytes  -- all messages that were made, oldest first: message 1 is the first
  pub asked : List Request  -- by clients, newest first
  pub tagged : List Message  -- the replies and wishes that correct hosts made, newest first
  pub histories : ℕ → History  -- of each correct host
  pub faulty_stamps : ℕ → List FaultyStamp  -- of each faulty host, newest first
  pub askers : ℕ → Asker  -- of each client
  pub line : List Slot  -- the one list of executed batches, oldest first
  pub given : ℕ → List Bytes  -- what was delivered to each correct host, newest first
  pub hashed : List Bytes  -- the strings whose digests were made or compared, oldest first
  pub seen : List Seen  -- of each event, newest first

-- what all hosts are made with, and what happens to them
pub record System (S : Type 0) : Type 0 where
  pub machine : Machine S
  pub snapshots : Snapshots S
  pub initial : S
  pub schedule : Schedule

-- before the first event
abbrev pub nothing_happened : World
nothing_happened = record {
  pool = [];
  asked = [];
  tagged = [];
  histories = λ h. [];
  faulty_stamps = λ h. [];
  askers = λ c. no_asker;
  line = [];
  given = λ h. [];
  hashed = [];
  seen = [];
}

-- One of all is this from now on.
abbrev pub update : {A : Type 0} → (ℕ → A) → ℕ → A → ℕ → A
update f h x g = if g == h then x else f g

-- the message of a number, from 1; 0 is none
abbrev pub numbered : List Bytes → ℕ → Option Bytes
numbered pool zero = None
numbered pool (suc n) = slice_get pool n

-- The line grows where a host is the first to execute the position behind it.
abbrev pub extended : List Slot → Slot → List Slot
extended line slot = if slot.pos == length line + 1 then line ++ slot ∷ [] else line

-- This is what the event answered.
abbrev pub answered : Seen → World → World
answered x w = record w { seen = x ∷ w.seen }

-- What comes to someone faulty does nothing.
abbrev pub lost_or : Bool → (World → World) → World → World
lost_or faulty f w = if faulty then answered Lost w else f w

-- ---- messages

-- A reply or a wish is tagged by a host.
abbrev pub is_tagged_message : Message → Bool
is_tagged_message (message.Reply m) = true
is_tagged_message (message.ReqViewChange m) = true
is_tagged_message m = false

-- with one more that is sent, where it is one of these
abbrev pub with_tagged : List Message → Letter → List Message
with_tagged tagged letter = if is_tagged_message letter.says then letter.says ∷ tagged else tagged

-- what is hashed of a delivered STATE: its parts, and its list of digests with its position
abbrev pub state_strings_in : Message → List Bytes
state_strings_in (message.State m) = m.parts ++ digest_string m.digests m.pos ∷ []
state_strings_in m = []

module _ (s : Schedule) where
  -- the message of these bytes, where they are one of the grammar
  abbrev pub read : Bytes → Option Message
  read bytes = if_read (message_of s.shape bytes)

  -- the message of a number
  abbrev pub message_at : World → ℕ → Option Message
  message_at w n = option_and_then read (numbered w.pool n)

  -- what is hashed of a message that is made
  abbrev pub made_strings : Bytes → List Bytes
  made_strings bytes = inside_some (strings_in s.shape) (read bytes)

  -- what is hashed of a message that is delivered
  abbrev pub given_strings : Bytes → List Bytes
  given_strings bytes = inside_some (λ m. strings_in s.shape m ++ state_strings_in m) (read bytes)

  -- what a host's USIG stamped, as bytes, newest first: a correct host's stamps stand in its history
  abbrev pub stamps : World → ℕ → List Bytes
  stamps w h = if is_faulty s h then map (λ x. x.bare) (w.faulty_stamps h) else map bare_bytes (said (w.histories h))

  -- ---- one more message is made, by a client or a faulty host

  -- It goes to the end of the pool, and the event answers its number.
  abbrev pub made : Bytes → World → World
  made bytes w = record w { pool = w.pool ++ bytes ∷ []; hashed = w.hashed ++ made_strings bytes; seen = Made (length w.pool + 1) 1 ∷ w.seen }

  -- ---- a client asks

  -- its request of a number, with its tag
  abbrev pub request_of : ℕ → ℕ → Bytes → Request
  request_of c seq op = record { client = c; seq = seq; op = op; tag = request_tag s.secret c seq op }

  -- It asks for this: a new message, and the client waits for the result.
  abbrev pub asks_for : Request → World → World
  asks_for r w = made (spelling (message.Request r)) (record w { asked = r ∷ w.asked; askers = update w.askers r.client (asks (w.askers r.client)) })

  -- The next request has the next number.
  abbrev pub client_asks : ℕ → Bytes → World → World
  client_asks c op w = asks_for (request_of c ((w.askers c).number + 1) op) w

  -- ---- a client is given bytes

  -- a reply, counted or not as the client's side says
  abbrev pub takes_reply : ℕ → Reply → World → World
  takes_reply c r w = answered (OfClient (taken s.shape s.secret c (w.askers c) r)) (record w { askers = update w.askers c (takes s.shape s.secret c (w.askers c) r) })

  -- A client reads REPLYs alone.
  abbrev pub client_reads : ℕ → Result Message ℕ → World → World
  client_reads c (Err at) w = answered (Unread (outcome.Malformed at)) w
  client_reads c (Ok (message.Reply r)) w = takes_reply c r w
  client_reads c (Ok m) w = answered (Unread outcome.Idle) w

  -- What is in them counts as hashed.
  abbrev pub heard : Bytes → World → World
  heard bytes w = record w { hashed = w.hashed ++ given_strings bytes }

  -- To a faulty client nothing comes of it.
  unfoldable pub give_client : ℕ → Bytes → World → World
  give_client c bytes w = lost_or (is_faulty_client s c) (λ x. client_reads c (message_of s.shape bytes) (heard bytes x)) w

  -- ---- a correct host makes a step

  -- These bytes were delivered to it, and what is in them counts as hashed.
  abbrev pub arrives : ℕ → Bytes → World → World
  arrives h bytes w = record w { given = update w.given h (bytes ∷ w.given h); hashed = w.hashed ++ given_strings bytes }

  -- the world where a host has got so far in its step
  abbrev pub partway : ℕ → Progress → World → World
  partway h x w = record w {
    pool = w.pool ++ map (λ letter. spelling letter.says) x.sent;
    tagged = fold with_tagged w.tagged x.sent;
    histories = update w.histories h x.history;
    line = fold extended w.line x.executed;
    hashed = w.hashed ++ x.hashed ++ flat_map (λ letter. strings_in s.shape letter.says) x.sent;
  }

  -- where the step has ended
  abbrev pub stepped : ℕ → Answer → World → World
  stepped h a w = answered (OfHost a.outcome) (partway h a.left w)

-- ---- hosts with a service

module _ {S : Type 0} (system : System S) where
  -- the host of this number
  abbrev pub self_of : ℕ → Identity S
  self_of h = record {
    shape = system.schedule.shape;
    host = h;
    secret = system.schedule.secret;
    machine = system.machine;
    snapshots = system.snapshots;
    initial = system.initial;
  }

  -- It makes the step of this event.
  abbrev pub steps : ℕ → Event → World → World
  steps h e w = stepped system.schedule h (transition (self_of h) (w.histories h) e) w

  -- Bytes come to it. To a faulty host nothing comes of them.
  unfoldable pub give_host : ℕ → Bytes → World → World
  give_host h bytes w = lost_or (is_faulty system.schedule h) (λ x. steps h (event.Given bytes) (arrives system.schedule h bytes x)) w

  -- lost patience or a Nudge
  unfoldable pub signal : ℕ → Event → World → World
  signal h e w = lost_or (is_faulty system.schedule h) (steps h e) w
