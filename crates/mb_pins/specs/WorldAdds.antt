-- What an event adds to the world, and nothing more: requests that were asked, bytes that were delivered, replies and wishes that were tagged, slots of the line,
-- stamps of faulty hosts, and strings whose digests were made or compared.
use Rattle.std.specs.Prelude.{◌≡◌, ℕ, ◌+◌, ◌⊎◌, true, false, List, [], ◌∷◌, ◌++◌, Some, Contains}
use Rattle.mb_base.specs.Shapes.{Bytes}
use Rattle.mb_usig.specs.Tags.{request_tag}
use Rattle.mb_parts.specs.declared.request.Request.{Request}
use Rattle.mb_parts.specs.Spelling.{request_bytes}
use Rattle.mb_parts.specs.Bares.{bare_bytes}
use Rattle.mb_parts.specs.Claims.{Claim}
use Rattle.mb_msg.specs.declared.message.Message.{Message}
use Rattle.mb_msg.specs.declared.message.Message.TheVariants as message
use Rattle.mb_msg.specs.declared.change.Plan.{Plan}
use Rattle.mb_msg.specs.declared.event.Event.{Event}
use Rattle.mb_msg.specs.declared.event.Event.TheVariants as host
use Rattle.mb_msg.specs.declared.event.Slot.{Slot}
use Rattle.mb_msg.specs.Plans.{plan_text}
use Rattle.mb_msg.specs.Spelling.{spelling}
use Rattle.mb_model.specs.States.{digest_string, part_digests}
use Rattle.mb_model.specs.Histories.{History, Identity}
use Rattle.mb_model.specs.Making.{present_parts}
use Rattle.mb_model.specs.Sending.{Letter}
use Rattle.mb_model.specs.HostStep.{transition}
use Rattle.mb_schedule.specs.declared.schedule.WorldEvent.{WorldEvent}
use Rattle.mb_schedule.specs.declared.schedule.WorldEvent.TheVariants.{Ask}
use Rattle.mb_schedule.specs.declared.schedule.Schedule.{Schedule}
use Rattle.mb_schedule.specs.Limits.{is_faulty}
use Rattle.mb_model.specs.Inside.{requests_in, bodies_in, claims_in}
use Rattle.mb_world_model.specs.World.{World, FaultyStamp, System, self_of, read}
use Rattle.mb_world_model.specs.WorldSteps.{happens}
use Rattle.mb_world_model.specs.EventsStep.{arrival}
use Rattle.mb_world_model.specs.Stops.{delivered}

-- ---- strings that are hashed

-- of a message: a request in it, a whole body, or the bare bytes of a claim
abbrev pub IsStringOf : Schedule → Message → Bytes → Type 0
IsStringOf s m x = ((r : Request) × Contains (requests_in m) r × (request_bytes r ≡ x)) ⊎ (Contains (bodies_in m) x ⊎ ((c : Claim) × Contains (claims_in s.shape m) c × (bare_bytes c.says ≡ x)))

-- of a delivered STATE: a part, or the list of the digests
abbrev pub IsStateString : Message → Bytes → Type 0
IsStateString (message.State m) x = Contains m.parts x ⊎ (digest_string m.digests m.pos ≡ x)
IsStateString m x = ⊥

-- the string of a plan
abbrev pub IsPlanString : Bytes → Type 0
IsPlanString x = (p : Plan) × (plan_text p ≡ x)

-- a part of a host's state at a moment, or the list of their digests
abbrev pub IsOwnString : {S : Type 0} → Identity S → Bytes → Type 0
IsOwnString self x = (d : History) × (Contains (present_parts self d) x ⊎ ((pos : ℕ) × (digest_string (part_digests (present_parts self d)) pos ≡ x)))

-- ---- what an event adds

-- It is a reply or a wish.
abbrev pub IsTagged : Message → Type 0
IsTagged (message.Reply m) = Unit {0}
IsTagged (message.ReqViewChange m) = Unit {0}
IsTagged m = ⊥

module _ {S : Type 0} (system : System S) (w : World) (e : WorldEvent) where
  abbrev pub next : World
  next = happens system w e

  -- A correct host makes a step with what the event brings.
  abbrev pub IsStepOf : ℕ → Event → Type 0
  IsStepOf h x = (arrival w e ≡ Some (h, x)) × (is_faulty system.schedule h ≡ false)

  abbrev pub IsNoStep : Type 0
  IsNoStep = (h : ℕ) (x : Event) → IsStepOf h x → ⊥

  -- the request that a client asks: numbered behind its last one, under its own tag
  abbrev pub request_for : ℕ → Bytes → Request
  request_for c op = record { client = c; seq = (w.askers c).number + 1; op = op; tag = request_tag system.schedule.secret c ((w.askers c).number + 1) op }

  -- The message is among those that the event made: it was spelled, or can be read.
  pub record IsMadeNow (m : Message) : Type 0 where
    pub bytes : Bytes
    pub more : List Bytes
    pub added : next.pool ≡ w.pool ++ more
    pub there : Contains more bytes
    pub is : (spelling m ≡ bytes) ⊎ (read system.schedule bytes ≡ Some m)

  -- The event brings it to someone correct.
  pub record IsDeliveredNow (m : Message) : Type 0 where
    pub bytes : Bytes
    pub comes : delivered system.schedule w e ≡ Some bytes
    pub reads : read system.schedule bytes ≡ Some m

  -- The string is of a message that was made or delivered, of a plan that was compared, or of a state that was reached.
  abbrev pub IsHashedNow : Bytes → Type 0
  IsHashedNow x = ((m : Message) × IsMadeNow m × IsStringOf system.schedule m x) ⊎ (((m : Message) × IsDeliveredNow m × (IsStringOf system.schedule m x ⊎ IsStateString m x))
      ⊎ (IsPlanString x ⊎ ((h : ℕ) × IsOwnString (self_of system h) x)))

  -- A faulty host stamped once more, and this made the message.
  pub record StampsNow (h : ℕ) : Type 0 where
    pub faulty : is_faulty system.schedule h ≡ true
    pub stamp : FaultyStamp
    pub is : next.faulty_stamps h ≡ stamp ∷ w.faulty_stamps h
    pub made : next.pool ≡ w.pool ++ stamp.message ∷ []

  -- The slots that a step of a host executed go on the line.
  pub record ExtendsLine (h : ℕ) (x : Event) : Type 0 where
    pub more : List Slot
    pub is : next.line ≡ w.line ++ more
    pub executed : (slot : Slot) → Contains more slot → Contains (transition (self_of system h) (w.histories h) x).left.executed slot

  -- the letters of the step
  abbrev pub sent_by : ℕ → Event → List Letter
  sent_by h x = (transition (self_of system h) (w.histories h) x).left.sent

  pub record AddsNoMore : Type 0 where
    pub asks : (c : ℕ) (op : Bytes) → e ≡ Ask c op → next.asked ≡ request_for c op ∷ w.asked
    pub asks_none : ((c : ℕ) (op : Bytes) → e ≡ Ask c op → ⊥) → next.asked ≡ w.asked
    pub gives : (h : ℕ) (bytes : Bytes) → IsStepOf h (host.Given bytes) → next.given h ≡ bytes ∷ w.given h
    pub gives_none : (h : ℕ) → ((bytes : Bytes) → IsStepOf h (host.Given bytes) → ⊥) → next.given h ≡ w.given h
    pub tags : (h : ℕ) (x : Event) (m : Message) → IsStepOf h x → Contains next.tagged m → Contains w.tagged m ⊎ (IsTagged m × (l : Letter) × Contains (sent_by h x) l × (l.says ≡ m))
    pub tags_all : (h : ℕ) (x : Event) (l : Letter) → IsStepOf h x → Contains (sent_by h x) l → IsTagged l.says → Contains next.tagged l.says
    pub tags_none : IsNoStep → next.tagged ≡ w.tagged
    pub extends : (h : ℕ) (x : Event) → IsStepOf h x → ExtendsLine h x
    pub extends_none : IsNoStep → next.line ≡ w.line
    pub stamps : (h : ℕ) → (next.faulty_stamps h ≡ w.faulty_stamps h) ⊎ StampsNow h
    pub hashes : (x : Bytes) → Contains next.hashed x → Contains w.hashed x ⊎ IsHashedNow x

-- So it is in each world and of each event, whoever is faulty and whatever is forged.
abbrev pub EventsAddNoMore : Type 0 → Type 0
EventsAddNoMore S = (system : System S) (w : World) (e : WorldEvent) → AddsNoMore system w e
