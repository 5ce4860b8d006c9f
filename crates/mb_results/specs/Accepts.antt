-- When a client accepts: as soon as the first replies of f+1 hosts to its last request agree, and not before. What it was asked and given is read off the events
-- of the schedule, and not off what it keeps.
use Rattle.std.specs.Prelude.{◌≡◌, ℕ, zero, suc, Bool, false, ◌&&◌, List, [], ◌∷◌, count_by, ◌==◌, if◌then◌else◌, Option, Some, None, option_and_then, slice_get, Contains}
use Rattle.std.specs.Option.{option_or}
use Rattle.mb_base.specs.Shapes.{Bytes, HasQuorum}
use Rattle.mb_usig.specs.Tags.{same_bytes, reply_tag}
use Rattle.mb_msg.specs.declared.normal.Reply.{Reply}
use Rattle.mb_msg.specs.declared.message.Message.{Message}
use Rattle.mb_msg.specs.declared.message.Message.TheVariants as message
use Rattle.mb_model.specs.Histories.{onto}
use Rattle.mb_schedule.specs.declared.schedule.Name.TheVariants as name
use Rattle.mb_schedule.specs.declared.schedule.WorldEvent.{WorldEvent}
use Rattle.mb_schedule.specs.declared.schedule.WorldEvent.TheVariants.{Ask, Take, Raw}
use Rattle.mb_schedule.specs.Limits.{is_faulty_client}
use Rattle.mb_world_model.specs.World.{World, System, numbered, read}
use Rattle.mb_world_model.specs.WorldSteps.{world}

-- ---- replies, newest first

-- the first one of a host
unfoldable pub first_of : List Reply → ℕ → Option Reply
first_of [] h = None
first_of (r ∷ l) h = option_or (first_of l h) (if r.host == h then Some r else None)

-- It is there, and says this position and this result.
abbrev pub says : ℕ → Bytes → Option Reply → Bool
says pos result None = false
says pos result (Some r) = pos == r.pos && same_bytes result r.result

-- ---- what comes to a client

module _ {S : Type 0} (system : System S) (c : ℕ) where
  -- the bytes that an event gives it
  abbrev pub bytes_given : World → WorldEvent → Option Bytes
  bytes_given w (Take m d) = if d == c then numbered w.pool m else None
  bytes_given w (Raw (name.Client d) bytes) = if d == c then Some bytes else None
  bytes_given w e = None

  -- how many requests it asked
  abbrev pub asked_count : World → ℕ
  asked_count w = count_by (λ r. r.client == c) w.asked

  -- A reply is to its request of this number, under the tag of the host that it names.
  abbrev pub is_answer : ℕ → Reply → Bool
  is_answer n r = r.client == c && (r.seq == n && same_bytes r.tag (reply_tag system.schedule.secret r.host c n r.pos r.result))

  abbrev pub answer_in : ℕ → Option Message → Option Reply
  answer_in n (Some (message.Reply r)) = if is_answer n r then Some r else None
  answer_in n m = None

  -- What it heard of its last request: nothing behind the event by which it asks, and one reply more behind the event that brings it.
  abbrev pub hears : World → Option WorldEvent → List Reply → List Reply
  hears w None l = l
  hears w (Some (Ask d op)) l = if d == c then [] else l
  hears w (Some e) l = onto (answer_in (asked_count w) (option_and_then (read system.schedule) (bytes_given w e))) l

  -- after the first events of the schedule, newest first
  unfoldable pub heard : ℕ → List Reply
  heard zero = []
  heard (suc k) = hears (world system k) (slice_get system.schedule.events k) (heard k)

  -- The first replies of f+1 hosts to its last request say this.
  abbrev pub IsTold : ℕ → ℕ → Bytes → Type 0
  IsTold k pos result = HasQuorum system.schedule.shape (λ h. says pos result (first_of (heard k) h))

  -- It accepted this of its last request.
  pub record HasAccepted (w : World) (pos : ℕ) (result : Bytes) : Type 0 where
    pub reply : Reply
    pub there : Contains (w.askers c).accepted reply
    pub number : reply.seq ≡ asked_count w
    pub position : reply.pos ≡ pos
    pub is : reply.result ≡ result

  -- Its numbers count its requests. Where f+1 hosts said a position and a result first, these are accepted, at the latest by the event that brought the last of
  -- these replies; and nothing is accepted that f+1 hosts did not say.
  pub record AcceptsAtQuorum (k : ℕ) : Type 0 where
    pub numbers : ((world system k).askers c).number ≡ asked_count (world system k)
    pub told : (pos : ℕ) (result : Bytes) → IsTold k pos result → HasAccepted (world system k) pos result
    pub alone : (r : Reply) → Contains ((world system k).askers c).accepted r → r.seq ≡ asked_count (world system k) → IsTold k r.pos r.result

-- So it is of each client that is correct, after any events, whatever else is faulty or forged.
abbrev pub ClientsAccept : Type 0 → Type 0
ClientsAccept S = (system : System S) (c k : ℕ) → is_faulty_client system.schedule c ≡ false → AcceptsAtQuorum system c k
