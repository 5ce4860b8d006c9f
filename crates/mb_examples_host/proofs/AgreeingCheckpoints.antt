-- The certificates that CHECKPOINTs make, computed on the definitions.
use Rattle.std.proofs.Common.{◌≡◌, ℕ, [], ◌∷◌, refl, arith, Some, None}
use Rattle.std.specs.Prelude.{replicate, Ok, ◌==◌, if◌then◌else◌}
use Rattle.mb_base.specs.Shapes.{Bytes}
use Rattle.mb_base.specs.declared.shape.Shape.{Shape}
use Rattle.mb_parts.specs.declared.floor.Floor.{Floor}
use Rattle.mb_parts.specs.declared.floor.Phase.TheVariants as phase
use Rattle.mb_msg.specs.declared.message.Body.{Body}
use Rattle.mb_msg.specs.declared.message.Body.TheVariants as body
use Rattle.mb_msg.specs.declared.normal.Floors.{Floors}
use Rattle.mb_msg.specs.declared.normal.Checkpoint.{Checkpoint}
use Rattle.mb_msg.specs.declared.stamped.Stamped.TheVariants as stamped
use Rattle.mb_usig.specs.Tags.{request_tag}
use Rattle.mb_parts.specs.declared.request.Request.{Request}
use Rattle.mb_parts.specs.declared.batch.Batch.{Batch}
use Rattle.mb_msg.specs.declared.message.Message.TheVariants as message
use Rattle.mb_model.specs.Service.{Machine}
use Rattle.mb_model.specs.States.{Snapshots}
use Rattle.mb_model.specs.Histories.{Accepted, Stamped, History, Identity}
use Rattle.mb_model.specs.Stable.{low_of}
use Rattle.mb_model.specs.OwnLog.{log_start}
use Rattle.mb_model.proofs.StepOnLiterals.{host_on_literals}

-- ---- three hosts and four clients, with k = 4

abbrev pub secret : Bytes
secret = replicate 32 7

-- a service that keeps the last operation
abbrev pub keeps_last : Machine Bytes
keeps_last = record { after = λ state op. op; result = λ state op. state }

abbrev pub keeps_parts : Snapshots Bytes
keeps_parts = record { part = λ state i. if i == 0 then state else []; restored = λ parts. Ok [] }

abbrev pub shape : Shape
shape = record { f = 1; k = 4; clients = 4; faults_in = (omega arith, omega arith); interval_in = (omega arith, omega arith); clients_in = (omega arith, omega arith) }

abbrev pub host : ℕ → Identity Bytes
host h = record { shape = shape; host = h; secret = secret; machine = keeps_last; snapshots = keeps_parts; initial = [] }

-- the first request of a client
abbrev pub asked : ℕ → Request
asked c = record { client = c; seq = 1; op = 9 ∷ []; tag = request_tag secret c 1 (9 ∷ []) }

-- a batch of one request
abbrev pub alone : ℕ → Batch
alone c = record { requests = asked c ∷ [] }

-- ---- h0 stamped a CHECKPOINT at position 4 and accepts that of h1, each with a floor for h0: the stable position, and where the log of h0
-- begins

abbrev floor : ℕ → Floor
floor counter = record { counter = counter; view = 0; phase = phase.Open; last = 2; top = 2; point = 0 }

abbrev floors : ℕ → Body Floors
floors counter = body.Whole (record { floors = Some (floor counter) ∷ None ∷ None ∷ [] })

abbrev short : Body Floors
short = body.Bare (replicate 32 5)

abbrev point : ℕ → ℕ → Body Floors → Checkpoint
point h state b = record { pos = 4; state = state ∷ []; body = b; ui = record { host = h; counter = 1; cert = [] } }

abbrev both : Checkpoint → Checkpoint → History
both other own = Accepted (message.Checkpoint other) ∷ Stamped (stamped.Checkpoint own) ∷ []

abbrev stable_and_start : History → ℕ × ℕ
stable_and_start d = (low_of (host 0) d, log_start (host 0) d)

agree : stable_and_start (both (point 1 7 (floors 1)) (point 0 7 (floors 1))) ≡ (4, 1)
unfolding host_on_literals
agree = refl

-- one that came as its digest counts for the stable position alone
one_is_short : stable_and_start (both (point 1 7 short) (point 0 7 (floors 1))) ≡ (4, 0)
unfolding host_on_literals
one_is_short = refl

other_state : stable_and_start (both (point 1 8 (floors 1)) (point 0 7 (floors 1))) ≡ (0, 0)
unfolding host_on_literals
other_state = refl

other_floor : stable_and_start (both (point 1 7 (floors 2)) (point 0 7 (floors 1))) ≡ (4, 0)
unfolding host_on_literals
other_floor = refl

-- beyond what h0 stamped
floor_beyond : stable_and_start (both (point 1 7 (floors 2)) (point 0 7 (floors 2))) ≡ (4, 0)
unfolding host_on_literals
floor_beyond = refl
