-- A whole world, computed on the definitions with real tags, certificates and digests.
use Rattle.std.proofs.Common.{◌≡◌, ◌≤◌, ℕ, true, false, List, [], ◌∷◌, ◌++◌, length, map, refl, arith, Option, Some, None, Ok}
use Rattle.std.specs.Prelude.{replicate, slice_get, filter_map, option_map, option_and_then, ◌==◌, if◌then◌else◌, unwrap_or}
use Rattle.mb_base.specs.Shapes.{Bytes}
use Rattle.mb_base.specs.declared.shape.Shape.{Shape}
use Rattle.mb_parts.specs.declared.batch.Batch.{Batch}
use Rattle.mb_parts.specs.Bares.{batch_digest}
use Rattle.mb_parts.specs.declared.certificates.Evidence.{Evidence}
use Rattle.mb_parts.specs.Certificates.{is_evidence}
use Rattle.mb_parts.specs.Ordered.{initial_floor, is_ordered}
use Rattle.mb_msg.specs.declared.change.ViewChange.{ViewChange}
use Rattle.mb_msg.specs.declared.stamped.Stamped.{Stamped as StampedMessage}
use Rattle.mb_msg.specs.declared.stamped.Stamped.TheVariants as stamped
use Rattle.mb_model.specs.Votes.{is_vote}
use Rattle.mb_model.specs.Committed.{IsCommitted, planned, vote_in}
use Rattle.mb_model.specs.declared.known.Vote.{Vote}
use Rattle.mb_msg.specs.declared.event.Slot.{Slot}
use Rattle.mb_model.specs.UsableLogs.{Fault}
use Rattle.mb_model.specs.Held.{change_fault, evidence_of}
use Rattle.mb_model.specs.Service.{Machine, Served}
use Rattle.mb_model.specs.States.{Snapshots}
use Rattle.mb_model.specs.Histories.{Executed, said, stamped as stamped_by}
use Rattle.mb_model.specs.Execution.{state_of}
use Rattle.mb_schedule.specs.declared.schedule.WorldEvent.{WorldEvent}
use Rattle.mb_schedule.specs.declared.schedule.WorldEvent.TheVariants.{Ask, Give, Patience, StampPrepare}
use Rattle.mb_schedule.specs.declared.schedule.Schedule.{Schedule}
use Rattle.mb_world_model.specs.World.{World, System, self_of, request_of}
use Rattle.mb_world_model.specs.WorldSteps.{happens, world}
use Rattle.mb_world_model.specs.Stops.{WorldStop, stop_of}
use Rattle.mb_world_model.specs.WorldRecord.{issued, prefix, plans}
use Rattle.mb_promise.specs.Justification.{is_sound}
use Rattle.mb_promise.specs.Safety.{after_line}
use Rattle.mb_world_model.proofs.WorldsOnLiterals.{worlds_on_literals}

-- ---- three hosts with a service that keeps the last operation and answers with the one before

abbrev pub keeps_last : Machine Bytes
keeps_last = record { after = λ state op. op; result = λ state op. state }

abbrev pub keeps_parts : Snapshots Bytes
keeps_parts = record { part = λ state i. if i == 0 then state else []; restored = λ parts. Ok (unwrap_or (slice_get parts 0) []) }

abbrev pub one_client : Shape
one_client = record { f = 1; k = 4; clients = 1; faults_in = (omega arith, omega arith); interval_in = (omega arith, omega arith); clients_in = (omega arith, omega arith) }

abbrev pub system_of : Schedule → System Bytes
system_of s = record { machine = keeps_last; snapshots = keeps_parts; initial = []; schedule = s }

abbrev pub all_correct : List WorldEvent → System Bytes
all_correct events = system_of (record { shape = one_client; secret = replicate 32 0; faulty_hosts = replicate 3 false; faulty_clients = replicate 1 false; events = events })

-- the first byte of a message
abbrev pub kind_byte : Bytes → ℕ
kind_byte [] = 0
kind_byte (kind ∷ bytes) = kind

-- what stands in the way of each of these events, one behind the other
abbrev pub stops_from : System Bytes → World → List WorldEvent → List (Option WorldStop)
stops_from system w [] = []
stops_from system w (e ∷ events) = stop_of system.schedule w e ∷ stops_from system (happens system w e) events

-- ---- a faulty primary orders the request for one host alone; two hosts lose patience, and the next view carries it on

abbrev pub operation : Bytes
operation = 1 ∷ 1 ∷ 97 ∷ 0 ∷ 1 ∷ 49 ∷ []

abbrev pub of_faulty_primary : List WorldEvent → System Bytes
of_faulty_primary events = system_of (record { shape = one_client; secret = replicate 32 0; faulty_hosts = true ∷ false ∷ false ∷ []; faulty_clients = false ∷ []; events = events })

abbrev pub change_of_view : System Bytes
change_of_view = of_faulty_primary (Ask 0 operation ∷ StampPrepare 0 0 1 (1 ∷ []) ∷ Give 2 1 ∷ Patience 1 ∷ Patience 2 ∷ Give 5 2 ∷ Give 6 1 ∷ Give 7 1 ∷ Give 3 2 ∷ Give 8 2 ∷ Give 9 2 ∷ Give 10 1 ∷ Give 11 1 ∷ Give 12 2 ∷ [])

-- what stands in the way of the event behind the first k
abbrev pub stop_at : System Bytes → ℕ → Option WorldStop
stop_at system k = option_and_then (stop_of system.schedule (world system k)) (slice_get system.schedule.events k)

-- behind all events
abbrev pub last_world : World
last_world = world change_of_view 14

abbrev pub served_once : Served Bytes
served_once = record { state = operation; table = record { seq = 1; pos = 1; result = [] } ∷ [] }

-- the logs that a host showed, of each its first fault
abbrev as_change : StampedMessage → Option ViewChange
as_change (stamped.ViewChange m) = Some m
as_change m = None

abbrev change_faults : ℕ → List (Option Fault)
change_faults h = map (change_fault (self_of change_of_view h)) (filter_map as_change (stamped_by (last_world.histories h)))

-- the evidence that h2 holds of the next view, and its view, base, end and counter
abbrev pub evidence : Option Evidence
evidence = evidence_of (self_of change_of_view 2) (last_world.histories 2)

abbrev pub numbers : Evidence → ℕ × ℕ × ℕ × ℕ
numbers e = (e.view, e.base, e.end, e.counter)

-- the batch of the one request, the slot that it makes, and the vote for it in view 0, at the counter of the PREPARE
abbrev pub batch : Batch
batch = record { requests = request_of change_of_view.schedule 0 1 operation ∷ [] }

abbrev pub slot : Slot
slot = record { pos = 1; requests = record { request = request_of change_of_view.schedule 0 1 operation; fresh = true } ∷ [] }

abbrev pub vote : Vote
vote = record { counter = 1; request = batch_digest batch }

-- of each host 1 if its vote in this view is for the same batch
abbrev votes_for_batch : ℕ → List ℕ
votes_for_batch view = map (λ h. if is_vote (vote_in (plans change_of_view.schedule last_world) (prefix change_of_view.schedule last_world h) view 1) (record { counter = if view == 0 then 1 else 3; request = batch_digest batch }) then 1 else 0) (0 ∷ 1 ∷ 2 ∷ [])

-- Where the run leads, and what is promised of it, as far as it is decided by computing. Facts are computed together as far as one proof may go, so that the prover
-- goes through the run once for each of these records.
pub record LeadsTo : Type 0 where
  -- The batch is the line. h2, which never saw view 0's PREPARE, executed it in view 1, as h1 did in view 0: it is the last entry of its history.
  pub line_is : last_world.line ≡ slot ∷ []
  pub last_of_h2 : slice_get (last_world.histories 2) 0 ≡ Some (Executed slot)
  -- The state of the correct hosts is the service's behind the line's first slot.
  pub line_serves : after_line change_of_view last_world 1 ≡ served_once
  pub hosts_served : map (λ h. state_of (self_of change_of_view h) (last_world.histories h)) (1 ∷ 2 ∷ []) ≡ served_once ∷ served_once ∷ []
  -- The evidence is of a plan from 0 to 1, and of the NEW_VIEW at counter 3.
  pub evidence_is : option_map numbers evidence ≡ Some (1, 0, 1, 3)

pub it_leads_there : LeadsTo
unfolding worlds_on_literals
it_leads_there = record { line_is = refl; last_of_h2 = refl; line_serves = refl; hosts_served = refl; evidence_is = refl }

record InOrder : Type 0 where
  -- What each stamped stands in order, with checked and issued certificates. The ordered prefix of the faulty primary is one message.
  all_stand_in_order : map (λ h. is_ordered initial_floor one_client h (is_sound change_of_view.schedule last_world) (said (last_world.histories h))) (1 ∷ 2 ∷ []) ≡ true ∷ true ∷ []
  prefix_lengths : map (λ h. length (prefix change_of_view.schedule last_world h)) (0 ∷ 1 ∷ 2 ∷ []) ≡ 1 ∷ 4 ∷ 3 ∷ []
  -- The logs that they showed are usable.
  changes_usable : change_faults 1 ++ change_faults 2 ≡ None ∷ None ∷ []

all_is_in_order : InOrder
unfolding worlds_on_literals
all_is_in_order = record { all_stand_in_order = refl; prefix_lengths = refl; changes_usable = refl }

pub record VotedAgain : Type 0 where
  -- The evidence was issued, and its plan has the batch.
  pub evidence_issued : option_map (is_evidence one_client (issued change_of_view.schedule last_world)) evidence ≡ Some true
  pub evidence_plans : option_map (λ e. planned (plans change_of_view.schedule last_world e.plan) 1) evidence ≡ Some (Some (batch_digest batch))
  -- The batch got votes of h0 and h1 in view 0, where it is committed, and, by the plan, of h1 and h2 in view 1.
  pub voted_in_both_views : map votes_for_batch (0 ∷ 1 ∷ []) ≡ (1 ∷ 1 ∷ 0 ∷ []) ∷ (0 ∷ 1 ∷ 1 ∷ []) ∷ []
  pub committed_in_view_0 : IsCommitted (plans change_of_view.schedule last_world) one_client (prefix change_of_view.schedule last_world) 0 1 vote

pub it_is_voted_again : VotedAgain
unfolding worlds_on_literals
it_is_voted_again =
    let two : 2 ≤ 2 = omega arith in
    record { evidence_issued = refl; evidence_plans = refl; voted_in_both_views = refl; committed_in_view_0 = record { voted = two; led = refl } }
