-- One client asks twice before it is answered: both requests are fresh in the line, in the order of their numbers, and the result of the second that it accepts is
-- what the service answers behind the first.
use Rattle.std.proofs.Common.{◌≡◌, ℕ, true, List, [], ◌∷◌, map, refl, ap, None}
use Rattle.std.specs.Prelude.{replicate, slice_get}
use Rattle.mb_base.specs.Shapes.{Bytes}
use Rattle.mb_msg.specs.declared.event.Slot.{Slot}
use Rattle.mb_msg.specs.declared.event.Placed.{Placed}
use Rattle.mb_model.specs.declared.known.LastReply.{LastReply}
use Rattle.mb_model.specs.Service.{reply_of}
use Rattle.mb_schedule.specs.declared.schedule.WorldEvent.TheVariants.{Ask, Give, Take}
use Rattle.mb_world_model.specs.World.{World, System, nothing_happened, request_of}
use Rattle.mb_world_model.specs.WorldSteps.{world}
use Rattle.mb_promise.specs.Safety.{IsAt, after_requests}
use Rattle.mb_world_model.proofs.WorldsOnLiterals.{worlds_on_literals}
use Rattle.mb_examples_world.proofs.Worlds.{operation, all_correct, stops_from}

abbrev second_operation : Bytes
second_operation = 1 ∷ 1 ∷ 97 ∷ 0 ∷ 1 ∷ 50 ∷ []

abbrev two_requests : System Bytes
two_requests = all_correct (Ask 0 operation ∷ Give 1 0 ∷ Ask 0 second_operation ∷ Give 3 0 ∷ Give 2 1 ∷ Give 4 1 ∷ Give 2 2 ∷ Give 4 2 ∷ Take 8 0 ∷ Take 12 0 ∷ [])

abbrev behind_all : World
behind_all = world two_requests 10

-- the two requests, each in a slot of its own
abbrev placed : ℕ → Bytes → Placed
placed seq op = record { request = request_of two_requests.schedule 0 seq op; fresh = true }

abbrev slot_of : ℕ → Placed → Slot
slot_of pos p = record { pos = pos; requests = p ∷ [] }

-- Nothing stops them, and both are in the line. Of each accepted result the number, the position and the result are told.
record GoesThrough : Type 0 where
  unstopped : stops_from two_requests nothing_happened two_requests.schedule.events ≡ replicate 10 None
  line_is : behind_all.line ≡ slot_of 1 (placed 1 operation) ∷ slot_of 2 (placed 2 second_operation) ∷ []
  accepted_are : map {B = ℕ × ℕ × Bytes} (λ r. (r.seq, r.pos, r.result)) (behind_all.askers 0).accepted ≡ (2, 2, operation) ∷ []

it_goes_through : GoesThrough
unfolding worlds_on_literals
it_goes_through = record { unstopped = refl; line_is = refl; accepted_are = refl }

-- The first stands before the second, both are fresh, and its number is lower.
first_stands : IsAt two_requests behind_all 0 0 (placed 1 operation)
first_stands = record { slot = slot_of 1 (placed 1 operation); in_line = ap (λ (l : List Slot). slice_get l 0) it_goes_through.line_is; in_slot = refl }

second_stands : IsAt two_requests behind_all 1 0 (placed 2 second_operation)
second_stands = record { slot = slot_of 2 (placed 2 second_operation); in_line = ap (λ (l : List Slot). slice_get l 1) it_goes_through.line_is; in_slot = refl }

-- And so the service answers right behind the second request.
abbrev answer_on : List Slot → LastReply
answer_on line = reply_of (after_requests two_requests (record behind_all { line = line }) 1 (slot_of 2 (placed 2 second_operation)) 1) 0

service_answers : answer_on behind_all.line ≡ record { seq = 2; pos = 2; result = operation }
unfolding worlds_on_literals
service_answers = ap answer_on it_goes_through.line_is
