-- Worlds that break a promise, and what promises give: a promise that said less would not refuse these worlds, or would not give this.
use Rattle.std.proofs.Common.{inl, inr, ◌≡◌, ℕ, ◌+◌, true, false, List, [], ◌∷◌, length, refl, arith, Some, None}
use Rattle.std.specs.Prelude.{◌-◌, ◌==◌, if◌then◌else◌, slice_get, Contains}
use Rattle.mb_base.specs.Shapes.{Bytes}
use Rattle.mb_parts.specs.declared.batch.Batch.{Batch}
use Rattle.mb_parts.specs.Bares.{Bare, batch_digest}
use Rattle.mb_parts.specs.Bares as bare
use Rattle.mb_parts.specs.Claims.{are_rising}
use Rattle.mb_msg.specs.declared.event.Slot.{Slot}
use Rattle.mb_msg.specs.declared.event.Placed.{Placed}
use Rattle.mb_msg.specs.declared.normal.Reply.{Reply}
use Rattle.mb_msg.specs.declared.message.Body.TheVariants as body
use Rattle.mb_msg.specs.declared.change.ChangeBody.{ChangeBody}
use Rattle.mb_msg.specs.declared.change.ViewChange.{ViewChange}
use Rattle.mb_msg.specs.declared.stamped.Stamped.TheVariants as stamped
use Rattle.mb_model.specs.Plans.{no_base}
use Rattle.mb_model.specs.declared.known.Vote.{Vote}
use Rattle.mb_model.specs.Service.{reply_of, batch_of}
use Rattle.mb_model.specs.States.{state_digest}
use Rattle.mb_model.specs.Histories.{Entry, Stamped, Closed, Executed, Installed, History}
use Rattle.mb_model.specs.Clients.{no_asker}
use Rattle.mb_schedule.specs.Limits.{IsSchedule}
use Rattle.mb_world_model.specs.Hashed.{HashesApart}
use Rattle.mb_world_model.specs.World.{World, System, nothing_happened}
use Rattle.mb_world_model.specs.WorldSteps.{world}
use Rattle.mb_world_model.specs.WorldEvents.{IsCorrect}
use Rattle.mb_world_model.specs.Stops.{IsUnstopped}
use Rattle.mb_promise.specs.Safety.{IsServedResult, AreServedResults, after_requests}
use Rattle.mb_promise.specs.Justification.{IsJustified, IsJustifiedSlot, IsJustifiedState, IsKnown, IsVoted}
use Rattle.mb_promise.specs.Bounds.{IsBlameless}
use Rattle.mb_promise.specs.Headline.{Promises, HoldsAtEachEvent}
use Rattle.mb_world_model.proofs.WorldsOnLiterals.{worlds_on_literals}
use Rattle.mb_examples_world.proofs.Worlds.{all_correct, of_faulty_primary}

some_none : {A : Type 0} (x : A) → Some x ≡ None → ⊥
some_none x e = absurd cc

none_some : {A : Type 0} (x : A) → None ≡ Some x → ⊥
none_some x e = absurd cc

-- ---- three correct hosts, and a world in which h1 has this history and nothing else happened

abbrev system : System Bytes
system = all_correct []

correct_0 : IsCorrect system.schedule 0
correct_0 = (omega arith, refl)

correct_1 : IsCorrect system.schedule 1
correct_1 = (omega arith, refl)

abbrev with_history : History → World
with_history d = record nothing_happened { histories = λ h. if h == 1 then d else [] }

-- ---- nobody correct is blamed

-- h1 closed its gate for h0.
closed_gate : IsBlameless system (with_history (Closed 0 1 ∷ [])) → ⊥
unfolding worlds_on_literals
closed_gate b = some_none 1 (b.free 1 0 correct_1 correct_0)

-- h1 leaves view 0 with its second message, and shows none before it.
abbrev nothing_shown : ChangeBody
nothing_shown = record { floor = None; stable = no_base; entries = [] }

abbrev hides : ViewChange
hides = record { view = 1; body = body.Whole nothing_shown; ui = record { host = 1; counter = 2; cert = [] } }

abbrev hidden : World
hidden = with_history (Stamped (stamped.ViewChange hides) ∷ [])

unusable_change : IsBlameless system hidden → ⊥
unfolding worlds_on_literals
unusable_change b = some_none (0, 3) (b.usable 1 hides nothing_shown correct_1 (0, omega arith, refl) refl)

-- h1 orders a batch, though h0 leads view 0.
abbrev orders : World
orders = with_history (Stamped (stamped.Prepare (record { view = 0; pos = 1; body = body.Bare []; ui = record { host = 1; counter = 1; cert = [] } })) ∷ [])

out_of_order : IsBlameless system orders → ⊥
unfolding worlds_on_literals
out_of_order b = let no : false ≡ true = b.ordered 1 correct_1 in absurd cc

-- ---- accepted results are the service's

-- Client 0 accepted a result, and nothing was executed.
abbrev result : Reply
result = record { host = 0; client = 0; seq = 1; pos = 1; result = []; tag = [] }

abbrev from_nowhere : World
from_nowhere = record nothing_happened { askers = λ c. record no_asker { accepted = result ∷ [] } }

result_from_nowhere : AreServedResults system from_nowhere → ⊥
result_from_nowhere served = let r : IsServedResult system from_nowhere 0 result = served 0 result (omega arith, refl) (0, omega arith, refl) in none_some r.slot r.there

-- At the position of a result stands a fresh request of the client, with its number, which was asked, and the service answers so.
abbrev Stands : {S : Type 0} → System S → World → ℕ → Reply → Slot → ℕ → Placed → Type 0
Stands system w c r slot i p = (slice_get w.line (r.pos - 1) ≡ Some slot) × (slice_get slot.requests i ≡ Some p) × (p.fresh ≡ true) × (p.request.client ≡ c) × (p.request.seq ≡ r.seq)
    × Contains w.asked p.request × (reply_of (after_requests system w (r.pos - 1) slot (i + 1)) c ≡ record { seq = r.seq; pos = r.pos; result = r.result })

what_was_served : {S : Type 0} (system : System S) (w : World) (c : ℕ) (r : Reply) → IsServedResult system w c r → (slot : Slot) × (i : ℕ) × (p : Placed) × Stands system w c r slot i p
what_was_served system w c r s =
    let at : r.pos - 1 ≡ s.q = let place = s.place in omega (arith, place) in
    (s.slot, s.i, s.placed, (rw at s.there, s.within, s.fresh, s.request.0, s.request.1, s.asked, rw at s.result))

-- ---- what is executed or installed rests on two of three hosts

-- one host is not two
two_of_one : (hosts : List ℕ) → length hosts ≡ 2 → are_rising hosts ≡ true → ((g : ℕ) → Contains hosts g → g ≡ 1) → ⊥
two_of_one [] many rising all = absurd (omega (arith, many))
two_of_one (a ∷ []) many rising all = absurd (omega (arith, many))
two_of_one (a ∷ b ∷ []) many rising all =
    let first : a ≡ 1 = all a (0, omega arith, refl) in
    let second : b ≡ 1 = all b (1, omega arith, refl) in
    let no : false ≡ true = rw (first, second) at rising in
    absurd cc
two_of_one (a ∷ b ∷ c ∷ l) many rising all = absurd (omega (arith, many))

-- A world in which h1 was given nothing: what it knows, it stamped itself.
known_alone : (d : History) (g counter : ℕ) (says : Bare) → IsKnown system.schedule (with_history d) 1 g counter says → g ≡ 1
known_alone d g counter says (inl own) = own.0
known_alone d g counter says (inr given) = let (k, lt, at) = given.1.delivered in absurd (omega (arith, lt))

voted_alone : (d : History) (g view pos : ℕ) (vote : Vote) → IsVoted system.schedule (with_history d) 1 g view pos vote → g ≡ 1
voted_alone d g view pos vote (inl own) = own.0
voted_alone d g view pos vote (inr given) = known_alone d g (given.begins.counter + length given.before + 1) given.says given.all.0

-- It executes what it alone voted for.
abbrev batch : Batch
batch = record { requests = record { client = 0; seq = 1; op = []; tag = [] } ∷ [] }

abbrev slot : Slot
slot = record { pos = 1; requests = record { request = record { client = 0; seq = 1; op = []; tag = [] }; fresh = true } ∷ [] }

abbrev commit : Entry
commit = Stamped (stamped.Commit (record { view = 0; pos = 1; counter = 1; cert = []; body = body.Whole batch; ui = record { host = 1; counter = 1; cert = [] } }))

executed_alone : IsJustified system.schedule (with_history (Executed slot ∷ commit ∷ [])) → ⊥
executed_alone j =
    let by : IsJustifiedSlot system.schedule (with_history (Executed slot ∷ commit ∷ [])) 1 (commit ∷ []) slot = j.executed 1 [] (commit ∷ []) slot correct_1 refl in
    two_of_one by.voted.hosts by.voted.many by.voted.rising
    (λ g is. voted_alone (Executed slot ∷ commit ∷ []) g by.view slot.pos (record { counter = by.counter; request = batch_digest (batch_of slot) }) (by.voted.each g is).1)

-- It installs a state that nobody certified.
abbrev installed : History
installed = Installed 4 [] ∷ []

installed_alone : IsJustified system.schedule (with_history installed) → ⊥
installed_alone j =
    let by : IsJustifiedState system.schedule (with_history installed) 1 4 [] = j.installed 1 4 [] correct_1 (0, omega arith, refl) in
    two_of_one by.hosts by.many by.rising
    (λ g is. let known = (by.each g is).1 in known_alone installed g known.0 (bare.Checkpoint 4 (state_digest [] 4) known.1) known.2)

-- ---- which schedules there are, and where the promises hold

-- One of three hosts is faulty.
one_is_faulty : IsSchedule (of_faulty_primary []).schedule
one_is_faulty = record { hosts = refl; clients = refl; few = omega arith; events = λ k e at. absurd (none_some e at); count = omega arith }

-- behind the last event
at_the_end : {S : Type 0} (system : System S) → HoldsAtEachEvent system → IsUnstopped system (length system.schedule.events)
    → HashesApart (world system (length system.schedule.events)).hashed → Promises system (world system (length system.schedule.events))
at_the_end system holds = holds (length system.schedule.events) (omega arith)

-- and before the first one
at_the_start : {S : Type 0} (system : System S) → HoldsAtEachEvent system → IsUnstopped system 0 → HashesApart (world system 0).hashed → Promises system (world system 0)
at_the_start system holds = holds 0 (omega arith)
