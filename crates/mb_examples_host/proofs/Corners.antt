-- Corners of a host's rules, computed: whom it asks for state, what an installed state does to what is pending, bad tables, a RESEND, a STOP,
-- and patience in the last view.
use Rattle.std.proofs.Common.{◌≡◌, ℕ, List, [], ◌∷◌, ◌++◌, length, map, refl, Option, Some, None}
use Rattle.std.specs.Prelude.{◌-◌, ◌^◌, replicate, codes, option_map, Err, Ok}
use Rattle.mb_base.specs.Shapes.{Bytes}
use Rattle.mb_parts.specs.declared.certificates.StableCert.{StableCert}
use Rattle.mb_parts.specs.declared.floor.Floor.{Floor}
use Rattle.mb_parts.specs.declared.floor.Phase.TheVariants as phase
use Rattle.mb_msg.specs.declared.event.Outcome.{Outcome}
use Rattle.mb_msg.specs.declared.event.Outcome.TheVariants as outcome
use Rattle.mb_msg.specs.declared.message.Body.TheVariants as body
use Rattle.mb_msg.specs.declared.message.Message.{Message}
use Rattle.mb_msg.specs.declared.message.Message.TheVariants as message
use Rattle.mb_msg.specs.declared.normal.Checkpoint.{Checkpoint}
use Rattle.mb_msg.specs.declared.stamped.Stamped.TheVariants as stamped
use Rattle.mb_msg.specs.declared.transfer.Resend.{Resend}
use Rattle.mb_model.specs.Histories.{Accepted, Stamped, Installed, Nudged, History}
use Rattle.mb_model.specs.States.{table_of}
use Rattle.mb_model.specs.Execution.{pending, asked_host, state_from}
use Rattle.mb_model.specs.Making.{log_for}
use Rattle.mb_model.specs.PlainChecks.{resend_refusal}
use Rattle.mb_model.specs.Sending.{begin}
use Rattle.mb_model.specs.HostStep.{on_message, on_patience}
use Rattle.mb_model.proofs.Hex.{unhex}
use Rattle.mb_model.proofs.StepOnLiterals.{host_on_literals}
use Rattle.mb_examples_host.proofs.AgreeingCheckpoints.{host, asked}

-- ---- a STOP: its tag was computed outside of these definitions, of 32 bytes 7 as secret

abbrev stop : Bytes → Outcome
stop tag = (on_message (host 1) [] (message.Stop (record { tag = tag }))).outcome

stops_by_its_tag : (stop (unhex (codes "0727b97baf3d53dd9beadd7280faecf910b1745cdb6634fa00397bb57d18e4b8")) ≡ outcome.Stopping) × (stop (replicate 32 0) ≡ outcome.BadTag)
unfolding host_on_literals
stops_by_its_tag = (refl, refl)

-- ---- whom a host asks for state

-- a stable position, which a JOIN of h1 brings
abbrev stable_at : ℕ → StableCert
stable_at pos = record { pos = pos; state = []; members = [] }

abbrev behind : History
behind = Accepted (message.Join (record { view = 0; evidence = None; stable = stable_at 4; ui = record { host = 1; counter = 1; cert = [] } })) ∷ []

-- Each Nudge goes on to the next host, and passes over h2 itself.
asks_others_in_turn : map (asked_host (host 2)) (behind ∷ (Nudged ∷ behind) ∷ (Nudged ∷ Nudged ∷ behind) ∷ (Nudged ∷ Nudged ∷ Nudged ∷ behind) ∷ []) ≡ 0 ∷ 1 ∷ 0 ∷ 1 ∷ []
unfolding host_on_literals
asks_others_in_turn = refl

-- one while it is not behind does not
not_behind : (asked_host (host 2) (Nudged ∷ []) ≡ 0) × (asked_host (host 2) (behind ++ Nudged ∷ []) ≡ 0)
unfolding host_on_literals
not_behind = (refl, refl)

-- ---- a request waits no longer once a state is installed in which it was served

-- of the client with its number, position and result
abbrev row : ℕ → ℕ → Bytes
row seq pos = replicate 7 0 ++ seq ∷ replicate 7 0 ++ pos ∷ 0 ∷ 0 ∷ []

-- a state in which client 0 was served up to this number
abbrev parts : ℕ → ℕ → List Bytes
parts seq pos = replicate 64 [] ++ (row seq pos ++ row 0 0 ++ row 0 0 ++ row 0 0) ∷ []

abbrev then_installs : ℕ → ℕ → History
then_installs seq pos = Installed 4 (parts seq pos) ∷ Accepted (message.Request (asked 0)) ∷ []

served_in_state : (pending (host 2) (then_installs 1 1) 0 ≡ None) × (pending (host 2) (then_installs 0 0) 0 ≡ Some (asked 0))
unfolding host_on_literals
served_in_state = (refl, refl)

-- ---- a client table with a result of more than 1,024 bytes is none

abbrev result_of : ℕ → ℕ → Bytes
result_of high low = replicate 7 0 ++ 1 ∷ replicate 7 0 ++ 1 ∷ high ∷ low ∷ []

longest_result : (table_of 1 (result_of 4 0 ++ replicate 1024 9) ≡ Ok (record { seq = 1; pos = 1; result = replicate 1024 9 } ∷ [])) × (table_of 1 (result_of 4 1 ++ replicate 1025 9) ≡ Err 16)
unfolding host_on_literals
longest_result = (refl, refl)

too_long_in_state : state_from (host 2) (replicate 64 [] ++ (result_of 4 1 ++ replicate 1025 9 ++ row 0 0 ++ row 0 0 ++ row 0 0) ∷ []) ≡ Err (64, 16)
unfolding host_on_literals
too_long_in_state = refl

-- ---- a RESEND

-- of h1, which has this stable position and expects this counter of h0
abbrev resend : ℕ → ℕ → Resend
resend low next = record { host = 1; low = low; nexts = next ∷ 1 ∷ 1 ∷ [] }

-- h0 stamped nothing, and 4 is stable for it: that is news for a host that has less.
told_what_is_stable : (resend_refusal (host 0) behind (resend 0 1) ≡ None) × (resend_refusal (host 0) behind (resend 4 1) ≡ Some outcome.Idle)
unfolding host_on_literals
told_what_is_stable = (refl, refl)

-- ---- a LOG shows the floor to who waits for the floor's own counter, and not to who waits for the next

abbrev floor : Floor
floor = record { counter = 1; view = 0; phase = phase.Open; last = 4; top = 4; point = 4 }

abbrev point : ℕ → ℕ → Checkpoint
point h counter = record { pos = 8; state = []; body = body.Whole (record { floors = Some floor ∷ None ∷ None ∷ [] }); ui = record { host = h; counter = counter; cert = [] } }

-- The log of h0 begins behind its first message, a CHECKPOINT at 4.
abbrev was_cut : History
was_cut = Accepted (message.Checkpoint (point 1 1)) ∷ Stamped (stamped.Checkpoint (point 0 2)) ∷ Stamped (stamped.Checkpoint (record { pos = 4; state = []; body = body.Bare []; ui = record { host = 0; counter = 1; cert = [] } })) ∷ []

-- the positions of the floor certificate and of the stable one, and the counters of the entries
abbrev told : Message → Option ℕ × ℕ × ℕ
told (message.Log m) = (option_map (λ c. c.pos) m.floor, m.stable.pos, length m.entries)
told _ = (None, 0, 0)

abbrev log_to : ℕ → Option ℕ × ℕ × ℕ
log_to next = told (log_for (host 0) was_cut (resend 0 next))

floor_is_shown : map log_to (0 ∷ 1 ∷ 2 ∷ 3 ∷ []) ≡ (Some 8, 8, 1) ∷ (Some 8, 8, 1) ∷ (None, 8, 1) ∷ (None, 8, 0) ∷ []
unfolding host_on_literals
floor_is_shown = refl

-- ---- in the greatest view there is no view to wish for

abbrev in_view : ℕ → History
in_view view = Stamped (stamped.ViewChange (record { view = view; body = body.Bare []; ui = record { host = 1; counter = 1; cert = [] } })) ∷ []

abbrev loses_patience : ℕ → Outcome
loses_patience view = (on_patience (host 1) (begin (in_view view))).outcome

last_view : map loses_patience ((2 ^ 63 - 2) ∷ (2 ^ 63 - 1) ∷ []) ≡ outcome.Took ∷ outcome.Idle ∷ []
unfolding host_on_literals
last_view = refl
