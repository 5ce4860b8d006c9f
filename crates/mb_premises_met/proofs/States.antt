-- A state that is installed on CHECKPOINTs of two hosts: h2 was given a JOIN that shows them.
use Rattle.std.proofs.Common.{inr, ◌<◌, ℕ, zero, suc, [], ◌∷◌, refl, arith, subst}
use Rattle.std.specs.Prelude.{replicate, false, Contains, if◌then◌else◌, ◌==◌}
use Rattle.mb_base.specs.Shapes.{Bytes}
use Rattle.mb_parts.specs.Bares as bare
use Rattle.mb_msg.specs.Bodies.{body_digest}
use Rattle.mb_msg.specs.Spelling.{spelling, floors_body_bytes}
use Rattle.mb_msg.specs.declared.message.Message.TheVariants as message
use Rattle.mb_model.specs.Histories.{Accepted, Installed, History}
use Rattle.mb_schedule.specs.declared.schedule.Schedule.{Schedule}
use Rattle.mb_world_model.specs.World.{World, nothing_happened}
use Rattle.mb_promise.specs.Justification.{IsJustified, IsJustifiedState, IsKnown}
use Rattle.mb_world_model.proofs.WorldsOnLiterals.{worlds_on_literals}
use Rattle.mb_agreement.proofs.ViewChangeData.{secret, three}
use Rattle.mb_premises_met.proofs.Data.{join_1, parts_4, state_4, floors_4, point}

-- All hosts and both clients are correct.
abbrev pub schedule : Schedule
schedule = record { shape = three; secret = secret; faulty_hosts = replicate 3 false; faulty_clients = replicate 2 false; events = [] }

abbrev joined_bytes : Bytes
joined_bytes = spelling (message.Join join_1)

-- what h2 holds, and what was delivered to it
abbrev installed : History
installed = Installed 4 parts_4 ∷ Accepted (message.Join join_1) ∷ []

abbrev installs : World
installs = record nothing_happened { histories = λ h. if h == 2 then installed else []; given = λ h. if h == 2 then joined_bytes ∷ [] else [] }

-- The statement asks here for CHECKPOINTs of two hosts.
a_state_is_asked_for : IsJustified schedule installs → IsJustifiedState schedule installs 2 4 parts_4
unfolding worlds_on_literals
a_state_is_asked_for justified =
    let there : 2 < 3 = omega arith in
    let some : 0 < 2 = omega arith in
    justified.installed 2 4 parts_4 (there, refl) (0, some, refl)

-- The CHECKPOINT of a host stands in the JOIN, and its certificate verifies.
known_of_0 : IsKnown schedule installs 2 0 2 (bare.Checkpoint 4 state_4 (body_digest floors_body_bytes floors_4))
unfolding worlds_on_literals
known_of_0 =
    let one : 0 < 1 = omega arith in
    let first : 0 < 3 = omega arith in
    inr ((point 0 2).ui.cert, record { bytes = joined_bytes; message = message.Join join_1; delivered = (0, one, refl); reads = refl; holds = (0, first, refl); verifies = refl })

known_of_1 : IsKnown schedule installs 2 1 2 (bare.Checkpoint 4 state_4 (body_digest floors_body_bytes floors_4))
unfolding worlds_on_literals
known_of_1 =
    let one : 0 < 1 = omega arith in
    let second : 1 < 3 = omega arith in
    inr ((point 1 2).ui.cert, record { bytes = joined_bytes; message = message.Join join_1; delivered = (0, one, refl); reads = refl; holds = (1, second, refl); verifies = refl })

of_two : (P : ℕ → Type 0) → P 0 → P 1 → (g : ℕ) → Contains (0 ∷ 1 ∷ []) g → P g
of_two P first second g (zero, lt, is) = subst P is first
of_two P first second g (suc zero, lt, is) = subst P is second
of_two P first second g (suc (suc k), lt, is) = absurd (omega (arith, lt))

-- h0 and h1 stamped the digest of this state.
a_state_rests_on_two_checkpoints : IsJustifiedState schedule installs 2 4 parts_4
unfolding worlds_on_literals
a_state_rests_on_two_checkpoints =
    let first : 0 < 3 = omega arith in
    let second : 1 < 3 = omega arith in
    record {
      hosts = 0 ∷ 1 ∷ [];
      many = refl;
      rising = refl;
      each = of_two (λ g. (g < 3) × ((counter : ℕ) × (floors : Bytes) × IsKnown schedule installs 2 g counter (bare.Checkpoint 4 state_4 floors)))
          (first, (2, body_digest floors_body_bytes floors_4, known_of_0)) (second, (2, body_digest floors_body_bytes floors_4, known_of_1));
    }
