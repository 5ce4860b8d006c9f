-- Two CHECKPOINTs whose floors for a host differ in one of six numbers: they certify no floor, and that host's log is not cut.
use Rattle.std.proofs.Common.{◌≡◌, ℕ, true, List, [], ◌∷◌, map, refl, Some, None}
use Rattle.std.specs.Prelude.{replicate}
use Rattle.mb_parts.specs.declared.floor.Floor.{Floor}
use Rattle.mb_parts.specs.declared.floor.Phase.TheVariants as phase
use Rattle.mb_parts.specs.declared.certificates.FloorMember.{FloorMember}
use Rattle.mb_parts.specs.declared.certificates.FloorCert.{FloorCert}
use Rattle.mb_parts.specs.Certificates.{certified_floor}
use Rattle.mb_msg.specs.declared.message.Body.TheVariants as body
use Rattle.mb_msg.specs.declared.message.Message.TheVariants as message
use Rattle.mb_msg.specs.declared.normal.Checkpoint.{Checkpoint}
use Rattle.mb_msg.specs.declared.stamped.Stamped.TheVariants as stamped
use Rattle.mb_model.specs.Histories.{Accepted, Stamped}
use Rattle.mb_model.specs.OwnLog.{log_start}
use Rattle.mb_model.proofs.StepOnLiterals.{host_on_literals}
use Rattle.mb_examples_host.proofs.AgreeingCheckpoints.{shape, host}

-- a floor whose numbers all differ
abbrev floor : Floor
floor = record { counter = 1; view = 2; phase = phase.Entered; last = 3; top = 5; point = 4 }

-- the same, and then one of each number that is another
abbrev others : List Floor
others = floor ∷ record floor { counter = 2 } ∷ record floor { view = 1 } ∷ record floor { phase = phase.Open } ∷ record floor { phase = phase.Changing }
    ∷ record floor { last = 4 } ∷ record floor { top = 6 } ∷ record floor { point = 0 } ∷ []

-- ---- in a host's own history

-- of host h at position 8, with this floor for h0
abbrev point : ℕ → Floor → Checkpoint
point h f = record { pos = 8; state = replicate 32 7; body = body.Whole (record { floors = Some f ∷ None ∷ None ∷ [] }); ui = record { host = h; counter = 1; cert = [] } }

-- where the log of h0 begins that stamped the floor, and accepts the CHECKPOINT of h1 with another
abbrev log_begins : Floor → ℕ
log_begins f = log_start (host 0) (Accepted (message.Checkpoint (point 1 f)) ∷ Stamped (stamped.Checkpoint (point 0 floor)) ∷ [])

cut_by_equal_floors_alone : map log_begins others ≡ 1 ∷ replicate 7 0
unfolding host_on_literals
cut_by_equal_floors_alone = refl

-- ---- in a certificate that is shown

abbrev member : ℕ → Floor → FloorMember
member h f = record { host = h; counter = 9; floors = Some f ∷ None ∷ None ∷ []; cert = [] }

-- of h1 with the floor and of h2 with another
abbrev shown : Floor → FloorCert
shown f = record { pos = 8; state = replicate 32 7; members = member 1 floor ∷ member 2 f ∷ [] }

certified_by_equal_floors_alone : map (λ f. certified_floor shape (λ claim. true) 0 (shown f)) others ≡ Some floor ∷ replicate 7 None
unfolding host_on_literals
certified_by_equal_floors_alone = refl
