-- Three hosts, and what they say as the view changes: h0 orders two requests in one batch, h1 commits it, and both backups go on to view 1, which h1 leads.
-- Also CHECKPOINTs at position 4, and what makes it stable. Tags and digests were computed outside these definitions.
use Rattle.std.specs.Prelude.{ℕ, List, [], ◌∷◌, true, Some, None, Ok, if◌then◌else◌, ◌==◌, ◌-◌, unwrap_or, codes, slice_get, slice_index_or}
use Rattle.mb_base.specs.Shapes.{Bytes}
use Rattle.mb_parts.specs.declared.request.Request.{Request}
use Rattle.mb_parts.specs.declared.certificates.StableMember.{StableMember}
use Rattle.mb_parts.specs.declared.certificates.StableCert.{StableCert}
use Rattle.mb_parts.specs.declared.certificates.FloorMember.{FloorMember}
use Rattle.mb_parts.specs.declared.certificates.FloorCert.{FloorCert}
use Rattle.mb_parts.specs.declared.floor.Floor.{Floor}
use Rattle.mb_parts.specs.declared.floor.Phase.TheVariants as phase
use Rattle.mb_msg.specs.declared.event.Placed.{Placed}
use Rattle.mb_msg.specs.declared.event.Slot.{Slot}
use Rattle.mb_msg.specs.declared.message.Body.{Body}
use Rattle.mb_msg.specs.declared.message.Body.TheVariants.{Whole}
use Rattle.mb_msg.specs.declared.normal.Prepare.{Prepare}
use Rattle.mb_msg.specs.declared.normal.Commit.{Commit}
use Rattle.mb_msg.specs.declared.normal.Floors.{Floors}
use Rattle.mb_msg.specs.declared.normal.Checkpoint.{Checkpoint}
use Rattle.mb_msg.specs.declared.change.ReqViewChange.{ReqViewChange}
use Rattle.mb_msg.specs.declared.change.ViewChange.{ViewChange}
use Rattle.mb_msg.specs.declared.change.NewView.{NewView}
use Rattle.mb_msg.specs.declared.change.Enter.{Enter}
use Rattle.mb_msg.specs.declared.change.Open.{Open}
use Rattle.mb_msg.specs.declared.change.Join.{Join}
use Rattle.mb_msg.specs.declared.change.Plan.{Plan}
use Rattle.mb_model.specs.Service.{Machine, Served}
use Rattle.mb_model.specs.States.{Snapshots, parts_of}
use Rattle.mb_model.specs.Histories.{Identity}
use Rattle.mb_model.proofs.Hex.{unhex}
use Rattle.mb_agreement.proofs.ViewChangeData.{secret, three, at_zero, asked_0, asked_1, asked, plan_1, prepare_cert, commit_cert, change_cert_1, change_cert_2, new_view_cert, enter_cert, open_cert_2, evidence_1, log_1, log_2}

-- ---- the hosts, with a service that keeps the last operation and answers with the one before

abbrev pub keeps_last : Machine Bytes
keeps_last = record { after = λ state op. op; result = λ state op. state }

-- Its first part is the state, the others are empty.
abbrev pub first_part : Snapshots Bytes
first_part = record { part = λ state i. if i == 0 then state else []; restored = λ parts. Ok (unwrap_or (slice_get parts 0) []) }

abbrev pub host : ℕ → Identity Bytes
host h = record { shape = three; host = h; secret = secret; machine = keeps_last; snapshots = first_part; initial = [] }

-- ---- view 0: a batch of two requests

abbrev pub prepare_1 : Prepare
prepare_1 = record { view = 0; pos = 1; body = Whole asked; ui = record { host = 0; counter = 1; cert = prepare_cert } }

abbrev pub commit_1 : Commit
commit_1 = record { view = 0; pos = 1; counter = 1; cert = prepare_cert; body = Whole asked; ui = record { host = 1; counter = 1; cert = commit_cert } }

abbrev pub placed : Request → Placed
placed r = record { request = r; fresh = true }

abbrev pub slot_1 : Slot
slot_1 = record { pos = 1; requests = placed asked_0 ∷ placed asked_1 ∷ [] }

-- ---- the change to view 1

abbrev pub wish_1 : ReqViewChange
wish_1 = record { host = 1; view = 1; tag = unhex (codes "f59434771289c2a029c80db86cec8fd8467fa83736735e8f8739e98863919c32") }

abbrev pub change_1 : ViewChange
change_1 = record { view = 1; body = Whole log_1.body; ui = record { host = 1; counter = 2; cert = change_cert_1 } }

abbrev pub change_2 : ViewChange
change_2 = record { view = 1; body = Whole log_2.body; ui = record { host = 2; counter = 1; cert = change_cert_2 } }

-- Of h0, too, though it shows nothing.
abbrev pub change_0 : ViewChange
change_0 = record { view = 1; body = Whole log_2.body; ui = record { host = 0; counter = 1; cert = [] } }

abbrev pub new_view_1 : NewView
new_view_1 = record { view = 1; base = 0; end = 1; plan = plan_1; body = Whole (record { changes = change_1 ∷ change_2 ∷ [] }); ui = record { host = 1; counter = 3; cert = new_view_cert } }

abbrev pub enter_2 : Enter
enter_2 = record { view = 1; counter = 3; plan = plan_1; ui = record { host = 2; counter = 2; cert = enter_cert } }

abbrev pub open_2 : Open
open_2 = record { evidence = evidence_1; body = Whole (record { stable = at_zero; batches = asked ∷ [] }); ui = record { host = 2; counter = 3; cert = open_cert_2 } }

-- what view 1 carries on
abbrev pub carried : Plan
carried = record { base = at_zero; batches = asked ∷ [] }

-- ---- position 4 is stable: CHECKPOINTs of h0 and h1

-- behind one request at position 4
abbrev pub slot_4 : Slot
slot_4 = record { pos = 4; requests = placed asked_0 ∷ [] }

abbrev pub served_at_4 : Served Bytes
served_at_4 = record { state = asked_0.op; table = record { seq = 1; pos = 4; result = [] } ∷ record { seq = 0; pos = 0; result = [] } ∷ [] }

-- the parts of the state, and its digest
abbrev pub parts_4 : List Bytes
parts_4 = parts_of first_part served_at_4

abbrev pub state_4 : Bytes
state_4 = unhex (codes "e01b7c189450287290c0f40622f3e9fbb2e536671519d894ccd2ef8e7f6ba0f9")

-- where the log of h0 stood behind its first message
abbrev pub floor_0 : Floor
floor_0 = record { counter = 1; view = 0; phase = phase.Open; last = 1; top = 1; point = 0 }

abbrev pub floors_4 : Body Floors
floors_4 = Whole (record { floors = Some floor_0 ∷ None ∷ None ∷ [] })

-- their digest
abbrev floors_digest_4 : Bytes
floors_digest_4 = unhex (codes "c5db82927a2675366d0028df2d13ca9caaae6fa2a1ecd18adffa9e7b1abbbe2b")

-- the tags of h0 and of h1, at their counters 1, 2 and 3
abbrev tags_of_0 : List Bytes
tags_of_0 =
    unhex (codes "b56dd1d102bf8cb957d97b5fa6d8ac6a9d7a6f1e9cd0848d1ea618d294ada6db") ∷
    unhex (codes "c04d29476787567122854a03731fa0033458d07eda9db5c1532cd0bdb90efa06") ∷
    unhex (codes "daa622e0703fd5b610d39ad3f1fd6458bee46c7ee661e7f218b5fb11181b1686") ∷
    []

abbrev tags_of_1 : List Bytes
tags_of_1 =
    unhex (codes "63ca7796e2b1afaddb8fa950d0f25628d0d2ad39a30cf3a7c1751f55e87e9a54") ∷
    unhex (codes "491e8bc5ceeaec01eefffa9b34a4bfe77539c230cd07e9f3fefbd7968d3f6710") ∷
    unhex (codes "0f10e9c79b21df0d501eb7b824782e4789a2744f80fed04974c7eada111f1e99") ∷
    []

abbrev point_tag : ℕ → ℕ → Bytes
point_tag h counter = slice_index_or (if h == 0 then tags_of_0 else tags_of_1) (counter - 1) []

-- of a host at its counter
abbrev pub point : ℕ → ℕ → Checkpoint
point h counter = record { pos = 4; state = state_4; body = floors_4; ui = record { host = h; counter = counter; cert = point_tag h counter } }

abbrev pub member : ℕ → ℕ → StableMember
member h counter = record { host = h; counter = counter; floors = floors_digest_4; cert = point_tag h counter }

abbrev pub stable_4 : StableCert
stable_4 = record { pos = 4; state = state_4; members = member 0 2 ∷ member 1 2 ∷ [] }

-- The same two with their floors: where the log of h0 begins.
abbrev floor_member : ℕ → FloorMember
floor_member h = record { host = h; counter = 2; floors = Some floor_0 ∷ None ∷ None ∷ []; cert = point_tag h 2 }

abbrev pub floor_cert_0 : FloorCert
floor_cert_0 = record { pos = 4; state = state_4; members = floor_member 0 ∷ floor_member 1 ∷ [] }

-- h1 joins view 0 there.
abbrev pub join_1 : Join
join_1 = record { view = 0; evidence = None; stable = stable_4; ui = record { host = 1; counter = 1; cert = unhex (codes "985dbf5bbab64839978f48cd45de24674ad24d04ada8a29f9ed0dabf154a17e1") } }
