-- Shown logs whose first faults were worked out by hand from the rules, computed on the definitions. A fault is the index of an entry and the
-- number of the reason.
use Rattle.std.proofs.Common.{◌≡◌, ℕ, Bool, true, false, List, [], ◌∷◌, Option, Some, None, refl, arith}
use Rattle.std.specs.Prelude.{replicate, codes}
use Rattle.mb_base.specs.Shapes.{Bytes}
use Rattle.mb_base.specs.declared.shape.Shape.{Shape}
use Rattle.mb_usig.proofs.OnLiterals.{tags_on_literals}
use Rattle.mb_parts.specs.declared.floor.Floor.{Floor}
use Rattle.mb_parts.specs.declared.floor.Phase.TheVariants as phase
use Rattle.mb_parts.specs.declared.batch.Batch.{Batch}
use Rattle.mb_parts.specs.declared.certificates.StableCert.{StableCert}
use Rattle.mb_parts.specs.declared.certificates.FloorCert.{FloorCert}
use Rattle.mb_parts.specs.declared.certificates.Evidence.{Evidence}
use Rattle.mb_parts.specs.Bares.{Bare}
use Rattle.mb_parts.specs.Bares as bare
use Rattle.mb_msg.specs.declared.message.Body.{Body}
use Rattle.mb_msg.specs.declared.message.Body.TheVariants.{Whole, Bare as Short}
use Rattle.mb_msg.specs.declared.change.ChangeBody.{ChangeBody}
use Rattle.mb_msg.specs.declared.change.OpenBody.{OpenBody}
use Rattle.mb_msg.specs.declared.stamped.Shown.{Shown}
use Rattle.mb_msg.specs.declared.stamped.Shown.TheVariants as shown
use Rattle.mb_model.specs.Verified.{verifies}
use Rattle.mb_model.specs.UsableLogs.{Fault, log_fault}
use Rattle.mb_model.proofs.Hex.{unhex}
use Rattle.mb_model.proofs.OnRecords.{logs_on_literals}
use Rattle.mb_agreement.proofs.ViewChangeData.{secret, three, at_zero, asked_0, asked_1, asked, plan_1, prepare_cert, shown_by_2, change_entry, enter_entry, open_entry, log_1, log_2}

-- ---- logs with tags that verify

-- of host h with its VIEW_CHANGE to a view at a counter: each tag is to verify
abbrev fault_in : Shape → ℕ → ℕ → ℕ → ChangeBody → Option Fault
fault_in s host view counter b = log_fault s secret (verifies secret) host view counter b

-- five hosts, of which two may be faulty
abbrev five : Shape
five = record { f = 2; k = 4; clients = 1; faults_in = (omega arith, omega arith); interval_in = (omega arith, omega arith); clients_in = (omega arith, omega arith) }

abbrev from_start : List Shown → ChangeBody
from_start entries = record { floor = None; stable = at_zero; entries = entries }

-- An invented view: h3 leaves for view 3 and orders something there, which it never opened.
abbrev invented : ChangeBody
invented = from_start (
    shown.ViewChange (record { view = 3; body = shown_by_2; ui = record { host = 3; counter = 1; cert = unhex (codes "bea379cc956488531384508c014027ea1068d4a09c901c036aa8964ae4f284a8") } })
    ∷ shown.Prepare (record { view = 3; pos = 1; body = Whole asked; ui = record { host = 3; counter = 2; cert = unhex (codes "483c479f8e25ab888d97ae98a0f7417c27b295a5d5765bdd12289bf56828dd6e") } })
    ∷ []
    )

-- ---- what h2 shows as it leaves view 1, which it opened

abbrev second : ChangeBody
second = from_start (change_entry ∷ enter_entry ∷ open_entry ∷ [])

-- ---- the first fault of each. All are computed in one proof, so that each tag is made once.
record FaultsOfTagged : Type 0 where
  an_invented_view : fault_in five 3 5 3 invented ≡ Some (1, 5)
  -- Without a floor certificate a log begins at counter 1.
  no_floor : fault_in three 1 1 13 (from_start (
      shown.Commit (record { view = 0; pos = 1; counter = 1; cert = prepare_cert; body = Whole asked; ui = record { host = 1; counter = 12; cert = unhex (codes "d12b34ae725308765ad0329797c802888323a2fc07ee7ffda4b3f3e1e32c7c01") } })
      ∷ []
      )) ≡ Some (0, 3)
  -- h1 shows its COMMIT, h2 nothing.
  both_usable : (fault_in three 1 1 2 log_1.body ≡ None) × (fault_in three 2 1 1 log_2.body ≡ None)
  -- h1's COMMIT with another tag than its own.
  another_tag : fault_in three 1 1 2 (from_start (
      shown.Commit (record { view = 0; pos = 1; counter = 1; cert = prepare_cert; body = Whole asked; ui = record { host = 1; counter = 1; cert = prepare_cert } })
      ∷ []
      )) ≡ Some (0, 4)
  -- h1's COMMIT of a PREPARE whose tag does not verify: its own tag covers that one, and is right.
  another_prepare : fault_in three 1 1 2 (from_start (
      shown.Commit (record { view = 0; pos = 1; counter = 1; cert = replicate 32 0; body = Whole asked; ui = record { host = 1; counter = 1; cert = unhex (codes "6fa0de9dfdc29ba475cf177bbd4a5c822a8d19ea4016097991b36977a4b36cf9") } })
      ∷ []
      )) ≡ Some (0, 5)
  second_usable : fault_in three 2 2 4 second ≡ None
  -- One stamp more was made than is shown, or one fewer.
  stamps_missing : (fault_in three 2 2 5 second ≡ Some (3, 3)) × (fault_in three 2 2 3 second ≡ Some (3, 3))
  -- It goes to the view in which it is.
  to_its_own_view : fault_in three 2 1 4 second ≡ Some (3, 5)
  of_another_host : fault_in three 0 2 4 second ≡ Some (0, 4)

faults_of_tagged : FaultsOfTagged
unfolding logs_on_literals tags_on_literals
faults_of_tagged = record {
  an_invented_view = refl;
  no_floor = refl;
  both_usable = (refl, refl);
  another_tag = refl;
  another_prepare = refl;
  second_usable = refl;
  stamps_missing = (refl, refl);
  to_its_own_view = refl;
  of_another_host = refl;
}

-- ---- logs in which each claim counts as valid, but for what is said

abbrev fault_of : ℕ → ℕ → ℕ → ChangeBody → Option Fault
fault_of host view counter b = log_fault three secret (λ claim. true) host view counter b

-- h0's and h1's at a position
abbrev stable_at : ℕ → StableCert
stable_at pos = record { pos = pos; state = replicate 32 9; members = record { host = 0; counter = 1; floors = []; cert = [] } ∷ record { host = 1; counter = 1; floors = []; cert = [] } ∷ [] }

abbrev commit_of_1 : ℕ → ℕ → Body Batch → Shown
commit_of_1 counter pos b = shown.Commit (record { view = 0; pos = pos; counter = pos; cert = []; body = b; ui = record { host = 1; counter = counter; cert = [] } })

abbrev join_of_1 : ℕ → ℕ → Shown
join_of_1 counter pos = shown.Join (record { view = 0; evidence = None; stable = stable_at pos; ui = record { host = 1; counter = counter; cert = [] } })

-- h0 orders a batch at its counter and a position.
abbrev prepare_of_0 : ℕ → ℕ → Shown
prepare_of_0 counter pos = shown.Prepare (record { view = 0; pos = pos; body = Whole asked; ui = record { host = 0; counter = counter; cert = [] } })

-- A vote before a JOIN is not to be whole.
abbrev behind_join : Body Batch → ChangeBody
behind_join b = record { floor = None; stable = stable_at 4; entries = commit_of_1 1 1 b ∷ join_of_1 2 4 ∷ commit_of_1 3 5 (Whole asked) ∷ [] }

-- With an interval of 4 a host votes for the positions up to 8 above the stable one.
abbrev commits : List ℕ → List Shown
commits [] = []
commits (p ∷ ps) = commit_of_1 p p (Whole asked) ∷ commits ps

-- A batch of which one request has another tag than its client's: the first, or the second.
abbrev tagged_badly : Batch
tagged_badly = record { requests = record asked_0 { tag = replicate 32 0 } ∷ asked_1 ∷ [] }

abbrev second_tagged_badly : Batch
second_tagged_badly = record { requests = asked_0 ∷ record asked_1 { tag = replicate 32 0 } ∷ [] }

-- h2 leaves for view 1, and opens it.
abbrev leaves : Shown
leaves = shown.ViewChange (record { view = 1; body = []; ui = record { host = 2; counter = 1; cert = [] } })

abbrev evidence_of : ℕ → ℕ → Bytes → Evidence
evidence_of base end plan = record { view = 1; base = base; end = end; plan = plan; body = []; counter = 3; cert = []; members = record { host = 2; counter = 2; cert = [] } ∷ [] }

abbrev open_of : ℕ → ℕ → Bytes → Body OpenBody → Shown
open_of base end plan b = shown.Open (record { evidence = evidence_of base end plan; body = b; ui = record { host = 2; counter = 2; cert = [] } })

-- The bodies of view 1's OPEN are its plan's: the base's certificate, at the base, and the batches that give the plan digest.
abbrev opened : ℕ → ℕ → Bytes → StableCert → List Batch → ChangeBody
opened base end plan stable batches = from_start (leaves ∷ open_of base end plan (Whole (record { stable = stable; batches = batches })) ∷ [])

-- of base 4 with 32 bytes 9 as state digest, and without batches
abbrev plan_of_none : Bytes
plan_of_none = unhex (codes "86e9dbf944c7493d61d673cd0c789d18aa59599c1ce78c22a5f5cdb936d66548")

-- The requests of an OPEN are rightly tagged too: of two plans with right digests one has a request that its client did not tag.
abbrev plan_of_tagged_badly : Bytes
plan_of_tagged_badly = unhex (codes "4874bb5ca8e823fc0b7eb18da8f025ce38bfed51821c83783fb97789e793f514")

-- The last OPEN is to be whole. An OPEN before a JOIN is not.
abbrev joined : Shown
joined = shown.Join (record { view = 1; evidence = Some (evidence_of 0 1 plan_1); stable = stable_at 4; ui = record { host = 2; counter = 3; cert = [] } })

abbrev first_plan : Body OpenBody
first_plan = Whole (record { stable = at_zero; batches = asked ∷ [] })

abbrev open_and_join : Body OpenBody → ChangeBody
open_and_join b = record { floor = None; stable = stable_at 4; entries = leaves ∷ open_of 0 1 plan_1 b ∷ joined ∷ [] }

-- no CHECKPOINT counts as stamped
abbrev no_checkpoint : Bare → Bool
no_checkpoint (bare.Checkpoint pos state digest) = false
no_checkpoint _ = true

-- ---- floors

abbrev open_at : ℕ → Floor
open_at counter = record { counter = counter; view = 0; phase = phase.Open; last = 8; top = 8; point = 8 }

-- of these two hosts at position 12, both with the same floors
abbrev floor_cert : ℕ → ℕ → List (Option Floor) → FloorCert
floor_cert a b floors = record { pos = 12; state = replicate 32 9; members = record { host = a; counter = 9; floors = floors; cert = [] } ∷ record { host = b; counter = 9; floors = floors; cert = [] } ∷ [] }

abbrev behind_floor : ℕ → FloorCert → ChangeBody
behind_floor stable c = record { floor = Some c; stable = stable_at stable; entries = [] }

-- What stands behind a floor goes on from there: from its counter, and from its last position.
abbrev goes_on : List Shown → ChangeBody
goes_on entries = record { floor = Some (floor_cert 0 1 (Some (open_at 10) ∷ None ∷ None ∷ [])); stable = stable_at 12; entries = entries }

-- A stable certificate of one host is none.
abbrev one_member : StableCert
one_member = record { pos = 4; state = replicate 32 9; members = record { host = 0; counter = 1; floors = []; cert = [] } ∷ [] }

-- With an interval of 4 at most 24 entries are PREPAREs, COMMITs or CHECKPOINTs. That is looked for before all entries: these have no right counter.
abbrev checkpoint : Shown
checkpoint = shown.Checkpoint (record { pos = 1; state = []; body = []; ui = record { host = 0; counter = 5; cert = [] } })

-- ---- the first fault of each of these
record FaultsOfClaimed : Type 0 where
  -- A vote of the present is to be whole.
  short_vote : fault_of 1 1 2 (from_start (commit_of_1 1 1 (Short []) ∷ [])) ≡ Some (0, 6)
  votes_before_join : (fault_of 1 1 4 (behind_join (Whole asked)) ≡ Some (0, 6)) × (fault_of 1 1 4 (behind_join (Short [])) ≡ None)
  window : (fault_of 1 1 9 (from_start (commits (1 ∷ 2 ∷ 3 ∷ 4 ∷ 5 ∷ 6 ∷ 7 ∷ 8 ∷ []))) ≡ None)
      × (fault_of 1 1 10 (from_start (commits (1 ∷ 2 ∷ 3 ∷ 4 ∷ 5 ∷ 6 ∷ 7 ∷ 8 ∷ 9 ∷ []))) ≡ Some (8, 7))
  bad_tag : (fault_of 1 1 2 (from_start (commit_of_1 1 1 (Whole tagged_badly) ∷ [])) ≡ Some (0, 8)) × (fault_of 1 1 2 (from_start (commit_of_1 1 1 (Whole second_tagged_badly) ∷ [])) ≡ Some (0, 8))
  plan_bodies : (fault_of 2 2 3 (opened 4 4 plan_of_none (stable_at 4) []) ≡ None)
      × (fault_of 2 2 3 (opened 4 4 plan_of_none (stable_at 8) []) ≡ Some (1, 8))
      × (fault_of 2 2 3 (opened 4 4 plan_of_none (stable_at 4) (asked ∷ [])) ≡ Some (1, 8))
      × (fault_of 2 2 3 (opened 4 5 plan_of_none (stable_at 4) (asked ∷ [])) ≡ Some (1, 8))
  tags_in_plans : (fault_of 2 2 3 (opened 0 1 plan_1 at_zero (asked ∷ [])) ≡ None) × (fault_of 2 2 3 (opened 0 1 plan_of_tagged_badly at_zero (tagged_badly ∷ [])) ≡ Some (1, 8))
  forms_of_opens : (fault_of 2 2 3 (from_start (leaves ∷ open_of 0 1 plan_1 (Short []) ∷ [])) ≡ Some (1, 6))
      × (fault_of 2 2 4 (open_and_join first_plan) ≡ Some (1, 6)) × (fault_of 2 2 4 (open_and_join (Short [])) ≡ None)
  -- The end of an OPEN is at most 8 above the stable position too. That is looked for before its body.
  plan_ends : (fault_of 2 2 3 (opened 4 9 plan_of_none (stable_at 4) []) ≡ Some (1, 7)) × (fault_of 2 2 3 (opened 4 8 plan_of_none (stable_at 4) []) ≡ Some (1, 8))
  -- A whole OPEN whose base has a certificate of invented members, with the right state digest: the plan digest agrees, and the certificate does not check.
  invented_base : log_fault three secret (λ claim. no_checkpoint claim.says) 2 2 3 (opened 4 4 plan_of_none (stable_at 4) []) ≡ Some (1, 8)
  floors : (fault_of 0 1 11 (behind_floor 12 (floor_cert 0 1 (Some (open_at 10) ∷ None ∷ None ∷ []))) ≡ None)  -- it goes on from counter 11
      × (fault_of 0 1 11 (behind_floor 12 (floor_cert 1 0 (Some (open_at 10) ∷ None ∷ None ∷ []))) ≡ Some (0, 1))  -- hosts that don't rise
      × (fault_of 0 1 11 (behind_floor 12 (floor_cert 0 1 (None ∷ Some (open_at 10) ∷ None ∷ []))) ≡ Some (0, 1))  -- another host's floor
      × (fault_of 0 1 11 (behind_floor 8 (floor_cert 0 1 (Some (open_at 10) ∷ None ∷ None ∷ []))) ≡ Some (0, 2))  -- what is stable is below the floor
      × (fault_of 0 1 11 (behind_floor 8 (floor_cert 1 0 (Some (open_at 10) ∷ None ∷ None ∷ []))) ≡ Some (0, 1))  -- both: the first is told
  entries_behind_a_floor : (fault_of 0 1 13 (goes_on (prepare_of_0 11 9 ∷ prepare_of_0 12 10 ∷ [])) ≡ None)
      × (fault_of 0 1 13 (goes_on (prepare_of_0 10 9 ∷ prepare_of_0 11 10 ∷ [])) ≡ Some (0, 3))
      × (fault_of 0 1 13 (goes_on (prepare_of_0 11 8 ∷ prepare_of_0 12 9 ∷ [])) ≡ Some (0, 5))
      × (fault_of 0 1 3 (goes_on (prepare_of_0 1 9 ∷ prepare_of_0 2 10 ∷ [])) ≡ Some (0, 3))
  few_members : fault_of 1 1 1 (record { floor = None; stable = one_member; entries = [] }) ≡ Some (0, 2)
  too_long : (fault_of 0 1 2 (from_start (replicate 25 checkpoint)) ≡ Some (0, 9)) × (fault_of 0 1 2 (from_start (replicate 24 checkpoint)) ≡ Some (0, 3))

faults_of_claimed : FaultsOfClaimed
unfolding logs_on_literals tags_on_literals
faults_of_claimed = record {
  short_vote = refl;
  votes_before_join = (refl, refl);
  window = (refl, refl);
  bad_tag = (refl, refl);
  plan_bodies = (refl, refl, refl, refl);
  tags_in_plans = (refl, refl);
  forms_of_opens = (refl, refl, refl);
  plan_ends = (refl, refl);
  invented_base = refl;
  floors = (refl, refl, refl, refl, refl);
  entries_behind_a_floor = (refl, refl, refl, refl);
  few_members = refl;
  too_long = (refl, refl);
}
