-- Plans that were worked out by hand from the rules, computed on the definitions.
use Rattle.std.proofs.Common.{◌≡◌, ℕ, List, [], ◌∷◌, map, Option, Some, None, refl}
use Rattle.std.specs.Prelude.{flat_map}
use Rattle.mb_base.specs.Shapes.{Bytes}
use Rattle.mb_usig.proofs.OnLiterals.{tags_on_literals}
use Rattle.mb_parts.specs.declared.floor.Floor.{Floor}
use Rattle.mb_parts.specs.declared.floor.Phase.{Phase}
use Rattle.mb_parts.specs.declared.floor.Phase.TheVariants as phase
use Rattle.mb_parts.specs.declared.batch.Batch.{Batch}
use Rattle.mb_parts.specs.declared.certificates.StableCert.{StableCert}
use Rattle.mb_parts.specs.declared.certificates.Evidence.{Evidence}
use Rattle.mb_msg.specs.declared.message.Body.TheVariants.{Whole}
use Rattle.mb_msg.specs.declared.change.Plan.{Plan}
use Rattle.mb_msg.specs.declared.stamped.Shown.{Shown}
use Rattle.mb_msg.specs.declared.stamped.Shown.TheVariants as shown
use Rattle.mb_msg.specs.Plans.{plan_digest, plan_end}
use Rattle.mb_model.specs.Plans.{ShownLog, highest_view, opened_view, plan_of}
use Rattle.mb_model.proofs.OnRecords.{logs_on_literals}
use Rattle.mb_agreement.proofs.ViewChangeData.{three, at_zero, asked, plan_1, log_1, log_2}

-- ---- the logs of h1 and h2 as they leave view 0: h1 voted for the batch at position 1

first_change : (plan_of three (log_1 ∷ log_2 ∷ []) ≡ record { base = at_zero; batches = asked ∷ [] }) × (plan_digest (plan_of three (log_1 ∷ log_2 ∷ [])) ≡ plan_1)
unfolding logs_on_literals tags_on_literals
first_change = (refl, refl)

-- in the other order
other_order : plan_of three (log_2 ∷ log_1 ∷ []) ≡ record { base = at_zero; batches = asked ∷ [] }
unfolding logs_on_literals
other_order = refl

-- ---- small logs; batches have one request and are told by its number, and certificates by their positions and the first byte of the state digest

abbrev asks : ℕ → Batch
asks seq = record { requests = record { client = 0; seq = seq; op = []; tag = [] } ∷ [] }

abbrev stable : ℕ → ℕ → StableCert
stable pos state = record { pos = pos; state = state ∷ []; members = [] }

abbrev log : ℕ → StableCert → List Shown → ShownLog
log host c entries = record { host = host; body = record { floor = None; stable = c; entries = entries } }

-- for a position of view 0, at a counter of the primary
abbrev commit : ℕ → ℕ → ℕ → Shown
commit counter pos seq = shown.Commit (record { view = 0; pos = pos; counter = counter; cert = []; body = Whole (asks seq); ui = record { host = 1; counter = 1; cert = [] } })

-- the same as the primary stamped it, at its own counter
abbrev prepare : ℕ → ℕ → ℕ → Shown
prepare counter pos seq = shown.Prepare (record { view = 0; pos = pos; body = Whole (asks seq); ui = record { host = 0; counter = counter; cert = [] } })

abbrev change : Shown
change = shown.ViewChange (record { view = 1; body = []; ui = record { host = 1; counter = 1; cert = [] } })

-- of view 1: the NEW_VIEW's counter, the base, and the batches behind it
abbrev evidence : ℕ → ℕ → ℕ → Evidence
evidence counter base end = record { view = 1; base = base; end = end; plan = []; body = []; counter = counter; cert = []; members = [] }

abbrev opening : ℕ → StableCert → List ℕ → Shown
opening counter base seqs = shown.Open (record { evidence = evidence counter base.pos base.pos; body = Whole (record { stable = base; batches = map asks seqs }); ui = record { host = 1; counter = 3; cert = [] } })

abbrev join : ℕ → StableCert → Shown
join view c = shown.Join (record { view = view; evidence = None; stable = c; ui = record { host = 1; counter = 3; cert = [] } })

-- for a position of view 1
abbrev commit_1 : ℕ → ℕ → ℕ → Shown
commit_1 counter pos seq = shown.Commit (record { view = 1; pos = pos; counter = counter; cert = []; body = Whole (asks seq); ui = record { host = 1; counter = 4; cert = [] } })

-- a log that begins at a floor in view 1
abbrev at_floor : ℕ → Phase → ShownLog
at_floor host p =
    let f : Option Floor = Some (record { counter = 10; view = 1; phase = p; last = 9; top = 9; point = 8 }) in
    record { host = host; body = record { floor = Some (record { pos = 12; state = []; members = record { host = 0; counter = 9; floors = f ∷ f ∷ f ∷ []; cert = [] } ∷ [] }); stable = stable 12 1; entries = [] } }

-- the numbers of the requests of a batch
abbrev numbers : Batch → List ℕ
numbers b = map (λ r. r.seq) b.requests

-- what a plan is told by: the base's position and state, the numbers of the requests, and the end
abbrev told : List ShownLog → ℕ × (Bytes × (List ℕ × ℕ))
told logs = let p : Plan = plan_of three logs in (p.base.pos, (p.base.state, (flat_map numbers p.batches, plan_end p)))

-- Of several votes for a position the one with the lowest counter is taken: the primary ordered 7 and 8 at counters 5 and 6, and 9 and 9 later.
lowest_counter : told (log 0 (stable 0 1) (commit 8 1 9 ∷ commit 9 2 9 ∷ []) ∷ log 1 (stable 0 1) (commit 5 1 7 ∷ commit 6 2 8 ∷ []) ∷ []) ≡ (0, (1 ∷ [], (7 ∷ 8 ∷ [], 2)))
unfolding logs_on_literals
lowest_counter = refl

-- So also where the lower one is the other host's.
lowest_counter_first : told (log 0 (stable 0 1) (commit 5 1 7 ∷ commit 9 2 9 ∷ []) ∷ log 1 (stable 0 1) (commit 8 1 9 ∷ commit 6 2 8 ∷ []) ∷ []) ≡ (0, (1 ∷ [], (7 ∷ 8 ∷ [], 2)))
unfolding logs_on_literals
lowest_counter_first = refl

-- A PREPARE votes with its own counter.
prepare_counter : (told (log 0 (stable 0 1) (prepare 5 1 7 ∷ prepare 6 2 8 ∷ []) ∷ log 1 (stable 0 1) (commit 5 1 7 ∷ []) ∷ []) ≡ (0, (1 ∷ [], (7 ∷ 8 ∷ [], 2))))
    × (told (log 0 (stable 0 1) (prepare 8 1 9 ∷ []) ∷ log 1 (stable 0 1) (commit 5 1 7 ∷ []) ∷ []) ≡ (0, (1 ∷ [], (7 ∷ [], 1))))
    × (told (log 0 (stable 0 1) (prepare 5 1 7 ∷ []) ∷ log 1 (stable 0 1) (commit 8 1 9 ∷ []) ∷ []) ≡ (0, (1 ∷ [], (7 ∷ [], 1))))
unfolding logs_on_literals
prepare_counter = (refl, refl, refl)

-- An OPEN votes with the counter of its NEW_VIEW, which is below those of all PREPAREs of the view.
open_counter : told (log 0 (stable 0 1) (change ∷ opening 3 (stable 0 1) (4 ∷ 5 ∷ []) ∷ []) ∷ log 2 (stable 0 1) (change ∷ opening 3 (stable 0 1) [] ∷ commit_1 4 1 6 ∷ commit_1 5 2 6 ∷ commit_1 6 3 6 ∷ []) ∷ []) ≡ (0, (1 ∷ [], (4 ∷ 5 ∷ 6 ∷ [], 3)))
unfolding logs_on_literals
open_counter = refl

-- The plan ends before the first position without a vote, though a later one has votes.
gap : told (log 0 (stable 0 1) (commit 5 1 7 ∷ []) ∷ log 1 (stable 0 1) (commit 7 3 9 ∷ []) ∷ []) ≡ (0, (1 ∷ [], (7 ∷ [], 1)))
unfolding logs_on_literals
gap = refl

-- The base is that of an opening where it is the greatest.
base_of_opening : told (log 0 (stable 0 1) (change ∷ opening 3 (stable 4 2) (5 ∷ 6 ∷ []) ∷ []) ∷ log 2 (stable 0 1) [] ∷ []) ≡ (4, (2 ∷ [], (5 ∷ 6 ∷ [], 6)))
unfolding logs_on_literals
base_of_opening = refl

-- So also of a JOIN, which votes for nothing.
base_of_join : told (log 0 (stable 0 1) (change ∷ join 1 (stable 4 2) ∷ commit_1 6 5 8 ∷ []) ∷ log 2 (stable 0 1) (change ∷ opening 3 (stable 0 1) (4 ∷ []) ∷ []) ∷ []) ≡ (4, (2 ∷ [], (8 ∷ [], 5)))
unfolding logs_on_literals
base_of_join = refl

-- The opening of a view below the highest one is no base, and its votes are left out.
lower_view : told (log 0 (stable 0 1) (join 0 (stable 8 2) ∷ commit 6 9 8 ∷ []) ∷ log 2 (stable 0 1) (change ∷ opening 3 (stable 0 1) (4 ∷ []) ∷ []) ∷ []) ≡ (0, (1 ∷ [], (4 ∷ [], 1)))
unfolding logs_on_literals
lower_view = refl

-- The base is a stable certificate where it is the greatest, also of a log of a lower view. Votes at or below it are left out.
base_is_stable : told (log 0 (stable 4 3) (commit 5 1 7 ∷ []) ∷ log 2 (stable 0 1) (change ∷ opening 3 (stable 0 1) (1 ∷ 2 ∷ 3 ∷ 4 ∷ 5 ∷ []) ∷ []) ∷ []) ≡ (4, (3 ∷ [], (5 ∷ [], 5)))
unfolding logs_on_literals
base_is_stable = refl

-- Of certificates at the base the stable one of the lowest host is taken, and that of an opening only where no stable one is there; in any order.
one_certificate : (told (log 0 (stable 0 1) (change ∷ join 1 (stable 4 7) ∷ []) ∷ log 1 (stable 4 8) [] ∷ log 2 (stable 4 9) [] ∷ []) ≡ (4, (8 ∷ [], ([], 4))))
    × (told (log 2 (stable 4 9) [] ∷ log 0 (stable 0 1) (change ∷ join 1 (stable 4 7) ∷ []) ∷ log 1 (stable 4 8) [] ∷ []) ≡ (4, (8 ∷ [], ([], 4))))
    × (told (log 2 (stable 4 9) [] ∷ log 1 (stable 4 8) [] ∷ []) ≡ (4, (8 ∷ [], ([], 4))))
unfolding logs_on_literals
one_certificate = (refl, refl, refl)

-- Of two openings at the base that of the lowest host is taken, in any order.
two_openings : (told (log 0 (stable 0 1) (change ∷ opening 3 (stable 4 2) (5 ∷ []) ∷ []) ∷ log 2 (stable 0 1) (change ∷ join 1 (stable 4 3) ∷ []) ∷ []) ≡ (4, (2 ∷ [], (5 ∷ [], 5))))
    × (told (log 2 (stable 0 1) (change ∷ join 1 (stable 4 3) ∷ []) ∷ log 0 (stable 0 1) (change ∷ opening 3 (stable 4 2) (5 ∷ []) ∷ []) ∷ []) ≡ (4, (2 ∷ [], (5 ∷ [], 5))))
    × (told (log 0 (stable 0 1) (change ∷ join 1 (stable 4 3) ∷ []) ∷ log 2 (stable 0 1) (change ∷ opening 3 (stable 4 2) (5 ∷ []) ∷ []) ∷ []) ≡ (4, (3 ∷ [], (5 ∷ [], 5))))
unfolding logs_on_literals
two_openings = (refl, refl, refl)

-- Votes before the last opening are not those of the view: view 1 was opened without requests.
votes_before_opening : told (log 0 (stable 0 1) (commit 5 1 7 ∷ change ∷ opening 3 (stable 0 1) [] ∷ []) ∷ log 1 (stable 0 1) (commit 5 1 7 ∷ []) ∷ []) ≡ (0, (1 ∷ [], ([], 0)))
unfolding logs_on_literals
votes_before_opening = refl

-- No more than twice the interval stands behind the base.
span_is_eight : told (log 0 (stable 0 1) (change ∷ opening 3 (stable 0 1) (1 ∷ 2 ∷ 3 ∷ 4 ∷ 5 ∷ 6 ∷ 7 ∷ 8 ∷ 9 ∷ []) ∷ []) ∷ log 2 (stable 0 1) [] ∷ []) ≡ (0, (1 ∷ [], (1 ∷ 2 ∷ 3 ∷ 4 ∷ 5 ∷ 6 ∷ 7 ∷ 8 ∷ [], 8)))
unfolding logs_on_literals
span_is_eight = refl

-- The opened view of a log without openings is its floor's, if that is open; and a plan without an opened view ends at its base.
views_at_floors : (opened_view (at_floor 0 phase.Open) ≡ Some 1) × (opened_view (log 0 (stable 0 1) (change ∷ [])) ≡ Some 0)
    × (highest_view (at_floor 0 phase.Changing ∷ at_floor 2 phase.Entered ∷ []) ≡ None)
    × (told (at_floor 0 phase.Changing ∷ at_floor 2 phase.Entered ∷ []) ≡ (12, (1 ∷ [], ([], 12))))
unfolding logs_on_literals
views_at_floors = (refl, refl, refl, refl)

-- The highest opened view counts, and not the longest log: h0 voted three times in view 0, h2 opened view 1 with one request.
longest_log : told (log 0 (stable 0 1) (commit 5 1 7 ∷ commit 6 2 8 ∷ commit 7 3 9 ∷ []) ∷ log 2 (stable 0 1) (change ∷ opening 3 (stable 0 1) (4 ∷ []) ∷ []) ∷ []) ≡ (0, (1 ∷ [], (4 ∷ [], 1)))
unfolding logs_on_literals
longest_log = refl

-- A log whose host is none of the system's is passed over.
no_host : told (log 3 (stable 8 5) [] ∷ log 0 (stable 0 1) (commit 5 1 7 ∷ []) ∷ []) ≡ (0, (1 ∷ [], (7 ∷ [], 1)))
unfolding logs_on_literals
no_host = refl
