-- Single steps of the normal case, computed on the definitions: the order of refusals, and when each rule applies.
use Rattle.std.proofs.Common.{◌≡◌, ℕ, ◌+◌, List, [], ◌∷◌, length, map, Option, Some, None, refl}
use Rattle.std.specs.Prelude.{true, replicate}
use Rattle.mb_usig.specs.Tags.{certificate, request_tag, stop_tag}
use Rattle.mb_parts.specs.declared.request.Request.{Request}
use Rattle.mb_parts.specs.declared.batch.Batch.{Batch}
use Rattle.mb_parts.specs.Bares.{bare_bytes, batch_digest}
use Rattle.mb_msg.specs.declared.event.Placed.{Placed}
use Rattle.mb_msg.specs.declared.event.Outcome.TheVariants as outcome
use Rattle.mb_msg.specs.declared.message.Body.{Body}
use Rattle.mb_msg.specs.declared.message.Body.TheVariants as body
use Rattle.mb_msg.specs.declared.message.Message.TheVariants as message
use Rattle.mb_msg.specs.declared.normal.Reply.{Reply}
use Rattle.mb_msg.specs.declared.stamped.Stamped.{Stamped as StampedMessage}
use Rattle.mb_msg.specs.declared.stamped.Stamped.TheVariants as stamped
use Rattle.mb_msg.specs.Spelling.{kind_of}
use Rattle.mb_msg.specs.Stamps.{bare_of, with_ui, as_message}
use Rattle.mb_model.specs.Histories.{Entry, Accepted, Stamped, Served, Executed, History}
use Rattle.mb_model.specs.Sending.{Progress, begin}
use Rattle.mb_model.specs.KindChecks.{stamped_refusal}
use Rattle.mb_model.specs.PlainChecks.{request_refusal}
use Rattle.mb_model.specs.EnabledRules.{Rule, Commit, Execute, Prepare, commit_enabled, execute_enabled, prepare_enabled}
use Rattle.mb_model.specs.CarriedOut.{execute}
use Rattle.mb_model.specs.Given.{answer}
use Rattle.mb_model.specs.HostStep.{on_message}
use Rattle.mb_model.proofs.StepOnLiterals.{host_on_literals}
use Rattle.mb_examples_host.proofs.AgreeingCheckpoints.{secret, host}

-- ---- three hosts, with k = 4: positions 1 to 8 are in the window

-- client 0 asks with this number; the tag is not right, and looked at only where it is to be
abbrev asked : ℕ → Request
asked seq = record { client = 0; seq = seq; op = 9 ∷ []; tag = replicate 32 0 }

-- the same with its tag
abbrev tagged : ℕ → Request
tagged seq = record (asked seq) { tag = request_tag secret 0 seq (9 ∷ []) }

-- a batch of one request
abbrev alone : ℕ → Batch
alone seq = record { requests = asked seq ∷ [] }

-- its execution, behind what came before
abbrev placed : ℕ → Placed
placed seq = record { request = asked seq; fresh = true }

abbrev executed : ℕ → ℕ → History → History
executed pos seq d = Executed (record { pos = pos; requests = placed seq ∷ [] }) ∷ Served pos (placed seq) ∷ d

-- a PREPARE without a right certificate
abbrev bare_prepare : ℕ → ℕ → ℕ → ℕ → Body Batch → StampedMessage
bare_prepare h counter view pos b = stamped.Prepare (record { view = view; pos = pos; body = b; ui = record { host = h; counter = counter; cert = replicate 32 0 } })

-- a COMMIT of host h at its counter for the PREPARE that the primary made at `named`
abbrev bare_commit : ℕ → ℕ → ℕ → ℕ → Body Batch → StampedMessage
bare_commit h counter named pos b = stamped.Commit (record { view = 0; pos = pos; counter = named; cert = replicate 32 0; body = b; ui = record { host = h; counter = counter; cert = replicate 32 0 } })

-- the same with the certificate of host h at this counter
abbrev certified : ℕ → ℕ → StampedMessage → StampedMessage
certified h counter m = with_ui (record { host = h; counter = counter; cert = certificate secret h counter (bare_bytes (bare_of m)) }) m

abbrev prepare : ℕ → ℕ → ℕ → Body Batch → StampedMessage
prepare counter view pos b = certified 0 counter (bare_prepare 0 counter view pos b)

abbrev accepted : StampedMessage → Entry
accepted m = Accepted (as_message m)

-- a batch that came as its digest
abbrev short : Body Batch
short = body.Bare (replicate 32 5)

-- ---- stamped messages: each is also refused by all later tests, where it can be. The gate is no test of this host.

record RefusedInOrder : Type 0 where
  bad_ui_first : stamped_refusal (host 1) [] (bare_prepare 1 2 1 9 short) ≡ Some outcome.BadUi
  own_future_before_ahead : stamped_refusal (host 1) [] (certified 1 2 (bare_prepare 1 2 1 9 short)) ≡ Some outcome.Idle
  stale_before_later_view : stamped_refusal (host 1) (accepted (prepare 1 0 1 (body.Whole (alone 1))) ∷ []) (prepare 1 1 9 short) ≡ Some (outcome.Stale 2)
  ahead_before_later_view : stamped_refusal (host 1) [] (prepare 2 1 9 short) ≡ Some (outcome.Ahead 1)
  -- A position that is not the next one may not stand there, whatever the window is and whatever the body.
  order_before_window : stamped_refusal (host 1) [] (prepare 1 0 9 short) ≡ Some (outcome.Illegal 6)
  body_at_next_position : stamped_refusal (host 1) [] (prepare 1 0 1 short) ≡ Some (outcome.NeedBody 0 0)
  -- a body is not needed at an executed position
  no_body_at_executed : stamped_refusal (host 1) (executed 1 1 []) (prepare 1 0 1 short) ≡ None
  bad_tag_at_executed : stamped_refusal (host 1) (executed 1 1 []) (prepare 1 0 1 (body.Whole (alone 1))) ≡ Some outcome.BadTag
  -- What may not stand at the gate is refused before it is asked for a later view or the window.
  skipping_is_illegal : stamped_refusal (host 1) [] (prepare 1 0 8 (body.Whole (alone 1))) ≡ Some (outcome.Illegal 6)

refused_in_order : RefusedInOrder
unfolding host_on_literals
refused_in_order = record { bad_ui_first = refl; own_future_before_ahead = refl; stale_before_later_view = refl; ahead_before_later_view = refl; order_before_window = refl; body_at_next_position = refl; no_body_at_executed = refl; bad_tag_at_executed = refl; skipping_is_illegal = refl }

-- ---- requests, after number 2 was executed and number 5 is pending

abbrev five_pending : History
five_pending = Accepted (message.Request (asked 5)) ∷ executed 1 2 []

-- A wrong tag is told first. Then come numbers that are old, that of the last one, and none above what is pending. Number 6 is taken, also where number 5 was
-- executed since.
requests_are_refused : (map (request_refusal (host 1) five_pending) (asked 1 ∷ tagged 1 ∷ tagged 2 ∷ tagged 5 ∷ tagged 6 ∷ [])
    ≡ Some outcome.BadTag ∷ Some (outcome.Old 2) ∷ Some outcome.Again ∷ Some outcome.Idle ∷ None ∷ []) × (request_refusal (host 1) (executed 2 5 five_pending) (tagged 6) ≡ None)
unfolding host_on_literals
requests_are_refused = (refl, refl)

-- ---- a backup commits the next position, in the window

-- its last vote was at a position, and the PREPARE of the next is there
abbrev has_next : ℕ → Body Batch → History
has_next last b = accepted (bare_prepare 0 2 0 (last + 1) b) ∷ Stamped (bare_commit 1 1 1 last (body.Whole (alone 1))) ∷ []

commits_last_position : commit_enabled (host 1) (has_next 7 (body.Whole (alone 1))) ≡ Some (Commit 8 (record { counter = 2; cert = replicate 32 0; digest = batch_digest (alone 1); batch = Some (alone 1) }) (alone 1))
unfolding host_on_literals
commits_last_position = refl

-- a slot beyond the window does not count
commits_nothing_beyond : commit_enabled (host 1) (has_next 8 (body.Whole (alone 1))) ≡ None
unfolding host_on_literals
commits_nothing_beyond = refl

commits_no_digest : commit_enabled (host 1) (has_next 7 short) ≡ None
unfolding host_on_literals
commits_no_digest = refl

primary_commits_nothing : commit_enabled (host 0) (accepted (bare_prepare 0 1 0 1 (body.Whole (alone 1))) ∷ []) ≡ None
unfolding host_on_literals
primary_commits_nothing = refl

-- ---- the position behind the last executed one executes with two votes of three hosts

-- the PREPARE with counter 1, which is the primary's vote. With the COMMIT of h1 behind it, it executes (`executes_above_stable_alone`); alone it does not
-- (`a_commit_brings_its_prepare`).
abbrev one_vote : History
one_vote = accepted (bare_prepare 0 1 0 1 (body.Whole (alone 1))) ∷ []

-- the vote of a COMMIT may come before the slot
votes_before_the_slot : execute_enabled (host 1) (accepted (bare_prepare 0 1 0 1 (body.Whole (alone 1))) ∷ accepted (bare_commit 2 1 1 1 (body.Whole (alone 1))) ∷ []) ≡ Some (Execute 1 (alone 1))
unfolding host_on_literals
votes_before_the_slot = refl

-- for the same batch by another PREPARE
another_counter : execute_enabled (host 1) (accepted (bare_commit 2 1 2 1 (body.Whole (alone 1))) ∷ one_vote) ≡ None
unfolding host_on_literals
another_counter = refl

another_request : execute_enabled (host 1) (accepted (bare_commit 2 1 1 1 (body.Whole (alone 2))) ∷ one_vote) ≡ None
unfolding host_on_literals
another_request = refl

another_position : execute_enabled (host 1) (accepted (bare_commit 2 1 1 2 (body.Whole (alone 1))) ∷ one_vote) ≡ None
unfolding host_on_literals
another_position = refl

-- of two votes of a host the first counts, and once
first_vote_counts : execute_enabled (host 1) (accepted (bare_commit 2 2 1 1 (body.Whole (alone 1))) ∷ accepted (bare_commit 2 1 2 1 (body.Whole (alone 1))) ∷ one_vote) ≡ None
unfolding host_on_literals
first_vote_counts = refl

-- ---- the primary orders the requests that wait, from the lowest client's on, in the window and at most four positions ahead of what it executed

-- the executed positions, and the last vote
abbrev last_vote_at : ℕ → History → History
last_vote_at pos d = Stamped (bare_prepare 0 1 0 pos (body.Whole (record { requests = record { client = 1; seq = 3; op = []; tag = [] } ∷ [] }))) ∷ d

abbrev asks_behind : ℕ → History → Option Rule
asks_behind last d = prepare_enabled (host 0) (Accepted (message.Request (asked 2)) ∷ last_vote_at last d)

-- with position 5 executed
prepares_last_position : asks_behind 7 (executed 5 1 []) ≡ Some (Prepare 8 (alone 2))
unfolding host_on_literals
prepares_last_position = refl

prepares_nothing_beyond : asks_behind 8 (executed 5 1 []) ≡ None
unfolding host_on_literals
prepares_nothing_beyond = refl

-- with nothing executed, or position 1
four_are_ahead : (asks_behind 3 [] ≡ Some (Prepare 4 (alone 2))) × (asks_behind 4 [] ≡ None) × (asks_behind 4 (executed 1 1 []) ≡ Some (Prepare 5 (alone 2))) × (asks_behind 5 (executed 1 1 []) ≡ None)
unfolding host_on_literals
four_are_ahead = (refl, refl, refl, refl)

backup_prepares_nothing : prepare_enabled (host 1) (Accepted (message.Request (asked 1)) ∷ []) ≡ None
unfolding host_on_literals
backup_prepares_nothing = refl

-- of two clients that wait both are in the batch, the lowest first
abbrev of_client_1 : Request
of_client_1 = record { client = 1; seq = 9; op = []; tag = [] }

lowest_client_first : prepare_enabled (host 0) (Accepted (message.Request of_client_1) ∷ Accepted (message.Request (asked 1)) ∷ []) ≡ Some (Prepare 1 (record { requests = asked 1 ∷ of_client_1 ∷ [] }))
unfolding host_on_literals
lowest_client_first = refl

-- but for one that is ordered
ordered_is_left_out : prepare_enabled (host 0) (Stamped (bare_prepare 0 1 0 1 (body.Whole (alone 1))) ∷ Accepted (message.Request of_client_1) ∷ Accepted (message.Request (asked 1)) ∷ []) ≡ Some (Prepare 2 (record { requests = of_client_1 ∷ [] }))
unfolding host_on_literals
ordered_is_left_out = refl

-- a request with a number of a slot is not ordered again, and a greater one is
ordered_already : prepare_enabled (host 0) (Stamped (bare_prepare 0 1 0 1 (body.Whole (alone 2))) ∷ Accepted (message.Request (asked 2)) ∷ []) ≡ None
unfolding host_on_literals
ordered_already = refl

orders_greater_number : prepare_enabled (host 0) (Accepted (message.Request (asked 3)) ∷ Stamped (bare_prepare 0 1 0 1 (body.Whole (alone 2))) ∷ []) ≡ Some (Prepare 2 (alone 3))
unfolding host_on_literals
orders_greater_number = refl

-- ---- what follows from a STOP, a REPLY, a PREPARE that skips positions, and a multiple of the interval

stop_stops : (on_message (host 1) [] (message.Stop (record { tag = stop_tag secret }))).outcome ≡ outcome.Stopping
unfolding host_on_literals
stop_stops = refl

reply_is_idle : (m : Reply) (d : History) → on_message (host 1) d (message.Reply m) ≡ answer outcome.Idle (begin d)
reply_is_idle m d = refl

-- The fourth executed request is answered, a CHECKPOINT is stamped, and 65 parts and the list of their digests count as hashed.
abbrev kinds_and_strings : Progress → List ℕ × ℕ
kinds_and_strings x = (map (λ letter. kind_of letter.says) x.sent, length x.hashed)

checkpoint_at_fourth : kinds_and_strings (execute (host 1) 4 (alone 4) (begin (executed 3 3 []))) ≡ (4 ∷ 5 ∷ [], 66)
unfolding host_on_literals
checkpoint_at_fourth = refl
