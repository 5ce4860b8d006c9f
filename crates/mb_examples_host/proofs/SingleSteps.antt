-- Cases of single definitions that tell them from near ones, computed.
use Rattle.std.proofs.Common.{◌≡◌, ℕ, List, [], ◌∷◌, map, refl, Option, Some, None}
use Rattle.std.specs.Prelude.{replicate}
use Rattle.sha2.specs.Sha256.{sha256}
use Rattle.mb_base.specs.Shapes.{Bytes}
use Rattle.mb_base.specs.declared.names.Ui.{Ui}
use Rattle.mb_usig.specs.Tags.{certificate}
use Rattle.mb_parts.specs.declared.batch.Batch.{Batch}
use Rattle.mb_parts.specs.declared.certificates.Evidence.{Evidence}
use Rattle.mb_parts.specs.declared.floor.Floor.{Floor}
use Rattle.mb_parts.specs.declared.floor.Phase.TheVariants as phase
use Rattle.mb_parts.specs.Bares.{bare_bytes}
use Rattle.mb_msg.specs.declared.message.Body.{Body}
use Rattle.mb_msg.specs.declared.message.Body.TheVariants as body
use Rattle.mb_msg.specs.declared.message.Message.TheVariants as message
use Rattle.mb_msg.specs.declared.normal.Floors.{Floors}
use Rattle.mb_msg.specs.declared.normal.Checkpoint.{Checkpoint}
use Rattle.mb_msg.specs.declared.transfer.StateMsg.{StateMsg}
use Rattle.mb_msg.specs.declared.stamped.Stamped.{Stamped as StampedMessage}
use Rattle.mb_msg.specs.declared.stamped.Stamped.TheVariants as stamped
use Rattle.mb_msg.specs.Stamps.{bare_of, with_ui, as_message}
use Rattle.mb_msg.specs.Spelling.{floors_body_bytes}
use Rattle.mb_msg.specs.Plans.{plan_digest}
use Rattle.mb_model.specs.declared.known.Vote.{Vote}
use Rattle.mb_model.specs.Plans.{no_base}
use Rattle.mb_model.specs.States.{digest_string}
use Rattle.mb_msg.specs.declared.event.Outcome.TheVariants as outcome
use Rattle.mb_model.specs.Histories.{Accepted, Stamped, Closed, History}
use Rattle.mb_model.specs.Stable.{low_of}
use Rattle.mb_model.specs.OwnLog.{log_start}
use Rattle.mb_model.specs.Positions.{vote_of}
use Rattle.mb_model.specs.Execution.{missing}
use Rattle.mb_model.specs.Sending.{begin}
use Rattle.mb_model.specs.Making.{floors_under}
use Rattle.mb_model.specs.EnabledRules.{Execute, target, execute_enabled}
use Rattle.mb_model.specs.Given.{give_stamped, give_state}
use Rattle.mb_model.proofs.StepOnLiterals.{host_on_literals}
use Rattle.mb_examples_host.proofs.AgreeingCheckpoints.{secret, host}

-- a batch of one request, whose tag is not looked at
abbrev batch : Batch
batch = record { requests = record { client = 0; seq = 1; op = 9 ∷ []; tag = replicate 32 0 } ∷ [] }

abbrev ui : ℕ → ℕ → Ui
ui h counter = record { host = h; counter = counter; cert = [] }

-- ---- the view to change to is the second greatest of three wishes, the own one included

abbrev wish : ℕ → ℕ → History → History
wish h view d = Accepted (message.ReqViewChange (record { host = h; view = view; tag = [] })) ∷ d

wishes : (target (host 0) (wish 2 5 (wish 1 3 [])) ≡ 3) × (target (host 0) (wish 2 5 []) ≡ 0) × (target (host 0) (wish 1 9 (wish 0 4 [])) ≡ 4)
unfolding host_on_literals
wishes = (refl, refl, refl)

-- ---- a message that is refused behind the gate leaves the gate where it was: the same PREPARE is told again

abbrev no_body : ℕ → StampedMessage
no_body view = stamped.Prepare (record { view = view; pos = 1; body = body.Bare (replicate 32 5); ui = ui 0 1 })

abbrev certified : StampedMessage → StampedMessage
certified m = with_ui (record { host = 0; counter = 1; cert = certificate secret 0 1 (bare_bytes (bare_of m)) }) m

refused_behind_the_gate : (give_stamped (host 1) (certified (no_body 0)) (begin [])).left.history ≡ []
unfolding host_on_literals
refused_behind_the_gate = refl

-- one of a view that its sender did not come to is no vote of a later view: it may not stand there, and closes the gate
later_view_is_illegal : ((give_stamped (host 1) (certified (no_body 1)) (begin [])).outcome ≡ outcome.Illegal 6)
    × ((give_stamped (host 1) (certified (no_body 1)) (begin [])).left.history ≡ Closed 0 1 ∷ [])
unfolding host_on_literals
later_view_is_illegal = (refl, refl)

-- ---- a floor is left out where its host voted beyond the position, and no older one takes its place

-- h1 votes at a position and stamps a CHECKPOINT at 4
abbrev voted_at : ℕ → History
voted_at pos = Accepted (message.Checkpoint (record { pos = 4; state = []; body = body.Bare []; ui = ui 1 2 }))
    ∷ Accepted (message.Commit (record { view = 0; pos = pos; counter = 1; cert = []; body = body.Whole (batch); ui = ui 1 1 })) ∷ []

floor_within : floors_under (host 0) (voted_at 8) 8 ≡ None ∷ Some (record { counter = 2; view = 0; phase = phase.Open; last = 8; top = 8; point = 4 }) ∷ None ∷ []
unfolding host_on_literals
floor_within = refl

floor_beyond : floors_under (host 0) (voted_at 9) 8 ≡ None ∷ None ∷ None ∷ []
unfolding host_on_literals
floor_beyond = refl

-- ---- a certificate is learnt before the log is cut: what agrees below the new stable position cuts nothing any more

abbrev floor : Floor
floor = record { counter = 3; view = 0; phase = phase.Open; last = 2; top = 2; point = 0 }

abbrev whole_floors : Body Floors
whole_floors = body.Whole (record { floors = Some floor ∷ None ∷ None ∷ [] })

abbrev given_point : ℕ → ℕ → Body Floors → History → History
given_point h pos b d = Accepted (message.Checkpoint (record { pos = pos; state = []; body = b; ui = ui h 1 })) ∷ d

abbrev own_point : ℕ → Body Floors → History → History
own_point pos b d = Stamped (stamped.Checkpoint (record { pos = pos; state = []; body = b; ui = ui 0 1 })) ∷ d

abbrev own_prepare : History → History
own_prepare d = Stamped (stamped.Prepare (record { view = 0; pos = 9; body = body.Bare []; ui = ui 0 3 })) ∷ d

-- at 4 the floors agree on a counter that h0 comes to only later; at 8 they came as digests
abbrev learnt_at_eight : History
learnt_at_eight = given_point 1 8 (body.Bare []) (own_prepare (own_point 8 (body.Bare []) (given_point 1 4 whole_floors (own_point 4 whole_floors []))))

learns_first : (low_of (host 0) learnt_at_eight ≡ 8) × (log_start (host 0) learnt_at_eight ≡ 0)
unfolding host_on_literals
learns_first = (refl, refl)

-- ---- an OPEN votes for the batches of its plan where the plan that is held has its digest

abbrev evidence : Bytes → Evidence
evidence plan = record { view = 1; base = 0; end = 1; plan = plan; body = []; counter = 3; cert = []; members = [] }

-- h0 left view 0 and accepts the whole OPEN of h2
abbrev opened : Bytes → History
opened plan = Accepted (message.Open (record { evidence = evidence plan; body = body.Whole (record { stable = no_base; batches = batch ∷ [] }); ui = ui 2 3 }))
    ∷ Stamped (stamped.ViewChange (record { view = 1; body = body.Bare []; ui = ui 0 1 })) ∷ []

abbrev plan : Bytes
plan = plan_digest (record { base = no_base; batches = batch ∷ [] })

abbrev counter_of_vote : Option Vote → ℕ
counter_of_vote None = 0
counter_of_vote (Some x) = x.counter

-- the counter of the vote of h2 at position 1 of view 1, 0 without one
abbrev voted : History → ℕ
voted d = counter_of_vote (vote_of (host 0) d 2 1 1)

votes_with_digest : voted (opened plan) ≡ 3
unfolding host_on_literals
votes_with_digest = refl

no_vote_without : voted (opened (replicate 32 1)) ≡ 0
unfolding host_on_literals
no_vote_without = refl

-- ---- of a STATE with a wrong part no part is kept

abbrev digests : List Bytes
digests = sha256 (1 ∷ []) ∷ replicate 64 (replicate 32 0)

abbrev behind_four : History
behind_four = Accepted (message.Join (record { view = 0; evidence = None; stable = record { pos = 4; state = sha256 (digest_string digests 4); members = [] }; ui = ui 1 1 })) ∷ []

abbrev state_of_two : StateMsg
state_of_two = record { host = 1; pos = 4; digests = digests; first = 0; parts = (1 ∷ []) ∷ (2 ∷ []) ∷ [] }

second_is_wrong : ((give_state (host 0) state_of_two (begin behind_four)).outcome ≡ outcome.WrongDigest 1)
    × (missing (host 0) (give_state (host 0) state_of_two (begin behind_four)).left.history ≡ Some 0)
unfolding host_on_literals
second_is_wrong = (refl, refl)

-- ---- a host does not execute below the stable position, though it has the votes: it waits for the state

-- h2 has the PREPARE of position 1 and the COMMIT of h1 for it, and has not executed it
abbrev has_votes : History
has_votes = Accepted (message.Commit (record { view = 0; pos = 1; counter = 1; cert = []; body = body.Whole (batch); ui = ui 1 1 }))
    ∷ Accepted (message.Prepare (record { view = 0; pos = 1; body = body.Whole (batch); ui = ui 0 1 })) ∷ []

-- and then hears of a stable position
abbrev stable_at : ℕ → History → History
stable_at pos d = Accepted (message.Join (record { view = 0; evidence = None; stable = record { pos = pos; state = []; members = [] }; ui = ui 1 2 })) ∷ d

executes_above_stable_alone : (execute_enabled (host 2) has_votes ≡ Some (Execute 1 (batch))) × (execute_enabled (host 2) (stable_at 0 has_votes) ≡ Some (Execute 1 (batch)))
    × (execute_enabled (host 2) (stable_at 4 has_votes) ≡ None)
unfolding host_on_literals
executes_above_stable_alone = (refl, refl, refl)

-- ---- a CHECKPOINT that came as its digest is in no floor certificate, also where its digest is that of the floors that this host has

-- both at 4, with a floor for h0; h0's own is whole
abbrev point_of : ℕ → Body Floors → Checkpoint
point_of h b = record { pos = 4; state = []; body = b; ui = ui h 3 }

abbrev same_floors : Body Floors
same_floors = body.Bare (sha256 (floors_body_bytes (record { floors = Some floor ∷ None ∷ None ∷ [] })))

-- h0 stamped three messages, the CHECKPOINT last, and that of h1 comes
abbrev both_points : Body Floors → History
both_points b = Accepted (message.Checkpoint (point_of 1 b)) ∷ Stamped (stamped.Checkpoint (point_of 0 whole_floors)) ∷ own_prepare (own_prepare [])

short_floors_cut_nothing : (log_start (host 0) (both_points whole_floors) ≡ 3) × (log_start (host 0) (both_points same_floors) ≡ 0) × (low_of (host 0) (both_points same_floors) ≡ 4)
unfolding host_on_literals
short_floors_cut_nothing = (refl, refl, refl)

-- Either form of it is taken, and stays as it came.
abbrev first_point : Body Floors → StampedMessage
first_point b = certified (stamped.Checkpoint (record { pos = 4; state = replicate 32 7; body = b; ui = ui 0 1 }))

both_forms_are_taken : (map (λ b. (give_stamped (host 1) (first_point b) (begin [])).outcome) (whole_floors ∷ same_floors ∷ []) ≡ outcome.Took ∷ outcome.Took ∷ [])
    × ((give_stamped (host 1) (first_point same_floors) (begin [])).left.history ≡ Accepted (as_message (first_point same_floors)) ∷ [])
unfolding host_on_literals
both_forms_are_taken = (refl, refl)
