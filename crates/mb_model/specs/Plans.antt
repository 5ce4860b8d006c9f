-- What f+1 usable logs leave to the next view: a search over all the votes that they show.
use Rattle.std.specs.Prelude.{ℕ, zero, suc, ◌+◌, ◌-◌, Bool, false, ◌&&◌, List, [], ◌∷◌, ◌++◌, map, max, nat_lt, nat_le, ◌==◌, Option, Some, None, if◌then◌else◌, slice_get, option_map, filter, filter_map, unwrap_or, replicate}
use Rattle.std.specs.List.{range_with_len}
use Rattle.mb_base.specs.Shapes.{Bytes, host_count, span}
use Rattle.mb_base.specs.declared.shape.Shape.{Shape}
use Rattle.mb_usig.specs.Tags.{same_bytes}
use Rattle.mb_parts.specs.declared.floor.Floor.{Floor}
use Rattle.mb_parts.specs.declared.certificates.FloorCert.{FloorCert}
use Rattle.mb_parts.specs.declared.certificates.StableCert.{StableCert}
use Rattle.mb_parts.specs.declared.batch.Batch.{Batch}
use Rattle.mb_parts.specs.Certificates.{first_floor}
use Rattle.mb_parts.specs.Ordered.{phase_is_open}
use Rattle.mb_msg.specs.Bodies.{whole_body}
use Rattle.mb_msg.specs.declared.message.Body.{Body}
use Rattle.mb_msg.specs.declared.message.Body.TheVariants.{Whole, Bare as Short}
use Rattle.mb_msg.specs.declared.change.OpenBody.{OpenBody}
use Rattle.mb_msg.specs.declared.change.ChangeBody.{ChangeBody}
use Rattle.mb_msg.specs.declared.change.Plan.{Plan}
use Rattle.mb_msg.specs.declared.stamped.Shown.{Shown}
use Rattle.mb_msg.specs.declared.stamped.Shown.TheVariants as shown
use Rattle.mb_msg.specs.Plans.{plan_end, plan_digest}
use Rattle.mb_model.specs.UsableLogs.{newest_first}

-- a log that was shown, and whose it is
pub record ShownLog : Type 0 where
  pub host : ℕ
  pub body : ChangeBody

-- a vote that a log shows: the primary's counter, and the batch
abbrev pub ShownVote : Type 0
ShownVote = ℕ × Batch

-- Base, end and digest are those of a plan.
abbrev pub are_of_plan : ℕ → ℕ → Bytes → Plan → Bool
are_of_plan base end digest plan = base == plan.base.pos && (end == plan_end plan && same_bytes digest (plan_digest plan))

-- ---- one log, its entries newest first

-- the entries of a log
abbrev pub newest : ShownLog → List Shown
newest log = newest_first [] log.body.entries

-- the view of a floor that stands in an open view
abbrev pub view_if_open : Option Floor → Option ℕ
view_if_open None = None
view_if_open (Some f) = if phase_is_open f.phase then Some f.view else None

-- the view that is open where a log begins: view 0 at its host's start
abbrev pub view_at_floor : ℕ → Option FloorCert → Option ℕ
view_at_floor host None = Some 0
view_at_floor host (Some c) = view_if_open (first_floor host c.members)

-- the view of the last opening; where none is shown, that of the floor
abbrev pub opened_from : Option ℕ → List Shown → Option ℕ
opened_from floor [] = floor
opened_from floor (shown.Open m ∷ l) = Some m.evidence.view
opened_from floor (shown.Join m ∷ l) = Some m.view
opened_from floor (_ ∷ l) = opened_from floor l

-- the view that a log opened last
abbrev pub opened_view : ShownLog → Option ℕ
opened_view log = opened_from (view_at_floor log.host log.body.floor) (newest log)

-- the certificate of the base in the body of an OPEN, where it is shown
abbrev pub body_base : Body OpenBody → Option StableCert
body_base (Whole b) = Some b.stable
body_base (Short digest) = None

-- the certificate of the base of the last opening
abbrev pub base_shown : List Shown → Option StableCert
base_shown [] = None
base_shown (shown.Open m ∷ l) = body_base m.body
base_shown (shown.Join m ∷ l) = Some m.stable
base_shown (_ ∷ l) = base_shown l

-- a vote with this counter, where its batch is shown
abbrev pub vote_with : ℕ → Body Batch → Option ShownVote
vote_with counter body = option_map (λ b. (counter, b)) (whole_body body)

-- an OPEN's vote for a position behind the base of its plan
abbrev pub plan_vote : ℕ → ℕ → ℕ → Body OpenBody → Option ShownVote
plan_vote base counter p (Whole b) = if nat_lt base p then option_map (λ x. (counter, x)) (slice_get b.batches (p - base - 1)) else None
plan_vote base counter p (Short digest) = None

-- the vote for a position since the last opening, or in it
abbrev pub vote_since : ℕ → List Shown → Option ShownVote
vote_since p [] = None
vote_since p (shown.Prepare m ∷ l) = if m.pos == p then vote_with m.ui.counter m.body else vote_since p l
vote_since p (shown.Commit m ∷ l) = if m.pos == p then vote_with m.counter m.body else vote_since p l
vote_since p (shown.Open m ∷ l) = plan_vote m.evidence.base m.evidence.counter p m.body
vote_since p (shown.Join m ∷ l) = None
vote_since p (_ ∷ l) = vote_since p l

-- ---- all the logs

-- the log that is a host's, where there is one
abbrev pub log_of : List ShownLog → ℕ → Option ShownLog
log_of [] h = None
log_of (log ∷ logs) h = if log.host == h then Some log else log_of logs h

-- The logs by rising host. What follows is read off this list, so the order in which logs are given does not matter.
unfoldable pub by_host : Shape → List ShownLog → List ShownLog
by_host s logs = filter_map (λ h. log_of logs h) (range_with_len 0 (host_count s))

-- Both are views, and the same.
abbrev pub same_view : Option ℕ → Option ℕ → Bool
same_view (Some a) (Some b) = a == b
same_view _ _ = false

-- the greater of two views, where there are views
abbrev pub greater : Option ℕ → Option ℕ → Option ℕ
greater (Some a) (Some b) = Some (max a b)
greater (Some a) None = Some a
greater None b = b

-- the highest opened view
abbrev pub highest_view : List ShownLog → Option ℕ
highest_view [] = None
highest_view (log ∷ logs) = greater (opened_view log) (highest_view logs)

-- the logs of which a view is the opened one
abbrev pub of_view : Option ℕ → List ShownLog → List ShownLog
of_view u logs = filter (λ log. same_view (opened_view log) u) logs

-- Of two votes with equal counters the first is taken.
abbrev pub lower_vote : Option ShownVote → Option ShownVote → Option ShownVote
lower_vote (Some a) (Some b) = Some (if nat_le a.0 b.0 then a else b)
lower_vote (Some a) None = Some a
lower_vote None b = b

-- the vote for a position that has the lowest counter
abbrev pub lowest_vote : ℕ → List ShownLog → Option ShownVote
lowest_vote p [] = None
lowest_vote p (log ∷ logs) = lower_vote (vote_since p (newest log)) (lowest_vote p logs)

-- A list of batches ends where there is no vote.
abbrev pub if_voted : Option ShownVote → List Batch → List Batch
if_voted None more = []
if_voted (Some v) more = v.1 ∷ more

-- the batches voted for from this position on, as far as they are consecutive; at most `most`
unfoldable pub batches_from : List ShownLog → ℕ → ℕ → List Batch
batches_from logs p zero = []
batches_from logs p (suc most) = if_voted (lowest_vote p logs) (batches_from logs (p + 1) most)

-- the stable certificate that a log shows
abbrev pub stable_of : ShownLog → StableCert
stable_of log = log.body.stable

-- the certificates of the bases of the logs' last openings
abbrev pub opening_bases : List ShownLog → List StableCert
opening_bases logs = filter_map (λ log. base_shown (newest log)) logs

-- the greatest position of certificates, 0 without any
abbrev pub greatest_position : List StableCert → ℕ
greatest_position [] = 0
greatest_position (c ∷ cs) = max c.pos (greatest_position cs)

-- the first certificate of this position
abbrev pub cert_at : ℕ → List StableCert → Option StableCert
cert_at p [] = None
cert_at p (c ∷ cs) = if c.pos == p then Some c else cert_at p cs

-- the base of what begins at position 0, whose state digest is 32 zero bytes
abbrev pub no_base : StableCert
no_base = record { pos = 0; state = replicate 32 0; members = [] }

-- what the base can be: the stable certificates of all the logs, and behind them the bases of the last openings of the highest view
abbrev pub all_bases : List ShownLog → List StableCert
all_bases logs = map stable_of logs ++ opening_bases (of_view (highest_view logs) logs)

-- the greatest of them; of equal ones the first
abbrev pub base_of : List ShownLog → StableCert
base_of logs = unwrap_or (cert_at (greatest_position (all_bases logs)) (all_bases logs)) no_base

-- of logs that stand by rising host
unfoldable pub plan_in_order : Shape → List ShownLog → Plan
plan_in_order s logs = record { base = base_of logs; batches = batches_from (of_view (highest_view logs) logs) ((base_of logs).pos + 1) (span s) }

-- What the view carries on: the base, and behind it at each position, up to the first that has no vote, the batch that the hosts of
-- the highest opened view voted for with the lowest counter.
abbrev pub plan_of : Shape → List ShownLog → Plan
plan_of s logs = plan_in_order s (by_host s logs)
