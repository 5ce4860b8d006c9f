-- What a host knows of the positions of its view: the last executed one, the window above the stable one, slots and votes.
use Rattle.std.specs.Prelude.{ℕ, ◌+◌, ◌-◌, Bool, true, false, ◌&&◌, List, [], ◌∷◌, nat_lt, nat_le, ◌==◌, Option, Some, None, if◌then◌else◌, option_map, option_and_then, slice_get}
use Rattle.std.specs.Option.{option_or}
use Rattle.mb_base.specs.Shapes.{span, host_count, tally}
use Rattle.mb_usig.specs.Tags.{same_bytes}
use Rattle.mb_parts.specs.declared.batch.Batch.{Batch}
use Rattle.mb_parts.specs.declared.certificates.Evidence.{Evidence}
use Rattle.mb_parts.specs.Spelling.{batch_bytes}
use Rattle.mb_parts.specs.Bares.{batch_digest}
use Rattle.mb_parts.specs.declared.limits.TheConstants.{MAX_PLACE}
use Rattle.mb_msg.specs.declared.message.Body.{Body}
use Rattle.mb_msg.specs.declared.message.Message.TheVariants as message
use Rattle.mb_msg.specs.declared.normal.Prepare.{Prepare}
use Rattle.mb_msg.specs.declared.change.Open.{Open}
use Rattle.mb_msg.specs.declared.change.Plan.{Plan}
use Rattle.mb_msg.specs.declared.stamped.Stamped.TheVariants as stamped
use Rattle.mb_msg.specs.Bodies.{body_digest, whole_body}
use Rattle.mb_msg.specs.Plans.{plan_digest}
use Rattle.mb_model.specs.declared.known.Vote.{Vote}
use Rattle.mb_model.specs.declared.known.KnownSlot.{KnownSlot}
use Rattle.mb_model.specs.Votes.{is_vote}
use Rattle.mb_model.specs.Histories.{Entry, Accepted, Stamped, Executed, Installed, History, Identity, view_of}
use Rattle.mb_model.specs.Held.{opened_by, plan_at}
use Rattle.mb_model.specs.Stable.{low_of}

-- the greatest position of all
abbrev pub position_limit : ℕ
position_limit = MAX_PLACE

-- ---- the last executed position; that of a state that was installed

unfoldable pub exec_of : History → ℕ
exec_of [] = 0
exec_of (Executed slot ∷ d) = slot.pos
exec_of (Installed pos parts ∷ d) = pos
exec_of (_ ∷ d) = exec_of d

-- ---- what one entry says of a position of a view

-- the vote that agrees with a slot
abbrev pub slot_vote : KnownSlot → Vote
slot_vote k = record { counter = k.counter; request = k.digest }

-- the batch at a position of a list that begins behind a base
abbrev pub batch_from : ℕ → ℕ → List Batch → Option Batch
batch_from base p batches = if nat_lt base p then slice_get batches (p - base - 1) else None

abbrev pub slot_of_prepare : Prepare → ℕ → ℕ → Option KnownSlot
slot_of_prepare m v p = if m.view == v && m.pos == p then Some (record {
  counter = m.ui.counter;
  cert = m.ui.cert;
  digest = body_digest batch_bytes m.body;
  batch = whole_body m.body;
}) else None

-- a batch that an OPEN carries on, as the NEW_VIEW of its evidence ordered it
abbrev pub slot_of_plan : Evidence → Batch → KnownSlot
slot_of_plan e b = record { counter = e.counter; cert = e.cert; digest = batch_digest b; batch = Some b }

abbrev pub slot_of_open : Open → ℕ → ℕ → Option KnownSlot
slot_of_open m v p = if m.evidence.view == v then option_map (slot_of_plan m.evidence) (option_and_then (λ b. batch_from m.evidence.base p b.batches) (whole_body m.body)) else None

-- A PREPARE is the slot of its position, and the own OPEN makes slots of the positions of its plan.
abbrev pub slot_by : Entry → ℕ → ℕ → Option KnownSlot
slot_by (Accepted (message.Prepare m)) v p = slot_of_prepare m v p
slot_by (Stamped (stamped.Prepare m)) v p = slot_of_prepare m v p
slot_by (Stamped (stamped.Open m)) v p = slot_of_open m v p
slot_by _ v p = None

-- the vote of a message of one host, as a vote of the host that is asked for
abbrev pub vote_with : ℕ → ℕ → ℕ → ℕ → ℕ → ℕ → Body Batch → ℕ → Option Vote
vote_with voter h v p view pos body counter = if view == v && (pos == p && voter == h) then Some (record { counter = counter; request = body_digest batch_bytes body }) else None

-- A PREPARE is its sender's vote at its own counter, a COMMIT at the counter of its PREPARE. What this host stamps is its own vote, its
-- OPEN at the counter of the NEW_VIEW.
abbrev pub vote_by : ℕ → Entry → ℕ → ℕ → ℕ → Option Vote
vote_by own (Accepted (message.Prepare m)) h v p = vote_with m.ui.host h v p m.view m.pos m.body m.ui.counter
vote_by own (Accepted (message.Commit m)) h v p = vote_with m.ui.host h v p m.view m.pos m.body m.counter
vote_by own (Stamped (stamped.Prepare m)) h v p = vote_with own h v p m.view m.pos m.body m.ui.counter
vote_by own (Stamped (stamped.Commit m)) h v p = vote_with own h v p m.view m.pos m.body m.counter
vote_by own (Stamped (stamped.Open m)) h v p = if own == h then option_map slot_vote (slot_of_open m v p) else None
vote_by own _ h v p = None

-- an entry behind which the votes of OPENs are counted: an OPEN was accepted, a plan may have come to be held, or this host came to another
-- view
abbrev pub counts_opens : Entry → Bool
counts_opens (Accepted (message.Open m)) = true
counts_opens (Accepted (message.NewView m)) = true
counts_opens (Stamped (stamped.NewView m)) = true
counts_opens (Stamped (stamped.ViewChange m)) = true
counts_opens _ = false

-- the vote of a host's last OPEN, where it is of this view, and the plan that has its digest is held
abbrev pub open_vote : Option Evidence → Option Plan → ℕ → ℕ → Option Vote
open_vote (Some e) (Some plan) v p = if e.view == v && same_bytes (plan_digest plan) e.plan
    then option_map (λ b. record { counter = e.counter; request = batch_digest b }) (batch_from plan.base.pos p plan.batches) else None
open_vote e plan v p = None

module _ {S : Type 0} (self : Identity S) where
  -- This host has not executed all that is stable.
  abbrev pub is_behind : History → Bool
  is_behind d = nat_lt (exec_of d) (low_of self d)

  -- a position of the window above the stable one; the greatest of all ends it too
  abbrev pub in_window : History → ℕ → Bool
  in_window d p = nat_lt (low_of self d) p && (nat_le p (low_of self d + span self.shape) && nat_le p position_limit)

  -- where slots and votes count: in this host's view, at a position of the window
  abbrev pub counts_at : History → ℕ → ℕ → Bool
  counts_at d v p = view_of self d == v && in_window d p

  -- what is found for a position of a view, where it counts
  abbrev pub if_counts_at : {A : Type 0} → History → ℕ → ℕ → Option A → Option A
  if_counts_at d v p x = if counts_at d v p then x else None

  abbrev pub open_vote_by : History → Entry → ℕ → ℕ → ℕ → Option Vote
  open_vote_by d e h v p = if counts_opens e then open_vote (opened_by d h) (plan_at self d v) v p else None

  -- ---- slots and votes: the first that came counts, of those that counted at their moment. So all are gone behind a VIEW_CHANGE.

  unfoldable pub slot_in : History → ℕ → ℕ → Option KnownSlot
  slot_in [] v p = None
  slot_in (e ∷ d) v p = option_or (slot_in d v p) (if_counts_at (e ∷ d) v p (slot_by e v p))

  unfoldable pub vote_of : History → ℕ → ℕ → ℕ → Option Vote
  vote_of [] h v p = None
  vote_of (e ∷ d) h v p = option_or (vote_of d h v p) (if_counts_at (e ∷ d) v p (option_or (vote_by self.host e h v p) (open_vote_by (e ∷ d) e h v p)))

  -- what is known of a position of the window in this host's view: its slot, and the vote of each host

  abbrev pub slot_at : History → ℕ → Option KnownSlot
  slot_at d p = if in_window d p then slot_in d (view_of self d) p else None

  abbrev pub vote_at : History → ℕ → ℕ → Option Vote
  vote_at d h p = if in_window d p then vote_of d h (view_of self d) p else None

  -- how many hosts have this vote
  abbrev pub matching : History → ℕ → Vote → ℕ
  matching d p x = tally (λ h. is_vote (vote_at d h p) x) (host_count self.shape)
