-- What the tables of a learner hold.
use Rattle.std.specs.Prelude.{◌≡◌, ℕ, ◌+◌, ◌<◌, ◌≤◌, ◌^◌, Bool, false, ◌&&◌, ◌||◌, List, [], ◌∷◌, ◌++◌, length, find, nat_lt, ◌==◌, Option, Some, None, option_map, unwrap_or, if◌then◌else◌}
use Rattle.std.specs.Ordering.{nat_cmp}
use Rattle.std.specs.BTreeMap.{get}
use Rattle.std.specs.Int.{w64, from_be_bytes}
use Rattle.std.specs.List.{list_any, slice_index}
use Rattle.std.specs.Option.{option_or}
use Rattle.mb_base.specs.Shapes.{Bytes}
use Rattle.mb_usig.specs.Tags.{same_bytes}
use Rattle.mb_parts.specs.declared.batch.Batch.{Batch}
use Rattle.mb_model.specs.declared.known.Vote.{Vote}
use Rattle.mb_model.specs.Committed.{PlanText, planned}
use Rattle.mb_model.specs.Votes.{is_vote}
use Rattle.mb_learn.specs.declared.batches.Batches.{Batches}
use Rattle.mb_learn.specs.declared.batches.HeldBatch.{HeldBatch}
use Rattle.mb_learn.specs.declared.checkpoints.Checkpoints.{Checkpoints}
use Rattle.mb_learn.specs.declared.checkpoints.Said.{Said}
use Rattle.mb_learn.specs.declared.heard.Opening.{Opening}
use Rattle.mb_learn.specs.declared.plans.KnownPlan.{KnownPlan}
use Rattle.mb_learn.specs.declared.plans.Plans.{Plans}
use Rattle.mb_learn.specs.declared.votes.Cast.{Cast}
use Rattle.mb_learn.specs.declared.votes.Votes.{Votes}

-- the first eight bytes of a digest, as a number
abbrev pub first_number : Bytes → ℕ
first_number d = from_be_bytes w64 (slice_index d 0 ∷ slice_index d 1 ∷ slice_index d 2 ∷ slice_index d 3 ∷ slice_index d 4 ∷ slice_index d 5 ∷ slice_index d 6 ∷ slice_index d 7 ∷ [])

-- ---- plans

abbrev pub text_of : KnownPlan → PlanText
text_of p = record { base = p.base; digests = p.batches }

-- the first of these with a digest
abbrev pub plan_among : List KnownPlan → Bytes → Option KnownPlan
plan_among plans d = find (λ p. same_bytes p.digest d) plans

abbrev pub plan_at : Plans → Bytes → Option KnownPlan
plan_at t d = plan_among (unwrap_or (get nat_cmp t.by_digest (first_number d)) []) d

-- It ends below the numbers that are no positions.
abbrev pub IsLowPlan : KnownPlan → Type 0
IsLowPlan p = p.base + length p.batches < 2 ^ 63

-- one plan more; the first of its digest stays
abbrev pub AddsPlan : Plans → KnownPlan → Plans → Type 0
AddsPlan old plan new = (d : Bytes) → plan_at new d ≡ option_or (plan_at old d) (if same_bytes plan.digest d then Some plan else None)

-- ---- batches

-- the first of these with a digest
abbrev pub batch_among : List HeldBatch → Bytes → Option Batch
batch_among held d = option_map (λ h. h.batch) (find (λ h. same_bytes h.digest d) held)

abbrev pub batch_at : Batches → Bytes → Option Batch
batch_at t d = batch_among (unwrap_or (get nat_cmp t.by_digest (first_number d)) []) d

-- one batch more; the first of its digest stays
abbrev pub HoldsBatch : Batches → Bytes → Batch → Batches → Type 0
HoldsBatch old digest batch new = (d : Bytes) → batch_at new d ≡ option_or (batch_at old d) (if same_bytes digest d then Some batch else None)

-- ---- votes

-- the vote of a host in a view
abbrev pub is_cast : ℕ → ℕ → Vote → Cast → Bool
is_cast host view vote c = c.host == host && (c.view == view && (c.vote.counter == vote.counter && same_bytes c.vote.request vote.request))

abbrev pub casts_at : Votes → ℕ → List Cast
casts_at t p = unwrap_or (get nat_cmp t.by_position p) []

-- There are votes for positions alone.
abbrev pub AreLow : Votes → Type 0
AreLow t = (p : ℕ) → 2 ^ 63 ≤ p → casts_at t p ≡ []

-- A host has this vote among these.
abbrev pub is_among : List Cast → ℕ → ℕ → Vote → Bool
is_among casts host view vote = list_any (is_cast host view vote) casts

-- One vote more, where its position isn't executed.
pub record AddsCast (old : Votes) (pos : ℕ) (cast : Cast) (new : Votes) : Type 0 where
  pub executed : new.executed ≡ old.executed
  pub casts : (p : ℕ) → casts_at new p ≡ (if p == pos && nat_lt old.executed pos then casts_at old p ++ cast ∷ [] else casts_at old p)

-- One position more is executed. The votes for others stay.
pub record Raises (old new : Votes) : Type 0 where
  pub executed : new.executed ≡ old.executed + 1
  pub casts : (p : ℕ) → casts_at new p ≡ (if p == new.executed then [] else casts_at old p)

-- ---- what hosts say of their states

abbrev pub is_said : ℕ → Bytes → Said → Bool
is_said host state c = c.host == host && same_bytes c.state state

abbrev pub said_at : Checkpoints → ℕ → List Said
said_at t p = unwrap_or (get nat_cmp t.by_position p) []

abbrev pub says : List Said → ℕ → Bytes → Bool
says all host state = list_any (is_said host state) all

-- a host says so, too
abbrev pub AddsSaid : Checkpoints → ℕ → Said → Checkpoints → Type 0
AddsSaid old pos said new = (p : ℕ) → said_at new p ≡ (if p == pos then said_at old p ++ said ∷ [] else said_at old p)

-- ---- votes of OPENs

-- the vote of an opening for a position, where its plan is this one
abbrev pub vote_of : Opening → PlanText → ℕ → Option Vote
vote_of o plan p = option_map (λ r. record { counter = o.counter; request = r }) (planned (Some plan) p)

-- A host votes so in a view by an opening, where its plan is this one.
abbrev pub votes_so : Opening → PlanText → ℕ → ℕ → ℕ → Vote → Bool
votes_so o plan p h view vote = o.host == h && (o.view == view && is_vote (vote_of o plan p) vote)

-- ... where its plan has this digest
abbrev pub votes_with : KnownPlan → Opening → ℕ → ℕ → ℕ → Vote → Bool
votes_with plan o p h view vote = same_bytes o.plan plan.digest && votes_so o (text_of plan) p h view vote

-- ... by one of these openings
abbrev pub by_openings : List Opening → KnownPlan → ℕ → ℕ → ℕ → Vote → Bool
by_openings openings plan p h view vote = list_any (λ o. votes_with plan o p h view vote) openings

-- ... where its plan is known
abbrev pub by_plan : Opening → Option KnownPlan → ℕ → ℕ → ℕ → Vote → Bool
by_plan o None p h view vote = false
by_plan o (Some plan) p h view vote = votes_so o (text_of plan) p h view vote

-- Votes are added: for each position that isn't executed those that this tells.
pub record AddsVotes (added : ℕ → ℕ → ℕ → Vote → Bool) (old new : Votes) : Type 0 where
  pub executed : new.executed ≡ old.executed
  pub low : AreLow old → AreLow new
  pub votes : (p h view : ℕ) (vote : Vote) → old.executed < p → is_among (casts_at new p) h view vote ≡ (is_among (casts_at old p) h view vote || added p h view vote)
