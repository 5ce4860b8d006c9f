-- What is heard of all hosts stands for what certificates and shown votes say.
use Rattle.std.specs.Prelude.{◌≡◌, ℕ, ◌+◌, ◌<◌, ◌^◌, ◌⊎◌, Bool, false, ◌&&◌, if◌then◌else◌, List, [], ◌∷◌, ◌++◌, length, ◌==◌, Option, Some, None, option_map, slice_get, IfSome, IsSome, Result, OnOk, Contains}
use Rattle.std.specs.List.{list_any, AllByRecursion}
use Rattle.mb_base.specs.Shapes.{Bytes, host_count}
use Rattle.mb_base.specs.declared.shape.Shape.{Shape}
use Rattle.mb_usig.specs.Tags.{same_bytes}
use Rattle.mb_parts.specs.declared.batch.Batch.{Batch}
use Rattle.mb_parts.specs.Bares.{Bare, batch_digest}
use Rattle.mb_parts.specs.Bares as bare
use Rattle.mb_parts.specs.Claims.{Claim}
use Rattle.mb_parts.specs.Fits.{FitsBatch}
use Rattle.mb_msg.specs.declared.stamped.Shown.{Shown}
use Rattle.mb_msg.specs.declared.stamped.Stamped.{Stamped as StampedMessage}
use Rattle.mb_msg.specs.declared.stamped.Stamped.TheVariants as stamped
use Rattle.mb_model.specs.declared.known.Vote.{Vote}
use Rattle.mb_model.specs.Committed.{Plans}
use Rattle.mb_audit.specs.Stamps.{claims_among}
use Rattle.mb_learn.specs.declared.batches.Batches.{Batches}
use Rattle.mb_learn.specs.declared.checkpoints.Checkpoints.{Checkpoints}
use Rattle.mb_learn.specs.declared.follower.Follower.{Follower}
use Rattle.mb_learn.specs.declared.plans.Plans.{Plans as PlanTable}
use Rattle.mb_learn.specs.declared.votes.Votes.{Votes}
use Rattle.mb_learn.specs.declared.heard.Heard.{Heard}
use Rattle.mb_learn.specs.declared.heard.Opening.{Opening}
use Rattle.mb_learn.specs.Followers.{Follows, IsFollowing}
use Rattle.mb_learn.specs.Held.{known_plans, IsHeld}
use Rattle.mb_learn.specs.Lists.{first_of, IsList, has_vote}
use Rattle.mb_learn.specs.Proved.{says_state}
use Rattle.mb_learn.specs.Shown.{shown_among}
use Rattle.mb_learn.specs.Tables.{text_of, plan_at, IsLowPlan, batch_at, casts_at, AreLow, is_among, said_at, says}

-- ---- OPENs in lists

-- an OPEN in a view by the NEW_VIEW at a counter, with the plan of a digest
abbrev pub is_open : ℕ → ℕ → Bytes → Bare → Bool
is_open view counter plan (bare.Open evidence digest) = evidence.view == view && (evidence.counter == counter && same_bytes evidence.plan plan)
is_open view counter plan _ = false

abbrev pub is_opening : ℕ → ℕ → ℕ → Bytes → Opening → Bool
is_opening host view counter plan o = o.host == host && (o.view == view && (o.counter == counter && same_bytes o.plan plan))

-- ---- whatever was taken

-- There is a follower of each host. Batches, plans and votes have values of messages, which calls can go on with.
pub record IsReady (t : Heard) : Type 0 where
  pub shape : t.usig.shape ≡ t.shape
  pub count : length t.followers.items ≡ host_count t.shape
  pub follow : AllByRecursion (IsFollowing t.shape) t.followers.items
  pub batches : (digest : Bytes) → IfSome (batch_at t.batches digest) (FitsBatch t.shape)
  pub plans : (digest : Bytes) → IfSome (plan_at t.plans digest) IsLowPlan
  pub votes : AreLow t.votes
  pub place : t.votes.executed < 2 ^ 63

-- ---- what was taken

-- The openings are the OPENs in these lists, and the votes those in them for the positions that are not executed.
pub record Counts (plans : Plans) (lists : ℕ → List Bare) (openings : List Opening) (votes : Votes) : Type 0 where
  pub opened : (h view counter : ℕ) (plan : Bytes) → list_any (is_opening h view counter plan) openings ≡ list_any (is_open view counter plan) (lists h)
  pub voted : (p h view : ℕ) (vote : Vote) → votes.executed < p → is_among (casts_at votes p) h view vote ≡ has_vote plans (lists h) view p vote

-- What hosts say of their states is what these certificates say.
abbrev pub Says : Bytes → List Claim → Checkpoints → Type 0
Says secret claims t = (p h : ℕ) (state : Bytes) → says (said_at t p) h state ≡ says_state secret claims p state h

module _ (s : Shape) (secret : Bytes) where
  -- Each follower has the list of its host, by these certificates.
  abbrev pub FollowsAll : List Claim → (ℕ → List Bare) → List Follower → Type 0
  FollowsAll claims lists followers = (h : ℕ) (f : Follower) → slice_get followers h ≡ Some f → Follows s secret h (first_of secret claims h) f (lists h)

  -- The plans are those that are shown first, and the batches those that are held.
  pub record Shows (shown : List Shown) (plans : PlanTable) (batches : Batches) : Type 0 where
    pub plans_are : (digest : Bytes) → option_map text_of (plan_at plans digest) ≡ known_plans s secret shown digest
    pub held : (digest : Bytes) (b : Batch) → batch_at batches digest ≡ Some b → IsHeld s secret shown b × (batch_digest b ≡ digest)
    pub all_held : (b : Batch) → IsHeld s secret shown b → IsSome (batch_at batches (batch_digest b))

  -- All tables are those of certificates, the first for the lists of hosts and the others for what they say of their states; of these votes and OPENs that
  -- are shown whole; and of these lists.
  pub record Hears (claims said : List Claim) (shown : List Shown) (lists : ℕ → List Bare) (t : Heard) : Type 0 where
    pub shape : t.shape ≡ s
    pub secret_is : t.usig.secret ≡ secret
    pub follows : FollowsAll claims lists t.followers.items
    pub counts : Counts (known_plans s secret shown) lists t.openings.items t.votes
    pub shows : Shows shown t.plans t.batches
    pub says_all : Says secret said t.checkpoints

  -- Each list is as long as it can be.
  abbrev pub AreWhole : List Claim → (ℕ → List Bare) → Type 0
  AreWhole claims lists = (h : ℕ) → h < host_count s → IsList s secret h (first_of secret claims h) (lists h)

  -- ... and that is where the followers are.
  pub record FollowsWhole (claims : List Claim) (lists : ℕ → List Bare) (followers : List Follower) : Type 0 where
    pub follows_all : FollowsAll claims lists followers
    pub are_whole : AreWhole claims lists

  -- All of it, with lists that are as long as they can be.
  pub record HearsAll (claims : List Claim) (shown : List Shown) (lists : ℕ → List Bare) (t : Heard) : Type 0 where
    pub hears : Hears claims claims shown lists t
    pub whole : AreWhole claims lists

  -- ... by these byte strings.
  abbrev pub HearsOf : List Bytes → (ℕ → List Bare) → Heard → Type 0
  HearsOf taken = HearsAll (claims_among s taken) (shown_among s taken)

-- ---- what a call leaves

-- The positions at which hosts say something new are noted.
pub record NotesNews (old new : Heard) : Type 0 where
  pub kept : (p : ℕ) → Contains old.newly_said.items p → Contains new.newly_said.items p
  pub noted : (p h : ℕ) (state : Bytes) → (says (said_at new.checkpoints p) h state ≡ says (said_at old.checkpoints p) h state) ⊎ Contains new.newly_said.items p

-- More positions are noted, and nothing that hosts say is changed.
pub record AddsNews (old new : Heard) : Type 0 where
  pub noted_before : (p : ℕ) → Contains old.newly_said.items p → Contains new.newly_said.items p
  pub checkpoints : new.checkpoints ≡ old.checkpoints

-- All but what is noted is as it was.
pub record KeepsTables (old new : Heard) : Type 0 where
  pub shape : new.shape ≡ old.shape
  pub usig : new.usig ≡ old.usig
  pub followers : new.followers ≡ old.followers
  pub openings : new.openings ≡ old.openings
  pub votes : new.votes ≡ old.votes
  pub plans : new.plans ≡ old.plans
  pub batches : new.batches ≡ old.batches
  pub checkpoints : new.checkpoints ≡ old.checkpoints

-- It goes on from the same place.
pub record KeepsPlace (old new : Heard) : Type 0 where
  pub executed : new.votes.executed ≡ old.votes.executed
  pub shape : new.shape ≡ old.shape
  pub news : NotesNews old new
  pub ready : IsReady new

-- Whatever it stands for: now these are shown, too.
pub record Holds (more : List Shown) (old new : Heard) : Type 0 where
  pub shows_too : (s : Shape) (secret : Bytes) (claims said : List Claim) (shown : List Shown) (lists : ℕ → List Bare) → Hears s secret claims said shown lists old
      → Hears s secret claims said (shown ++ more) lists new
  pub keeps : KeepsPlace old new

-- These certificates are there, too, and each list is as long as it can be.
pub record Takes (more : List Claim) (old new : Heard) : Type 0 where
  pub claims_too : (s : Shape) (secret : Bytes) (claims : List Claim) (shown : List Shown) (lists : ℕ → List Bare) → HearsAll s secret claims shown lists old
      → (longer : ℕ → List Bare) × HearsAll s secret (claims ++ more) shown longer new
  pub keeps : KeepsPlace old new

-- ---- pieces of a call

-- what a CHECKPOINT says of its host's state that isn't known
abbrev pub newly_said : Checkpoints → StampedMessage → Option (ℕ × Bytes)
newly_said t (stamped.Checkpoint m) = if says (said_at t m.pos) m.ui.host m.state then None else Some (m.pos, m.state)
newly_said t _ = None

-- the lists with another one of a host
abbrev pub with_list : (ℕ → List Bare) → ℕ → List Bare → ℕ → List Bare
with_list lists host l h = if h == host then l else lists h

-- All but what hosts say of their states is as it was.
pub record SaysOnly (old new : Heard) : Type 0 where
  pub shape : new.shape ≡ old.shape
  pub usig : new.usig ≡ old.usig
  pub followers : new.followers ≡ old.followers
  pub openings : new.openings ≡ old.openings
  pub votes : new.votes ≡ old.votes
  pub plans : new.plans ≡ old.plans
  pub batches : new.batches ≡ old.batches

-- Hosts say of their states what this certificate says, too.
pub record SaysToo (c : Claim) (old new : Heard) : Type 0 where
  pub says_too : (s : Shape) (secret : Bytes) (claims said : List Claim) (shown : List Shown) (lists : ℕ → List Bare) → Hears s secret claims said shown lists old
      → Hears s secret claims (said ++ c ∷ []) shown lists new
  pub usig : new.usig ≡ old.usig
  pub keeps : KeepsPlace old new

-- All but openings and votes is as it was.
pub record CountsOnly (old new : Heard) : Type 0 where
  pub shape : new.shape ≡ old.shape
  pub usig : new.usig ≡ old.usig
  pub followers : new.followers ≡ old.followers
  pub plans : new.plans ≡ old.plans
  pub batches : new.batches ≡ old.batches
  pub checkpoints : new.checkpoints ≡ old.checkpoints
  pub news : new.newly_said ≡ old.newly_said
  pub executed : new.votes.executed ≡ old.votes.executed
  pub low : AreLow old.votes → AreLow new.votes

-- The votes of one message more of a host are counted.
abbrev pub CountsToo : ℕ → ℕ → Bare → Heard → Heard → Type 0
CountsToo host counter m old new = (plans : Plans) (lists : ℕ → List Bare) → ((digest : Bytes) → option_map text_of (plan_at old.plans digest) ≡ plans digest)
    → Counts plans lists old.openings.items old.votes → counter ≡ length (lists host) + 1 → Counts plans (with_list lists host (m ∷ lists host)) new.openings.items new.votes

-- ---- whatever was heard

-- So it is whatever the tables stand for,
abbrev pub WhereHears : Heard → (Shape → Bytes → List Claim → List Claim → List Shown → (ℕ → List Bare) → Type 0) → Type 0
WhereHears t P = (s : Shape) (secret : Bytes) (claims said : List Claim) (shown : List Shown) (lists : ℕ → List Bare) → Hears s secret claims said shown lists t → P s secret claims said shown lists

-- with lists that are as long as they can be,
abbrev pub WhereHearsAll : Heard → (Shape → Bytes → List Claim → List Shown → (ℕ → List Bare) → Type 0) → Type 0
WhereHearsAll t P = (s : Shape) (secret : Bytes) (claims : List Claim) (shown : List Shown) (lists : ℕ → List Bare) → HearsAll s secret claims shown lists t → P s secret claims shown lists

-- and by some byte strings.
abbrev pub WhereHearsOf : Heard → (Shape → Bytes → List Bytes → Type 0) → Type 0
WhereHearsOf t P = (s : Shape) (secret : Bytes) (taken : List Bytes) (lists : ℕ → List Bare) → HearsOf s secret taken lists t → P s secret taken

-- With one claim more they stand for longer lists, which are as long as they can be, where they were so before.
abbrev pub KeepsWhole : {X E : Type 0} → Heard → Claim → Result X E → Heard → Type 0
KeepsWhole old claim result new = (s : Shape) (secret : Bytes) (claims said : List Claim) (shown : List Shown) (lists : ℕ → List Bare) → Hears s secret claims said shown lists old
    → AreWhole s secret claims lists → OnOk result ((longer : ℕ → List Bare) × Hears s secret (claims ++ claim ∷ []) said shown longer new × AreWhole s secret (claims ++ claim ∷ []) longer)

-- They stand for a host's list that is as long as it can be.
abbrev pub FollowsHost : {X E : Type 0} → Heard → ℕ → Result X E → Heard → Type 0
FollowsHost old host result new = (s : Shape) (secret : Bytes) (claims said : List Claim) (shown : List Shown) (lists : ℕ → List Bare) → Hears s secret claims said shown lists old
    → OnOk result ((l : List Bare) × Hears s secret claims said shown (with_list lists host l) new × IsList s secret host (first_of secret claims host) l)

-- A stamp that brings nothing new leaves the followers where they are.
abbrev pub StaysWhole : Heard → Claim → Type 0
StaysWhole t claim = (s : Shape) (secret : Bytes) (claims : List Claim) (lists : ℕ → List Bare) → s ≡ t.shape
    → FollowsWhole s secret claims lists t.followers.items → FollowsWhole s secret (claims ++ claim ∷ []) lists t.followers.items
