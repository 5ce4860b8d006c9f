-- What calls leave that hold batches and plans.
use Rattle.std.specs.Prelude.{◌≡◌, true, false, List, map, find, None, IsSome}
use Rattle.std.specs.Option.{option_or}
use Rattle.mb_base.specs.Shapes.{Bytes}
use Rattle.mb_usig.specs.Tags.{same_bytes}
use Rattle.mb_parts.specs.declared.batch.Batch.{Batch}
use Rattle.mb_parts.specs.Bares.{batch_digest}
use Rattle.mb_msg.specs.declared.change.OpenBody.{OpenBody}
use Rattle.mb_model.specs.Verified.{are_rightly_tagged}
use Rattle.mb_learn.specs.declared.plans.KnownPlan.{KnownPlan}
use Rattle.mb_learn.specs.declared.heard.Heard.{Heard}
use Rattle.mb_learn.specs.Tables.{plan_at, AddsPlan, batch_at, HoldsBatch, by_openings, AddsVotes}

-- the plan of a body, under this digest
abbrev pub plan_by : Bytes → OpenBody → KnownPlan
plan_by digest body = record { digest = digest; base = body.stable.pos; batches = map batch_digest body.batches }

-- All that concerns hosts is as it was.
pub record KeepsHosts (old new : Heard) : Type 0 where
  pub shape : new.shape ≡ old.shape
  pub usig : new.usig ≡ old.usig
  pub followers : new.followers ≡ old.followers
  pub openings : new.openings ≡ old.openings
  pub checkpoints : new.checkpoints ≡ old.checkpoints
  pub news : new.newly_said ≡ old.newly_said

-- A batch is held where its tags verify.
pub record HoldsTagged (digest : Bytes) (b : Batch) (old new : Heard) : Type 0 where
  pub tagged : are_rightly_tagged old.usig.secret b ≡ true → HoldsBatch old.batches digest b new.batches
  pub untagged : are_rightly_tagged old.usig.secret b ≡ false → new.batches ≡ old.batches
  pub votes : new.votes ≡ old.votes
  pub plans : new.plans ≡ old.plans
  pub hosts : KeepsHosts old new

-- A plan is known, and the votes of the OPENs that name it are counted.
pub record NotesPlan (plan : KnownPlan) (old new : Heard) : Type 0 where
  pub plans : AddsPlan old.plans plan new.plans
  pub votes : AddsVotes (by_openings old.openings.items plan) old.votes new.votes
  pub batches : new.batches ≡ old.batches
  pub hosts : KeepsHosts old new

-- These batches are held; and the plan is known from now on, where none of its digest was before.
pub record HoldsPlan (plan : KnownPlan) (batches : List Batch) (old new : Heard) : Type 0 where
  pub held : (d : Bytes) → batch_at new.batches d ≡ option_or (batch_at old.batches d) (find (λ b. same_bytes (batch_digest b) d) batches)
  pub known : IsSome (plan_at old.plans plan.digest) → (new.plans ≡ old.plans) × (new.votes ≡ old.votes)
  pub noted : plan_at old.plans plan.digest ≡ None → AddsPlan old.plans plan new.plans × AddsVotes (by_openings old.openings.items plan) old.votes new.votes
  pub hosts : KeepsHosts old new
