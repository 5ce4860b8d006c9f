-- A table of the normal case stands for what it holds itself, so what a call makes of it has the same shape and, where the call says so, the same
-- stable position.
use Rattle.std.proofs.Common.{ℕ, ◌≡◌, ◌/◌, Option, refl, ap, subst, ◌∙◌}
use Rattle.std.specs.Prelude.{option_map, Result, Ok, Err, OnOk, OnErr}
use Rattle.mb_base.specs.declared.shape.Shape.{Shape}
use Rattle.mb_base.specs.Shapes.{interval}
use Rattle.mb_msg.specs.declared.normal.Checkpoint.{Checkpoint}
use Rattle.mb_window.specs.Places.{item_at}
use Rattle.mb_votes.specs.declared.votes.Votes.{Votes}
use Rattle.mb_votes.specs.Ballots.{vote_at}
use Rattle.mb_votes.specs.Votes.{Represents as VotesRepresents}
use Rattle.mb_checkpoints.specs.declared.checkpoints.Checkpoints.{Checkpoints}
use Rattle.mb_checkpoints.specs.Kept.{Represents as KeptRepresents, kept_at, low_of}
use Rattle.mb_normal.specs.declared.normal.Normal.{Normal}
use Rattle.mb_normal.specs.Waiting.{request_of}
use Rattle.mb_normal.specs.Searches.{Searches}
use Rattle.mb_normal.specs.Tables.{Represents, Becomes}
use Rattle.mb_normal.proofs.Tables.{own_kept}

-- the CHECKPOINT of a host at a position
abbrev message_of : Checkpoints → ℕ → ℕ → Option Checkpoint
message_of t h p = option_map (λ k. k.message) (kept_at t (p / interval t.shape) h)

-- what a table holds
abbrev held : Normal → Searches
held t = record {
  low = t.slots.window.low;
  slots = item_at t.slots.window;
  votes = vote_at t.votes.ballots;
  pending = request_of t.pending.by_client.items;
  checkpoints = message_of t.checkpoints;
}

own_votes_at : (t : Votes) (s : Shape) (low : ℕ) → t.shape ≡ s → t.ballots.low ≡ low → VotesRepresents s t low (vote_at t.ballots)
own_votes_at t s low shape at = record { shape_is = shape; low_is = at; finds = λ h p. refl }

own_kept_at : (t : Checkpoints) (s : Shape) (low : ℕ) → t.shape ≡ s → low_of t ≡ low → KeptRepresents s t low (message_of t)
own_kept_at t s low shape at = subst (λ (x : Shape). KeptRepresents x t low (message_of t)) shape (subst (λ (l : ℕ). KeptRepresents t.shape t l (message_of t)) at (own_kept t))

own : (t : Normal) → Represents t.shape t.host t (held t)
own t = record {
  shape_is = refl;
  host_is = refl;
  slots = record { low_is = refl; finds = λ p. refl };
  votes = own_votes_at t.votes t.shape t.slots.window.low t.votes_shape t.votes_low;
  pending = λ c lt. refl;
  checkpoints = own_kept_at t.checkpoints t.shape t.slots.window.low t.checkpoints_shape t.checkpoints_low;
}

pub shape_kept : (old new : Normal) (f : Searches → Searches) → Becomes old new f → new.shape ≡ old.shape
shape_kept old new f is = (is old.shape old.host (held old) (own old)).shape_is

pub shape_kept_or_same : {A E : Type 0} (old new : Normal) (f : Searches → Searches) (r : Result A E) → OnOk r (Becomes old new f) → OnErr r (new ≡ old) → new.shape ≡ old.shape
shape_kept_or_same old new f (Ok u) is same = shape_kept old new f is
shape_kept_or_same old new f (Err e) is same = ap (λ (t : Normal). t.shape) same

pub low_kept : (old new : Normal) (f : Searches → Searches) → (f (held old)).low ≡ old.slots.window.low → Becomes old new f → new.slots.window.low ≡ old.slots.window.low
low_kept old new f at is = (is old.shape old.host (held old) (own old)).slots.low_is ∙ at
