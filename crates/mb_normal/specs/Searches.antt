-- What the tables of the normal case answer: searches by position, host and client, as those in a host's history.
use Rattle.std.specs.Prelude.{ℕ, ◌==◌, List, filter_map, Option, Some, None, if◌then◌else◌}
use Rattle.std.specs.List.{range_with_len}
use Rattle.std.specs.Option.{option_or}
use Rattle.mb_base.specs.declared.shape.Shape.{Shape}
use Rattle.mb_base.specs.Shapes.{host_count, client_count, tally}
use Rattle.mb_parts.specs.declared.request.Request.{Request}
use Rattle.mb_msg.specs.declared.normal.Checkpoint.{Checkpoint}
use Rattle.mb_model.specs.declared.known.Vote.{Vote}
use Rattle.mb_model.specs.declared.known.KnownSlot.{KnownSlot}
use Rattle.mb_model.specs.Votes.{is_vote}
use Rattle.mb_model.specs.Histories.{History, Identity}
use Rattle.mb_model.specs.Stable.{low_of, checkpoint_of, checkpoint_by}
use Rattle.mb_model.specs.Positions.{slot_at, vote_at}
use Rattle.mb_model.specs.Execution.{pending, if_above}
use Rattle.mb_window.specs.Represents.{found_at, above}
use Rattle.mb_votes.specs.Votes.{voted, votes_above}
use Rattle.mb_normal.specs.Ordered.{greatest_in_window}

pub record Searches : Type 0 where
  pub low : ℕ  -- the stable position
  pub slots : ℕ → Option KnownSlot  -- by position, those of the window above it in the host's view
  pub votes : ℕ → ℕ → Option Vote  -- by host and position, likewise
  pub pending : ℕ → Option Request  -- by client
  pub checkpoints : ℕ → ℕ → Option Checkpoint  -- by host and position

-- those in a history
abbrev pub searches_in : {S : Type 0} → Identity S → History → Searches
searches_in self d = record {
  low = low_of self d;
  slots = slot_at self d;
  votes = vote_at self d;
  pending = pending self d;
  checkpoints = checkpoint_of d;
}

-- how many hosts have this vote
abbrev pub matching : Shape → Searches → ℕ → Vote → ℕ
matching s x p v = tally (λ h. is_vote (x.votes h p) v) (host_count s)

-- a client's pending request, where it isn't ordered in the slots
abbrev pub unordered_of : Shape → Searches → ℕ → Option Request
unordered_of s x c = if_above (greatest_in_window s x.low x.slots c) (x.pending c)

-- those of all clients, from the lowest on
abbrev pub unordered : Shape → Searches → List Request
unordered s x = filter_map (unordered_of s x) (range_with_len 0 (client_count s))

-- ---- what calls make of them

-- nothing above this stable position
abbrev pub nothing_above : ℕ → Searches
nothing_above low = record { low = low; slots = λ p. None; votes = λ h p. None; pending = λ c. None; checkpoints = λ h p. None }

abbrev pub with_slot : Searches → ℕ → KnownSlot → Searches
with_slot x pos slot = record x { slots = found_at x.slots pos slot }

abbrev pub with_vote : Searches → ℕ → ℕ → Vote → Searches
with_vote x pos host vote = record x { votes = voted x.votes pos host vote }

abbrev pub with_pending : Searches → Request → Searches
with_pending x r = record x { pending = λ c. if r.client == c then Some r else x.pending c }

abbrev pub with_settled : Searches → ℕ → ℕ → Searches
with_settled x client seq = record x { pending = λ c. if client == c then if_above seq (x.pending c) else x.pending c }

abbrev pub with_checkpoint : Searches → Checkpoint → Searches
with_checkpoint x m = record x { checkpoints = λ h p. option_or (checkpoint_by h p (Some m)) (x.checkpoints h p) }

-- above another stable position. Nobody asks for CHECKPOINTs below it.
abbrev pub above_low : Searches → ℕ → Searches
above_low x low = record x { low = low; slots = above low x.slots; votes = votes_above low x.votes }

-- without slots and votes
abbrev pub without_votes : Searches → Searches
without_votes x = record x { slots = λ p. None; votes = λ h p. None }
