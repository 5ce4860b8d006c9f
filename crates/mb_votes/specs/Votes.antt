-- The votes of hosts for the positions of a window: of each host, for each position, the first that came.
use Rattle.std.specs.Prelude.{ℕ, ◌≡◌, ◌≢◌, ◌+◌, ◌<◌, ◌≤◌, ◌==◌, ◌&&◌, nat_le, Option, Some, None, is_some, Result, Ok, Err, if◌then◌else◌}
use Rattle.mb_base.specs.declared.shape.Shape.{Shape}
use Rattle.mb_base.specs.Shapes.{host_count, quorum, span, tally}
use Rattle.mb_model.specs.declared.known.Vote.{Vote}
use Rattle.mb_model.specs.Votes.{is_vote}
use Rattle.mb_window.specs.declared.refused.Refused.{Refused}
use Rattle.mb_window.specs.declared.refused.Refused.TheVariants.{Below, Beyond, Filled}
use Rattle.mb_votes.specs.declared.votes.Votes.{Votes}
use Rattle.mb_votes.specs.Ballots.{vote_at}

-- A table of votes stands for a search by host and position: its low end is this one, and the vote of each host is what the search finds.
pub record Represents (shape : Shape) (votes : Votes) (low : ℕ) (search : ℕ → ℕ → Option Vote) : Type 0 where
  pub shape_is : votes.shape ≡ shape
  pub low_is : votes.ballots.low ≡ low
  pub finds : (h p : ℕ) → vote_at votes.ballots h p ≡ search h p

-- ---- what each call makes of the search that a table stands for

-- one vote more
abbrev pub voted : (ℕ → ℕ → Option Vote) → ℕ → ℕ → Vote → ℕ → ℕ → Option Vote
voted search pos host vote h p = if p == pos && h == host then Some vote else search h p

-- none up to a low end
abbrev pub votes_above : ℕ → (ℕ → ℕ → Option Vote) → ℕ → ℕ → Option Vote
votes_above low search h p = if nat_le p low then None else search h p

abbrev pub StandsWith : Votes → ℕ → ℕ → Vote → Votes → Type 0
StandsWith old pos host vote new = (s : Shape) (low : ℕ) (search : ℕ → ℕ → Option Vote) → Represents s old low search → Represents s new low (voted search pos host vote)

abbrev pub StandsAbove : Votes → ℕ → Votes → Type 0
StandsAbove old raised new = (s : Shape) (low : ℕ) (search : ℕ → ℕ → Option Vote) → Represents s old low search → Represents s new raised (votes_above raised search)

-- each refusal exactly where it says, with the vote
abbrev pub Refuses : Votes → ℕ → ℕ → Vote → Result (Unit {0}) (Refused Vote) → Type 0
Refuses t pos host vote (Ok u) = (t.ballots.low < pos) × (pos ≤ t.ballots.low + span t.shape) × (vote_at t.ballots host pos ≡ None)
Refuses t pos host vote (Err (Below low back)) = (pos ≤ t.ballots.low) × (low ≡ t.ballots.low) × (back ≡ vote)
Refuses t pos host vote (Err (Beyond low back)) = (t.ballots.low + span t.shape < pos) × (low ≡ t.ballots.low) × (back ≡ vote)
Refuses t pos host vote (Err (Filled back)) = (t.ballots.low < pos) × (pos ≤ t.ballots.low + span t.shape) × (vote_at t.ballots host pos ≢ None) × (back ≡ vote)

-- ---- scans of the votes

module _ (s : Shape) (search : ℕ → ℕ → Option Vote) where
  -- how many different hosts have voted for a position
  abbrev pub voters : ℕ → ℕ
  voters p = tally (λ h. is_some (search h p)) (host_count s)

  -- how many different hosts have this vote
  abbrev pub matching : ℕ → Vote → ℕ
  matching p x = tally (λ h. is_vote (search h p) x) (host_count s)

  -- f+1 different hosts have equal votes for a position
  abbrev pub Agrees : ℕ → Type 0
  Agrees p = (x : Vote) × (quorum s ≤ matching p x)

  -- the lowest position above the low end at which f+1 different hosts agree; none where there is none
  abbrev pub IsReady : ℕ → Option ℕ → Type 0
  IsReady low (Some p) = (low < p) × Agrees p × ((q : ℕ) → low < q → q < p → Agrees q → ⊥)
  IsReady low None = (q : ℕ) → low < q → Agrees q → ⊥
