-- The votes of the hosts for one position, each with its rank: how many hosts had given it when it came.
use Rattle.std.specs.Prelude.{ℕ, ◌≡◌, Bool, false, nat_le, List, [], ◌∷◌, length, map, max, count_by, Option, Some, None, if◌then◌else◌}
use Rattle.mb_base.specs.Limits.{most_hosts}
use Rattle.mb_model.specs.declared.known.Vote.{Vote}
use Rattle.mb_model.specs.Votes.{is_vote}
use Rattle.mb_votes.specs.declared.ballot.Counted.{Counted}

-- the votes without their ranks
abbrev pub vote_of : Option Counted → Option Vote
vote_of None = None
vote_of (Some c) = Some c.vote

abbrev pub votes_of : List (Option Counted) → List (Option Vote)
votes_of places = map vote_of places

-- the rank of a vote that is this one, 0 of another
abbrev pub rank_of : Vote → Option Counted → ℕ
rank_of x None = 0
rank_of x (Some c) = if is_vote (Some c.vote) x then c.rank else 0

-- whether a vote has at least this rank
abbrev pub has_rank : ℕ → Option Counted → Bool
has_rank rank None = false
has_rank rank (Some c) = nat_le rank c.rank

abbrev pub greatest_rank : Vote → List (Option Counted) → ℕ
greatest_rank x [] = 0
greatest_rank x (c ∷ cs) = max (rank_of x c) (greatest_rank x cs)

-- The greatest rank of each vote is the number of hosts that gave it. There is a place for each host of the largest system.
pub record IsCounted (places : List (Option Counted)) : Type 0 where
  pub width : length places ≡ most_hosts
  pub ranks : (x : Vote) → greatest_rank x places ≡ count_by (λ v. is_vote v x) (votes_of places)
