-- The ballots of a window: for each position the votes of the hosts.
use Rattle.std.specs.Prelude.{ℕ, ◌≡◌, ◌≤◌, ◌-◌, List, length, Option, Some, None, slice_index_or, slice_set, replicate}
use Rattle.mb_base.specs.Limits.{most_hosts}
use Rattle.mb_base.specs.declared.shape.Shape.{Shape}
use Rattle.mb_base.specs.Shapes.{host_count}
use Rattle.mb_model.specs.declared.known.Vote.{Vote}
use Rattle.mb_window.specs.Places.{Places, places, item_at}

-- the vote of a host
abbrev pub vote_in : List (Option Vote) → ℕ → Option Vote
vote_in votes h = slice_index_or votes h None

-- the ballots of a window, and the vote of a host for a position in them
abbrev pub Ballots : Type 0
Ballots = Places (List (Option Vote))

abbrev pub kept_in : Option (List (Option Vote)) → ℕ → Option Vote
kept_in None h = None
kept_in (Some votes) h = vote_in votes h

abbrev pub vote_at : Ballots → ℕ → ℕ → Option Vote
vote_at ballots h p = kept_in (item_at ballots p) h

-- Hosts that there are not have no vote.
abbrev pub AreOfHosts : Shape → Ballots → Type 0
AreOfHosts s ballots = (h p : ℕ) → host_count s ≤ h → vote_at ballots h p ≡ None

-- the ballots with one vote more in the ballot of a position
abbrev pub set_in : Option (List (Option Vote)) → ℕ → Vote → List (Option Vote)
set_in None host vote = slice_set (replicate most_hosts None) host (Some vote)
set_in (Some votes) host vote = slice_set votes host (Some vote)

abbrev pub with_vote : Ballots → ℕ → ℕ → Vote → Ballots
with_vote b pos host vote = places b.low (slice_set b.items (pos - b.low - 1) (Some (set_in (item_at b pos) host vote)))

-- A ballot has a place for each host of the largest system.
abbrev pub HasPlaces : Ballots → ℕ → Type 0
HasPlaces b pos = (votes : List (Option Vote)) → item_at b pos ≡ Some votes → length votes ≡ most_hosts
