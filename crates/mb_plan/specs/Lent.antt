-- Logs and votes that are lent, as values; and votes by place: the place at index i stands for the position base + 1 + i.
use Rattle.std.specs.Prelude.{◌≡◌, ◌<◌, ◌+◌, ℕ, List, length, Option, None, option_map, slice_index_or}
use Rattle.mb_msg.specs.declared.stamped.Shown.{Shown}
use Rattle.mb_model.specs.Plans.{ShownLog, ShownVote, vote_since, lowest_vote}
use Rattle.mb_plan.specs.declared.logs.ShownLog.{ShownLog as LentLog}
use Rattle.mb_plan.specs.declared.shown_votes.ShownVote.{ShownVote as LentVote}

abbrev pub shown : LentLog → ShownLog
shown log = record { host = log.host; body = log.body.now }

abbrev pub vote : LentVote → ShownVote
vote v = (v.counter, v.batch.now)

abbrev pub vote_at : List (Option LentVote) → ℕ → Option ShownVote
vote_at votes i = option_map vote (slice_index_or votes i None)

-- Each place has the vote of a log for its position. The log stands newest first.
abbrev pub AreVotes : List (Option LentVote) → ℕ → List Shown → Type 0
AreVotes votes base l = (i : ℕ) → i < length votes → vote_at votes i ≡ vote_since (base + 1 + i) l

-- Each place has the lowest vote of logs for its position.
abbrev pub AreLowest : List (Option LentVote) → ℕ → List ShownLog → Type 0
AreLowest votes base logs = (i : ℕ) → i < length votes → vote_at votes i ≡ lowest_vote (base + 1 + i) logs
