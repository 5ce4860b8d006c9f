-- What a host knows of the positions of its view, behind an entry: what was found before and is left, and what the entry itself says.
use Rattle.std.specs.Prelude.{ℕ, ◌∷◌, nat_le, ◌==◌, Option, None, if◌then◌else◌}
use Rattle.std.specs.Option.{option_or}
use Rattle.mb_parts.specs.Spelling.{batch_bytes}
use Rattle.mb_msg.specs.declared.normal.Prepare.{Prepare}
use Rattle.mb_msg.specs.declared.normal.Commit.{Commit}
use Rattle.mb_msg.specs.Bodies.{body_digest, whole_body}
use Rattle.mb_model.specs.declared.known.Vote.{Vote}
use Rattle.mb_model.specs.declared.known.KnownSlot.{KnownSlot}
use Rattle.mb_model.specs.Histories.{Entry, History, Identity, view_of}
use Rattle.mb_model.specs.Positions.{vote_by, open_vote_by, slot_at, vote_at, in_window}
use Rattle.mb_model.specs.Stable.{low_of}

-- ---- what messages say of one position

-- the slot that a PREPARE is
abbrev pub slot_in_prepare : Prepare → KnownSlot
slot_in_prepare m = record { counter = m.ui.counter; cert = m.ui.cert; digest = body_digest batch_bytes m.body; batch = whole_body m.body }

-- its sender's vote
abbrev pub vote_in_prepare : Prepare → Vote
vote_in_prepare m = record { counter = m.ui.counter; request = body_digest batch_bytes m.body }

-- the vote that a COMMIT is
abbrev pub vote_in_commit : Commit → Vote
vote_in_commit m = record { counter = m.counter; request = body_digest batch_bytes m.body }

-- ---- behind an entry

-- above a position
abbrev pub if_behind : {A : Type 0} → ℕ → ℕ → Option A → Option A
if_behind low p x = if nat_le p low then None else x

-- What was found for a position is left above the stable position, while the host stays in its view.
abbrev pub left_at : {A : Type 0} → ℕ → ℕ → ℕ → ℕ → Option A → Option A
left_at old new low p x = if old == new then if_behind low p x else None

module _ {S : Type 0} (self : Identity S) where
  -- What an entry says of a position counts where the position lies in the window behind it.
  abbrev pub if_in_window : {A : Type 0} → History → ℕ → Option A → Option A
  if_in_window d p x = if in_window self d p then x else None

  -- the slot that is left of those before an entry
  abbrev pub slot_left : Entry → History → ℕ → Option KnownSlot
  slot_left e d p = left_at (view_of self d) (view_of self (e ∷ d)) (low_of self (e ∷ d)) p (slot_at self d p)

  abbrev pub vote_left : Entry → History → ℕ → ℕ → Option Vote
  vote_left e d h p = left_at (view_of self d) (view_of self (e ∷ d)) (low_of self (e ∷ d)) p (vote_at self d h p)

  -- the vote that an entry brings of a host for a position of the host's view: that of its message, or of the last OPEN of that host
  abbrev pub vote_new : Entry → History → ℕ → ℕ → Option Vote
  vote_new e d h p = option_or (vote_by self.host e h (view_of self (e ∷ d)) p) (open_vote_by self (e ∷ d) e h (view_of self (e ∷ d)) p)
