-- What a faulty host stamps.
use Rattle.std.specs.Prelude.{◌≡◌, ℕ, ◌+◌, ◌++◌, ◌∷◌, false, List, length, Option, Some, None}
use Rattle.mb_base.specs.Shapes.{Bytes}
use Rattle.mb_usig.specs.Trusted.{Trusted, ui_at}
use Rattle.mb_parts.specs.Spelling.{ui_bytes}
use Rattle.mb_parts.specs.Bares.{bare_bytes}
use Rattle.mb_msg.specs.declared.stamped.Stamped.{Stamped}
use Rattle.mb_msg.specs.Spelling.{spelling}
use Rattle.mb_msg.specs.Stamps.{bare_of, with_ui, as_message}
use Rattle.mb_model.specs.Histories.{History}
use Rattle.mb_schedule.specs.declared.schedule.Schedule.{Schedule}
use Rattle.mb_schedule.specs.Limits.{is_faulty}
use Rattle.mb_world_model.specs.World.{System, FaultyStamp, update}
use Rattle.mb_members.specs.declared.members.Stamp.{Stamp}
use Rattle.mb_members.specs.declared.members.Member.{Member}
use Rattle.mb_members.specs.Members.{RepresentsMembers}

-- these bytes at the next counter of this trusted part, and the message with its identifier
pub record IsContentStamp (t : Trusted) (content : Stamped) (made : Stamp) : Type 0 where
  pub bare : made.bare ≡ bare_bytes (bare_of content)
  pub message : made.message.items ≡ spelling (as_message (with_ui (ui_at t (t.counter + 1) (bare_bytes (bare_of content))) content))

pub record IsRawStamp (t : Trusted) (bytes : Bytes) (made : Stamp) : Type 0 where
  pub bare : made.bare ≡ bytes
  pub message : made.message.items ≡ bytes ++ ui_bytes (ui_at t (t.counter + 1) bytes)

-- the trusted part of a faulty host that stamped so often
abbrev pub trusted_of : Schedule → ℕ → List FaultyStamp → Trusted
trusted_of s h l = record { shape = s.shape; host = h; secret = s.secret; counter = length l }

-- one more stamp, as it is kept
abbrev pub kept_stamp : Stamp → FaultyStamp
kept_stamp made = record { bare = made.bare; message = made.message.items }

module _ {V : Type 0} (y : System V) where
  -- A faulty host stamped it; a correct one stamps nothing so.
  abbrev pub StampsContent : ℕ → Stamped → (ℕ → History) → (ℕ → List FaultyStamp) → Option Stamp → List (Member V) → Type 0
  StampsContent h content d stamps None members = is_faulty y.schedule h ≡ false
  StampsContent h content d stamps (Some made) members =
      IsContentStamp (trusted_of y.schedule h (stamps h)) content made × RepresentsMembers y members d (update stamps h (kept_stamp made ∷ stamps h))

  abbrev pub StampsBytes : ℕ → Bytes → (ℕ → History) → (ℕ → List FaultyStamp) → Option Stamp → List (Member V) → Type 0
  StampsBytes h bytes d stamps None members = is_faulty y.schedule h ≡ false
  StampsBytes h bytes d stamps (Some made) members =
      IsRawStamp (trusted_of y.schedule h (stamps h)) bytes made × RepresentsMembers y members d (update stamps h (kept_stamp made ∷ stamps h))
