-- What is known of messages, by their numbers.
use Rattle.std.specs.Prelude.{◌≡◌, ℕ, ◌-◌, ◌⊎◌, ◌++◌, true, false, List, Some, None, IfSome, Contains, length, replicate, unwrap_or, slice_get}
use Rattle.std.specs.Option.{option_map}
use Rattle.mb_base.specs.Shapes.{Bytes}
use Rattle.mb_msg.specs.declared.message.Message.{Message}
use Rattle.mb_msg.specs.Spelling.{spelling}
use Rattle.mb_model.specs.Sending.{Letter}
use Rattle.mb_schedule.specs.declared.schedule.Schedule.{Schedule}
use Rattle.mb_replica.specs.declared.told.Said.{Said}
use Rattle.mb_replica.specs.declared.told.Outgoing.{Outgoing}
use Rattle.mb_replica.specs.Told.{KnowsBytes}
use Rattle.mb_world_model.specs.World.{World, numbered, read}
use Rattle.mb_world_model.specs.Forged.{IsUnforged}
use Rattle.mb_members.specs.declared.marks.Mark.{Mark}

-- Of this message nothing is known.
abbrev pub unmarked : Mark
unmarked = record { clean = false; body = None }

-- what is known of the message of a number
abbrev pub mark_at : List Mark → ℕ → Mark
mark_at marks n = unwrap_or (slice_get marks n) unmarked

-- at least so many, of which the new ones say nothing
abbrev pub lengthened : List Mark → ℕ → List Mark
lengthened marks count = marks ++ replicate (count - length marks) unmarked

-- what is known of a message that a correct host just sent
abbrev pub sent_mark : Outgoing → Mark
sent_mark o = record { clean = true; body = option_map (λ (s : Said). s.body) o.said }

-- Each mark says what it said, and that of one number may say too that nothing in its message is forged.
pub record MarkedMore (old new : List Mark) (number n : ℕ) : Type 0 where
  pub body : (mark_at new n).body ≡ (mark_at old n).body
  pub clean : (mark_at new n).clean ≡ true → (n ≡ number) ⊎ ((mark_at old n).clean ≡ true)

-- ---- what marks say

-- The message of this number was made, and where its bytes are one, nothing in it is forged.
pub record IsCleanAt (s : Schedule) (x : World) (n : ℕ) : Type 0 where
  pub bytes : Bytes
  pub made : numbered x.pool n ≡ Some bytes
  pub clean : (m : Message) → read s bytes ≡ Some m → IsUnforged s x m

-- Whatever is read of a message that a host sends, nothing in it is forged.
abbrev pub AreSentClean : Schedule → World → List Letter → Type 0
AreSentClean s x letters = (l : Letter) (m : Message) → Contains letters l → read s (spelling l.says) ≡ Some m → IsUnforged s x m

-- The message of this number was made, and where its bytes are a stamped message, this is the digest of its body.
pub record IsBodyAt (s : Schedule) (x : World) (n : ℕ) (body : Bytes) : Type 0 where
  pub bytes : Bytes
  pub made : numbered x.pool n ≡ Some bytes
  pub knows : KnowsBytes s.shape (Some body) bytes

-- What the mark says is so.
pub record IsMarkAt (s : Schedule) (x : World) (n : ℕ) (mark : Mark) : Type 0 where
  pub clean : mark.clean ≡ true → IsCleanAt s x n
  pub body : IfSome mark.body (IsBodyAt s x n)

-- So is what each says.
abbrev pub AreMarks : Schedule → World → List Mark → Type 0
AreMarks s x marks = (n : ℕ) → IsMarkAt s x n (mark_at marks n)
