-- What all hosts stamped in a world: issued claims, ordered prefixes, and what the digests of plans stand for. The agreement across views
-- speaks of this record.
use Rattle.std.specs.Prelude.{ℕ, ◌-◌, ◌/◌, Bool, List, [], ◌∷◌, length, ◌==◌, Option, Some, None, Ok, Err, if◌then◌else◌}
use Rattle.std.specs.Int.{w8, w64}
use Rattle.std.specs.Option.{option_or}
use Rattle.sha2.specs.Sha256.{sha256}
use Rattle.mb_base.specs.Shapes.{Bytes}
use Rattle.mb_base.specs.Reading.{Cursor, cursor, Reads, number_at, number_in, pair_at, map_at, repeat_at}
use Rattle.mb_usig.specs.Tags.{same_bytes}
use Rattle.mb_parts.specs.Reading.{digest_at}
use Rattle.mb_parts.specs.Bares.{Bare}
use Rattle.mb_parts.specs.Claims.{Claim}
use Rattle.mb_parts.specs.Issued.{is_issued, stamped_prefix}
use Rattle.mb_model.specs.Committed.{PlanText, Plans}
use Rattle.mb_agreement.specs.Agreement.{IsConsistentRecord, Agrees}
use Rattle.mb_schedule.specs.declared.schedule.Schedule.{Schedule}
use Rattle.mb_world_model.specs.World.{World, stamps}

-- ---- plans by their digests

-- the letter P, the base, the state digest there, and so many digests of batches
unfoldable pub plan_text_at : ℕ → Cursor → Reads PlanText
plan_text_at count = map_at (λ p. record { base = p.1.0; digests = p.1.1.1 }) (pair_at (number_in w8 80 80) (pair_at (number_at w64) (pair_at digest_at (repeat_at digest_at count))))

-- Nothing is left behind it.
abbrev pub if_ended : Reads PlanText → Option PlanText
if_ended (Err at) = None
if_ended (Ok p) = if length p.1.rest == 0 then Some p.0 else None

-- the plan of a string, where it is that of a plan: 41 bytes stand before the digests of the batches
unfoldable pub plan_text_of : Bytes → Option PlanText
plan_text_of bytes = if_ended (plan_text_at ((length bytes - 41) / 32) (cursor 0 bytes))

-- the plan of a string, where it has this digest
abbrev pub plan_with_digest : Bytes → Bytes → Option PlanText
plan_with_digest digest bytes = if same_bytes (sha256 bytes) digest then plan_text_of bytes else None

-- A digest stands for the first plan among these strings that has it.
unfoldable pub plans_of : List Bytes → Plans
plans_of [] digest = None
plans_of (x ∷ xs) digest = option_or (plan_with_digest digest x) (plans_of xs digest)

-- ---- the record of a world

module _ (s : Schedule) (w : World) where
  -- that a host stamped this at this counter
  abbrev pub issued : Claim → Bool
  issued = is_issued s.shape (stamps s w)

  -- the longest ordered prefix of what a host stamped
  abbrev pub prefix : ℕ → List Bare
  prefix = stamped_prefix s.shape (stamps s w)

  -- what plan digests stand for
  abbrev pub plans : Plans
  plans = plans_of w.hashed

  -- The five facts hold on which the agreement stands.
  abbrev pub IsConsistent : Type 0
  IsConsistent = IsConsistentRecord s.shape s.secret plans issued prefix

  -- Views agree: what is committed in one stays in each later one.
  abbrev pub ViewsAgree : Type 0
  ViewsAgree = Agrees s.shape s.secret plans issued prefix
