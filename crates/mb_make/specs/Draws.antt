-- The generator of long schedules, of three hosts, of which host 2 is faulty, and four clients: what it draws, and where it stands then.
use Rattle.std.specs.Prelude.{◌≡◌, ℕ, ◌+◌, ◌*◌, ◌%◌, ◌/◌, ◌^◌, List, [], ◌∷◌, ◌++◌, nat_lt, nat_le, ◌==◌, if◌then◌else◌, slice_index_or, slice_set}
use Rattle.std.specs.Int.{w8, w16}
use Rattle.mb_base.specs.Shapes.{Bytes}
use Rattle.mb_base.specs.Spelling.{number, text, text16}
use Rattle.mb_schedule.specs.declared.schedule.WorldEvent.{WorldEvent}
use Rattle.mb_schedule.specs.declared.schedule.WorldEvent.TheVariants.{Ask, Give, Patience, Nudge, StampPrepare}
use Rattle.mb_make.specs.declared.maker.Maker.{Maker}

-- where a generator stands
pub record Generator : Type 0 where
  pub x : ℕ  -- of its linear congruence
  pub draws : ℕ  -- how many there were
  pub cursors : List ℕ  -- for hosts 0 and 1, the number of the message that is given next

-- what is drawn, and where the generator stands then
pub record Draw : Type 0 where
  pub event : WorldEvent
  pub left : Generator

abbrev pub drawn : WorldEvent → Generator → Draw
drawn e g = record { event = e; left = g }

-- before the first draw
abbrev pub seeded : ℕ → Generator
seeded seed = record { x = seed; draws = 0; cursors = 1 ∷ 1 ∷ [] }

-- what the linear congruence multiplies by, and what it adds
abbrev pub multiplier : ℕ
multiplier = 6364136223846793005

abbrev pub increment : ℕ
increment = 1442695040888963407

-- one step of the linear congruence
abbrev pub stepped : Generator → Generator
stepped g = record g { x = (g.x * multiplier + increment) % 2 ^ 64; draws = g.draws + 1 }

-- ---- the two numbers that a draw takes of x

-- which event it is
abbrev pub choice : Generator → ℕ
choice g = g.x / 2 ^ 33 % 64

-- with what it is drawn
abbrev pub detail : Generator → ℕ
detail g = g.x / 2 ^ 33 / 64

-- ---- events

-- the operation PUT of a key and a value
abbrev pub put : Bytes → Bytes → Bytes
put key value = number w8 1 ++ (text w8 key ++ text16 value)

-- A client asks for PUT of a key of one byte; the value is the number of the draw, from 1.
abbrev pub ask : Generator → WorldEvent
ask g = Ask (detail g % 4) (put (number w8 (detail g % 256)) (number w16 (g.draws % 65536)))

-- the number of the message that a host is given next
abbrev pub cursor : Generator → ℕ → ℕ
cursor g h = slice_index_or g.cursors h 0

-- behind this message
abbrev pub passed : Generator → ℕ → Generator
passed g h = record g { cursors = slice_set g.cursors h (cursor g h + 1) }

module _ (pool : ℕ) where
  -- A host passes over its next message, where there is one, and a client asks.
  abbrev pub skips : Generator → ℕ → Draw
  skips g h = drawn (ask g) (if nat_le (cursor g h) pool then passed g h else g)

  -- A host is given its next message. Where there is none, a client asks.
  abbrev pub gives_next : Generator → ℕ → Draw
  gives_next g h = if nat_le (cursor g h) pool then drawn (Give (cursor g h) h) (passed g h) else drawn (ask g) g

  -- the event of a choice
  abbrev pub chosen : Generator → ℕ → ℕ → Draw
  chosen g k s =
      if k == 0 then drawn (Patience (s % 3)) g
      else (if nat_le k 2 then drawn (Nudge (s % 3)) g
      else (if k == 3 then drawn (Give (1 + s % pool) (s / 64 % 2)) g
      else (if k == 4 then skips g (s % 2)
      else (if k == 5 then drawn (StampPrepare 2 0 (1 + s % 8) (1 ∷ [])) g
      else (if nat_le k 13 then drawn (ask g) g
      else gives_next g (s % 2))))))

  -- The first draw is an ask.
  abbrev pub first_or_chosen : Generator → Draw
  first_or_chosen g = if g.draws == 1 then drawn (ask g) g else chosen g (choice g) (detail g)

  -- the next draw, where so many messages were made
  unfoldable pub draw : Generator → Draw
  draw g = first_or_chosen (stepped g)

-- The code's generator stands there.
pub record Represents (m : Maker) (g : Generator) : Type 0 where
  pub x : m.x ≡ g.x
  pub number : m.number ≡ g.draws % 65536
  pub started : m.started ≡ nat_lt 0 g.draws
  pub cursors : m.cursors ≡ g.cursors

-- From wherever the generator stood, it drew this event, and stands where that draw leaves it.
abbrev pub HasDrawn : (Generator → Draw) → Maker → Maker → WorldEvent → Type 0
HasDrawn f old new e = (g : Generator) → Represents old g → (e ≡ (f g).event) × Represents new (f g).left
