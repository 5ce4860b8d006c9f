-- What a learner stands for, and what a call of it answers.
use Rattle.std.specs.Prelude.{◌≡◌, ℕ, ◌+◌, ◌≤◌, true, false, List, [], ◌++◌, length, slice_get, Some, Result, Ok, Err, OnOk, Contains}
use Rattle.mb_base.specs.Shapes.{Bytes}
use Rattle.mb_base.specs.declared.shape.Shape.{Shape}
use Rattle.mb_service.specs.Machine.{ServiceMachine}
use Rattle.mb_parts.specs.declared.batch.Batch.{Batch}
use Rattle.mb_parts.specs.Bares.{Bare}
use Rattle.mb_msg.specs.declared.event.Slot.{Slot}
use Rattle.mb_model.specs.Service.{Machine, batch_of}
use Rattle.mb_model.specs.States.{Snapshots}
use Rattle.mb_cache.specs.Represents.{machine_of, snapshots_of}
use Rattle.mb_learn.specs.declared.heard.Heard.{Heard}
use Rattle.mb_learn.specs.declared.learner.Learner.{Learner}
use Rattle.mb_learn.specs.declared.learner.LearnStop.{LearnStop}
use Rattle.mb_learn.specs.declared.learner.LearnStop.TheVariants as stop
use Rattle.mb_learn.specs.declared.line.Line.{Line}
use Rattle.mb_learn.specs.Executed.{Executes}
use Rattle.mb_learn.specs.Differences.{IsLowest, IsNowhere}
use Rattle.mb_learn.specs.Hearing.{HearsOf, KeepsTables}
use Rattle.mb_learn.specs.Proved.{IsProved, IsLearnt, DiffersAt, digest_behind}

module _ {S : Type 0} (s : Shape) (secret : Bytes) (m : Machine S) (snapshots : Snapshots S) (initial : S) where
  -- Nowhere do f+1 hosts say another digest.
  abbrev pub Agrees : List Bytes → List Slot → Type 0
  Agrees taken slots = (position : ℕ) (certified : Bytes) → DiffersAt s m initial snapshots secret taken slots position certified → ⊥

  -- The learner took these byte strings, each with success, and executed these slots.
  pub record Represents (taken : List Bytes) (slots : List Slot) (x : Learner S) : Type 0 where
    pub runs : x.halted ≡ false
    pub lists : ℕ → List Bare
    pub hears : HearsOf s secret taken lists x.heard
    pub executes : Executes s m initial snapshots slots x.line
    pub news : x.heard.newly_said.items ≡ []
    pub learnt : IsLearnt s m initial secret taken slots
    pub agrees : Agrees taken slots

  -- One byte string more, with so many slots more.
  pub record LearnsMore (taken : List Bytes) (slots : List Slot) (executed : ℕ) (x : Learner S) : Type 0 where
    pub more : List Slot
    pub count : executed ≡ length more
    pub represents : Represents taken (slots ++ more) x

  -- What is learnt from these byte strings differs there, and nowhere below.
  pub record Differs (taken : List Bytes) (slots : List Slot) (position : ℕ) (found certified : Bytes) (x : Learner S) : Type 0 where
    pub halts : x.halted ≡ true
    pub more : List Slot
    pub learnt : IsLearnt s m initial secret taken (slots ++ more)
    pub differs : DiffersAt s m initial snapshots secret taken (slots ++ more) position certified
    pub found_is : found ≡ digest_behind s m initial snapshots (slots ++ more) position
    pub lowest : (p : ℕ) (other : Bytes) → DiffersAt s m initial snapshots secret taken (slots ++ more) p other → position ≤ p

  -- what is answered to one byte string more
  abbrev pub Answers : List Bytes → List Slot → Result ℕ LearnStop → Learner S → Type 0
  Answers taken slots (Ok executed) x = LearnsMore taken slots executed x
  Answers taken slots (Err (stop.Differs position found certified)) x = Differs taken slots position found certified x
  Answers taken slots (Err stop.Halted) x = ⊥
  Answers taken slots (Err stop.NoMemory) x = x.halted ≡ true

  -- ---- pieces of a call

  -- Each of these slots is proved at its position.
  abbrev pub AreProved : List Bytes → List Slot → Type 0
  AreProved taken slots = (q : ℕ) (slot : Slot) → slice_get slots q ≡ Some slot → IsProved s secret taken (q + 1) (batch_of slot)

  -- It executes these slots, of which each is proved.
  pub record Executed (taken : List Bytes) (lists : ℕ → List Bare) (slots : List Slot) (t : Heard) (line : Line S) : Type 0 where
    pub hears : HearsOf s secret taken lists t
    pub executes : Executes s m initial snapshots slots line
    pub proved : AreProved taken slots

  -- Slots were executed until none is proved behind the last, and their positions are noted.
  pub record ExecutedAll (taken : List Bytes) (lists : ℕ → List Bare) (slots : List Slot) (t : Heard) (line : Line S) : Type 0 where
    pub more : List Slot
    pub executed : Executed taken lists (slots ++ more) t line
    pub noted : (p : ℕ) → length slots + 1 ≤ p → p ≤ length (slots ++ more) → Contains t.newly_said.items p

-- What was noted is compared: nothing differs there, or this is the lowest that does.
abbrev pub Compares : {S : Type 0} → Learner S → Result (Unit {0}) LearnStop → Type 0
Compares old (Ok done) = IsNowhere old.heard old.line old.heard.newly_said.items
Compares old (Err (stop.Differs position found certified)) = IsLowest old.heard old.line old.heard.newly_said.items (record { pos = position; found = found; certified = certified })
Compares old (Err stop.Halted) = ⊥
Compares old (Err stop.NoMemory) = ⊥

-- ... and nothing is noted then.
pub record Compared {S : Type 0} (old : Learner S) (result : Result (Unit {0}) LearnStop) (new : Learner S) : Type 0 where
  pub compares : Compares old result
  pub halted : new.halted ≡ old.halted
  pub line : new.line ≡ old.line
  pub heard : KeepsTables old.heard new.heard
  pub news : new.heard.newly_said.items ≡ []

-- ---- whatever was learnt

-- So it is whatever a learner of this service stands for.
abbrev pub WhereLearnt : {S : Type 0} → ServiceMachine S → Learner S → (Shape → Bytes → S → List Bytes → List Slot → Type 0) → Type 0
WhereLearnt {S} m x P = (s : Shape) (secret : Bytes) (initial : S) (taken : List Bytes) (slots : List Slot) → Represents s secret (machine_of m) (snapshots_of m) initial taken slots x → P s secret initial taken slots

-- All that is proved behind its slots is executed, and no batch is proved behind that.
abbrev pub ExecutesProved : {S X E : Type 0} → ServiceMachine S → Learner S → Result X E → Learner S → Type 0
ExecutesProved {S} m old result new = (s : Shape) (secret : Bytes) (initial : S) (taken : List Bytes) (lists : ℕ → List Bare) (slots : List Slot)
    → Executed s secret (machine_of m) (snapshots_of m) initial taken lists slots old.heard old.line
    → OnOk result (ExecutedAll s secret (machine_of m) (snapshots_of m) initial taken lists slots new.heard new.line × ((b : Batch) → IsProved s secret taken (length new.line.slots.items + 1) b → ⊥))
