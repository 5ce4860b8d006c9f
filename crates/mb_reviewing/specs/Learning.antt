-- What is answered to the text of a record from which is learnt: the history that it proves.
use Rattle.std.specs.Prelude.{◌≡◌, ℕ, ◌≤◌, ◌⊎◌, ⊤, Contains, List, [], ◌∷◌, ◌++◌, length, take, codes, Result, Ok, Err, IfOk}
use Rattle.std.specs.List.{flat_map}
use Rattle.std.specs.Fmt.{decimal}
use Rattle.hex.specs.Hex.{encode_lower}
use Rattle.mb_base.specs.Shapes.{Bytes}
use Rattle.mb_kv.specs.Pairs.{Pairs}
use Rattle.mb_kv.specs.Machine.{kv_machine}
use Rattle.mb_cache.specs.Represents.{machine_of, snapshots_of}
use Rattle.mb_model.specs.Service.{Machine}
use Rattle.mb_model.specs.States.{Snapshots}
use Rattle.mb_msg.specs.declared.event.Slot.{Slot}
use Rattle.mb_sched.specs.declared.records.Record.{Record}
use Rattle.mb_sched.specs.Report.{slot_lines}
use Rattle.mb_edge.specs.Seen.{Device}
use Rattle.mb_answer.specs.Devices.{Responds}
use Rattle.mb_answer.specs.declared.answer.Output.{Output}
use Rattle.mb_answer.specs.Records.{IsRecordText, AnswersText}
use Rattle.mb_learn.specs.declared.learner.Learner.{Learner}
use Rattle.mb_learn.specs.declared.learner.LearnStop.{LearnStop}
use Rattle.mb_learn.specs.declared.learner.LearnStop.TheVariants as stop
use Rattle.mb_learn.specs.Learners.{Represents, Agrees as AgreesWith}
use Rattle.mb_learn.specs.Proved.{IsLearnt, DiffersAt, digest_behind}
use Rattle.mb_reviewing.specs.Given.{given_in}

-- the key-value service
abbrev pub machine : Machine Pairs
machine = machine_of kv_machine

abbrev pub snapshots : Snapshots Pairs
snapshots = snapshots_of kv_machine

-- ---- what is written

-- the slots, as in a report, and the digest of the state behind them
abbrev pub learnt_text : List Slot → Bytes → Bytes
learnt_text slots state = codes "minbft learnt 1\nline " ++ (decimal (length slots) ++ (codes "\n" ++ (flat_map slot_lines slots ++ (codes "state " ++ (encode_lower state ++ codes "\nend\n")))))

-- a position, with the digest that was found and the one that f+1 hosts say
abbrev pub differs_text : ℕ → Bytes → Bytes → Bytes
differs_text position found certified = codes "differs pos " ++ (decimal position ++ (codes " " ++ (encode_lower found ++ (codes " " ++ (encode_lower certified ++ codes "\n")))))

-- ---- answers

module _ (r : Record) where
  -- This is learnt from the service of no keys.
  abbrev pub Learns : List Bytes → List Slot → Type 0
  Learns = IsLearnt r.config.shape machine [] r.config.secret

  abbrev pub Differs : List Bytes → List Slot → ℕ → Bytes → Type 0
  Differs = DiffersAt r.config.shape machine [] snapshots r.config.secret

  abbrev pub state_behind : List Slot → ℕ → Bytes
  state_behind = digest_behind r.config.shape machine [] snapshots

  -- What hosts say of their states differs nowhere.
  abbrev pub Agrees : List Bytes → List Slot → Type 0
  Agrees = AgreesWith r.config.shape r.config.secret machine snapshots []

  -- What was learnt is told: a line for each slot, and the state behind them.
  abbrev pub TellsLearnt : {E : Type 0} → Learner Pairs → Result Output E → Type 0
  TellsLearnt learner result = (given : List Bytes) (slots : List Slot) → Represents r.config.shape r.config.secret machine snapshots [] given slots learner
      → IfOk result (λ a. (a.status ≡ 0) × (a.text.items ≡ learnt_text slots (state_behind slots (length slots))))

  -- The strings are learnt from one after the other: behind so many of them so many slots are executed, those are learnt from these strings, and nothing differs.
  -- In the end all slots are.
  pub record LearntInTurn (given : List Bytes) (slots : List Slot) : Type 0 where
    pub executed : ℕ → ℕ
    pub rises : (m n : ℕ) → m ≤ n → n ≤ length given → executed m ≤ executed n
    pub learnt : (n : ℕ) → n ≤ length given → Learns (take n given) (take (executed n) slots)
    pub agrees : (n : ℕ) → n ≤ length given → Agrees (take n given) (take (executed n) slots)
    pub all : executed (length given) ≡ length slots

  -- The strings before one were learnt from in turn. With that one these slots are learnt, and something differs: here at the lowest position where it does.
  pub record FirstDiffers (given : List Bytes) (slots : List Slot) (position : ℕ) (certified : Bytes) : Type 0 where
    pub before : List Bytes
    pub last : Bytes
    pub later : List Bytes
    pub place : given ≡ before ++ last ∷ later
    pub executed : ℕ
    pub took : LearntInTurn before (take executed slots)
    pub learnt : Learns (before ++ last ∷ []) slots
    pub differs : Differs (before ++ last ∷ []) slots position certified
    pub lowest : (p : ℕ) (other : Bytes) → Differs (before ++ last ∷ []) slots p other → position ≤ p

  -- what comes of learning from these strings, one after the other
  abbrev pub LearnsAll : List Bytes → Result (Unit {0}) LearnStop → Learner Pairs → Type 0
  LearnsAll given (Ok done) learner = (slots : List Slot) × LearntInTurn given slots × Represents r.config.shape r.config.secret machine snapshots [] given slots learner
  LearnsAll given (Err (stop.Differs position found certified)) learner = (slots : List Slot) × FirstDiffers given slots position certified × (found ≡ state_behind slots position)
  LearnsAll given (Err stop.Halted) learner = ⊥
  LearnsAll given (Err stop.NoMemory) learner = ⊤

-- what is answered to a record
pub data AnswersLearn (r : Record) (status : ℕ) (out : Bytes) : Type 0 where
  learnt : (slots : List Slot) → LearntInTurn r (given_in r.entries) slots → status ≡ 0 → out ≡ learnt_text slots (state_behind r slots (length slots)) → AnswersLearn r status out
  differs : (slots : List Slot) (position : ℕ) (certified : Bytes) → FirstDiffers r (given_in r.entries) slots position certified → status ≡ 10 → out ≡ differs_text position (state_behind r slots position) certified → AnswersLearn r status out

-- the statuses that tell what was learnt
abbrev pub learn_findings : List ℕ
learn_findings = 0 ∷ 10 ∷ []

-- the statuses of the word `learn`
abbrev pub learn_statuses : List ℕ
learn_statuses = 0 ∷ 2 ∷ 4 ∷ 5 ∷ 6 ∷ 10 ∷ []

-- what the word does with a text: the answer to it is written, or the text could not be read
abbrev pub LearnsFrom : Bytes → ℕ → Device → Device → Device → Device → Type 0
LearnsFrom text status source source' sink sink' = Responds (AnswersText AnswersLearn text) status source source' sink sink'

-- The text of a record is answered by what is learnt from it, unless memory runs out or a device fails.
abbrev pub IsLearntFrom : Bytes → ℕ → Type 0 → Type 0
IsLearntFrom text status fault = (r : Record) → IsRecordText text r → ¬ fault → Contains learn_findings status ⊎ (status ≡ 4)
