-- Which statuses can come, and what is written with them.
use Rattle.std.proofs.Common.{◌≡◌, ℕ, ◌≤◌, ◌<◌, length, Option, Some, None, Result, Ok, Err, IfOk, IfSome, refl, sym, subst, ◌∙◌, arith, ◌⊎◌, inl, inr}
use Rattle.std.specs.Prelude.{Contains, IfErr, IsErrOf}
use Rattle.mb_base.specs.Shapes.{Bytes}
use Rattle.mb_base.specs.declared.writing.NoMemory.{NoMemory}
use Rattle.mb_edge.specs.Faults.{Rose, HasNoFault, TellsFaults}
use Rattle.mb_edge.specs.declared.reading.ReadStop.{ReadStop}
use Rattle.mb_edge.specs.declared.reading.ReadStop.TheVariants as stop
use Rattle.mb_sched.specs.declared.bad_text.BadText.{BadText}
use Rattle.mb_sched.specs.declared.bad_text.BadText.TheVariants as fault
use Rattle.mb_sched.specs.declared.configs.Config.{Config}
use Rattle.mb_sched.specs.Configs.{max_config, config_of, config_contents}
use Rattle.mb_sched.specs.TextLines.{ReadsText}
use Rattle.mb_answer.specs.declared.answer.Output.{Output}
use Rattle.mb_answer.specs.Refusals.{IsRefusal}
use Rattle.mb_answer.specs.Configs as config
use Rattle.mb_answer.specs.Configs.{RefusesConfig, lack_statuses}
use Rattle.mb_answer.specs.Texts.{too_long_text}
use Rattle.mb_edge.specs.Seen.{Device}
use Rattle.mb_answer.specs.Devices.{Says, said, failed, cut_short, SaysOrStarves, says, lacks, IsUnread, IsFinding, IsToldBy, IsLow, Responds, answered, unread, starved}

-- ---- numbers

pub told_low : (s : ℕ) → IsToldBy s → IsLow s
told_low s (inl lt) = inl (omega (arith, lt))
told_low s (inr finding) = inr finding

finding_least : (s : ℕ) → IsFinding s → 10 ≤ s
finding_least s (inl is) = omega (arith, is)
finding_least s (inr (inl is)) = omega (arith, is)
finding_least s (inr (inr (inl is))) = omega (arith, is)
finding_least s (inr (inr (inr (inl is)))) = omega (arith, is)
finding_least s (inr (inr (inr (inr is)))) = omega (arith, is)

finding_most : (s : ℕ) → IsFinding s → s < 18
finding_most s (inl is) = omega (arith, is)
finding_most s (inr (inl is)) = omega (arith, is)
finding_most s (inr (inr (inl is))) = omega (arith, is)
finding_most s (inr (inr (inr (inl is)))) = omega (arith, is)
finding_most s (inr (inr (inr (inr is)))) = omega (arith, is)

finding_no_disk : (s : ℕ) → IsFinding s → ¬ (s ≡ 14)
finding_no_disk s (inl found) = λ is. absurd (omega (arith, found, is))
finding_no_disk s (inr (inl found)) = λ is. absurd (omega (arith, found, is))
finding_no_disk s (inr (inr (inl found))) = λ is. absurd (omega (arith, found, is))
finding_no_disk s (inr (inr (inr (inl found)))) = λ is. absurd (omega (arith, found, is))
finding_no_disk s (inr (inr (inr (inr found)))) = λ is. absurd (omega (arith, found, is))

pub told_is_not : (s n : ℕ) → IsToldBy s → 4 ≤ n → n < 10 → ¬ (s ≡ n)
told_is_not s n (inl lt) le below = λ is. absurd (omega (arith, lt, le, is))
told_is_not s n (inr finding) le below = let least = finding_least s finding in λ is. absurd (omega (arith, least, below, is))

-- A low status is not that of a link's fault,
pub low_no_link : (s : ℕ) → IsLow s → ¬ (s ≡ 7)
low_no_link s (inl lt) = λ is. absurd (omega (arith, lt, is))
low_no_link s (inr finding) = let least = finding_least s finding in λ is. absurd (omega (arith, least, is))

-- nor that of a spawner's fault,
pub low_no_spawner : (s : ℕ) → IsLow s → ¬ (s ≡ 8)
low_no_spawner s (inl lt) = λ is. absurd (omega (arith, lt, is))
low_no_spawner s (inr finding) = let least = finding_least s finding in λ is. absurd (omega (arith, least, is))

-- nor that of a disk's fault,
pub low_no_disk : (s : ℕ) → IsLow s → ¬ (s ≡ 14)
low_no_disk s (inl lt) = λ is. absurd (omega (arith, lt, is))
low_no_disk s (inr finding) = finding_no_disk s finding

-- nor that of a bad end.
pub low_no_end : (s : ℕ) → IsLow s → ¬ (s ≡ 18)
low_no_end s (inl lt) = λ is. absurd (omega (arith, lt, is))
low_no_end s (inr finding) = let most = finding_most s finding in λ is. absurd (omega (arith, most, is))

-- ---- the statuses of answers

pub refusal_told : (fault : BadText) (status : ℕ) (out : Bytes) → IsRefusal fault status out → IsToldBy status
refusal_told fault.TooLong status out is = inl (omega (arith, is.0))
refusal_told (fault.BadLine n) status out is = inl (omega (arith, is.0))
refusal_told fault.NoMemory status out is = absurd is

pub refusal_not_zero : (fault : BadText) (status : ℕ) (out : Bytes) → IsRefusal fault status out → ¬ (status ≡ 0)
refusal_not_zero fault.TooLong status out is = λ zero. absurd (omega (arith, is.0, zero))
refusal_not_zero (fault.BadLine n) status out is = λ zero. absurd (omega (arith, is.0, zero))
refusal_not_zero fault.NoMemory status out is = absurd is

-- What is answered to a text that is no config.
pub refuses_config : (text : Bytes) (fault : BadText) (status : ℕ) (out : Bytes) → ReadsText {X = Config} max_config config_contents config_of (Err fault) text → IsRefusal fault status out → RefusesConfig text status out
refuses_config text fault.TooLong status out bad is = config.too_long bad is.0 is.1
refuses_config text (fault.BadLine n) status out bad is = config.bad_line n bad.0 bad.1 is.0 is.1
refuses_config text fault.NoMemory status out bad is = absurd is

-- ---- responses

pub responded : (answers : ℕ → Bytes → Type 0) (answer : Result Output NoMemory) (status : ℕ) (source source' sink sink' : Device)
    → IfOk answer (λ a. answers a.status a.text.items) → IfOk answer (λ a. Says a.status a.text.items status sink sink') → IfErr answer (λ _. (status ≡ 4) × (sink ≡ sink'))
    → Responds answers status source source' sink sink'
responded answers (Ok a) status source source' sink sink' is wrote none = answered a.status a.text.items is wrote
responded answers (Err e) status source source' sink sink' is wrote none = starved none.0 none.1

said_or_starved : (answers : ℕ → Bytes → Type 0) (wanted : ℕ) (out : Bytes) (status : ℕ) (source source' sink sink' : Device) → answers wanted out → SaysOrStarves wanted out status sink sink' → Responds answers status source source' sink sink'
said_or_starved answers wanted out status source source' sink sink' is (says wrote) = answered wanted out is wrote
said_or_starved answers wanted out status source source' sink sink' is (lacks four same) = starved four same

-- A text that could not be read is too long, or the source failed, or memory ran out.
pub told_unread : (answers : ℕ → Bytes → Type 0) (found : ReadStop) (status : ℕ) (source source' sink sink' : Device)
    → (found ≡ stop.TooLong → answers 2 too_long_text) → (found ≡ stop.Fault → Rose source.faults source'.faults) → IsUnread found status sink sink' → Responds answers status source source' sink sink'
told_unread answers stop.TooLong status source source' sink sink' long rose is = said_or_starved answers 2 too_long_text status source source' sink sink' (long refl) is
told_unread answers stop.Fault status source source' sink sink' long rose is = unread is.0 (rose refl) is.1
told_unread answers stop.NoMemory status source source' sink sink' long rose is = starved is.0 is.1

-- ---- the statuses of what is no answer

said_not_zero : (wanted : ℕ) (out : Bytes) (status : ℕ) (old new : Device) → ¬ (wanted ≡ 0) → Says wanted out status old new → ¬ (status ≡ 0)
said_not_zero wanted out status old new some (said same grew) = λ zero. some (sym same ∙ zero)
said_not_zero wanted out status old new some (failed six rose part) = λ zero. absurd (omega (arith, six, zero))
said_not_zero wanted out status old new some (cut_short four part) = λ zero. absurd (omega (arith, four, zero))

pub responded_not_zero : (answer : Result Output NoMemory) (status : ℕ) (sink sink' : Device) → IfOk answer (λ a. ¬ (a.status ≡ 0)) → IfOk answer (λ a. Says a.status a.text.items status sink sink')
    → IfErr answer (λ _. (status ≡ 4) × (sink ≡ sink')) → ¬ (status ≡ 0)
responded_not_zero (Ok a) status sink sink' some wrote none = said_not_zero a.status a.text.items status sink sink' some wrote
responded_not_zero (Err e) status sink sink' some wrote none = λ zero. absurd (omega (arith, none.0, zero))

two_not_zero : (n : ℕ) → n ≡ 2 → ¬ (n ≡ 0)
two_not_zero n two = λ zero. absurd (omega (arith, two, zero))

pub unread_not_zero : (found : ReadStop) (status : ℕ) (sink sink' : Device) → IsUnread found status sink sink' → ¬ (status ≡ 0)
unread_not_zero stop.TooLong status sink sink' (says wrote) = said_not_zero 2 too_long_text status sink sink' (two_not_zero 2 refl) wrote
unread_not_zero stop.TooLong status sink sink' (lacks four same) = λ zero. absurd (omega (arith, four, zero))
unread_not_zero stop.Fault status sink sink' is = λ zero. absurd (omega (arith, is.0, zero))
unread_not_zero stop.NoMemory status sink sink' is = λ zero. absurd (omega (arith, is.0, zero))

-- ---- faults of the source

pub tells_read : {A B Q R : Type 0} (f g : ℕ) → (Q → Rose f g) → f ≤ g → (A → B) → (A → HasNoFault f g Q) → (R → Q) → TellsFaults A B f g R
tells_read f g rose later sound quiet is = record {
  later = later;
  rose = λ told. rose (is told);
  sound = sound;
  quiet = λ safe. record { kept = (quiet safe).kept; none = λ told. (quiet safe).none (is told) };
}

-- ---- where the source tells its text

pub where_told : {X : Type 0} (o : Option X) (P : X → Type 0) → ((x : X) → o ≡ Some x → P x) → IfSome o P
where_told None P f = tt
where_told (Some x) P f = f x refl

pub at_told : {X : Type 0} (o : Option X) (x : X) (P : X → Type 0) → o ≡ Some x → IfSome o P → P x
at_told {X = X} o x P is h = subst (λ (p : Option X). IfSome p P) is h

pub unread_told : (answers : Bytes → ℕ → Bytes → Type 0) (limit : ℕ) (left : Option Bytes) (found : ReadStop) (status : ℕ) (source source' sink sink' : Device)
    → ((text : Bytes) → limit < length text → answers text 2 too_long_text) → (found ≡ stop.TooLong → IfSome left (λ text. limit < length text)) → (found ≡ stop.Fault → Rose source.faults source'.faults)
    → IsUnread found status sink sink' → IfSome left (λ text. Responds (answers text) status source source' sink sink')
unread_told answers limit left found status source source' sink sink' long too rose is =
    where_told left (λ text. Responds (answers text) status source source' sink sink')
    (λ text told. told_unread (answers text) found status source source' sink sink' (λ e. long text (at_told left text (λ t. limit < length t) told (too e))) rose is)

pub is_err_of : {T E : Type 0} (x y : E) → IsErrOf {T = T} (Err x) y → x ≡ y
is_err_of x y e = cc

pub said_completes : (wanted : ℕ) (out : Bytes) (status : ℕ) (old new : Device) → wanted ≡ 0 → ¬ Rose old.faults new.faults → Says wanted out status old new → (status ≡ 0) ⊎ (status ≡ 4)
said_completes wanted out status old new zero none (said same grew) = inl (same ∙ zero)
said_completes wanted out status old new zero none (failed six rose part) = absurd (none rose)
said_completes wanted out status old new zero none (cut_short four part) = inr four

-- ---- which statuses there are

module _ (P : ℕ → Type 0) (four : P 4) (six : P 6) where
  pub said_is : (wanted : ℕ) (out : Bytes) (status : ℕ) (old new : Device) → P wanted → Says wanted out status old new → P status
  said_is wanted out status old new p (said same grew) = subst P (sym same) p
  said_is wanted out status old new p (failed is rose part) = subst P (sym is) six
  said_is wanted out status old new p (cut_short is part) = subst P (sym is) four

  pub responded_is : (answer : Result Output NoMemory) (status : ℕ) (sink sink' : Device) → IfOk answer (λ a. P a.status) → IfOk answer (λ a. Says a.status a.text.items status sink sink')
      → IfErr answer (λ _. (status ≡ 4) × (sink ≡ sink')) → P status
  responded_is (Ok a) status sink sink' p wrote none = said_is a.status a.text.items status sink sink' p wrote
  responded_is (Err e) status sink sink' p wrote none = subst P (sym none.0) four

  pub unread_is : (found : ReadStop) (status : ℕ) (sink sink' : Device) → P 2 → P 5 → IsUnread found status sink sink' → P status
  unread_is stop.TooLong status sink sink' two five (says wrote) = said_is 2 too_long_text status sink sink' two wrote
  unread_is stop.TooLong status sink sink' two five (lacks is same) = subst P (sym is) four
  unread_is stop.Fault status sink sink' two five is = subst P (sym is.0) five
  unread_is stop.NoMemory status sink sink' two five is = subst P (sym is.0) four

pub refusal_two : (fault : BadText) (status : ℕ) (out : Bytes) → IsRefusal fault status out → status ≡ 2
refusal_two fault.TooLong status out is = is.0
refusal_two (fault.BadLine n) status out is = is.0
refusal_two fault.NoMemory status out is = absurd is

pub is_lack : (n : ℕ) → n ≡ 2 → Contains lack_statuses n
is_lack n two = subst (Contains lack_statuses) (sym two) (0, omega arith, refl)
