-- What is answered to a text that says nothing.
use Rattle.std.specs.Prelude.{◌≡◌, ℕ}
use Rattle.mb_base.specs.Shapes.{Bytes}
use Rattle.mb_sched.specs.declared.bad_text.BadText.{BadText}
use Rattle.mb_sched.specs.declared.bad_text.BadText.TheVariants as fault
use Rattle.mb_answer.specs.Texts.{too_long_text, bad_line_text}

abbrev pub IsRefusal : BadText → ℕ → Bytes → Type 0
IsRefusal fault.TooLong status out = (status ≡ 2) × (out ≡ too_long_text)
IsRefusal (fault.BadLine n) status out = (status ≡ 2) × (out ≡ bad_line_text n)
IsRefusal fault.NoMemory status out = ⊥
