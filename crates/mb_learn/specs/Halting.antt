-- When a learner ends: a difference and want of memory stop it for good.
use Rattle.std.specs.Prelude.{◌≡◌, ℕ, true, false, Result, Ok, Err}
use Rattle.mb_learn.specs.declared.learner.Learner.{Learner}
use Rattle.mb_learn.specs.declared.learner.LearnStop.{LearnStop}
use Rattle.mb_learn.specs.declared.learner.LearnStop.TheVariants as stop

-- Halted comes exactly where an earlier call stopped otherwise, and then nothing changes.
abbrev pub Halts : {S : Type 0} → Learner S → Result ℕ LearnStop → Learner S → Type 0
Halts old (Ok executed) new = (old.halted ≡ false) × (new.halted ≡ false)
Halts old (Err stop.Halted) new = (old.halted ≡ true) × (new ≡ old)
Halts old (Err stop.NoMemory) new = (old.halted ≡ false) × (new.halted ≡ true)
Halts old (Err (stop.Differs position found certified)) new = (old.halted ≡ false) × (new.halted ≡ true)
