-- When a host's step ends: want of memory stops it for good.
use Rattle.std.specs.Prelude.{◌≡◌, true, false, Result, Ok, Err}
use Rattle.mb_core.specs.declared.replica.Replica.{Replica}
use Rattle.mb_core.specs.declared.replica.Stop.{Stop}
use Rattle.mb_core.specs.declared.replica.Stop.TheVariants as stop

-- Halted comes exactly where an earlier step ran out of memory, and then nothing changes.
abbrev pub Halts : {V A : Type 0} → Replica V → Result A Stop → Replica V → Type 0
Halts old (Ok done) new = (old.halted ≡ false) × (new.halted ≡ false)
Halts old (Err stop.NoMemory) new = (old.halted ≡ false) × (new.halted ≡ true)
Halts old (Err stop.Halted) new = (old.halted ≡ true) × (new ≡ old)
