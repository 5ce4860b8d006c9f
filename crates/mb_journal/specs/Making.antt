-- What making a journal answers, and what a crash leaves meanwhile.
use Rattle.std.specs.Prelude.{◌≡◌, ◌⊎◌, ℕ, [], Err}
use Rattle.mb_base.specs.Shapes.{Bytes}
use Rattle.mb_edge.specs.declared.outside.Failed.{Failed}
use Rattle.mb_edge.specs.declared.outside.Failed.TheVariants as causes
use Rattle.mb_journal.specs.Files.{contents_of, Holds}
use Rattle.mb_journal.specs.declared.making.MakeStop.{MakeStop}
use Rattle.mb_journal.specs.declared.making.MakeStop.TheVariants.{DiskFault, NoMemory}

-- why nothing was made where a call of the disk failed
abbrev pub make_stop : Failed → MakeStop
make_stop causes.Device = DiskFault
make_stop causes.NoMemory = NoMemory

-- the file is a journal without events, or it is no journal
abbrev pub SaysNothing : Bytes → Bytes → Type 0
SaysNothing header file = Holds header [] file ⊎ ((at : ℕ) × (contents_of header file ≡ Err at))
