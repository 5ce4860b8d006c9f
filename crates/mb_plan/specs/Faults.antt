-- What is answered where something has a first fault, or none.
use Rattle.std.specs.Prelude.{◌≡◌, Option, Some, None, Result, Ok, Err}
use Rattle.mb_model.specs.UsableLogs.{Fault}
use Rattle.mb_plan.specs.declared.shown.BadProof.{BadProof}
use Rattle.mb_plan.specs.declared.shown.BadProof.TheVariants.{At, NoMemory}

-- Yes exactly where there is no fault, or else the fault, unless memory ran out.
abbrev pub Answers : Option Fault → Result Unit BadProof → Type 0
Answers fault (Ok x) = fault ≡ None
Answers fault (Err (At index reason)) = fault ≡ Some (index, reason)
Answers fault (Err NoMemory) = Unit {0}
