-- What VIEW_CHANGEs leave to the next view, or why nothing.
use Rattle.std.specs.Prelude.{◌≡◌, Bool, true, false, ◌&&◌, List, length, ◌==◌, nat_lt, if◌then◌else◌, unwrap_or, Result, Ok, Err}
use Rattle.mb_base.specs.Shapes.{quorum}
use Rattle.mb_base.specs.declared.shape.Shape.{Shape}
use Rattle.mb_parts.specs.declared.certificates.StableCert.{StableCert}
use Rattle.mb_msg.specs.declared.change.ViewChange.{ViewChange}
use Rattle.mb_msg.specs.declared.change.Plan.{Plan}
use Rattle.mb_model.specs.Plans.{by_host, greatest_position, cert_at, no_base, plan_of}
use Rattle.mb_model.specs.Held.{logs_of}
use Rattle.mb_plan.specs.declared.planning.PlanFault.{PlanFault}
use Rattle.mb_plan.specs.declared.planning.PlanFault.TheVariants.{Few, NoMemory}

-- of certificates the first that has the greatest position
abbrev pub first_greatest : List StableCert → StableCert
first_greatest cs = unwrap_or (cert_at (greatest_position cs) cs) no_base

-- of two
abbrev pub further : StableCert → StableCert → StableCert
further a b = if nat_lt a.pos b.pos then b else a

-- There are f+1 of them, and f+1 hosts of which there is one.
abbrev pub are_quorum : Shape → List ViewChange → Bool
are_quorum s changes = length changes == quorum s && length (by_host s (logs_of changes)) == quorum s

-- Their plan exactly where they are f+1 of different hosts, unless memory ran out.
abbrev pub Leaves : Shape → List ViewChange → Result Plan PlanFault → Type 0
Leaves s changes (Ok plan) = (are_quorum s changes ≡ true) × (plan ≡ plan_of s (logs_of changes))
Leaves s changes (Err Few) = are_quorum s changes ≡ false
Leaves s changes (Err NoMemory) = Unit {0}
