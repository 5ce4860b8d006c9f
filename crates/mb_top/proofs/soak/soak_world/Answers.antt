use Rattle.std.proofs.Common.{[], refl, sym}
use Rattle.mb_top.specs.Systems.{system_of}
use Rattle.mb_top.specs.Soaks.{soak_of}
use Rattle.mb_top.proofs.KvService.{is_system, are_services}
use Rattle.mb_top.proofs.soak.soak_world.Goals as goal

pub returns-clause-stands : goal.returns-clause-stands
returns-clause-stands c = λ seed n. c.make.ensures.stands (system_of (soak_of seed n)) (is_system (soak_of seed n)) (sym c.soak_shape-shape.ensures) refl refl refl (are_services [] _ c.in_ok-services.field-0.items c.in_ok-services.ensures)
