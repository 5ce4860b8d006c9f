use Rattle.std.proofs.Common.{[], refl, sym}
use Rattle.mb_top.specs.Systems.{system_of}
use Rattle.mb_top.proofs.KvService.{is_system, are_services}
use Rattle.mb_top.proofs.replay.world_of.Goals as goal

pub returns-clause-stands : goal.returns-clause-stands
returns-clause-stands c = c.make.ensures.stands (system_of c.args.schedule.now) (is_system c.args.schedule.now) refl refl (sym c.as_slice.ensures) (sym c.as_slice-2.ensures) (are_services [] _ c.in_ok-services.field-0.items c.in_ok-services.ensures)
