use Rattle.std.proofs.Common.{[], refl}
use Rattle.mb_top.specs.Systems.{system_of}
use Rattle.mb_top.proofs.KvService.{is_system, are_services}
use Rattle.mb_program_tests.proofs.hosts.played.Goals as goal

pub play-requires-clause-system : goal.play-requires-clause-system
play-requires-clause-system c =
    let s = c.args.schedule.now in
    record { system = system_of s; is = is_system s; plays = refl; alike = are_services [] _ c.in_ok-services.services.items c.in_ok-services.ensures }

pub returns : goal.returns
returns c =
    let s = c.args.schedule.now in
    c.play.ensures (system_of s) (is_system s) refl (are_services [] _ c.in_ok-services.services.items c.in_ok-services.ensures)
