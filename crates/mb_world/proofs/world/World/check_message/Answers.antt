use Rattle.mb_world_model.specs.WorldEvents.{is_faulty_name}
use Rattle.mb_world.proofs.AllowedLaws.{found_at, found_absent}
use Rattle.mb_world.proofs.world.World.check_message.Goals as goal

pub returns-in-Some-clause-stops : goal.returns-in-Some-clause-stops
returns-in-Some-clause-stops g c = λ y x h.
    found_at y.schedule x (is_faulty_name y.schedule c.args.name) c.args.number c.args.self.now.pool.items c.in-Some.bytes.now c.as_slice-in-Some.result.now c.check_bytes.result h.rest.pool c.in-Some.ensures c.as_slice-in-Some.ensures (c.check_bytes.ensures.stops y x h)

pub returns-in-None-clause-stops : goal.returns-in-None-clause-stops
returns-in-None-clause-stops g c = λ y x h. found_absent y.schedule x (is_faulty_name y.schedule c.args.name) c.args.number c.args.self.now.pool.items h.rest.pool c.in-None.ensures
