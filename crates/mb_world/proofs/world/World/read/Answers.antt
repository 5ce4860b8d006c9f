use Rattle.mb_world.proofs.AllowedLaws.{read_at}
use Rattle.mb_world.proofs.world.World.read.Goals as goal

pub returns-clause-message : goal.returns-clause-message
returns-clause-message g c = λ y x h.
    read_at y.schedule x c.args.number c.args.self.now.pool.items c.in-Some.bytes.now c.as_slice.result.now c.read_bytes.result h.rest.pool c.in-Some.ensures c.as_slice.ensures (c.read_bytes.ensures.message y x h)
