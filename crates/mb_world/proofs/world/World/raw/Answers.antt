use Rattle.std.proofs.Common.{◌<◌, subst}
use Rattle.mb_base.specs.declared.shape.Shape.{Shape}
use Rattle.mb_base.specs.Shapes.{host_count}
use Rattle.mb_world_model.specs.WorldSteps.{happens}
use Rattle.mb_world.proofs.SentLaws.{raw_sends}
use Rattle.mb_world.proofs.world.World.raw.Goals as goal

pub returns-in_ok-bytes-in-Host-clause-stands : goal.returns-in_ok-bytes-in-Host-clause-stands
unfolding happens
returns-in_ok-bytes-in-Host-clause-stands g c = λ y x is reached h.
    let host = c.in-Host.host in
    let fits : host < host_count y.schedule.shape = subst (λ (z : Shape). host < host_count z) h.rest.shape (rw c.in-Host.is at c.requires.name) in
    let none = rw c.in-Host.is at (c.requires.allowed y x h) in
    let left = rw c.in_ok-bytes-in-Host.ensures at (c.give_host.ensures.stands y x is h) in
    rw c.in-Host.is (left (raw_sends y x reached host fits c.args.bytes.now none))

pub returns-in-Client-clause-stands : goal.returns-in-Client-clause-stands
unfolding happens
returns-in-Client-clause-stands g c = λ y x is reached h.
    let left = rw c.as_slice.ensures at (c.give_client.ensures.stands y x h) in
    rw c.in-Client.is left
