use Rattle.std.proofs.Common.{refl}
use Rattle.mb_world_model.specs.World.{self_of}
use Rattle.mb_members.proofs.lines.state_of.Goals as goal

pub returns : goal.returns
returns g c = λ y h d host.
    let me = self_of y h in
    let r = host.represents in
    rw (c.at-at.ensures me d r, c.exec.ensures me d r, c.low.ensures.reads me d r, c.log_len.ensures me d r, c.log_longest.ensures me d r) refl
