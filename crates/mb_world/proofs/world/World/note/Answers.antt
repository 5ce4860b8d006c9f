use Rattle.std.proofs.Common.{refl}
use Rattle.mb_world.proofs.WorldLaws.{noted}
use Rattle.mb_world.proofs.world.World.note.Goals as goal

pub returns-clause-stands : goal.returns-clause-stands
returns-clause-stands g c = λ y x h.
    noted y c.args.self.now _ x c.args.seen h (record { shape = refl; usig = refl; pens = refl; hosts = refl; clients = refl; marks = refl }) refl refl refl refl refl refl c.in_ok-note_refusal.ensures
