use Rattle.std.proofs.Common.{List, OnOk, subst}
use Rattle.mb_base.specs.Shapes.{Bytes}
use Rattle.mb_fetch.specs.Snapshots.{StandsWith}
use Rattle.mb_fetch.proofs.shelf.Shelf.keep.Goals as goal

pub returns-clause-stands : goal.returns-clause-stands
returns-clause-stands c = subst (λ (l : List Bytes). OnOk c.keep_hashed.result (StandsWith c.args.self.now c.args.pos l c.keep_hashed.new.self)) c.in_ok-hashed.ensures c.keep_hashed.ensures.stands
