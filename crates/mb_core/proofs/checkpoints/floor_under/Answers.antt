use Rattle.std.proofs.Common.{◌∙◌, Some, None, ap, arith}
use Rattle.mb_model.specs.Making.{if_covered}
use Rattle.mb_replica.proofs.SenderGates.{floor_told, covered, uncovered}
use Rattle.mb_core.proofs.checkpoints.floor_under.Goals as goal

-- src/checkpoints.rt
pub returns-in-Some : goal.returns-in-Some
returns-in-Some g c = λ me d r.
    covered c.args.pos c.in-Some.floor (omega (arith, c.if-floor-pos.true))
    ∙ ap (if_covered c.args.pos) (floor_told me c.args.replica.now d r c.args.host c.args.pos c.from.result c.index.result.now c.from.ensures c.requires c.index.ensures (Some c.in-Some.floor) c.in-Some.ensures)

pub returns-in_default : goal.returns-in_default
returns-in_default g c = λ me d r.
    uncovered c.args.pos c.in-Some.floor (λ le. omega (arith, le, c.if-floor-pos.false))
    ∙ ap (if_covered c.args.pos) (floor_told me c.args.replica.now d r c.args.host c.args.pos c.from.result c.index.result.now c.from.ensures c.requires c.index.ensures (Some c.in-Some.floor) c.in-Some.ensures)

pub returns-in_default-2 : goal.returns-in_default-2
returns-in_default-2 g c = λ me d r.
    ap (if_covered c.args.pos) (floor_told me c.args.replica.now d r c.args.host c.args.pos c.from.result c.index.result.now c.from.ensures c.requires c.index.ensures None c.in_default.ensures)
