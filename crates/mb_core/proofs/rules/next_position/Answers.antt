use Rattle.std.proofs.Common.{◌<◌, ◌^◌, ap, arith}
use Rattle.mb_model.specs.Histories.{here}
use Rattle.mb_core.proofs.Bounds.{last_low}
use Rattle.mb_core.proofs.rules.next_position.Goals as goal

-- src/rules.rt
pub returns : goal.returns
returns g c = λ me d r.
    let low : (here me d).last < 2 ^ 63 = last_low me c.args.replica.now d r in
    let is = ap (λ f. f.last) (c.here.ensures me d r) in
    omega (arith, c.saturating_add.ensures, low, is)
