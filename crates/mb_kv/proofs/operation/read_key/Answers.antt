use Rattle.std.proofs.Common.{◌≤◌, length, arith}
use Rattle.std.specs.Int.{w8}
use Rattle.mb_kv.specs.declared.limits.TheConstants.{MAX_KEY}
use Rattle.mb_kv.specs.Laws.TextLaws.{number_is_within}
use Rattle.mb_kv.proofs.operation.read_key.Goals as goal

pub returns-clause-fits : goal.returns-clause-fits
returns-clause-fits c =
    let within = number_is_within w8 1 MAX_KEY _ _ _ c.in_ok-size.ensures in
    let some : 1 ≤ length c.in_ok-take.field-0.now = omega (arith, within.0, c.from.ensures, c.in_ok-take.ensures.len) in
    let short : length c.in_ok-take.field-0.now ≤ MAX_KEY = omega (arith, within.1, c.from.ensures, c.in_ok-take.ensures.len) in
    (some, short)
