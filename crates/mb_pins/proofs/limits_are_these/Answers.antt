use Rattle.mb_pins.proofs.Limits.{limits_are_these}
use Rattle.mb_pins.proofs.limits_are_these.Goals as goal

pub returns : goal.returns
returns c = limits_are_these
