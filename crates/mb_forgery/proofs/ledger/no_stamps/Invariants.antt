use Rattle.std.proofs.Common.{◌≡◌, [], map, replicate}
use Rattle.mb_base.specs.Shapes.{Bytes}
use Rattle.std.specs.Global.{Vec}
use Rattle.mb_forgery.proofs.ledger.no_stamps.Given as goal

abbrev pub invariant-loop : goal.invariant-loop
invariant-loop l = map (λ (v : Vec Bytes). v.items) l.stamps.items ≡ replicate l.counter []
