use Rattle.std.proofs.Common.{◌<◌, ◌≤◌, sym, ◌∙◌, arith}
use Rattle.std.specs.Prelude.{option_copied}
use Rattle.mb_base.specs.Shapes.{client_count}
use Rattle.mb_normal.proofs.Unordered.{none_looked, none_more, one_found, none_found, some_copied}
use Rattle.mb_normal.proofs.normal.Normal.has_unordered.Goals as goal

pub loop-client-init : goal.loop-client-init
loop-client-init c = none_looked c.args.self.now

pub returns-then-is_some : goal.returns-then-is_some
returns-then-is_some c =
    let lt : c.loop-client.client < client_count c.args.self.now.shape = omega (arith, c.loop-client-test.true, c.clients-client-end.ensures) in
    one_found c.args.self.now c.loop-client.client (option_copied c.unordered_of.result) lt c.unordered_of.ensures.found (some_copied c.unordered_of.result ∙ sym c.is_some.ensures ∙ c.if-is_some.true) c.loop-client.invariant

pub loop-client-preserved : goal.loop-client-preserved
loop-client-preserved c =
    let lt : c.loop-client.client < client_count c.args.self.now.shape = omega (arith, c.loop-client-test.true, c.clients-client-end.ensures) in
    none_more c.args.self.now c.loop-client.client (option_copied c.unordered_of.result) lt c.unordered_of.ensures.found (some_copied c.unordered_of.result ∙ sym c.is_some.ensures ∙ c.if-is_some.false) c.loop-client.invariant

pub returns : goal.returns
returns c =
    let le : client_count c.args.self.now.shape ≤ c.loop-client.client = omega (arith, c.loop-client-test.false, c.clients-client-end.ensures) in
    none_found c.args.self.now c.loop-client.client le c.loop-client.invariant
