use Rattle.std.proofs.Common.{◌<◌, ◌≤◌, Bool, subst, arith}
use Rattle.std.specs.Prelude.{option_copied}
use Rattle.mb_base.specs.Shapes.{client_count}
use Rattle.mb_normal.specs.Filling.{Adds}
use Rattle.mb_normal.proofs.Unordered.{filled_none, filled_more, filled_full, filled_all}
use Rattle.mb_normal.proofs.normal.Normal.batch.Goals as goal

pub loop-client-init : goal.loop-client-init
loop-client-init c = filled_none c.args.self.now c.new-filling.result c.new-filling.ensures.empty c.new-filling.ensures.unused

pub returns-then-not-branch : goal.returns-then-not-branch
returns-then-not-branch c = λ s h x st some.
    let lt : c.loop-client.client < client_count c.args.self.now.shape = omega (arith, c.loop-client-test.true, c.clients-client-end.ensures) in
    rw c.from_items.ensures (filled_full c.args.self.now c.loop-client.client c.loop-client.filling c.add.new.self (option_copied c.unordered_of.result) lt c.unordered_of.ensures.found
    (subst (λ (b : Bool). Adds c.loop-client.filling (option_copied c.unordered_of.result) c.add.new.self b) c.if-not-branch.true c.in_ok-add.ensures) c.loop-client.invariant s h x st some)

pub loop-client-preserved : goal.loop-client-preserved
loop-client-preserved c =
    let lt : c.loop-client.client < client_count c.args.self.now.shape = omega (arith, c.loop-client-test.true, c.clients-client-end.ensures) in
    filled_more c.args.self.now c.loop-client.client c.loop-client.filling c.add.new.self (option_copied c.unordered_of.result) lt c.unordered_of.ensures.found
    (subst (λ (b : Bool). Adds c.loop-client.filling (option_copied c.unordered_of.result) c.add.new.self b) c.if-not-branch.false c.in_ok-add.ensures) c.loop-client.invariant

pub returns : goal.returns
returns c = λ s h x st some.
    let le : client_count c.args.self.now.shape ≤ c.loop-client.client = omega (arith, c.loop-client-test.false, c.clients-client-end.ensures) in
    rw c.from_items-2.ensures (filled_all c.args.self.now c.loop-client.client c.loop-client.filling le c.loop-client.invariant s h x st some)
