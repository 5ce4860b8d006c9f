use Rattle.std.proofs.Common.{◌≡◌, ◌∙◌, arith}
use Rattle.mb_base.specs.Shapes.{host_count}
use Rattle.mb_learn.proofs.Beginning.{made_none, made_more}
use Rattle.mb_learn.proofs.heard.followers_of.Goals as goal

pub loop-host-init : goal.loop-host-init
loop-host-init c = made_none c.args.shape c.in_ok-followers.followers.items c.in_ok-followers.ensures.items

pub loop-host-preserved : goal.loop-host-preserved
loop-host-preserved c =
    made_more c.args.shape c.loop-host.host c.loop-host.followers.items c.push.new.self.items c.make.result c.in_ok-push.ensures.items c.make.ensures.ready c.make.ensures.follows c.loop-host.invariant

pub returns : goal.returns
returns c =
    let at_most = c.loop-host.auto.host-end in
    let at_least = c.loop-host-test.false in
    let all : c.loop-host.host ≡ host_count c.args.shape = omega (arith, at_most, at_least, c.n-host-end.ensures) in
    record {
      count = c.loop-host.invariant.count ∙ all;
      ready = c.loop-host.invariant.ready;
      follow = c.loop-host.invariant.follow;
    }
