use Rattle.std.proofs.Common.{refl}
use Rattle.mb_learn.proofs.Beginning.{nothing_heard, nothing_ready}
use Rattle.mb_learn.proofs.heard.Heard.make.Goals as goal

pub returns : goal.returns
returns c =
    let s = c.args.shape in
    let secret = c.args.secret.now in
    record {
      nothing = nothing_heard s secret _ refl c.new.ensures c.make.ensures.executed c.make.ensures.none c.make-2.ensures c.make-3.ensures c.new-2.ensures.items c.make-4.ensures
          (λ first none h f at. c.in_ok-followers_of.ensures.follow secret first none h f at);
      ready = nothing_ready s secret _ refl c.new.ensures c.make.ensures.executed c.make.ensures.none c.make-2.ensures c.make-3.ensures c.in_ok-followers_of.ensures.count c.in_ok-followers_of.ensures.ready;
      start = c.make.ensures.executed;
      news = c.new-3.ensures.items;
      shape = refl;
    }
