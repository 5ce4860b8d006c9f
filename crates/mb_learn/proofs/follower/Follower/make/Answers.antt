use Rattle.std.proofs.Common.{refl}
use Rattle.mb_learn.proofs.Followed.{made_ready, made_follows}
use Rattle.mb_learn.proofs.follower.Follower.make.Goals as goal

pub returns : goal.returns
returns c = record {
  ready = made_ready c.args.shape c.args.host _ refl c.new-2.ensures.empty;
  follows = λ secret first nothing. made_follows c.args.shape c.args.host _ refl c.new-2.ensures.empty refl c.new-3.ensures.items c.new.ensures secret first nothing;
}
