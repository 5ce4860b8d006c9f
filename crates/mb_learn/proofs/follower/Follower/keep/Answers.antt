use Rattle.std.proofs.Common.{◌≡◌, ℕ, cond, Some, refl, subst}
use Rattle.std.specs.Ordering.{is_eq, nat_cmp}
use Rattle.std.specs.BTreeMap.{get}
use Rattle.mb_base.specs.declared.names.Ui.{Ui}
use Rattle.mb_certified.specs.Certified.{IsBareStamp}
use Rattle.mb_learn.proofs.Followed.{put_fits, keeps_one}
use Rattle.mb_learn.proofs.follower.Follower.keep.Goals as goal

pub returns : goal.returns
returns c = record {
  ready = record { shape = refl; bare = put_fits c.args.self.now.waiting c.insert.new.self c.ui.result.counter (Some c.args.stamp) c.in_ok-none.ensures.updates.0 (IsBareStamp c.args.self.now.shape) c.requires.ready.bare c.requires.bare };
  follows = λ s secret host first l fo awaited by.
      keeps_one s secret host first c.args.self.now l fo c.insert.new.self c.args.stamp
      (subst (λ (u : Ui). (q : ℕ) → get nat_cmp c.insert.new.self q ≡ cond (is_eq (nat_cmp u.counter q)) (Some c.args.stamp) (get nat_cmp c.args.self.now.waiting q)) c.ui.ensures c.in_ok-none.ensures.updates.0) awaited by;
}
