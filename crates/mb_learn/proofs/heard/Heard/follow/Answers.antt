use Rattle.std.proofs.Common.{◌≡◌, ◌<◌, Some, Option, IfSome, length, set, slice_get, refl, sym, ap, subst, ◌∙◌, arith}
use Rattle.std.proofs.lemmas.Option.{slice_get_read}
use Rattle.mb_base.specs.declared.shape.Shape.{Shape}
use Rattle.std.specs.BTreeMap.{btree_map_len}
use Rattle.mb_msg.specs.declared.stamped.Stamped.{Stamped}
use Rattle.mb_certified.specs.Certified.{IsBareStamp}
use Rattle.mb_learn.specs.Followers.{IsFollowing, Advances}
use Rattle.mb_learn.proofs.Follow.{keeps_set, goes_first, goes_next, goes_last, keeps_last, waits_less}
use Rattle.mb_learn.proofs.Keeping.{of_shape, own_shape}
use Rattle.mb_learn.proofs.Still.{went_well}
use Rattle.mb_learn.proofs.heard.Heard.follow.Goals as goal

pub loop-stamp-init : goal.loop-stamp-init
loop-stamp-init c = goes_first c.args.host c.args.self.now c.requires.ready

pub index_mut-requires : goal.index_mut-requires
index_mut-requires c =
    let g = c.loop-stamp.invariant in
    let shape = ap (λ (s : Shape). s.f) g.keeps.shape in
    omega (arith, c.from.ensures, g.keeps.ready.count, shape)

pub advance-requires : goal.advance-requires
advance-requires c =
    let g = c.loop-stamp.invariant in
    let now = c.loop-stamp.self in
    let was = c.index_mut.result.now in
    let shape = ap (λ (s : Shape). s.f) g.keeps.shape in
    let there : slice_get now.followers.items c.from.result ≡ Some was = slice_get_read now.followers.items _ c.from.result was refl (omega (arith, c.from.ensures, g.keeps.ready.count, shape)) c.index_mut.ensures.value in
    own_shape now was (of_shape now c.from.result was g.keeps.ready there)

pub count-requires : goal.count-requires
count-requires c =
    let g = c.loop-stamp.invariant in
    let now = c.loop-stamp.self in
    let was = c.index_mut.result.now in
    let f = c.advance.new.self in
    let shape = ap (λ (s : Shape). s.f) g.keeps.shape in
    let lt : c.from.result < length now.followers.items = omega (arith, c.from.ensures, g.keeps.ready.count, shape) in
    let there : slice_get now.followers.items c.from.result ≡ Some was = slice_get_read now.followers.items _ c.from.result was refl lt c.index_mut.ensures.value in
    let same = (of_shape now c.from.result was g.keeps.ready there).shape in
    record {
      bare = subst (λ (s : Shape). IsBareStamp s c.in-Some.stamp) same (subst (λ (o : Option Stamped). IfSome o (IsBareStamp was.shape)) c.in-Some.is c.in_ok-stamp.ensures.bare);
      ready = (keeps_set now c.from.result f _ refl (subst (λ (s : Shape). IsFollowing s f) same c.in_ok-stamp.ensures.ready) g.keeps.ready).ready;
    }

pub loop-stamp-preserved : goal.loop-stamp-preserved
loop-stamp-preserved c =
    let g = c.loop-stamp.invariant in
    let now = c.loop-stamp.self in
    let was = c.index_mut.result.now in
    let f = c.advance.new.self in
    let shape = ap (λ (s : Shape). s.f) g.keeps.shape in
    let lt : c.from.result < length now.followers.items = omega (arith, c.from.ensures, g.keeps.ready.count, shape) in
    let there : slice_get now.followers.items c.from.result ≡ Some was = slice_get_read now.followers.items _ c.from.result was refl lt c.index_mut.ensures.value in
    let same = (of_shape now c.from.result was g.keeps.ready there).shape in
    goes_next c.args.host c.args.self.now now g was f _ (ap (slice_get now.followers.items) (sym c.from.ensures) ∙ there) (ap (λ i. set now.followers.items i f) c.from.ensures) (omega (arith, lt, c.from.ensures))
    (subst (λ (s : Shape). IsFollowing s f) same c.in_ok-stamp.ensures.ready) c.count.new.self c.in-Some.stamp
    (λ s first l fo. subst (λ (o : Option Stamped). Advances s now.usig.secret c.args.host first l o f) c.in-Some.is (c.in_ok-stamp.ensures.advances s c.args.host first l fo))
    (went_well c.count.result c.in-Some.stamp c.in_ok-counted.counted c.in_ok-counted.ensures c.count.ensures.rest) (went_well c.count.result c.in-Some.stamp c.in_ok-counted.counted c.in_ok-counted.ensures c.count.ensures.counts)

pub loop-stamp-smaller : goal.loop-stamp-smaller
loop-stamp-smaller c =
    let g = c.loop-stamp.invariant in
    let now = c.loop-stamp.self in
    let was = c.index_mut.result.now in
    let f = c.advance.new.self in
    let shape = ap (λ (s : Shape). s.f) g.keeps.shape in
    let lt : c.from.result < length now.followers.items = omega (arith, c.from.ensures, g.keeps.ready.count, shape) in
    let there : slice_get now.followers.items c.from.result ≡ Some was = slice_get_read now.followers.items _ c.from.result was refl lt c.index_mut.ensures.value in
    waits_less c.args.host now c.count.new.self was f _ (ap (slice_get now.followers.items) (sym c.from.ensures) ∙ there) (ap (λ i. set now.followers.items i f) c.from.ensures) (omega (arith, lt, c.from.ensures))
    (went_well c.count.result c.in-Some.stamp c.in_ok-counted.counted c.in_ok-counted.ensures c.count.ensures.rest).followers (subst (λ (o : Option Stamped). IfSome o (λ _. btree_map_len f.waiting < btree_map_len was.waiting)) c.in-Some.is c.in_ok-stamp.ensures.fewer)

pub returns : goal.returns
returns c =
    let g = c.loop-stamp.invariant in
    let now = c.loop-stamp.self in
    let was = c.index_mut.result.now in
    let f = c.advance.new.self in
    let shape = ap (λ (s : Shape). s.f) g.keeps.shape in
    let lt : c.from.result < length now.followers.items = omega (arith, c.from.ensures, g.keeps.ready.count, shape) in
    let there : slice_get now.followers.items c.from.result ≡ Some was = slice_get_read now.followers.items _ c.from.result was refl lt c.index_mut.ensures.value in
    let same = (of_shape now c.from.result was g.keeps.ready there).shape in
    let following = subst (λ (s : Shape). IsFollowing s f) same c.in_ok-stamp.ensures.ready in
    record {
      follows = goes_last c.args.host c.args.self.now now g was f _ (ap (slice_get now.followers.items) (sym c.from.ensures) ∙ there) (ap (λ i. set now.followers.items i f) c.from.ensures) (omega (arith, lt, c.from.ensures)) following
          (λ s first l fo. subst (λ (o : Option Stamped). Advances s now.usig.secret c.args.host first l o f) c.in_default.is (c.in_ok-stamp.ensures.advances s c.args.host first l fo));
      keeps = keeps_last c.args.host c.args.self.now now g was f _ (ap (slice_get now.followers.items) (sym c.from.ensures) ∙ there) (ap (λ i. set now.followers.items i f) c.from.ensures) (omega (arith, lt, c.from.ensures)) following;
    }
