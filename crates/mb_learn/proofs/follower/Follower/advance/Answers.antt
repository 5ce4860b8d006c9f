use Rattle.std.proofs.Common.{ℕ, Option, [], ◌∷◌, ◌++◌, IfSome, refl, sym, ap, subst, ◌∙◌, arith}
use Rattle.std.specs.Global.{Vec}
use Rattle.std.specs.BTreeMap.{btree_map_len}
use Rattle.mb_certified.specs.Certified.{IsBareStamp}
use Rattle.mb_learn.proofs.Advancing.{still_following, takes_it, refuses_it}
use Rattle.mb_learn.proofs.Followed.{led_long, ended_list, none_next}
use Rattle.mb_learn.proofs.follower.Follower.advance.Goals as goal

pub returns-then-self : goal.returns-then-self
returns-then-self c = record {
  ready = c.requires;
  advances = λ s host first l fo. (fo, ended_list s c.args.usig.now.secret host first c.args.self.now l fo c.if-self.true);
  bare = tt;
  fewer = tt;
}

pub returns-in_default : goal.returns-in_default
returns-in_default c =
    let f = c.args.self.now in
    let out = c.remove.ensures.updates.0 in
    record {
      ready = still_following f _ c.remove.new.self _ out refl refl c.requires;
      advances = λ s host first l fo.
          let long = led_long s c.args.usig.now.secret host first f l fo in
          none_next s c.args.usig.now.secret host first f l fo c.remove.new.self _ (omega (arith, long, c.len.ensures)) c.if-self.false out (sym c.in_default.ensures.value);
      bare = tt;
      fewer = tt;
    }

pub offer-requires : goal.offer-requires
offer-requires c = subst (λ o. IfSome o (IsBareStamp c.args.self.now.shape)) (sym c.in-Some.ensures.value) (c.requires.bare _)

pub returns-then-branch : goal.returns-then-branch
returns-then-branch c =
    let f = c.args.self.now in
    let g = c.offer.new.self in
    let m = c.in-Some.stamp in
    let rest = c.offer.ensures.rest in
    let out = c.remove.ensures.updates.0 in
    record {
      ready = still_following f _ c.remove.new.self _ out rest.0 rest.2 c.requires;
      advances = λ s host first l fo.
          let long = led_long s c.args.usig.now.secret host first f l fo in
          takes_it f g c.remove.new.self rest.0 rest.1 rest.2 rest.3 m _ (sym c.in-Some.ensures.value) out c.if-self.false c.args.usig.now.secret _ c.in_ok-offer.ensures.gate s host first l fo
          (omega (arith, long, c.len.ensures)) c.if-branch.true c.push.new.self (c.in_ok-push.ensures.items ∙ ap (λ (v : Vec (Option ℕ)). v.items ++ c.led_by.result ∷ []) rest.3 ∙ ap (λ (o : Option ℕ). f.led.items ++ o ∷ []) c.led_by.ensures);
      bare = subst (λ o. IfSome o (IsBareStamp f.shape)) (sym c.in-Some.ensures.value) (c.requires.bare _);
      fewer = let waits = ap btree_map_len rest.2 in omega (arith, waits, c.in-Some.ensures.len);
    }

pub returns : goal.returns
returns c =
    let f = c.args.self.now in
    let g = c.offer.new.self in
    let m = c.in-Some.stamp in
    let rest = c.offer.ensures.rest in
    let out = c.remove.ensures.updates.0 in
    record {
      ready = still_following f _ c.remove.new.self _ out rest.0 rest.2 c.requires;
      advances = λ s host first l fo.
          let long = led_long s c.args.usig.now.secret host first f l fo in
          refuses_it f g c.remove.new.self rest.0 rest.1 rest.2 rest.3 m _ (sym c.in-Some.ensures.value) out c.if-self.false c.args.usig.now.secret _ c.in_ok-offer.ensures.gate s host first l fo
          (omega (arith, long, c.len.ensures)) c.if-branch.false;
      bare = tt;
      fewer = tt;
    }
