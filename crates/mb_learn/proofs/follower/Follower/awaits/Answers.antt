use Rattle.std.proofs.Common.{sym, ◌∙◌, arith}
use Rattle.std.proofs.lemmas.Bool.{not-true, not-false}
use Rattle.std.specs.Ordering.{nat_cmp}
use Rattle.std.specs.BTreeMap.{get}
use Rattle.mb_learn.proofs.Finds.{none_when, some_when}
use Rattle.mb_learn.proofs.Followed.{led_long, awaits_one, ended_stays, below_stays, kept_stays}
use Rattle.mb_learn.proofs.follower.Follower.awaits.Goals as goal

pub returns-then-self-clause-no : goal.returns-then-self-clause-no
returns-then-self-clause-no c s secret host first l m fo not_so = ended_stays s secret host first c.args.self.now l fo c.args.counter m c.if-self.true

pub returns-then-counter-len-clause-no : goal.returns-then-counter-len-clause-no
returns-then-counter-len-clause-no c s secret host first l m fo not_so =
    let long = led_long s secret host first c.args.self.now l fo in
    below_stays s secret host first c.args.self.now l fo c.args.counter m (omega (arith, c.if-counter-len.true, c.len.ensures, long))

pub returns : goal.returns
returns c = record {
  yes = λ s secret host first l fo is.
      let long = led_long s secret host first c.args.self.now l fo in
      awaits_one s secret host first c.args.self.now l fo c.args.counter c.if-self.false (omega (arith, c.if-counter-len.false, c.len.ensures, long))
      (none_when (get nat_cmp c.args.self.now.waiting c.args.counter) (sym c.contains_key.ensures ∙ not-true c.contains_key.result is));
  no = λ s secret host first l m fo is.
      let long = led_long s secret host first c.args.self.now l fo in
      let kept = some_when (get nat_cmp c.args.self.now.waiting c.args.counter) (sym c.contains_key.ensures ∙ not-false c.contains_key.result is) in
      kept_stays s secret host first c.args.self.now l fo c.args.counter m c.if-self.false (omega (arith, c.if-counter-len.false, c.len.ensures, long)) kept.0 kept.1;
}
