use Rattle.std.proofs.Common.{rules, ◌≡◌, ℕ, ◌∷◌, ◌++◌, [], cond, Some, unwrap_or, ap, ◌∙◌}
use Rattle.std.specs.Ordering.{is_eq, nat_cmp}
use Rattle.std.specs.BTreeMap.{get}
use Rattle.mb_learn.specs.declared.plans.KnownPlan.{KnownPlan}
use Rattle.mb_learn.proofs.MapLists.{finds_one_more, those}
use Rattle.mb_learn.proofs.plans.Plans.add.Goals as goal

pub returns : goal.returns
returns c d =
    let before = get nat_cmp c.args.self.now.by_digest in
    let own = c.first_number.result in
    let value : c.push.new.self ≡ those (before own) ++ c.args.plan ∷ [] =
    c.in_ok-push.ensures.ok ∙ ap (λ l. l ++ c.args.plan ∷ []) (c.or_insert-alike.ensures.value ∙ ap (λ o. unwrap_or o c.new.result) c.in_ok-self.ensures.value ∙ ap (unwrap_or (before own)) c.new.ensures) in
    let set = λ (n : ℕ). (c.in_ok-self.ensures.update.0 c.push.new.self).0 n ∙ ap (λ v. cond (is_eq (nat_cmp own n)) (Some v) (before n)) value in
    let done = finds_one_more (λ (p : KnownPlan). p.digest) before _ c.args.plan own c.first_number.ensures set d in
    search (rules, done)
