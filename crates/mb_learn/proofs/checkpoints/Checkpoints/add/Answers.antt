use Rattle.std.proofs.Common.{rules, ◌≡◌, ℕ, ◌∷◌, ◌++◌, [], cond, Some, unwrap_or, ap, ◌∙◌}
use Rattle.std.specs.Ordering.{is_eq, nat_cmp}
use Rattle.std.specs.BTreeMap.{get}
use Rattle.mb_learn.specs.declared.checkpoints.Said.{Said}
use Rattle.mb_learn.proofs.MapLists.{one_more, those}
use Rattle.mb_learn.proofs.checkpoints.Checkpoints.add.Goals as goal

pub returns : goal.returns
returns c p =
    let before = get nat_cmp c.args.self.now.by_position in
    let said : Said = record { host = c.args.host; state = c.args.state } in
    let value : c.push.new.self ≡ those (before c.args.pos) ++ said ∷ [] =
    c.in_ok-push.ensures.ok ∙ ap (λ l. l ++ said ∷ []) (c.or_insert-said.ensures.value ∙ ap (λ o. unwrap_or o c.new.result) c.in_ok-self.ensures.value ∙ ap (unwrap_or (before c.args.pos)) c.new.ensures) in
    let set = λ (n : ℕ). (c.in_ok-self.ensures.update.0 c.push.new.self).0 n ∙ ap (λ v. cond (is_eq (nat_cmp c.args.pos n)) (Some v) (before n)) value in
    let done = one_more before _ said c.args.pos set p in
    search (rules, done)
