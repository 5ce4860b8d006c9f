use Rattle.std.proofs.Common.{rules, ◌≡◌, ℕ, ◌∷◌, ◌++◌, [], cond, Some, unwrap_or, ap, ◌∙◌}
use Rattle.std.specs.Ordering.{is_eq, nat_cmp}
use Rattle.std.specs.BTreeMap.{get}
use Rattle.mb_forgery.proofs.AskedLaws.{has_one_more, those}
use Rattle.mb_forgery.proofs.asked.Asked.note.Goals as goal

pub returns : goal.returns
returns c asked holds r =
    let q = c.args.request in
    let before = get nat_cmp c.args.self.now.by_tag in
    let own = c.first_number.result in
    let value : c.push.new.self ≡ those (before own) ++ q ∷ [] =
    c.in_ok-push.ensures.ok ∙ ap (λ l. l ++ q ∷ []) (c.or_insert-same_tag.ensures.value ∙ ap (λ o. unwrap_or o c.from_vec.result) c.in_ok-self.ensures.value ∙ ap (unwrap_or (before own)) (c.from_vec.ensures ∙ c.in_ok-room.ensures.items)) in
    let set = λ (n : ℕ). (c.in_ok-self.ensures.update.0 c.push.new.self).0 n ∙ ap (λ v. cond (is_eq (nat_cmp own n)) (Some v) (before n)) value in
    let done = has_one_more before _ q own c.first_number.ensures set asked r (holds r) in
    search (rules, done)
