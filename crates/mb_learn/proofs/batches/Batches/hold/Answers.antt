use Rattle.std.proofs.Common.{rules, ◌≡◌, ℕ, ◌∷◌, ◌++◌, [], cond, Some, None, find, unwrap_or, option_map, ap, ◌∙◌}
use Rattle.std.specs.Option.{option_or}
use Rattle.std.specs.Ordering.{is_eq, nat_cmp}
use Rattle.std.specs.BTreeMap.{get}
use Rattle.mb_usig.specs.Tags.{same_bytes}
use Rattle.mb_learn.specs.declared.batches.HeldBatch.{HeldBatch}
use Rattle.mb_learn.specs.Tables.{first_number}
use Rattle.mb_learn.proofs.Certified.{both}
use Rattle.mb_learn.proofs.MapLists.{finds_one_more, those}
use Rattle.mb_learn.proofs.batches.Batches.hold.Goals as goal

pub returns : goal.returns
returns c d =
    let before = get nat_cmp c.args.self.now.by_digest in
    let own = c.first_number.result in
    let held : HeldBatch = record { digest = c.args.digest; batch = c.in_ok-duplicate.field-0 } in
    let value : c.push.new.self ≡ those (before own) ++ held ∷ [] =
    c.in_ok-push.ensures.ok ∙ ap (λ l. l ++ held ∷ []) (c.or_insert-alike.ensures.value ∙ ap (λ o. unwrap_or o c.new.result) c.in_ok-self.ensures.value ∙ ap (unwrap_or (before own)) c.new.ensures) in
    let set = λ (n : ℕ). (c.in_ok-self.ensures.update.0 c.push.new.self).0 n ∙ ap (λ v. cond (is_eq (nat_cmp own n)) (Some v) (before n)) value in
    let done = ap (option_map (λ (h : HeldBatch). h.batch)) (finds_one_more (λ (h : HeldBatch). h.digest) before _ held own c.first_number.ensures set d)
    ∙ both (λ (h : HeldBatch). h.batch) (find (λ (h : HeldBatch). same_bytes h.digest d) (those (before (first_number d)))) held (same_bytes c.args.digest d)
    ∙ ap (λ b. option_or (option_map (λ (h : HeldBatch). h.batch) (find (λ (h : HeldBatch). same_bytes h.digest d) (those (before (first_number d))))) (cond (same_bytes c.args.digest d) (Some b) None)) c.in_ok-duplicate.ensures in
    search (rules, done)
