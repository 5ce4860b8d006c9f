use Rattle.std.proofs.Common.{◌≡◌, [], sym, ap, ◌∙◌, unwrap_or}
use Rattle.std.specs.Option.{option_copied}
use Rattle.std.specs.Ordering.{nat_cmp}
use Rattle.std.specs.BTreeMap.{get}
use Rattle.mb_learn.specs.Tables.{first_number, batch_among}
use Rattle.mb_learn.proofs.batches.Batches.get.Goals as goal

pub returns-in-Some : goal.returns-in-Some
returns-in-Some c =
    let found : c.in-Some.alike.now ≡ unwrap_or (get nat_cmp c.args.self.now.by_digest (first_number c.args.digest.now)) [] =
    ap (λ o. unwrap_or (option_copied o) []) (sym c.in-Some.is) ∙ ap (λ o. unwrap_or o []) c.get.ensures.value ∙ ap (λ n. unwrap_or (get nat_cmp c.args.self.now.by_digest n) []) c.first_number.ensures in
    c.batch_among.ensures ∙ ap (λ l. batch_among l c.args.digest.now) (c.as_slice.ensures ∙ found)

pub returns-in-None : goal.returns-in-None
returns-in-None c =
    let none : [] ≡ unwrap_or (get nat_cmp c.args.self.now.by_digest (first_number c.args.digest.now)) [] =
    ap (λ o. unwrap_or (option_copied o) []) (sym c.in-None.is) ∙ ap (λ o. unwrap_or o []) c.get.ensures.value ∙ ap (λ n. unwrap_or (get nat_cmp c.args.self.now.by_digest n) []) c.first_number.ensures in
    ap (λ l. batch_among l c.args.digest.now) none
