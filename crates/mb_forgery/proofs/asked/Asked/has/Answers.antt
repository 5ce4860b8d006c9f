use Rattle.std.proofs.Common.{◌≡◌, [], sym, ap, ◌∙◌, unwrap_or}
use Rattle.std.specs.Option.{option_copied}
use Rattle.std.specs.List.{list_any}
use Rattle.std.specs.Ordering.{nat_cmp}
use Rattle.std.specs.BTreeMap.{get}
use Rattle.mb_parts.specs.declared.request.Request.{Request as RequestRecord}
use Rattle.mb_forgery.specs.Asked.{is_same, with_tag}
use Rattle.mb_forgery.proofs.asked.Asked.has.Goals as goal

pub returns-in-Some : goal.returns-in-Some
returns-in-Some c asked holds =
    let found : c.in-Some.same_tag.now ≡ with_tag c.args.self.now.by_tag c.args.request.now.tag = ap (λ o. unwrap_or (option_copied o) []) (sym c.in-Some.is) ∙ ap (λ o. unwrap_or o []) c.get.ensures.value ∙ ap (λ n. unwrap_or (get nat_cmp c.args.self.now.by_tag n) []) c.first_number.ensures in
    c.contains.ensures.value ∙ ap (list_any (λ (q : RequestRecord). is_same q c.args.request.now)) (c.as_slice.ensures ∙ found) ∙ holds c.args.request.now

pub returns-in-None : goal.returns-in-None
returns-in-None c asked holds =
    let none : [] ≡ with_tag c.args.self.now.by_tag c.args.request.now.tag = ap (λ o. unwrap_or (option_copied o) []) (sym c.in-None.is) ∙ ap (λ o. unwrap_or o []) c.get.ensures.value ∙ ap (λ n. unwrap_or (get nat_cmp c.args.self.now.by_tag n) []) c.first_number.ensures in
    ap (list_any (λ (q : RequestRecord). is_same q c.args.request.now)) none ∙ holds c.args.request.now
