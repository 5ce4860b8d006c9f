-- What a device tells after several calls.
use Rattle.std.proofs.Common.{◌≡◌, List, [], ◌++◌, Option, sym, ◌∙◌}
use Rattle.mb_edge.specs.Told.{with_more}
use Rattle.mb_edge.proofs.ToldLemmas.{with_more-nil, with_more-append}

pub more_both : {A : Type 0} (old mid new : Option (List A)) (xs ys : List A) → mid ≡ with_more old xs → new ≡ with_more mid ys → new ≡ with_more old (xs ++ ys)
more_both old mid new xs ys first second = (rw first at second) ∙ with_more-append old xs ys

pub more_none : {A : Type 0} (old : Option (List A)) → old ≡ with_more old []
more_none old = sym (with_more-nil old)
