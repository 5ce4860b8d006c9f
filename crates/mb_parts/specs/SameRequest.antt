-- When the test finds two requests equal.
use Rattle.std.specs.Prelude.{Bool, nat_eq}
use Rattle.std.specs.Ordering.{eq_of_both, on}
use Rattle.std.specs.Cmp.Lexicographic.{pointwise}
use Rattle.mb_parts.specs.declared.request.Request.{Request}

-- field by field
abbrev pub same_request : Request → Request → Bool
same_request = eq_of_both (on (λ r. r.client) nat_eq) (eq_of_both (on (λ r. r.seq) nat_eq) (eq_of_both (on (λ r. r.op) (pointwise nat_eq)) (on (λ r. r.tag) (pointwise nat_eq))))
