use Rattle.std.proofs.Common.{List, None, refl, sym, subst}
use Rattle.mb_base.specs.Shapes.{Bytes}
use Rattle.mb_fetch.specs.Fetched.{IsFetched}
use Rattle.mb_fetch.specs.Parts.{Represents}
use Rattle.mb_fetch.proofs.Taking.{fetched_of, none_is, none_found}
use Rattle.mb_fetch.proofs.parts.Parts.make.Goals as goal

pub invariant_of-result : goal.invariant_of-result
invariant_of-result c = subst (λ (l : List Bytes). IsFetched (fetched_of c.args.pos c.args.digest l)) (sym c.in_ok-empty_parts.ensures) (none_is c.args.pos c.args.digest)

pub returns : goal.returns
returns c = subst (λ (l : List Bytes). Represents (fetched_of c.args.pos c.args.digest l) c.args.pos c.args.digest (λ i. None)) (sym c.in_ok-empty_parts.ensures)
    (record { pos_is = refl; digest_is = refl; finds = none_found c.args.pos c.args.digest })
