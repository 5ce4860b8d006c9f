use Rattle.std.proofs.Common.{◌≡◌, ◌∙◌, None, sym, subst}
use Rattle.mb_fetch.specs.Fetched.{Fetched, part_at}
use Rattle.mb_fetch.specs.Parts.{first_missing}
use Rattle.mb_fetch.specs.Assembled.{IsWhole}
use Rattle.mb_fetch.specs.Inside.{seen}
use Rattle.mb_fetch.proofs.Whole.{whole}
use Rattle.mb_fetch.proofs.parts.Parts.assemble.Goals as goal

pub returns : goal.returns
returns c =
    let none : first_missing (part_at c.args.self) ≡ None = sym c.missing.ensures.part ∙ c.in_default.is in
    let inside : first_missing (part_at (seen c.self.inside)) ≡ None = subst (λ (t : Fetched). first_missing (part_at t) ≡ None) (sym c.self.view_is) none in
    (none, subst (λ (t : Fetched). IsWhole t c.self.inside.parts.items) c.self.view_is (whole (seen c.self.inside) c.self.invariant inside))
