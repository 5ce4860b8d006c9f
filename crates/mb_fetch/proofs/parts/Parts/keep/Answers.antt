use Rattle.std.proofs.Common.{◌≡◌, ◌∙◌, ℕ, List, Some, sym, subst, ap}
use Rattle.mb_base.specs.Shapes.{Bytes}
use Rattle.mb_fetch.specs.Fetched.{Fetched, IsCertified}
use Rattle.mb_fetch.specs.Parts.{part_from}
use Rattle.mb_fetch.proofs.Certified.{all_certified}
use Rattle.mb_fetch.proofs.parts.Parts.keep.Goals as goal

pub take_all-requires-clause-certified : goal.take_all-requires-clause-certified
take_all-requires-clause-certified c = λ i part e.
    let m = c.args.state.now in
    let right = c.in_ok-check.ensures in
    let copied = c.in_ok-parts.ensures in
    let here : part_from m.first m.parts i ≡ Some part = ap (λ (l : List Bytes). part_from m.first l i) (sym copied) ∙ e in
    subst (λ (pos : ℕ). IsCertified pos c.args.self.now.digest i part) c.requires.position
    (subst (λ (digest : Bytes). IsCertified m.pos digest i part) (ap (λ (t : Fetched). t.digest) c.self.view_is) (all_certified c.self.inside.digest m c.requires.parts right i part here))
