use Rattle.std.proofs.Common.{◌≡◌, ◌∙◌, ◌∷◌, map, sym, ap, subst}
use Rattle.mb_parts.specs.Fits.{IsPlace}
use Rattle.mb_model.specs.Plans.{opening_bases, base_of}
use Rattle.mb_plan.specs.Lent.{shown}
use Rattle.mb_plan.specs.Planned.{first_greatest}
use Rattle.mb_plan.proofs.PlanFits.{base_fits}
use Rattle.mb_plan.proofs.planning.base_of.Goals as goal

pub returns-clause-base : goal.returns-clause-base
returns-clause-base c = c.opening_base.ensures ∙ ap (λ l. first_greatest (c.stable_base.result.now ∷ opening_bases l)) c.requires.of ∙ c.stable_base.ensures _

pub returns-clause-place : goal.returns-clause-place
returns-clause-place c =
    let is : c.opening_base.result.now ≡ base_of (map shown c.args.logs.now) =
    c.opening_base.ensures ∙ ap (λ l. first_greatest (c.stable_base.result.now ∷ opening_bases l)) c.requires.of ∙ c.stable_base.ensures _ in
    subst (λ x. IsPlace x.pos) (sym is) (base_fits c.args.shape.now (map shown c.args.logs.now) c.requires.fits.1)
