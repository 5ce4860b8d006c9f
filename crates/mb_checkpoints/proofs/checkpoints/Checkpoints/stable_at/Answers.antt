use Rattle.std.proofs.Common.{◌*◌, ◌^◌, ◌<◌, Some, None, ap, sym, ◌∙◌, subst, arith}
use Rattle.mb_base.specs.Shapes.{interval}
use Rattle.mb_model.specs.Stable.{stable_member}
use Rattle.mb_checkpoints.specs.Certificates.{whole_row, first_quorum}
use Rattle.mb_checkpoints.proofs.Agreed.{stable_none, stable_some, each_some}
use Rattle.mb_checkpoints.proofs.Places.{product_fits}
use Rattle.mb_checkpoints.proofs.checkpoints.Checkpoints.stable_at.Goals as goal

pub returns-in_default : goal.returns-in_default
returns-in_default c = let t = c.args.self.now in stable_none t.shape (c.args.number * interval t.shape) (whole_row t c.args.number) (sym c.in_ok-said.ensures ∙ c.in_default.is)

pub overflow_mul-result : goal.overflow_mul-result
overflow_mul-result c =
    let t = c.args.self.now in
    let fits : c.args.number * c.from.result < 2 ^ 64 = subst (λ k. c.args.number * k < 2 ^ 64) (sym (c.from.ensures ∙ c.k.ensures)) (product_fits c.args.number t.first (interval t.shape) t.shape.interval_in.0 t.shape.interval_in.1 c.requires t.low_in) in
    omega (arith, fits)

pub returns : goal.returns
returns c =
    let t = c.args.self.now in
    let said = c.in-Some.said in
    ap (λ k. Some (record { pos = c.args.number * k; state = said.state; members = c.in_ok-stable_members.field-0 })) (c.from.ensures ∙ c.k.ensures)
    ∙ ap (λ ms. Some (record { pos = c.args.number * interval t.shape; state = said.state; members = ms })) (c.in_ok-stable_members.ensures ∙ each_some (stable_member t.shape) (first_quorum None said t c.args.number))
    ∙ stable_some t.shape (c.args.number * interval t.shape) (whole_row t c.args.number) said (sym c.in_ok-said.ensures ∙ c.in-Some.is)
