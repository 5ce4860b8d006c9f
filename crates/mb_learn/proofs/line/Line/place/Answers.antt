use Rattle.std.proofs.Common.{refl, ap, ◌∙◌}
use Rattle.mb_parts.specs.declared.request.Request.{Request}
use Rattle.mb_learn.proofs.line.Line.place.Goals as goal

pub returns : goal.returns
returns g c = record {
  placed = ap (λ (q : Request). record { request = q; fresh = c.in_ok-fresh.fresh }) c.in_ok-duplicate.ensures
      ∙ ap (λ b. record { request = c.args.request.now; fresh = b }) c.in_ok-fresh.ensures.fresh;
  served = c.in_ok-fresh.ensures.served;
  rest = record { shape = refl; slots = refl; states = refl; clients = c.execute_quietly.ensures.len };
}
