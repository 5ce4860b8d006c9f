use Rattle.std.proofs.Common.{sym, refl, ◌∙◌}
use Rattle.mb_normal.proofs.normal.Normal.make.Goals as goal

pub invariant_of-result : goal.invariant_of-result
invariant_of-result c = record {
  slots_shape = c.in_ok-make.ensures.shape;
  votes_shape = c.in_ok-make-2.ensures.nothing.shape_is;
  clients = c.in_ok-make-3.ensures.length;
  checkpoints_shape = c.in_ok-make-4.ensures.shape_is;
  votes_low = c.in_ok-make-2.ensures.low ∙ sym c.in_ok-make.ensures.nothing.low_is;
  checkpoints_low = c.in_ok-make-4.ensures.low_is ∙ sym c.in_ok-make.ensures.nothing.low_is;
}

pub returns : goal.returns
returns c = record {
  shape_is = refl;
  host_is = refl;
  slots = c.in_ok-make.ensures.nothing;
  votes = c.in_ok-make-2.ensures.nothing;
  pending = λ k lt. c.in_ok-make-3.ensures.nothing k;
  checkpoints = c.in_ok-make-4.ensures;
}
