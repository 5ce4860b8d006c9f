use Rattle.std.proofs.Common.{ap, ◌∙◌, cond, eqb, Some}
use Rattle.mb_normal.proofs.normal.Normal.pend.Goals as goal

pub returns : goal.returns
returns c = λ s h x st. record {
  shape_is = st.shape_is;
  host_is = st.host_is;
  slots = st.slots;
  votes = st.votes;
  pending = λ k lt. c.pend.ensures.pending k ∙ ap (cond (eqb c.args.request.client k) (Some c.args.request)) (st.pending k lt);
  checkpoints = st.checkpoints;
}
