use Rattle.std.proofs.Common.{ap, ◌∙◌, cond, eqb}
use Rattle.mb_model.specs.Execution.{if_above}
use Rattle.mb_normal.proofs.normal.Normal.settle.Goals as goal

pub returns : goal.returns
returns c = λ s h x st. record {
  shape_is = st.shape_is;
  host_is = st.host_is;
  slots = st.slots;
  votes = st.votes;
  pending = λ k lt. c.settle.ensures.pending k ∙ ap (λ o. cond (eqb c.args.client k) (if_above c.args.seq o) o) (st.pending k lt);
  checkpoints = st.checkpoints;
}
