use Rattle.std.proofs.Common.{◌∙◌}
use Rattle.mb_normal.proofs.Tables.{kept_kept}
use Rattle.mb_normal.proofs.normal.Normal.keep.Goals as goal

pub returns-clause-stands : goal.returns-clause-stands
returns-clause-stands c = λ s h x st. record {
  shape_is = st.shape_is;
  host_is = st.host_is;
  slots = st.slots;
  votes = st.votes;
  pending = st.pending;
  checkpoints = c.keep.ensures.stands s x.low x.checkpoints st.checkpoints;
}

pub invariant_of-self : goal.invariant_of-self
invariant_of-self c =
    let t = c.args.self.now in
    let kept = kept_kept t.checkpoints c.keep.new.self c.args.checkpoint c.keep.ensures.stands in
    record {
      slots_shape = t.slots_shape;
      votes_shape = t.votes_shape;
      clients = t.clients;
      checkpoints_shape = kept.0 ∙ t.checkpoints_shape;
      votes_low = t.votes_low;
      checkpoints_low = kept.1 ∙ t.checkpoints_low;
    }
