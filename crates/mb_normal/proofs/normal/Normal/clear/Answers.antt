use Rattle.std.proofs.Common.{sym, ◌∙◌}
use Rattle.mb_normal.proofs.Tables.{slots_cleared, votes_cleared}
use Rattle.mb_normal.proofs.normal.Normal.clear.Goals as goal

pub invariant_of-self : goal.invariant_of-self
invariant_of-self c =
    let t = c.args.self.now in
    record {
      slots_shape = c.clear.ensures.shape ∙ t.slots_shape;
      votes_shape = c.clear-2.ensures.shape_is ∙ t.votes_shape;
      clients = t.clients;
      checkpoints_shape = t.checkpoints_shape;
      votes_low = c.clear-2.ensures.low_is ∙ t.votes_low ∙ sym c.clear.ensures.nothing.low_is;
      checkpoints_low = t.checkpoints_low ∙ sym c.clear.ensures.nothing.low_is;
    }

pub returns : goal.returns
returns c = λ s h x st. record {
  shape_is = st.shape_is;
  host_is = st.host_is;
  slots = slots_cleared c.clear.new.self.window c.args.self.now.slots.window.low x.low st.slots.low_is c.clear.ensures.nothing;
  votes = votes_cleared c.clear-2.new.self c.args.self.now.votes s x.low st.votes.shape_is st.votes.low_is c.clear-2.ensures;
  pending = st.pending;
  checkpoints = st.checkpoints;
}
