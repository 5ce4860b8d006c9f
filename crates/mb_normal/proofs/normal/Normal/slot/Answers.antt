use Rattle.std.proofs.Common.{sym, ◌∙◌}
use Rattle.mb_normal.proofs.Tables.{slot_put}
use Rattle.mb_normal.proofs.normal.Normal.slot.Goals as goal

pub invariant_of-self : goal.invariant_of-self
invariant_of-self c =
    let t = c.args.self.now in
    let low = slot_put t.slots c.put.new.self c.args.pos (record { counter = c.args.counter; cert = c.args.cert; digest = c.args.digest; batch = c.args.batch }) c.put.result c.put.ensures.ok c.put.ensures.err in
    record {
      slots_shape = c.put.ensures.shape ∙ t.slots_shape;
      votes_shape = t.votes_shape;
      clients = t.clients;
      checkpoints_shape = t.checkpoints_shape;
      votes_low = t.votes_low ∙ sym low;
      checkpoints_low = t.checkpoints_low ∙ sym low;
    }

pub returns-in-Ok-clause-stands : goal.returns-in-Ok-clause-stands
returns-in-Ok-clause-stands c = λ s h x st. record {
  shape_is = st.shape_is;
  host_is = st.host_is;
  slots = c.in-Ok.ensures.ok x.low x.slots st.slots;
  votes = st.votes;
  pending = st.pending;
  checkpoints = st.checkpoints;
}
