use Rattle.std.proofs.Common.{sym, ◌∙◌}
use Rattle.mb_normal.proofs.Tables.{votes_raised, kept_raised, slots_raised}
use Rattle.mb_normal.proofs.normal.Normal.raise.Goals as goal

pub invariant_of-self : goal.invariant_of-self
invariant_of-self c =
    let t = c.args.self.now in
    let votes = votes_raised t.votes c.raise-2.new.self c.args.low c.raise-2.ensures in
    let kept = kept_raised t.checkpoints c.raise-3.new.self c.args.low c.raise-3.ensures.stands in
    let slots_low = slots_raised t.slots.window c.raise.new.self.window c.args.low c.raise.ensures.stands in
    record {
      slots_shape = c.raise.ensures.shape ∙ t.slots_shape;
      votes_shape = votes.0 ∙ t.votes_shape;
      clients = t.clients;
      checkpoints_shape = kept.0 ∙ t.checkpoints_shape;
      votes_low = votes.1 ∙ sym slots_low;
      checkpoints_low = kept.1 ∙ sym slots_low;
    }

pub returns : goal.returns
returns c = λ s h x st. record {
  shape_is = st.shape_is;
  host_is = st.host_is;
  slots = c.raise.ensures.stands x.low x.slots st.slots;
  votes = c.raise-2.ensures s x.low x.votes st.votes;
  pending = st.pending;
  checkpoints = c.raise-3.ensures.stands s x.low x.checkpoints st.checkpoints;
}
