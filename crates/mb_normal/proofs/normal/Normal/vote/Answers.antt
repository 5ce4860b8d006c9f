use Rattle.std.proofs.Common.{◌∙◌}
use Rattle.mb_normal.proofs.Tables.{vote_refused, votes_added, on_ok}
use Rattle.mb_normal.proofs.normal.Normal.vote.Goals as goal

pub returns-clause-refused : goal.returns-clause-refused
returns-clause-refused c = λ s h x st. vote_refused c.args.self.now s h x st c.args.pos c.args.host c.args.vote c.add.result c.add.ensures.refused

pub returns-clause-stands : goal.returns-clause-stands
returns-clause-stands c = on_ok c.add.result (λ stands s h x st. record {
  shape_is = st.shape_is;
  host_is = st.host_is;
  slots = st.slots;
  votes = stands s x.low x.votes st.votes;
  pending = st.pending;
  checkpoints = st.checkpoints;
}) c.add.ensures.stands

pub invariant_of-self : goal.invariant_of-self
invariant_of-self c =
    let t = c.args.self.now in
    let shape = votes_added t.votes c.add.new.self c.args.pos c.args.host c.args.vote c.add.result c.add.ensures.stands c.add.ensures.err in
    record {
      slots_shape = t.slots_shape;
      votes_shape = shape ∙ t.votes_shape;
      clients = t.clients;
      checkpoints_shape = t.checkpoints_shape;
      votes_low = c.add.ensures.low ∙ t.votes_low;
      checkpoints_low = t.checkpoints_low;
    }
