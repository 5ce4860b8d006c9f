use Rattle.mb_normal.proofs.normal.Normal.floor_of.Goals as goal

pub returns : goal.returns
returns c = λ s h x st. c.floor_of.ensures s x.low x.checkpoints st.checkpoints
