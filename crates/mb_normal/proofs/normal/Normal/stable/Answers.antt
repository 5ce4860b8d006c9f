use Rattle.mb_normal.proofs.normal.Normal.stable.Goals as goal

pub returns : goal.returns
returns c = λ s h x st. c.stable.ensures s x.low x.checkpoints st.checkpoints
