use Rattle.std.proofs.Common.{ap, ◌∙◌}
use Rattle.std.specs.Prelude.{nat_le}
use Rattle.mb_base.specs.Shapes.{quorum}
use Rattle.mb_normal.proofs.normal.Normal.has_quorum.Goals as goal

pub returns : goal.returns
returns c = λ s h x st.
    ap (λ q. nat_le q c.matching.result) (c.quorum.ensures ∙ ap quorum st.shape_is) ∙ ap (nat_le (quorum s)) (c.matching.ensures s x.low x.votes st.votes)
