use Rattle.std.proofs.Common.{sym, subst, ◌∙◌}
use Rattle.mb_fetch.specs.Fetched.{Fetched}
use Rattle.mb_fetch.specs.Parts.{Represents}
use Rattle.mb_fetch.specs.Inside.{seen}
use Rattle.mb_fetch.proofs.Whole.{all_in_places}
use Rattle.mb_fetch.proofs.parts.Parts.all.Goals as goal

pub returns-clause-stands : goal.returns-clause-stands
returns-clause-stands c = λ pos digest search st.
    c.as_slice.ensures.value ∙ all_in_places (seen c.self.inside) c.self.invariant pos digest search (subst (λ (t : Fetched). Represents t pos digest search) (sym c.self.view_is) st)
