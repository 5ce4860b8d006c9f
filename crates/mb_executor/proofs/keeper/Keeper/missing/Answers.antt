use Rattle.std.proofs.Common.{◌≡◌, ◌∙◌, Option, Some, sym, ap, subst}
use Rattle.mb_model.specs.Execution.{part_held}
use Rattle.mb_fetch.specs.Fetched.{Fetched}
use Rattle.mb_executor.specs.Keeping.{Keeping}
use Rattle.mb_executor.specs.Represents.{RepresentsFetched}
use Rattle.mb_executor.proofs.keeper.Keeper.missing.Goals as goal

pub returns-in-Some-clause-stands : goal.returns-in-Some-clause-stands
returns-in-Some-clause-stands g c = λ id d st.
    let here : c.args.self.now.fetched ≡ Some c.in-Some.parts = sym (ap (λ (k : Keeping _). k.fetched) c.self.view_is) ∙ c.in-Some.is in
    c.missing.ensures.stands _ _ (part_held id d) (subst (λ (o : Option Fetched). RepresentsFetched id o d) here st)
