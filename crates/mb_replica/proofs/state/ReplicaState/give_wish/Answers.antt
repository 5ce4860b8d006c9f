use Rattle.std.proofs.Common.{◌≡◌, refl, sym, subst}
use Rattle.mb_model.specs.Given.{Answer}
use Rattle.mb_replica.specs.Represents.{StandsAt}
use Rattle.mb_replica.proofs.Wished.{wish_refused, wish_answered, wish_kept}
use Rattle.mb_replica.proofs.state.ReplicaState.give_wish.Goals as goal

-- src/wishes.rt
pub returns-in-Some : goal.returns-in-Some
returns-in-Some g c = λ me x done st.
    subst (λ (a : Answer). (c.in-Some.outcome ≡ a.outcome) × StandsAt me c.args.self.now done a.left) (sym (wish_refused me x c.args.m.now c.in-Some.outcome (c.in-Some.ensures me x.history st.represents))) (refl, st)

pub returns : goal.returns
returns g c = λ me x done st.
    let m = c.args.m.now in
    wish_answered me c.args.self.now _ done x st m (c.in_default.ensures me x.history st.represents)
    (wish_kept me c.args.self.now _ x.history st.represents (record { same = record { shape = refl; host = refl; secret = refl }; tables = refl }) m c.requires
    (sym (c.in_default.ensures me x.history st.represents)) c.wish.ensures.stands)
