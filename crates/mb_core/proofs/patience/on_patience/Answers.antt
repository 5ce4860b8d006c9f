use Rattle.std.proofs.Common.{◌≡◌, refl, sym, subst}
use Rattle.mb_msg.specs.declared.event.Outcome.TheVariants as outcome
use Rattle.mb_model.specs.Given.{Answer}
use Rattle.mb_replica.specs.Represents.{StandsAt}
use Rattle.mb_replica.proofs.Wished.{patience_stays, patience_goes}
use Rattle.mb_core.proofs.patience.on_patience.Goals as goal

-- src/patience.rt
pub returns-then-is_last_view : goal.returns-then-is_last_view
returns-then-is_last_view g c = λ me x st.
    subst (λ (a : Answer). (outcome.Idle ≡ a.outcome) × StandsAt me c.args.replica.now c.args.done.now a.left) (sym (patience_stays me x (sym (c.if-is_last_view.ensures me x.history st.represents)))) (refl, st)

pub wish_onward-requires : goal.wish_onward-requires
wish_onward-requires g c = let h = c.requires in record { me = h.me; history = h.history; represents = h.represents; more = sym (c.if-is_last_view.ensures h.me h.history h.represents) }

pub returns : goal.returns
returns g c = λ me x st.
    let more = sym (c.if-is_last_view.ensures me x.history st.represents) in
    subst (λ (a : Answer). (outcome.Took ≡ a.outcome) × StandsAt me c.wish_onward.new.replica c.wish_onward.new.done a.left) (sym (patience_goes me x more)) (refl, c.in_ok-wish_onward.ensures me x st more)
