use Rattle.std.proofs.Common.{◌∷◌, refl, sym, subst, OnOk}
use Rattle.mb_model.specs.Given.{Answer}
use Rattle.mb_model.specs.Histories.{Nudged}
use Rattle.mb_model.specs.Making.{resend}
use Rattle.mb_model.specs.Sending.{Progress, write, send, to_all}
use Rattle.mb_replica.specs.Represents.{StandsAt}
use Rattle.mb_replica.proofs.Behind.{stands_behind_entry}
use Rattle.mb_core.proofs.Nudged.{nudge_is}
use Rattle.mb_core.proofs.nudges.on_nudge.Goals as goal

-- src/nudges.rt
pub wish_again-requires : goal.wish_again-requires
wish_again-requires g c = let h = c.requires in record { me = h.me; history = Nudged ∷ h.history; represents = c.ask_next.ensures h.me h.history h.represents }

pub returns : goal.returns
returns g c = λ me x st.
    let y : Progress = send (to_all (resend me x.history)) x in
    let asked : StandsAt me c.args.replica.now c.send_resend.new.done y = c.in_ok-send_resend.ensures me x st in
    let now = stands_behind_entry me c.args.replica.now c.ask_next.new.replica c.send_resend.new.done y Nudged asked refl (c.ask_next.ensures me x.history st.represents) in
    subst (λ (a : Answer). OnOk c.wish_again.result (StandsAt me c.ask_next.new.replica c.wish_again.new.done a.left)) (sym (nudge_is me x))
    (c.wish_again.ensures me (write Nudged y) now)
