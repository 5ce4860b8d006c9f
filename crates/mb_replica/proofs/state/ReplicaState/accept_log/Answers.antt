use Rattle.std.proofs.Common.{◌≡◌, ◌∙◌, Option, Some, refl, sym, subst}
use Rattle.mb_base.specs.declared.shape.Shape.{Shape}
use Rattle.mb_parts.specs.declared.floor.Floor.{Floor}
use Rattle.mb_parts.specs.Fits.{FitsStable}
use Rattle.mb_msg.specs.declared.message.Message.TheVariants as message
use Rattle.mb_msg.specs.Fits.{FitsLog}
use Rattle.mb_model.specs.Given.{jump, floor_shown}
use Rattle.mb_model.specs.Histories.{Accepted}
use Rattle.mb_model.specs.Sending.{Progress}
use Rattle.mb_steps.proofs.StepPassed.{passes_log}
use Rattle.mb_change.specs.Written.{with_shown}
use Rattle.mb_replica.specs.Represents.{StandsAt}
use Rattle.mb_replica.proofs.Behind.{stands_behind_entry}
use Rattle.mb_replica.proofs.Held.{wrote_then_held, learnt_alone}
use Rattle.mb_replica.proofs.Shown.{floor_read, log_accepted}
use Rattle.mb_replica.proofs.state.ReplicaState.accept_log.Goals as goal

-- src/logs.rt
pub learn-requires : goal.learn-requires
learn-requires g c = subst (λ (s : Shape). FitsStable s c.args.m.stable) (sym (c.hold_shown.ensures.writes.same.shape ∙ c.jump.ensures.same)) c.requires.stable

pub returns-clause-stands : goal.returns-clause-stands
returns-clause-stands g c = λ me x done st none.
    let m = c.args.m in
    let old = c.args.self.now in
    let passes = passes_log me m none in
    let fits : FitsLog me.shape m = subst (λ (s : Shape). FitsLog s m) (sym st.represents.who.shape) c.requires in
    let shown : c.floor_shown.result ≡ floor_shown me m.host m.floor = c.floor_shown.ensures ∙ floor_read me m.host m.floor passes.floor in
    let y : Progress = jump me m.host (floor_shown me m.host m.floor) x in
    let jumped : StandsAt me c.jump.new.self done y =
    subst (λ (f : Option Floor). StandsAt me c.jump.new.self done (jump me m.host f x)) shown (c.jump.ensures.stands me x done m st fits refl shown passes.not_own) in
    stands_behind_entry me c.jump.new.self c.learn.new.self done y (Accepted (message.Log m)) jumped refl
    (log_accepted me c.jump.new.self c.learn.new.self y.history m jumped.represents fits none
    (wrote_then_held c.jump.new.self c.hold_shown.new.self c.learn.new.self (with_shown me y.history m.evidence) (λ s. s) (Some m.stable) c.hold_shown.ensures.writes (c.hold_shown.ensures.holds me y.history jumped.represents)
    (learnt_alone c.hold_shown.new.self c.learn.new.self m.stable c.learn.ensures)))
