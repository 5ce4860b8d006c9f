use Rattle.std.proofs.Common.{◌≡◌, true, Err, Option, option_map, ap, not}
use Rattle.std.specs.Bool.{then_some}
use Rattle.std.proofs.lemmas.Result.{err_from_is_err_and}
use Rattle.mb_parts.specs.declared.batch.Batch.{Batch}
use Rattle.mb_msg.specs.declared.stamped.Stamped.{Stamped}
use Rattle.mb_msg.specs.Stamps.{as_stamped}
use Rattle.mb_schedule.specs.declared.schedule.Name.TheVariants as name
use Rattle.mb_schedule.specs.Limits.{is_faulty}
use Rattle.mb_world_model.specs.WorldEvents.{culprit}
use Rattle.mb_world_model.specs.FaultyHosts.{commit_for, is_sendable_change, misfit}
use Rattle.mb_world_model.specs.Stops.{WrongKind, content_stop}
use Rattle.mb_world.proofs.AnswerLaws.{told_on}
use Rattle.mb_world.proofs.StopLaws.{is_doer_faulty}
use Rattle.mb_world.proofs.AllowedLaws.{told_alone}
use Rattle.mb_world.proofs.world.World.content_of.Goals as goal

pub returns-in_err-batch-in-StampPrepare-clause-stops : goal.returns-in_err-batch-in-StampPrepare-clause-stops
returns-in_err-batch-in-StampPrepare-clause-stops g c = λ y x h name.
    let e = c.in_err-batch-in-StampPrepare.field-0.0 in
    let kind = option_map WrongKind (misfit y.schedule x 0 c.as_slice-in-StampPrepare.result.now) in
    let made = err_from_is_err_and c.from_residual.result c.from_residual.ensures.1 in
    rw (c.in-StampPrepare.is, ← c.as_slice-in-StampPrepare.ensures, made.1, made.2)
    (told_alone {A = Option Stamped} kind (Err e) (told_on Batch (Option Stamped) kind e (c.in_err-batch-in-StampPrepare.ensures.stops y x h)))

pub returns-in-Give-clause-stops : goal.returns-in-Give-clause-stops
returns-in-Give-clause-stops g c = λ y x h name. rw c.in-Give.is (c.check_message.ensures.stops y x h)

pub returns-in-Take-clause-stops : goal.returns-in-Take-clause-stops
returns-in-Take-clause-stops g c = λ y x h name. rw c.in-Take.is (c.check_message-in-Take.ensures.stops y x h)

pub returns-in-Raw-clause-stops : goal.returns-in-Raw-clause-stops
returns-in-Raw-clause-stops g c = λ y x h name. rw (c.in-Raw.is, ← c.as_slice.ensures) (c.check_bytes.ensures.stops y x h)

pub returns-in-StampCommit-clause-stops : goal.returns-in-StampCommit-clause-stops
returns-in-StampCommit-clause-stops g c = λ y x h name.
    rw c.in-StampCommit.is (told_alone (content_stop y.schedule x c.in-StampCommit.message commit_for) c.commit_of.result (c.commit_of.ensures.stops y x h))

pub returns-in-StampAs-clause-stops : goal.returns-in-StampAs-clause-stops
returns-in-StampAs-clause-stops g c = λ y x h name.
    rw c.in-StampAs.is (told_alone (content_stop y.schedule x c.in-StampAs.message as_stamped) c.stamped_of.result (c.stamped_of.ensures.stops y x h))

pub returns-in-StampChange-clause-stops : goal.returns-in-StampChange-clause-stops
returns-in-StampChange-clause-stops g c = λ y x h named.
    let change = c.in-StampChange in
    let faulty : is_faulty y.schedule change.host ≡ true = is_doer_faulty y.schedule x c.args.event.now (name.Host change.host) (ap culprit change.is) named in
    rw change.is (told_alone (then_some (not (is_sendable_change y.schedule x change.host change.view change.after)) (WrongKind change.after)) c.change_of.result (c.change_of.ensures.stops y x h faulty))
