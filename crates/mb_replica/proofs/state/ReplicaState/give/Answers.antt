use Rattle.std.proofs.Common.{refl}
use Rattle.mb_replica.proofs.Answering.{answered, is_other}
use Rattle.mb_replica.proofs.state.ReplicaState.give.Goals as goal

-- src/given.rt
pub returns-in-ReqViewChange : goal.returns-in-ReqViewChange
returns-in-ReqViewChange g c = λ me x serves st.
    let gave = c.give_wish.ensures me x c.args.done.now st in
    rw c.in-ReqViewChange.is (answered me _ c.of-in-ReqViewChange.result c.give_wish.result _ ((λ o. refl), refl) c.of-in-ReqViewChange.ensures gave.0, gave.1)

pub returns-in-Log : goal.returns-in-Log
returns-in-Log g c = λ me x serves st. rw c.in-Log.is (c.give_log.ensures me x c.args.done.now st)

pub returns-in_default : goal.returns-in_default
returns-in_default g c =
    let kinds = c.in_default in
    let other = is_other c.args.message kinds.not-Request kinds.not-ReqViewChange kinds.not-Resend kinds.not-Log kinds.not-Fetch kinds.not-State kinds.not-Stop in
    λ me x serves st. c.give_other.ensures me x c.args.done.now serves other st
