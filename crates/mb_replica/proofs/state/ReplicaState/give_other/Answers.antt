use Rattle.std.proofs.Common.{refl}
use Rattle.mb_replica.proofs.Answering.{answered, other_plain, given_stamped, given_reply}
use Rattle.mb_replica.proofs.state.ReplicaState.give_other.Goals as goal

-- src/given.rt
pub returns-in_ok-give_stamped-in-Ok : goal.returns-in_ok-give_stamped-in-Ok
returns-in_ok-give_stamped-in-Ok g c = λ me x done serves other st.
    let as_given = given_stamped me c.args.message c.in-Ok.stamped x c.in-Ok.ensures in
    let gave = c.in_ok-give_stamped-in-Ok.ensures me x done st in
    rw as_given (answered me c.args.message c.of.result c.in_ok-give_stamped-in-Ok.field-0 _ (other_plain me c.args.message other) c.of.ensures gave.0, gave.1)

pub returns-in-Err : goal.returns-in-Err
returns-in-Err g c = λ me x done serves other st.
    let idle = given_reply me c.args.message x other c.in-Err.ensures.0 in
    rw idle (answered me c.args.message c.of-in-Err.result _ _ (other_plain me c.args.message other) c.of-in-Err.ensures refl, st)
