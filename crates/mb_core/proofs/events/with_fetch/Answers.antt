use Rattle.std.proofs.Common.{◌∙◌, sym}
use Rattle.mb_core.proofs.Bounds.{behind_low}
use Rattle.mb_core.proofs.Finishing.{fetched_stand}
use Rattle.mb_core.proofs.Stepping.{step_history}
use Rattle.mb_core.proofs.events.with_fetch.Goals as goal

-- src/events.rt
pub send_fetch-requires-clause-behind : goal.send_fetch-requires-clause-behind
send_fetch-requires-clause-behind g c =
    let s = c.requires in
    behind_low s.me c.args.replica.now s.left.history s.stands.represents (c.asks_for_state.ensures.behind s.me s.left.history s.stands.represents c.if-asks_for_state.true)

pub send_fetch-requires-clause-history : goal.send_fetch-requires-clause-history
send_fetch-requires-clause-history g c = step_history _ _ _ c.requires

pub returns-then-asks_for_state : goal.returns-then-asks_for_state
returns-then-asks_for_state g c = λ me d x st before.
    let asks = sym (c.asks_for_state.ensures.reads me d x.history st.represents before) ∙ c.if-asks_for_state.true in
    rw asks (c.send_fetch.ensures me x st (c.missing.ensures.stands me x.history (fetched_stand me x.history _ st.represents.tables.parts)))

pub returns : goal.returns
returns g c = λ me d x st before.
    let asks = sym (c.asks_for_state.ensures.reads me d x.history st.represents before) ∙ c.if-asks_for_state.false in
    rw asks st
