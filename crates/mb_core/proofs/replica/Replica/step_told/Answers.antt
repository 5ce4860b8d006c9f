use Rattle.std.proofs.Common.{refl}
use Rattle.mb_history_laws.proofs.SoundRules.{transition_sound}
use Rattle.mb_core.proofs.Stepping.{stands_begin, step_begins, step_ends, is_told}
use Rattle.mb_core.proofs.replica.Replica.step_told.Goals as goal

-- src/replica.rt
pub on_event-requires-clause-stepping : goal.on_event-requires-clause-stepping
on_event-requires-clause-stepping g c = step_begins _ c.args.self.now.state c.new-done.result (c.requires.rests c.if-self.false) c.new-done.ensures.sent c.new-done.ensures.executed c.new-done.ensures.installed

pub returns-in-Ok-clause-stands : goal.returns-in-Ok-clause-stands
returns-in-Ok-clause-stands g c = λ me d serves represents whole.
    let begun = stands_begin me c.args.self.now.state c.new-done.result d represents whole c.new-done.ensures.sent c.new-done.ensures.executed c.new-done.ensures.installed in
    let gave = c.in-Ok.ensures me d serves begun in (
      is_told me c.on_event.new.replica c.on_event.new.done _ _ _ c.into_told.ensures.told gave.0 gave.1,
      (gave.1.represents, (transition_sound me d c.args.event.now represents.tables.sound whole).1),
    )

pub returns-in-Ok-clause-rests : goal.returns-in-Ok-clause-rests
returns-in-Ok-clause-rests g c = λ running.
    step_ends _ c.args.self.now.state _ c.args.event.now (c.requires.rests c.if-self.false)
    (λ me d serves represents whole.
    let begun = stands_begin me c.args.self.now.state c.new-done.result d represents whole c.new-done.ensures.sent c.new-done.ensures.executed c.new-done.ensures.installed in
    (c.in-Ok.ensures me d serves begun).1.represents)

pub returns-in-Ok-clause-halts : goal.returns-in-Ok-clause-halts
returns-in-Ok-clause-halts g c = (c.if-self.false, refl)
