use Rattle.std.proofs.Common.{Some, sym, ◌∙◌}
use Rattle.mb_world.proofs.AllowedLaws.{found_lost, found_unread, found_read}
use Rattle.mb_world.proofs.world.World.check_bytes.Goals as goal

pub returns-then-is_faulty-clause-stops : goal.returns-then-is_faulty-clause-stops
returns-then-is_faulty-clause-stops g c = λ y x h.
    rw (sym (c.is_faulty.ensures y x h) ∙ c.if-is_faulty.true) (found_lost y.schedule x (Some c.args.bytes.now))

pub returns-in-Some-clause-stops : goal.returns-in-Some-clause-stops
returns-in-Some-clause-stops g c = λ y x h.
    rw (sym (c.is_faulty.ensures y x h) ∙ c.if-is_faulty.false)
    (found_read y.schedule x c.args.bytes.now c.in-Some.message c.check_forged-found.result (sym c.in-Some.is ∙ c.in_ok-message.ensures.message y x h) (c.check_forged-found.ensures.stops y x h))

pub returns-in-None-clause-stops : goal.returns-in-None-clause-stops
returns-in-None-clause-stops g c = λ y x h.
    rw (sym (c.is_faulty.ensures y x h) ∙ c.if-is_faulty.false)
    (found_unread y.schedule x c.args.bytes.now (sym c.in-None.is ∙ c.in_ok-message.ensures.message y x h))
