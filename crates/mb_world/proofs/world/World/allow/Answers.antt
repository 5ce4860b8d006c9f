use Rattle.std.proofs.Common.{Option, sym}
use Rattle.mb_msg.specs.declared.stamped.Stamped.{Stamped}
use Rattle.mb_world.specs.declared.seen.WorldStop.TheVariants as stop
use Rattle.mb_world.proofs.AnswerLaws.{name_first, missing_next, told_whole, allowed_where}
use Rattle.mb_world.proofs.world.World.allow.Goals as goal

pub returns-in-Some-clause-stops : goal.returns-in-Some-clause-stops
returns-in-Some-clause-stops g c = λ y x h. name_first (Option Stamped) y.schedule x c.args.event.now c.in-Some.stop (c.in-Some.ensures.stop y x h)

pub returns-in-Some-missing-clause-stops : goal.returns-in-Some-missing-clause-stops
returns-in-Some-missing-clause-stops g c = λ y x h. missing_next (Option Stamped) y.schedule x c.args.event.now (stop.NoSuchMessage c.in-Some-missing.number) (c.in_default.ensures.stop y x h) (c.in-Some-missing.ensures y x h)

pub returns-clause-stops : goal.returns-clause-stops
returns-clause-stops g c = λ y x h.
    let name = c.in_default.ensures.stop y x h in
    told_whole y.schedule x c.args.event.now c.content_of.result name (sym (c.in_default-missing.ensures y x h)) (c.content_of.ensures.stops y x h name)

pub returns-clause-content : goal.returns-clause-content
returns-clause-content g c = λ y x h.
    let name = c.in_default.ensures.stop y x h in
    allowed_where y.schedule x c.args.event.now c.content_of.result
    (told_whole y.schedule x c.args.event.now c.content_of.result name (sym (c.in_default-missing.ensures y x h)) (c.content_of.ensures.stops y x h name)) (c.content_of.ensures.content y x h name)
