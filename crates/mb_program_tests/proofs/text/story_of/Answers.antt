use Rattle.mb_sched.proofs.EventLimits.{schedule_fits}
use Rattle.mb_program_tests.proofs.text.story_of.Goals as goal

pub played-requires : goal.played-requires
played-requires c = schedule_fits c.args.text.now c.in_ok-schedule.schedule c.in_ok-schedule.ensures

pub returns : goal.returns
returns c = record { schedule = c.in_ok-schedule.schedule; is = c.in_ok-schedule.ensures; tells = c.in_ok-story.ensures }
