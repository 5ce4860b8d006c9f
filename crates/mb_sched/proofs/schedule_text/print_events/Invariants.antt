use Rattle.std.proofs.Common.{◌≡◌, ◌++◌, take, string_bytes}
use Rattle.std.specs.List.{flat_map}
use Rattle.mb_sched.specs.ScheduleText.{event_text}
use Rattle.mb_sched.proofs.schedule_text.print_events.Given as goal

abbrev pub invariant-loop-event : goal.invariant-loop-event
invariant-loop-event l = string_bytes l.out ≡ string_bytes l.fn.out ++ flat_map event_text (take l.event-index l.events)
