-- What an answer unfolds to read schedules' texts and to print reports' texts on literals.
use Rattle.std.specs.Prelude.{⊤}
use Rattle.std.specs.Fmt.{digits}
use Rattle.hex.proofs.OnLiterals.{hex_on_literals}
use Rattle.mb_sched.specs.EventLines.{event_line}
use Rattle.mb_sched.specs.Headers.{header_by, are_faulty}
use Rattle.mb_sched.specs.Schedules.{schedule_of}
use Rattle.mb_sched.specs.TextLines.{all_lines}
use Rattle.mb_sched.specs.Report.{report_text}

unfoldable pub texts_on_literals : ⊤
unfolding hex_on_literals digits event_line header_by are_faulty all_lines schedule_of report_text
texts_on_literals = tt
