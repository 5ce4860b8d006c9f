-- The schedule of a soak, and the line that is told of it.
use Rattle.std.specs.Prelude.{ℕ, ◌++◌, false, true, [], ◌∷◌, length, replicate, codes}
use Rattle.std.proofs.Common.{lit≤}
use Rattle.std.specs.Fmt.{decimal}
use Rattle.mb_base.specs.Shapes.{Bytes}
use Rattle.mb_base.specs.declared.shape.Shape.{Shape}
use Rattle.mb_schedule.specs.declared.report.Report.{Report}
use Rattle.mb_schedule.specs.declared.schedule.Schedule.{Schedule}
use Rattle.mb_world.specs.Reports.{report_of}
use Rattle.mb_make.specs.Soaks.{events_drawn}
use Rattle.mb_make.specs.Summary.{greatest_view, longest_log, all_accepted}
use Rattle.mb_top.specs.declared.soak.Summary.{Summary}
use Rattle.mb_top.specs.Systems.{system_of, world}

-- ---- the schedule

-- three hosts, with checkpoints at each 16th position, and four clients
abbrev pub soak_shape : Shape
soak_shape = record { f = 1; k = 16; clients = 4; faults_in = (lit≤ tt, lit≤ tt); interval_in = (lit≤ tt, lit≤ tt); clients_in = (lit≤ tt, lit≤ tt) }

-- Host 2 is faulty.
abbrev pub soak_hosts : Schedule
soak_hosts = record { shape = soak_shape; secret = replicate 32 7; faulty_hosts = false ∷ false ∷ true ∷ []; faulty_clients = replicate 4 false; events = [] }

-- so many events, each drawn as the world stands before it
abbrev pub soak_of : ℕ → ℕ → Schedule
soak_of seed n = record soak_hosts { events = events_drawn (system_of soak_hosts) seed n }

-- ---- what is told

-- the numbers of a report
abbrev pub summed_up : ℕ → ℕ → Report → Summary
summed_up seed n r = record {
  seed = seed;
  events = n;
  line = length r.line;
  accepted = all_accepted r.clients;
  views = greatest_view r.hosts;
  longest = longest_log r.hosts;
}

abbrev pub summary_text : Summary → Bytes
summary_text x =
    codes "soak " ++ (decimal x.seed ++ (codes " " ++ (decimal x.events ++ (codes " line " ++ (decimal x.line ++ (codes " accepted " ++ (decimal x.accepted
    ++ (codes " views " ++ (decimal x.views ++ (codes " longest " ++ (decimal x.longest ++ codes "\n")))))))))))

abbrev pub soak_text : ℕ → ℕ → Bytes
soak_text seed n = summary_text (summed_up seed n (report_of (system_of (soak_of seed n)) (world (soak_of seed n) n)))
