-- What sums a report up: the greatest view, the longest log, and how many results were accepted.
use Rattle.std.specs.Prelude.{ℕ, List, map, sum_by, Option, Some, None}
use Rattle.mb_model.specs.EnabledRules.{greatest}
use Rattle.mb_schedule.specs.declared.report.ClientLine.{ClientLine}
use Rattle.mb_schedule.specs.declared.report.HostLine.{HostLine}
use Rattle.mb_schedule.specs.declared.report.HostState.{HostState}

-- a number of a correct host's state; a faulty one has none
abbrev pub of_state : (HostState → ℕ) → Option HostState → ℕ
of_state f None = 0
of_state f (Some s) = f s

-- the greatest view of a correct host
abbrev pub greatest_view : List HostLine → ℕ
greatest_view hosts = greatest (map (λ h. of_state (λ s. s.view) h.state) hosts)

-- the most messages that the log of a correct host ever held
abbrev pub longest_log : List HostLine → ℕ
longest_log hosts = greatest (map (λ h. of_state (λ s. s.longest) h.state) hosts)

-- how many results the clients accepted
abbrev pub all_accepted : List ClientLine → ℕ
all_accepted clients = sum_by (λ c. c.accepted) clients
