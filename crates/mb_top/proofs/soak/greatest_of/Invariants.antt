use Rattle.std.proofs.Common.{◌≡◌, drop, map}
use Rattle.std.specs.Prelude.{max}
use Rattle.mb_model.specs.EnabledRules.{greatest}
use Rattle.mb_make.specs.Summary.{of_state, greatest_view, longest_log}
use Rattle.mb_top.proofs.soak.greatest_of.Given as goal

abbrev pub invariant-loop-host : goal.invariant-loop-host
invariant-loop-host l = record {
  view : max l.views (greatest (map (λ h. of_state (λ s. s.view) h.state) (drop l.host-index l.hosts))) ≡ greatest_view l.hosts;
  log : max l.longest (greatest (map (λ h. of_state (λ s. s.longest) h.state) (drop l.host-index l.hosts))) ≡ longest_log l.hosts;
}
