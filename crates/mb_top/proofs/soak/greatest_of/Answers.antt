use Rattle.mb_schedule.specs.declared.report.HostLine.{HostLine}
use Rattle.mb_make.specs.Summary.{of_state}
use Rattle.mb_top.proofs.Summaries.{greatest_more, greatest_whole}
use Rattle.mb_top.proofs.soak.greatest_of.Goals as goal

pub loop-host-preserved : goal.loop-host-preserved
loop-host-preserved c = record {
  view = greatest_more (λ (h : HostLine). of_state (λ s. s.view) h.state) c.args.hosts.now c.loop-host.host-index _ _ _ _ _ c.loop-host-test.true c.heights_of-view.ensures.view c.max-views.ensures c.loop-host.invariant.view;
  log = greatest_more (λ (h : HostLine). of_state (λ s. s.longest) h.state) c.args.hosts.now c.loop-host.host-index _ _ _ _ _ c.loop-host-test.true c.heights_of-view.ensures.log c.max-longest.ensures c.loop-host.invariant.log;
}

pub returns : goal.returns
returns c = record {
  view = greatest_whole (λ (h : HostLine). of_state (λ s. s.view) h.state) c.args.hosts.now c.loop-host.host-index _ _ c.loop-host-test.false c.loop-host.invariant.view;
  log = greatest_whole (λ (h : HostLine). of_state (λ s. s.longest) h.state) c.args.hosts.now c.loop-host.host-index _ _ c.loop-host-test.false c.loop-host.invariant.log;
}
