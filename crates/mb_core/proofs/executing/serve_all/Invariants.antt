use Rattle.std.proofs.Common.{◌≡◌, [], length}
use Rattle.std.specs.Vec.Iter.{into_iter_items, into_iter_len}
use Rattle.mb_model.specs.Histories.{Identity}
use Rattle.mb_model.specs.Sending.{Progress}
use Rattle.mb_model.specs.CarriedOut.{serve_all}
use Rattle.mb_replica.specs.Represents.{Serves}
use Rattle.mb_core.specs.Serving.{ServesOn}
use Rattle.mb_core.proofs.Serving.{Leads}
use Rattle.mb_core.proofs.executing.serve_all.Given as goal

abbrev pub invariant-loop-request : goal.invariant-loop-request
invariant-loop-request g l = record {
  len : into_iter_len l.request-iterator ≡ length (into_iter_items l.request-iterator);
  leads : (me : Identity _) (x : Progress) → Serves g.V.Service.machine me → ServesOn me l.fn.replica l.fn.done l.pos l.fn.batch.requests [] x
      → Leads me l.replica l.done l.pos (into_iter_items l.request-iterator) l.requests (serve_all me l.pos l.fn.batch.requests x);
}
