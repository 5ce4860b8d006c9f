use Rattle.std.proofs.Common.{◌∙◌, ℕ, refl, ap, Some}
use Rattle.mb_refinement.specs.Tables.{Tables}
use Rattle.mb_replica.specs.Represents.{tables_of}
use Rattle.mb_replica.proofs.state.ReplicaState.install.Goals as goal

-- src/states.rt
pub returns-clause-writes : goal.returns-clause-writes
returns-clause-writes g c =
    let w = c.settle_all.ensures.writes in
    record {
      same = record { shape = w.same.shape; host = w.same.host; secret = w.same.secret };
      tables = ap (λ (t : Tables _). record t { exec = c.low-low.result }) w.tables
          ∙ ap (λ (n : ℕ). record (tables_of c.args.self.now) { normal = c.settle_all.new.self.protocol.normal; exec = n }) c.low-low.ensures.low_is;
    }

pub returns-clause-done : goal.returns-clause-done
returns-clause-done g c = record { sent = refl; executed = refl; installed = ap (λ (n : ℕ). Some n) c.low-low.ensures.low_is }
