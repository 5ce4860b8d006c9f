use Rattle.std.proofs.Common.{refl}
use Rattle.mb_msg.specs.declared.stamped.Stamped.TheVariants as stamped
use Rattle.mb_refinement.proofs.Changes.{enter_taken}
use Rattle.mb_replica.proofs.Accepted.{awaits_change}
use Rattle.mb_replica.proofs.state.ReplicaState.accept_enter.Goals as goal

-- src/enters.rt
pub returns : goal.returns
returns g c = λ me d r passed.
    awaits_change me c.args.self.now _ (stamped.Enter c.args.m) d r passed (record { counter = refl; log = refl; executed = refl; state = refl; nudge = refl }) refl refl refl refl
    (record { same = record { shape = refl; host = refl; secret = refl }; tables = refl })
    (enter_taken me c.args.self.now.protocol.change c.enter.new.self d c.enter.ensures.same r.tables.change c.args.m c.enter.ensures.stands)
