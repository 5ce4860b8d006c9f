use Rattle.std.proofs.Common.{◌∙◌, refl}
use Rattle.mb_normal.specs.Searches.{with_pending}
use Rattle.mb_refinement.proofs.Positions.{left_by_call}
use Rattle.mb_replica.proofs.Asking.{request_written}
use Rattle.mb_replica.proofs.state.ReplicaState.pend.Goals as goal

-- src/requests.rt
pub invariant_of-self-clause-normal_is : goal.invariant_of-self-clause-normal_is
invariant_of-self-clause-normal_is g c =
    let a = c.args.self.now.protocol in
    let left = left_by_call a.normal c.pend.new.self (λ y. with_pending y c.args.request) c.pend.ensures in
    (left.shape_is ∙ a.normal_is.0, left.host_is ∙ a.normal_is.1)

pub invariant_of-self-clause-low_is : goal.invariant_of-self-clause-low_is
invariant_of-self-clause-low_is g c =
    let a = c.args.self.now.protocol in
    (left_by_call a.normal c.pend.new.self (λ y. with_pending y c.args.request) c.pend.ensures).low_is ∙ a.low_is

pub returns : goal.returns
returns g c = λ me x done s fresh.
    request_written me c.args.self.now _ done c.args.request x (record { same = record { shape = refl; host = refl; secret = refl }; tables = refl }) c.pend.ensures c.requires fresh s
