use Rattle.std.proofs.lemmas.Result.{IfOk-weaker}
use Rattle.mb_cache.specs.Represents.{machine_of, snapshots_of}
use Rattle.mb_learn.specs.Executed.{state_now}
use Rattle.mb_learn.specs.Proved.{digest_behind}
use Rattle.std.proofs.Common.{◌≡◌, ◌∙◌, length}
use Rattle.mb_learn.proofs.Noting.{state_behind}
use Rattle.mb_learn.proofs.learner.Learner.state.Goals as goal

pub returns-clause-digest : goal.returns-clause-digest
returns-clause-digest g c s secret initial taken slots rep =
    let m = machine_of g.V.Service.machine in
    let snapshots = snapshots_of g.V.Service.machine in
    IfOk-weaker c.state.result (λ d. d ≡ state_now snapshots c.args.self.now.line) (λ d. d ≡ digest_behind s m initial snapshots slots (length slots))
    (λ d is. is ∙ state_behind s m initial snapshots slots c.args.self.now.line rep.executes) c.state.ensures.digest
