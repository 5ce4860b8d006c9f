use Rattle.std.proofs.Common.{List, ap, sym, ◌∙◌, ◌≡◌}
use Rattle.std.proofs.lemmas.Result.{IfOk-weaker}
use Rattle.mb_base.specs.Shapes.{Bytes}
use Rattle.mb_model.specs.Execution.{state_of}
use Rattle.mb_model.specs.States.{Snapshots, parts_of, state_digest}
use Rattle.mb_cache.specs.Represents.{joined, snapshots_of}
use Rattle.mb_executor.specs.Keeping.{Keeping}
use Rattle.mb_executor.proofs.keeper.Keeper.digest.Goals as goal

pub returns-clause-stands : goal.returns-clause-stands
returns-clause-stands g c = λ id d same here.
    let snapshots = snapshots_of g.V.Service.machine in
    let pos = c.args.pos in
    let is : parts_of snapshots (joined c.self.inside.service c.self.inside.table) ≡ parts_of id.snapshots (state_of id d) =
    ap (parts_of snapshots) (ap (λ (k : Keeping _). k.served) c.self.view_is ∙ here) ∙ ap (λ (s : Snapshots _). parts_of s (state_of id d)) (sym same) in
    IfOk-weaker c.digest.result (λ r. r ≡ state_digest (parts_of snapshots (joined c.self.inside.service c.self.inside.table)) pos) (λ r. r ≡ state_digest (parts_of id.snapshots (state_of id d)) pos)
    (λ r told. told ∙ ap (λ (parts : List Bytes). state_digest parts pos) is) c.digest.ensures.digest
