use Rattle.std.proofs.Common.{ap, refl, ◌∙◌}
use Rattle.mb_model.specs.declared.known.LastReply.{LastReply}
use Rattle.mb_cache.specs.Represents.{machine_of, joined}
use Rattle.mb_cache.proofs.Clients.{served_fresh, last_written}
use Rattle.mb_cache.proofs.table.Table.serve.Goals as goal

pub returns-clause-served : goal.returns-clause-served
returns-clause-served g c =
    let r = c.args.request.now in
    let m = machine_of g.V.Service.machine in
    rw c.store.ensures
    (served_fresh m (joined c.args.service.now c.args.self.now) c.args.pos r r.client c.as_slice.result.now _ _ c.requires.fresh refl c.as_slice.ensures c.in_ok-result.ensures.state c.in_ok-result.ensures.answer)

pub returns-clause-answer : goal.returns-clause-answer
returns-clause-answer g c =
    let r = c.args.request.now in
    rw c.store.ensures
    (ap (λ (a : LastReply). a.result) (last_written c.args.self.now r.client r.client _ refl c.requires.client)
    ∙ (c.in_ok-result.ensures.answer ∙ ap (g.V.Service.machine.answer c.args.service.now) c.as_slice.ensures))
