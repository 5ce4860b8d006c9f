use Rattle.std.proofs.Common.{◌∙◌, Bool, ap, subst}
use Rattle.std.specs.Bool.{then_some}
use Rattle.mb_msg.specs.declared.event.Outcome.TheVariants as outcome
use Rattle.mb_cache.specs.declared.accept.Accept.{Accept}
use Rattle.mb_cache.specs.declared.accept.Accept.TheVariants.{Fresh, Old, Again}
use Rattle.mb_cache.specs.Answers.{Accepts}
use Rattle.mb_cache.specs.Tables.{last_of}
use Rattle.mb_replica.proofs.Numbers.{number_refused}
use Rattle.mb_replica.proofs.state.ReplicaState.number_refusal.Goals as goal

-- src/requests.rt
pub returns-in-Old : goal.returns-in-Old
returns-in-Old g c = λ me d r.
    let q = c.args.request.now in
    number_refused me c.args.self.now d r q (Old c.in-Old.last)
    (subst (λ (n : Accept). Accepts (last_of c.args.self.now.keeper.served.table q.client) q.seq n) c.in-Old.is c.requires.number)

pub returns-in-Again : goal.returns-in-Again
returns-in-Again g c = λ me d r.
    let q = c.args.request.now in
    number_refused me c.args.self.now d r q (Again c.in-Again.pos)
    (subst (λ (n : Accept). Accepts (last_of c.args.self.now.keeper.served.table q.client) q.seq n) c.in-Again.is c.requires.number)

pub returns-in-Fresh : goal.returns-in-Fresh
returns-in-Fresh g c = λ me d r.
    let q = c.args.request.now in
    c.then_some.ensures ∙ ap (λ (b : Bool). then_some b outcome.Idle) (c.is_behind_pending.ensures me d r)
    ∙ number_refused me c.args.self.now d r q Fresh
    (subst (λ (n : Accept). Accepts (last_of c.args.self.now.keeper.served.table q.client) q.seq n) c.in-Fresh.is c.requires.number)
