use Rattle.std.proofs.Common.{◌≡◌, ◌∙◌, List, [], ◌∷◌, ap, sym, subst, arith, length}
use Rattle.std.specs.Vec.Iter.{into_iter_items}
use Rattle.mb_parts.specs.declared.request.Request.{Request}
use Rattle.mb_msg.specs.declared.event.Placed.{Placed}
use Rattle.mb_model.specs.CarriedOut.{serve_all, serve}
use Rattle.mb_core.specs.Serving.{ServesOn}
use Rattle.mb_core.proofs.Serving.{Leads, leads_from, leads_on, leads_to, nothing_left}
use Rattle.mb_core.proofs.executing.serve_all.Goals as goal

-- src/executing.rt
pub loop-request-init : goal.loop-request-init
loop-request-init g c =
    let gives = c.into_iter-request-iterator.ensures.into_iter_gives in
    record {
      len = omega (arith, ap length gives.0, gives.1);
      leads = λ me x serves s. leads_from me c.args.replica.now c.args.done.now c.args.pos c.args.batch.requests (into_iter_items c.into_iter-request-iterator.result) c.new-requests.result x (gives.0 ∙ c.into_vec-request-items.ensures) c.new-requests.ensures s;
    }

pub serve-requires : goal.serve-requires
serve-requires g c =
    let t = c.requires in
    let l = c.loop-request.invariant.leads t.me t.left t.serves t.stands in (
      into_iter_items c.next.new.self,
      (
        c.loop-request.requests,
        record {
          me = t.me;
          left = l.now;
          serves = t.serves;
          stands = subst (λ (rs : List Request). ServesOn t.me c.loop-request.replica c.loop-request.done c.args.pos rs c.loop-request.requests l.now) c.in-Some.ensures.steps.0 l.stands;
        },
      ),
    )

pub loop-request-preserved : goal.loop-request-preserved
loop-request-preserved g c =
    let rest = into_iter_items c.next.new.self in
    let q = c.in-Some.request in
    let left : into_iter_items c.loop-request.request-iterator ≡ q ∷ rest = c.in-Some.ensures.steps.0 in
    let few = c.in-Some.ensures.steps.1 in
    let was = c.loop-request.invariant.len in
    record {
      len = omega (arith, few, was, ap length left);
      leads = λ me x serves s.
          let all = serve_all me c.args.pos c.args.batch.requests x in
          let l = subst (λ (rs : List Request). Leads me c.loop-request.replica c.loop-request.done c.args.pos rs c.loop-request.requests all) left (c.loop-request.invariant.leads me x serves s) in
          let on = c.in_ok-fresh.ensures me l.now rest c.loop-request.requests serves l.stands in
          leads_on me c.loop-request.replica c.serve.new.replica c.loop-request.done c.serve.new.done c.args.pos q rest c.loop-request.requests c.push.new.self all l
          (subst (λ (more : List Placed). ServesOn me c.serve.new.replica c.serve.new.done c.args.pos rest more (serve me c.args.pos q l.now)) (sym c.in_ok-push.ensures.ok) on);
    }

pub returns : goal.returns
returns g c = λ me x serves s.
    let spent = c.in-None.ensures.steps.0 in
    let was = c.loop-request.invariant.len in
    let none : into_iter_items c.loop-request.request-iterator ≡ [] = nothing_left _ (omega (arith, spent, was)) in
    let all = serve_all me c.args.pos c.args.batch.requests x in
    leads_to me c.loop-request.replica c.loop-request.done c.args.pos c.loop-request.requests all
    (subst (λ (rs : List Request). Leads me c.loop-request.replica c.loop-request.done c.args.pos rs c.loop-request.requests all) none (c.loop-request.invariant.leads me x serves s))
