use Rattle.std.proofs.Common.{◌≡◌, Some, slice_get, sym, ap, ◌∙◌}
use Rattle.std.proofs.lemmas.Option.{slice_get-get_or}
use Rattle.mb_cache.specs.Represents.{machine_of}
use Rattle.mb_learn.proofs.Executing.{places_first, places_next, places_last}
use Rattle.mb_learn.proofs.line.Line.place_all.Goals as goal

pub loop-request-init : goal.loop-request-init
loop-request-init g c = places_first (machine_of g.V.Service.machine) c.args.self.now c.args.pos c.args.requests.now c.new-placed.result c.new-placed.ensures

pub loop-request-preserved : goal.loop-request-preserved
loop-request-preserved g c =
    let there : slice_get c.args.requests.now c.loop-request.request-index ≡ Some c.request-item.result = slice_get-get_or _ _ c.request-item.result c.loop-request-test.true ∙ ap (λ x. Some x) (sym c.request-item.is) in
    places_next (machine_of g.V.Service.machine) c.args.self.now c.loop-request.self c.place.new.self c.args.pos c.args.requests.now c.loop-request.request-index c.loop-request.placed c.push.new.self c.request-item.result c.in_ok-place.field-0
    c.loop-request.invariant there c.in_ok-place.ensures.placed c.in_ok-place.ensures.served c.in_ok-place.ensures.rest c.in_ok-push.ensures.ok

pub returns : goal.returns
returns g c = record {
  placed = places_last (machine_of g.V.Service.machine) c.args.self.now c.loop-request.self c.args.pos c.args.requests.now c.loop-request.request-index c.loop-request.placed c.loop-request-test.false c.loop-request.invariant;
  served = c.loop-request.invariant.served_is;
  rest = c.loop-request.invariant.keeps;
}
