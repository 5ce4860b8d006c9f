use Rattle.std.proofs.Common.{◌≡◌, Some, slice_get, sym, ap, ◌∙◌}
use Rattle.std.proofs.lemmas.Option.{slice_get-get_or}
use Rattle.mb_model.specs.EnabledRules.{number_of}
use Rattle.mb_normal.proofs.Greatest.{one_more, all_seen}
use Rattle.mb_normal.proofs.slots.note_requests.Goals as goal

pub loop-request-preserved : goal.loop-request-preserved
loop-request-preserved c =
    let there : slice_get c.args.requests.now c.loop-request.request-index ≡ Some c.request-item.result =
    slice_get-get_or _ _ c.request-item.result c.loop-request-test.true ∙ ap (λ x. Some x) (sym c.request-item.is) in
    record {
      places = c.note_request.ensures.length ∙ c.loop-request.invariant.places;
      more = one_more number_of c.args.requests.now _ c.request-item.result c.args.numbers.now.items c.loop-request.numbers.items c.note_request.new.numbers.items there c.note_request.ensures.length c.note_request.ensures.max c.loop-request.invariant.more;
    }

pub returns-clause-max : goal.returns-clause-max
returns-clause-max c = all_seen number_of c.args.requests.now _ c.args.numbers.now.items c.loop-request.numbers.items c.loop-request-test.false c.loop-request.invariant.more
