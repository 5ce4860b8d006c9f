use Rattle.std.proofs.Common.{◌<◌, length, refl, arith}
use Rattle.std.proofs.lemmas.Option.{slice_get_read}
use Rattle.mb_parts.specs.Fits.{FitsRequest}
use Rattle.mb_model.specs.Clients.{asks}
use Rattle.mb_members.proofs.AskerLaws.{ok_then, one_more, asked_one, shape_one, side_written, fits_of}
use Rattle.mb_members.proofs.clients.ask_of.Goals as goal

pub ask-requires-clause-few : goal.ask-requires-clause-few
ask-requires-clause-few c =
    let lt : c.from.result < length c.args.askers.now.items = omega (arith, c.from.ensures, c.requires.client) in
    let at = slice_get_read c.args.askers.now.items (length c.args.askers.now.items) c.from.result c.index_mut.result.now refl lt c.index_mut.ensures.value in
    let within = c.requires.few c.from.result c.index_mut.result.now at in
    omega arith

pub returns-clause-request : goal.returns-clause-request
returns-clause-request c = λ s sides all.
    let lt : c.from.result < length c.args.askers.now.items = omega (arith, c.from.ensures, c.requires.client) in
    let at = slice_get_read c.args.askers.now.items (length c.args.askers.now.items) c.from.result c.index_mut.result.now refl lt c.index_mut.ensures.value in
    rw (← c.from.ensures) (c.ask.ensures.request s.shape s.secret c.from.result (sides c.from.result) (all c.from.result c.index_mut.result.now at))

pub returns-clause-stands : goal.returns-clause-stands
returns-clause-stands c = λ s sides all.
    let lt : c.from.result < length c.args.askers.now.items = omega (arith, c.from.ensures, c.requires.client) in
    let at = slice_get_read c.args.askers.now.items (length c.args.askers.now.items) c.from.result c.index_mut.result.now refl lt c.index_mut.ensures.value in
    rw (← c.from.ensures)
    (ok_then c.ask.result _ _ (c.ask.ensures.stands s.shape s.secret c.from.result (sides c.from.result) (all c.from.result c.index_mut.result.now at))
    (λ new. side_written s c.args.askers.now.items sides c.from.result c.ask.new.self (asks (sides c.from.result)) all new))

pub returns-clause-fits : goal.returns-clause-fits
returns-clause-fits c = λ shape all.
    let lt : c.from.result < length c.args.askers.now.items = omega (arith, c.from.ensures, c.requires.client) in
    let at = slice_get_read c.args.askers.now.items (length c.args.askers.now.items) c.from.result c.index_mut.result.now refl lt c.index_mut.ensures.value in
    fits_of c.ask.result FitsRequest c.index_mut.result.now.shape shape (all c.from.result c.index_mut.result.now at) c.ask.ensures.fits

pub returns-clause-within : goal.returns-clause-within
returns-clause-within c = λ n all.
    let lt : c.from.result < length c.args.askers.now.items = omega (arith, c.from.ensures, c.requires.client) in
    let at = slice_get_read c.args.askers.now.items (length c.args.askers.now.items) c.from.result c.index_mut.result.now refl lt c.index_mut.ensures.value in
    asked_one n c.args.askers.now.items c.from.result c.index_mut.result.now c.ask.new.self all at (one_more c.ask.result c.index_mut.result.now c.ask.new.self c.ask.ensures.number c.ask.ensures.unchanged)

pub returns-clause-shapes : goal.returns-clause-shapes
returns-clause-shapes c = λ shape all.
    let lt : c.from.result < length c.args.askers.now.items = omega (arith, c.from.ensures, c.requires.client) in
    let at = slice_get_read c.args.askers.now.items (length c.args.askers.now.items) c.from.result c.index_mut.result.now refl lt c.index_mut.ensures.value in
    shape_one shape c.args.askers.now.items c.from.result c.index_mut.result.now c.ask.new.self all at c.ask.ensures.shape
