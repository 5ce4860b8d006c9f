use Rattle.std.proofs.Common.{◌<◌, length, refl, arith}
use Rattle.std.proofs.lemmas.Option.{slice_get_read}
use Rattle.mb_model.specs.Clients.{takes}
use Rattle.mb_members.proofs.AskerLaws.{taken_one, shape_one, side_written}
use Rattle.mb_members.proofs.clients.take_of.Goals as goal

pub take-requires-clause-host : goal.take-requires-clause-host
take-requires-clause-host c =
    let lt : c.from.result < length c.args.askers.now.items = omega (arith, c.from.ensures, c.requires.client) in
    let at = slice_get_read c.args.askers.now.items (length c.args.askers.now.items) c.from.result c.index_mut.result.now refl lt c.index_mut.ensures.value in
    rw (c.requires.host.1 c.from.result c.index_mut.result.now at) c.requires.host.2

pub returns-clause-answer : goal.returns-clause-answer
returns-clause-answer c = λ s sides all.
    let lt : c.from.result < length c.args.askers.now.items = omega (arith, c.from.ensures, c.requires.client) in
    let at = slice_get_read c.args.askers.now.items (length c.args.askers.now.items) c.from.result c.index_mut.result.now refl lt c.index_mut.ensures.value in
    rw (← c.from.ensures) (c.take.ensures.answer s.shape s.secret c.from.result (sides c.from.result) (all c.from.result c.index_mut.result.now at))

pub returns-clause-stands : goal.returns-clause-stands
returns-clause-stands c = λ s sides all.
    let lt : c.from.result < length c.args.askers.now.items = omega (arith, c.from.ensures, c.requires.client) in
    let at = slice_get_read c.args.askers.now.items (length c.args.askers.now.items) c.from.result c.index_mut.result.now refl lt c.index_mut.ensures.value in
    rw (← c.from.ensures)
    (side_written s c.args.askers.now.items sides c.from.result c.take.new.self (takes s.shape s.secret c.from.result (sides c.from.result) c.args.reply.now) all
    (c.take.ensures.stands s.shape s.secret c.from.result (sides c.from.result) (all c.from.result c.index_mut.result.now at)))

pub returns-clause-within : goal.returns-clause-within
returns-clause-within c = λ n all.
    let lt : c.from.result < length c.args.askers.now.items = omega (arith, c.from.ensures, c.requires.client) in
    let at = slice_get_read c.args.askers.now.items (length c.args.askers.now.items) c.from.result c.index_mut.result.now refl lt c.index_mut.ensures.value in
    taken_one n c.args.askers.now.items c.from.result c.index_mut.result.now c.take.new.self all at c.take.ensures.number

pub returns-clause-shapes : goal.returns-clause-shapes
returns-clause-shapes c = λ shape all.
    let lt : c.from.result < length c.args.askers.now.items = omega (arith, c.from.ensures, c.requires.client) in
    let at = slice_get_read c.args.askers.now.items (length c.args.askers.now.items) c.from.result c.index_mut.result.now refl lt c.index_mut.ensures.value in
    shape_one shape c.args.askers.now.items c.from.result c.index_mut.result.now c.take.new.self all at c.take.ensures.shape
