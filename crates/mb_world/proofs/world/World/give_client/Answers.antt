use Rattle.std.proofs.Common.{◌≡◌, ◌<◌, ◌∙◌, false, true, length, arith}
use Rattle.mb_schedule.specs.Limits.{is_faulty_client}
use Rattle.mb_members.proofs.LeftLaws.{marked}
use Rattle.mb_world.proofs.WorldLaws.{client_lost, client_given}
use Rattle.mb_world.proofs.world.World.give_client.Goals as goal

pub returns-then-index-clause-stands : goal.returns-then-index-clause-stands
returns-then-index-clause-stands g c = λ y x h.
    let v = c.args.self.now in
    let there : c.args.client < length v.faulty_clients.items = omega (arith, v.faulty_clients_len, c.requires.client) in
    let faulty : is_faulty_client y.schedule c.args.client ≡ true =
    marked v.faulty_clients.items y.schedule.faulty_clients c.args.client c.from.result c.index.result.now there h.rest.clients c.from.ensures c.index.ensures ∙ c.if-index.true in
    client_lost y c.note.new.self x c.args.client c.args.bytes.now c.note.result faulty (c.note.ensures.stands y x h)

pub returns-clause-stands : goal.returns-clause-stands
returns-clause-stands g c = λ y x h.
    let v = c.args.self.now in
    let there : c.args.client < length v.faulty_clients.items = omega (arith, v.faulty_clients_len, c.requires.client) in
    let correct : is_faulty_client y.schedule c.args.client ≡ false =
    marked v.faulty_clients.items y.schedule.faulty_clients c.args.client c.from.result c.index.result.now there h.rest.clients c.from.ensures c.index.ensures ∙ c.if-index.false in
    client_given y c.client_reads.new.self x c.args.client c.args.bytes.now c.client_reads.result correct (c.client_reads.ensures.stands y x h)
