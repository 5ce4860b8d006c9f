use Rattle.std.proofs.Common.{◌∙◌, Option, refl, sym, subst}
use Rattle.std.proofs.lemmas.Result.{err_from_is_err_and}
use Rattle.mb_node.specs.Receives.{Receives}
use Rattle.mb_node.specs.Receiving.{GivesOne}
use Rattle.mb_node.proofs.Faults.{link_no_budget, link_alone, calm_of, counts_none, counts_after, counts_as}
use Rattle.mb_node.proofs.Runs.{stopped_round, turn_stopped}
use Rattle.mb_node.proofs.Rounding.{round_lost, round_quietly, round_cut, round_turned}
use Rattle.mb_node.proofs.node.Node.round.Goals as goal

pub returns-in_err-arrival-clause-rounds : goal.returns-in_err-arrival-clause-rounds
returns-in_err-arrival-clause-rounds g c =
    let p = err_from_is_err_and c.from_residual.result c.from_residual.ensures.1 in
    stopped_round _ _ _ _ _ _ _ _ _ c.from_residual.result p.0 p.1 (λ n is. link_no_budget c.in_err-arrival.field-0.0 n (sym p.2 ∙ is))
    (round_lost _ c.args.self.now c.args.replica.now _ _ _ _ refl c.receive.ensures.sent c.requires.runs c.in_err-arrival.ensures.gives)

pub returns-in_default-clause-rounds : goal.returns-in_default-clause-rounds
returns-in_default-clause-rounds g c =
    round_quietly _ c.args.self.now c.args.replica.now _ _ _ _ refl c.receive.ensures.sent c.receive.new.self c.in_ok-arrival.arrival c.in_ok-arrival.ensures.gives c.event_of.result (λ me d rep. c.event_of.ensures.event me d rep)
    _ c.in_default.is refl refl refl

pub returns-in_default-clause-link : goal.returns-in_default-clause-link
returns-in_default-clause-link g c = counts_none _ _ _ _ _ (calm_of _ _ _ _ _ c.in_ok-arrival.ensures.link) (λ told. absurd cc)

pub returns-in_err-turn-clause-rounds : goal.returns-in_err-turn-clause-rounds
returns-in_err-turn-clause-rounds g c =
    let p = err_from_is_err_and c.from_residual-in_err-turn.result c.from_residual-in_err-turn.ensures.1 in
    let gives = subst (λ (t : Option Receives). GivesOne c.args.self.now.receiver c.receive.new.self c.in_ok-arrival.arrival (g.L.Link.seen c.args.link.now).received t) (sym c.in_err-turn.ensures.received) c.in_ok-arrival.ensures.gives in
    stopped_round _ _ _ _ _ _ _ _ _ c.from_residual-in_err-turn.result p.0 p.1 (λ n is. c.in_err-turn.ensures.unspent n (let e = sym p.2 ∙ is in cc))
    (round_cut _ c.args.self.now c.args.replica.now _ _ _ _ refl c.receive.ensures.sent c.receive.new.self c.in_ok-arrival.arrival gives c.event_of.result (λ me d rep. c.event_of.ensures.event me d rep)
    c.in-Some.event c.in-Some.is c.take_turn.new.replica _
    (λ me d n serves rep whole hosts host number. (turn_stopped me d n c.in-Some.event (record { written = (g.K.Sink.seen c.args.out.now).bytes; sent = (g.L.Link.seen c.receive.new.link).sent }) (record { written = (g.K.Sink.seen c.take_turn.new.out).bytes; sent = (g.L.Link.seen c.take_turn.new.link).sent }) c.take_turn.new.replica c.take_turn.new.outbox c.in_err-turn.field-0.0
    (c.in_err-turn.ensures.stands me d n serves rep whole hosts host number)).1))

pub returns-in_err-turn-clause-link : goal.returns-in_err-turn-clause-link
returns-in_err-turn-clause-link g c =
    let p = err_from_is_err_and c.from_residual-in_err-turn.result c.from_residual-in_err-turn.ensures.1 in
    counts_as _ _ _ _ _ _ (counts_after _ _ _ _ _ _ _ (calm_of _ _ _ _ _ c.in_ok-arrival.ensures.link) c.in_err-turn.ensures.link) (λ told. cc (p.1, p.2, told))

pub returns-in_err-turn-clause-sink : goal.returns-in_err-turn-clause-sink
returns-in_err-turn-clause-sink g c =
    let p = err_from_is_err_and c.from_residual-in_err-turn.result c.from_residual-in_err-turn.ensures.1 in
    counts_as _ _ _ _ _ _ c.in_err-turn.ensures.sink (λ told. cc (p.1, p.2, told))

pub returns-clause-rounds : goal.returns-clause-rounds
returns-clause-rounds g c =
    let gives = subst (λ (t : Option Receives). GivesOne c.args.self.now.receiver c.receive.new.self c.in_ok-arrival.arrival (g.L.Link.seen c.args.link.now).received t) (sym c.in_ok-turn.ensures.received) c.in_ok-arrival.ensures.gives in
    round_turned _ c.args.self.now c.args.replica.now _ _ _ _ refl c.receive.ensures.sent c.receive.new.self c.in_ok-arrival.arrival gives c.event_of.result (λ me d rep. c.event_of.ensures.event me d rep)
    c.in-Some.event c.in-Some.is c.take_turn.new.replica _ _ c.in_ok-turn.turn c.in_ok-turn.turn.stops refl c.in_ok-turn.ensures.runs refl c.behind-self.ensures
    c.in_ok-turn.ensures.who.1 c.in_ok-turn.ensures.who.0
    (λ me d n serves rep whole hosts host number. c.in_ok-turn.ensures.stands me d n serves rep whole hosts host number)

pub returns-in_err-arrival-clause-alone : goal.returns-in_err-arrival-clause-alone
returns-in_err-arrival-clause-alone g c =
    let p = err_from_is_err_and c.from_residual.result c.from_residual.ensures.1 in
    rw (p.1, p.2) (link_alone c.in_err-arrival.field-0.0)

pub returns-in_err-turn-clause-alone : goal.returns-in_err-turn-clause-alone
returns-in_err-turn-clause-alone g c =
    let p = err_from_is_err_and c.from_residual-in_err-turn.result c.from_residual-in_err-turn.ensures.1 in
    rw (p.1, p.2) (c.in_err-turn.ensures.alone)
