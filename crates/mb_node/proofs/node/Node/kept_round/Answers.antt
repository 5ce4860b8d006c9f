use Rattle.std.proofs.Common.{◌≡◌, ◌∙◌, [], ◌∷◌, Option, refl, sym, subst}
use Rattle.std.proofs.lemmas.Result.{err_from_is_err_and}
use Rattle.mb_node.specs.Receives.{Receives}
use Rattle.mb_node.specs.Receiving.{GivesOne}
use Rattle.mb_node.specs.declared.stops.ServeStop.{ServeStop}
use Rattle.mb_node.specs.declared.stops.ServeStop.TheVariants as stop
use Rattle.mb_node.specs.Stops.{IsOfDisk, IsOfKeeping}
use Rattle.mb_node.specs.Keeping.{AreKept, IsFullFor}
use Rattle.mb_node.proofs.Faults.{link_no_budget, keeping_no_budget, link_alone, link_unwritten, calm_none, calm_of, counts_none, counts_after, counts_as}
use Rattle.mb_node.proofs.Kept.{keeping_unlinked, keeping_unwritten}
use Rattle.mb_node.proofs.Runs.{turn_stopped}
use Rattle.mb_node.proofs.KeptRounds.{kept_lost, kept_quietly, kept_unsaid, kept_cut, kept_turned, stopped_kept}
use Rattle.mb_node.proofs.node.Node.kept_round.Goals as goal

pub returns-in_err-arrived-clause-rounds : goal.returns-in_err-arrived-clause-rounds
returns-in_err-arrived-clause-rounds g c =
    let p = err_from_is_err_and c.from_residual.result c.from_residual.ensures.1 in
    stopped_kept _ _ _ _ _ _ _ _ _ _ _ _ _ c.from_residual.result p.0 p.1 (λ n is. link_no_budget c.in_err-arrived.field-0.0 n (sym p.2 ∙ is))
    (kept_lost _ c.args.self.now c.args.replica.now _ _ _ _ refl c.receive.ensures.sent p.0 (subst (λ (s : ServeStop). ¬ IsOfDisk s) (sym p.2) (link_alone c.in_err-arrived.field-0.0)) (λ is. link_unwritten c.in_err-arrived.field-0.0 (sym p.2 ∙ is))
    c.args.journal.now _ c.requires.keeps c.requires.runs c.in_err-arrived.ensures.gives)

pub returns-in_default-clause-rounds : goal.returns-in_default-clause-rounds
returns-in_default-clause-rounds g c =
    kept_quietly _ c.args.self.now c.args.replica.now _ _ _ _ refl c.receive.ensures.sent c.receive.new.self c.in_ok-arrived.arrived c.in_ok-arrived.ensures.gives c.event_of.result (λ me d rep. c.event_of.ensures.event me d rep)
    _ _ _ c.in_default.is refl refl refl

pub returns-in_err-keep-clause-rounds : goal.returns-in_err-keep-clause-rounds
returns-in_err-keep-clause-rounds g c =
    let p = err_from_is_err_and c.from_residual-in_err-keep.result c.from_residual-in_err-keep.ensures.1 in
    let causes : IsOfKeeping p.0 = subst IsOfKeeping (sym p.2) c.in_err-keep.ensures.causes in
    let kept = subst (λ (s : ServeStop). AreKept c.args.journal.now c.keep.new.journal (g.D.Disk.seen c.args.disk.now).moments (g.D.Disk.seen c.keep.new.disk).moments (c.in-Some.event ∷ []) [] × IsFullFor s c.keep.new.journal c.in-Some.event) (sym p.2) c.in_err-keep.ensures.kept in
    stopped_kept _ _ _ _ _ _ _ _ _ _ _ _ _ c.from_residual-in_err-keep.result p.0 p.1 (λ n is. keeping_no_budget p.0 n causes is)
    (kept_unsaid _ c.args.self.now c.args.replica.now _ _ _ _ refl c.receive.ensures.sent c.receive.new.self c.in_ok-arrived.arrived c.in_ok-arrived.ensures.gives c.event_of.result (λ me d rep. c.event_of.ensures.event me d rep)
    c.in-Some.event c.in-Some.is c.args.journal.now c.keep.new.journal _ _ p.0 (keeping_unwritten p.0 causes) c.requires.runs kept)

pub returns-in_err-keep-clause-link : goal.returns-in_err-keep-clause-link
returns-in_err-keep-clause-link g c =
    let p = err_from_is_err_and c.from_residual-in_err-keep.result c.from_residual-in_err-keep.ensures.1 in
    let causes : IsOfKeeping p.0 = subst IsOfKeeping (sym p.2) c.in_err-keep.ensures.causes in
    counts_none _ _ _ _ _ (calm_of _ _ _ _ _ c.in_ok-arrived.ensures.link) (λ told. keeping_unlinked p.0 causes (cc (p.1, told)))

pub returns-in_err-keep-clause-sink : goal.returns-in_err-keep-clause-sink
returns-in_err-keep-clause-sink g c =
    let p = err_from_is_err_and c.from_residual-in_err-keep.result c.from_residual-in_err-keep.ensures.1 in
    let causes : IsOfKeeping p.0 = subst IsOfKeeping (sym p.2) c.in_err-keep.ensures.causes in
    counts_none _ _ _ _ _ (calm_none _ _) (λ told. keeping_unwritten p.0 causes (cc (p.1, told)))

pub returns-in_err-keep-clause-disk : goal.returns-in_err-keep-clause-disk
returns-in_err-keep-clause-disk g c =
    let p = err_from_is_err_and c.from_residual-in_err-keep.result c.from_residual-in_err-keep.ensures.1 in
    counts_as _ _ _ _ _ _ c.in_err-keep.ensures.disk (λ told. cc (p.1, p.2, told))

pub returns-in_err-turn-clause-rounds : goal.returns-in_err-turn-clause-rounds
returns-in_err-turn-clause-rounds g c =
    let p = err_from_is_err_and c.from_residual-in_err-turn.result c.from_residual-in_err-turn.ensures.1 in
    let gives = subst (λ (t : Option Receives). GivesOne c.args.self.now.receiver c.receive.new.self c.in_ok-arrived.arrived (g.L.Link.seen c.args.link.now).received t) (sym c.in_err-turn.ensures.received) c.in_ok-arrived.ensures.gives in
    stopped_kept _ _ _ _ _ _ _ _ _ _ _ _ _ c.from_residual-in_err-turn.result p.0 p.1 (λ n is. c.in_err-turn.ensures.unspent n (let e = sym p.2 ∙ is in cc))
    (kept_cut _ c.args.self.now c.args.replica.now _ _ _ _ refl c.receive.ensures.sent c.receive.new.self c.in_ok-arrived.arrived gives c.event_of.result (λ me d rep. c.event_of.ensures.event me d rep)
    c.in-Some.event c.in-Some.is c.args.journal.now c.keep.new.journal _ _ c.take_turn.new.replica _ p.0 (subst (λ (s : ServeStop). ¬ IsOfDisk s) (sym p.2) c.in_err-turn.ensures.alone) c.in_ok-keep.ensures.kept c.in_ok-keep.ensures.runs
    (λ me d n serves rep whole hosts host number. (turn_stopped me d n c.in-Some.event (record { written = (g.K.Sink.seen c.args.out.now).bytes; sent = (g.L.Link.seen c.receive.new.link).sent }) (record { written = (g.K.Sink.seen c.take_turn.new.out).bytes; sent = (g.L.Link.seen c.take_turn.new.link).sent }) c.take_turn.new.replica c.take_turn.new.outbox c.in_err-turn.field-0.0
    (c.in_err-turn.ensures.stands me d n serves rep whole hosts host number)).1))

pub returns-clause-rounds : goal.returns-clause-rounds
returns-clause-rounds g c =
    let gives = subst (λ (t : Option Receives). GivesOne c.args.self.now.receiver c.receive.new.self c.in_ok-arrived.arrived (g.L.Link.seen c.args.link.now).received t) (sym c.in_ok-turn.ensures.received) c.in_ok-arrived.ensures.gives in
    kept_turned _ c.args.self.now c.args.replica.now _ _ _ _ refl c.receive.ensures.sent c.receive.new.self c.in_ok-arrived.arrived gives c.event_of.result (λ me d rep. c.event_of.ensures.event me d rep)
    c.in-Some.event c.in-Some.is c.args.journal.now c.keep.new.journal _ _ c.take_turn.new.replica _ _ c.in_ok-turn.turn c.in_ok-turn.turn.stops c.in_ok-keep.ensures.kept refl c.in_ok-turn.ensures.runs refl c.behind-self.ensures
    c.in_ok-turn.ensures.who.1 c.in_ok-turn.ensures.who.0
    (λ me d n serves rep whole hosts host number. c.in_ok-turn.ensures.stands me d n serves rep whole hosts host number)

pub returns-in_default-clause-link : goal.returns-in_default-clause-link
returns-in_default-clause-link g c = counts_none _ _ _ _ _ (calm_of _ _ _ _ _ c.in_ok-arrived.ensures.link) (λ told. absurd cc)

pub returns-in_err-turn-clause-link : goal.returns-in_err-turn-clause-link
returns-in_err-turn-clause-link g c =
    let p = err_from_is_err_and c.from_residual-in_err-turn.result c.from_residual-in_err-turn.ensures.1 in
    counts_as _ _ _ _ _ _ (counts_after _ _ _ _ _ _ _ (calm_of _ _ _ _ _ c.in_ok-arrived.ensures.link) c.in_err-turn.ensures.link) (λ told. cc (p.1, p.2, told))

pub returns-in_err-turn-clause-sink : goal.returns-in_err-turn-clause-sink
returns-in_err-turn-clause-sink g c =
    let p = err_from_is_err_and c.from_residual-in_err-turn.result c.from_residual-in_err-turn.ensures.1 in
    counts_as _ _ _ _ _ _ c.in_err-turn.ensures.sink (λ told. cc (p.1, p.2, told))

pub returns-in_err-turn-clause-disk : goal.returns-in_err-turn-clause-disk
returns-in_err-turn-clause-disk g c =
    let p = err_from_is_err_and c.from_residual-in_err-turn.result c.from_residual-in_err-turn.ensures.1 in
    counts_none _ _ _ _ _ (calm_of _ _ _ _ _ c.in_ok-keep.ensures.disk)
    (λ told. let same : c.in_err-turn.field-0.0 ≡ stop.DiskFault = cc (p.1, p.2, told) in c.in_err-turn.ensures.alone (subst IsOfDisk (sym same) tt))
