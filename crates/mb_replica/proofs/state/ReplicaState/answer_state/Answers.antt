use Rattle.std.proofs.Common.{◌∙◌, ◌∷◌, Ok, refl, ap, subst}
use Rattle.mb_msg.specs.declared.message.Message.TheVariants as message
use Rattle.mb_msg.specs.declared.event.Outcome.TheVariants as outcome
use Rattle.mb_model.specs.Histories.{Accepted, DroppedParts}
use Rattle.mb_model.specs.Stable.{low_of}
use Rattle.mb_model.specs.Execution.{parts_held}
use Rattle.mb_model.specs.Sending.{write}
use Rattle.mb_model.specs.Given.{answer, install, give_state}
use Rattle.mb_cache.specs.Represents.{snapshots_of}
use Rattle.mb_executor.specs.declared.fetching.Fetched.{Fetched}
use Rattle.mb_executor.specs.Keeping.{Keeping, found}
use Rattle.mb_executor.specs.Taking.{Takes}
use Rattle.mb_replica.proofs.Entries.{gives_as}
use Rattle.mb_replica.proofs.Fetching.{has_parts, held_of, wanted_here, wanted_is, at_low, digest_is, held_now, wrong_given, held_given, parts_pass, parts_given, none_missing, from_parts, state_pass, state_given, bad_given}
use Rattle.mb_replica.proofs.Installed.{parts_written, parts_emptied, state_written, installed_clients, held_again, parts_dropped, parts_taken, state_installed}
use Rattle.mb_replica.proofs.state.ReplicaState.answer_state.Goals as goal

-- src/states.rt
pub take_state-requires : goal.take_state-requires
take_state-requires g c =
    let t = c.requires.standing in
    let r = c.args.self.now in
    let m = c.args.m.now in
    let d = t.left.history in
    let rep = t.stands.represents in
    let wanted = wanted_is t.me r d m.pos rep c.requires.stable c.requires.behind in
    record {
      held = held_of t.me r.keeper.fetched d m.pos r.protocol.stable.state rep.tables.parts (at_low t.me r t.left rep m wanted) (digest_is t.me r t.left rep m wanted);
      parts = has_parts r.protocol.shape m c.requires.fits;
    }

pub install-requires : goal.install-requires
install-requires g c =
    let t = c.requires.standing in
    let r = c.args.self.now in
    let m = c.args.m.now in
    let x = t.left in
    let rep = t.stands.represents in
    let k = c.take_state.new.self in
    let snapshots = snapshots_of g.V.Service.machine in
    let wanted = wanted_is t.me r x.history m.pos rep c.requires.stable c.requires.behind in
    let takes = subst (λ (f : Fetched). Takes snapshots r.protocol.stable.state (found r.keeper.fetched) m r.keeper k (Ok f)) c.in-State.is c.in_ok-part.ensures in
    let first = Accepted (message.State m) ∷ x.history in
    installed_clients t.me r x.history first (low_of t.me first) (parts_held t.me first) k.served rep (from_parts t.me r x rep m wanted takes.0.0 takes.0.1 takes.1.0 snapshots t.serves.snapshots ∙ takes.1.1.0)

pub returns-in-WrongDigest : goal.returns-in-WrongDigest
returns-in-WrongDigest g c = λ me x serves s.
    let r = c.args.self.now in
    let m = c.args.m.now in
    let k = c.take_state.new.self in
    let rep = s.represents in
    let wanted = wanted_is me r x.history m.pos rep c.requires.stable c.requires.behind in
    let part = c.in-WrongDigest.part in
    let takes = subst (λ (f : Fetched). Takes (snapshots_of g.V.Service.machine) r.protocol.stable.state (found r.keeper.fetched) m r.keeper k (Ok f)) c.in-WrongDigest.is c.in_ok-part.ensures in
    gives_as me _ c.args.done.now (outcome.WrongDigest part) (answer (outcome.WrongDigest part) x) (give_state me m x) (wrong_given me r x rep m wanted part takes.0)
    (refl, held_again me r _ c.args.done.now x s m (at_low me r x rep m wanted) (parts_written me r k takes.1.rest_stays) takes.1)

pub returns-in-Nothing : goal.returns-in-Nothing
returns-in-Nothing g c = λ me x serves s.
    let r = c.args.self.now in
    let m = c.args.m.now in
    let k = c.take_state.new.self in
    let rep = s.represents in
    let wanted = wanted_is me r x.history m.pos rep c.requires.stable c.requires.behind in
    let takes = subst (λ (f : Fetched). Takes (snapshots_of g.V.Service.machine) r.protocol.stable.state (found r.keeper.fetched) m r.keeper k (Ok f)) c.in-Nothing.is c.in_ok-part.ensures in
    gives_as me _ c.args.done.now outcome.Idle (answer outcome.Idle x) (give_state me m x) (held_given me r x rep m wanted takes.0 takes.1.0)
    (refl, held_again me r _ c.args.done.now x s m (at_low me r x rep m wanted) (parts_written me r k takes.1.1.rest_stays) takes.1.1)

pub returns-in-BadState : goal.returns-in-BadState
returns-in-BadState g c = λ me x serves s.
    let r = c.args.self.now in
    let m = c.args.m.now in
    let k = c.take_state.new.self in
    let rep = s.represents in
    let wanted = wanted_is me r x.history m.pos rep c.requires.stable c.requires.behind in
    let part = c.in-BadState.part in
    let at = c.in-BadState.at in
    let snapshots = snapshots_of g.V.Service.machine in
    let takes = subst (λ (f : Fetched). Takes snapshots r.protocol.stable.state (found r.keeper.fetched) m r.keeper k (Ok f)) c.in-BadState.is c.in_ok-part.ensures in
    gives_as me _ c.args.done.now (outcome.BadState part at) (answer (outcome.BadState part at) (write DroppedParts x)) (give_state me m x)
    (bad_given me r x rep m wanted takes.0.0 takes.0.1 takes.1.0 snapshots serves.snapshots part at takes.1.1.0)
    (refl, parts_dropped me r _ c.args.done.now x s m (at_low me r x rep m wanted) (parts_emptied me r k takes.1.1.1) (ap (λ (y : Keeping _). y.fetched) takes.1.1.1))

pub returns-in-Parts : goal.returns-in-Parts
returns-in-Parts g c = λ me x serves s.
    let r = c.args.self.now in
    let m = c.args.m.now in
    let k = c.take_state.new.self in
    let rep = s.represents in
    let wanted = wanted_is me r x.history m.pos rep c.requires.stable c.requires.behind in
    let takes = subst (λ (f : Fetched). Takes (snapshots_of g.V.Service.machine) r.protocol.stable.state (found r.keeper.fetched) m r.keeper k (Ok f)) c.in-Parts.is c.in_ok-part.ensures in
    gives_as me _ c.args.done.now outcome.Took (answer outcome.Took (write (Accepted (message.State m)) x)) (give_state me m x) (parts_given me r x rep m wanted takes.0.0 takes.0.1 takes.1.0)
    (refl, parts_taken me r _ c.args.done.now x s m (at_low me r x rep m wanted) c.requires.fits (parts_pass me r x rep m wanted takes.0.0 takes.0.1 takes.1.0) (held_now me r x rep m wanted) (parts_written me r k takes.1.1.rest_stays) takes.1.1)

pub returns-in-State : goal.returns-in-State
returns-in-State g c = λ me x serves s.
    let r = c.args.self.now in
    let m = c.args.m.now in
    let k = c.take_state.new.self in
    let rep = s.represents in
    let wanted = wanted_is me r x.history m.pos rep c.requires.stable c.requires.behind in
    let snapshots = snapshots_of g.V.Service.machine in
    let takes = subst (λ (f : Fetched). Takes snapshots r.protocol.stable.state (found r.keeper.fetched) m r.keeper k (Ok f)) c.in-State.is c.in_ok-part.ensures in
    let right = takes.0.0 in
    let more = takes.0.1 in
    let all = takes.1.0 in
    let writes = c.install.ensures.writes in
    gives_as me _ c.install.new.done outcome.Took (answer outcome.Took (install me (write (Accepted (message.State m)) x))) (give_state me m x) (state_given me r x rep m wanted right more all snapshots serves.snapshots k.served takes.1.1.0) (
      refl,
      state_installed me r _ c.args.done.now x s m (at_low me r x rep m wanted) c.requires.fits (state_pass me r x rep m wanted right more all snapshots serves.snapshots k.served takes.1.1.0) (held_now me r x rep m wanted)
          (wanted_here me m.pos x.history wanted).1 (none_missing me r x rep m wanted right more all) k.served (from_parts me r x rep m wanted right more all snapshots serves.snapshots ∙ takes.1.1.0) c.install.new.done
          (record { shape = writes.same.shape; host = writes.same.host; secret = writes.same.secret }) (state_written me r c.install.new.self k takes.1.1.1 writes) c.install.ensures.settles c.install.ensures.done,
    )
