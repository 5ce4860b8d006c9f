use Rattle.std.proofs.Common.{◌≡◌, ◌∙◌, List, [], refl, ap, sym, subst, None, is_some}
use Rattle.std.specs.Prelude.{unwrap_or}
use Rattle.mb_base.specs.Shapes.{Bytes}
use Rattle.mb_msg.specs.declared.message.Message.TheVariants as message
use Rattle.mb_model.specs.Histories.{Accepted}
use Rattle.mb_model.specs.Making.{state_message}
use Rattle.mb_model.specs.PlainChecks.{fetch_refusal}
use Rattle.mb_executor.specs.Keeping.{AreShort}
use Rattle.mb_msg.specs.declared.message.Message.{Message}
use Rattle.mb_msg.specs.declared.event.Outcome.TheVariants as outcome
use Rattle.mb_model.specs.Execution.{snapshot_of}
use Rattle.mb_model.specs.Sending.{write, send, to_host}
use Rattle.mb_model.specs.Given.{answer, give_fetch}
use Rattle.mb_replica.specs.Represents.{StandsAt}
use Rattle.mb_replica.proofs.Entries.{gives_as}
use Rattle.mb_replica.proofs.Asking.{fetch_refused, fetch_taken, fetch_written, kept, shelf_has, parts_sent, parts_kept}
use Rattle.mb_replica.proofs.Letters.{state_fits}
use Rattle.mb_replica.proofs.state.ReplicaState.give_fetch.Goals as goal

-- src/fetches.rt
pub returns-in-Some : goal.returns-in-Some
returns-in-Some g c = λ me x s.
    let r = c.args.self.now in
    let has = c.has_snapshot-has_snapshot.ensures ∙ ap is_some (s.represents.tables.shelf.finds c.args.m.now.pos) in
    gives_as me r c.args.done.now c.in-Some.outcome (answer c.in-Some.outcome x) (give_fetch me c.args.m.now x) (fetch_refused me x c.args.m.now c.in-Some.outcome (c.in-Some.ensures me x.history s.represents has)) (refl, s)

pub send_own-requires-clause-fits : goal.send_own-requires-clause-fits
send_own-requires-clause-fits g c =
    let t = c.requires.history in
    let r = c.args.self.now in
    let m = c.args.m.now in
    let d = t.history in
    let rep = t.represents in
    let has = c.has_snapshot-has_snapshot.ensures ∙ ap is_some (rep.tables.shelf.finds m.pos) in
    let none : None ≡ fetch_refusal t.me d m = c.in_default.ensures t.me d rep has in
    let parts = (kept t.me r d rep m none).0 in
    let host : t.me.host ≡ c.args.self.now.protocol.host = rep.who.host in
    state_fits t.me r d rep m.pos m.first parts c.requires.fits.pos c.requires.fits.first (kept t.me r d rep m none).1 (subst AreShort (parts_kept t.me r d rep m none) c.in_ok-state.ensures.short) (message.State c.in_ok-state.state)
    (c.in_ok-state.ensures.stands t.me parts host (shelf_has t.me r d rep m none))

pub returns : goal.returns
returns g c = λ me x s.
    let r = c.args.self.now in
    let m = c.args.m.now in
    let done = c.send_own.new.done in
    let rep = s.represents in
    let d = x.history in
    let has = c.has_snapshot-has_snapshot.ensures ∙ ap is_some (rep.tables.shelf.finds m.pos) in
    let none : None ≡ fetch_refusal me d m = c.in_default.ensures me d rep has in
    let parts = (kept me r d rep m none).0 in
    let all : List Bytes = unwrap_or (snapshot_of me d m.pos) [] in
    let host : me.host ≡ c.args.self.now.protocol.host = rep.who.host in
    let says : message.State c.in_ok-state.state ≡ state_message me m.pos m.first all = c.in_ok-state.ensures.stands me parts host (shelf_has me r d rep m none) ∙ ap (state_message me m.pos m.first) (parts_sent me r d rep m none) in
    let sent : StandsAt me r done (send (to_host m.host (state_message me m.pos m.first all)) x) = subst (λ (l : Message). StandsAt me r done (send (to_host m.host l) x)) says (c.in_ok-send_own.ensures me x [] s) in
    gives_as me r done outcome.Took (answer outcome.Took (send (to_host m.host (state_message me m.pos m.first all)) (write (Accepted (message.Fetch m)) x))) (give_fetch me m x) (fetch_taken me x m none)
    (refl, fetch_written me r done m (send (to_host m.host (state_message me m.pos m.first all)) x) c.requires.fits none sent)
