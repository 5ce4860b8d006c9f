use Rattle.std.proofs.Common.{◌∙◌, ℕ, [], ap, subst}
use Rattle.std.specs.Prelude.{OnOk}
use Rattle.mb_model.specs.Execution.{asked_host}
use Rattle.mb_msg.specs.Stamps.{as_stamped}
use Rattle.mb_model.specs.Sending.{Letter, send, to_host}
use Rattle.mb_replica.specs.Represents.{StandsAt}
use Rattle.mb_replica.proofs.Letters.{fetch_fits}
use Rattle.mb_replica.proofs.Fetching.{missing_is}
use Rattle.mb_replica.proofs.state.ReplicaState.send_fetch.Goals as goal

-- src/fetches.rt
pub send_own-requires-clause-fits : goal.send_own-requires-clause-fits
send_own-requires-clause-fits g c =
    let t = c.requires.history in
    let r = c.args.self.now in
    let missing = c.requires.missing ∙ missing_is t.me r.keeper.fetched t.history t.represents.tables.parts in
    fetch_fits t.me r t.history t.represents c.requires.behind _ (c.fetch-message.ensures t.me t.history t.represents missing)

pub send_own-requires-clause-plain : goal.send_own-requires-clause-plain
send_own-requires-clause-plain g c =
    let t = c.requires.history in
    let missing = c.requires.missing ∙ missing_is t.me c.args.self.now.keeper.fetched t.history t.represents.tables.parts in
    ap as_stamped (c.fetch-message.ensures t.me t.history t.represents missing)

pub returns : goal.returns
returns g c = λ me x s missing.
    let r = c.args.self.now in
    let letter = ap (λ (h : ℕ). to_host h c.fetch-message.result) s.represents.tables.asked ∙ ap (to_host (asked_host me x.history)) (c.fetch-message.ensures me x.history s.represents missing) in
    subst (λ (l : Letter). OnOk c.send_own.result (StandsAt me r c.send_own.new.done (send l x))) letter (c.send_own.ensures me x [] s)
