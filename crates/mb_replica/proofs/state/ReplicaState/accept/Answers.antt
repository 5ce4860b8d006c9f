use Rattle.std.proofs.Common.{◌≡◌, None, refl, sym, subst}
use Rattle.mb_base.specs.declared.names.Ui.{Ui}
use Rattle.mb_msg.specs.declared.stamped.Stamped.{Stamped as StampedMessage}
use Rattle.mb_msg.specs.Stamps.{as_message}
use Rattle.mb_model.specs.Histories.{Accepted}
use Rattle.mb_model.specs.Sending.{Progress}
use Rattle.mb_model.specs.KindChecks.{stamped_refusal}
use Rattle.mb_model.specs.Given.{accept}
use Rattle.mb_replica.specs.Represents.{StandsAt}
use Rattle.mb_replica.specs.Between.{IsNoCommit, GateFollows}
use Rattle.mb_replica.proofs.Accepting.{no_commit, accept_plain, accepted_stands, entry_added}
use Rattle.mb_replica.proofs.state.ReplicaState.accept.Goals as goal

-- src/stamped.rt
pub returns-in-Commit : goal.returns-in-Commit
returns-in-Commit g c = λ me x done s none.
    subst (λ (y : StampedMessage). StandsAt me c.accept_commit.new.self done (accept me y x)) (sym c.in-Commit.is)
    (c.accept_commit.ensures me x done s (subst (λ (y : StampedMessage). stamped_refusal me x.history y ≡ None) c.in-Commit.is none))

pub returns : goal.returns
returns g c = λ me x done s none.
    let a = c.args.arrival in
    let is = c.requires.arrives in
    let old = c.args.self.now in
    let new = c.gate_follows.new.self in
    let plain : IsNoCommit a.message = no_commit a.message c.in_default.not-Commit in
    subst (λ (y : Progress). StandsAt me new done y) (sym (accept_plain me a.message x plain))
    (entry_added me old new done (Accepted (as_message a.message)) x s refl
    (accepted_stands me old c.accept_kind.new.self new a.message x.history a.mark s.represents is.fits none (c.in_ok-accept_kind.ensures me x.history s.represents plain none) is.mark
    (subst (λ (u : Ui). GateFollows u.host a.mark c.accept_kind.new.self new) is.ui c.gate_follows.ensures)))
