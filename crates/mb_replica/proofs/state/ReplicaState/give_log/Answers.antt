use Rattle.std.proofs.Common.{◌≡◌, ◌∙◌, None, List, refl, sym, subst}
use Rattle.std.specs.List.{AllByRecursion}
use Rattle.mb_base.specs.declared.shape.Shape.{Shape}
use Rattle.mb_msg.specs.declared.stamped.Stamped.{Stamped as StampedMessage}
use Rattle.mb_msg.specs.Fits.{FitsStamped}
use Rattle.mb_model.specs.PlainChecks.{log_refusal}
use Rattle.mb_model.specs.Sending.{Progress}
use Rattle.mb_replica.specs.Represents.{StandsAt}
use Rattle.mb_replica.proofs.ShownEntries.{refusal_answered, entries_answered}
use Rattle.mb_replica.proofs.state.ReplicaState.give_log.Goals as goal

-- src/logs.rt
pub returns-in-Some : goal.returns-in-Some
returns-in-Some g c = λ me x done st. refusal_answered me c.args.m x done c.args.self.now c.in-Some.outcome c.of.result st (c.in-Some.ensures me x.history st.represents) c.of.ensures

pub give_entries-requires-clause-fit : goal.give_entries-requires-clause-fit
give_entries-requires-clause-fit g c =
    let s = c.requires.stepping in
    let none : log_refusal s.me c.args.m ≡ None = sym (c.in_default.ensures s.me s.left.history s.stands.represents) in
    let behind = c.accept_log-entries.ensures.stands s.me s.left s.done s.stands none in
    subst (λ (l : List StampedMessage). AllByRecursion (FitsStamped c.accept_log-entries.new.self.protocol.shape) l) (sym c.accept_log-entries.ensures.entries)
    (subst (λ (h : Shape). AllByRecursion (FitsStamped h) c.args.m.entries) (sym s.stands.represents.who.shape ∙ behind.represents.who.shape) c.requires.fits.entries)

pub give_entries-requires-clause-stepping : goal.give_entries-requires-clause-stepping
give_entries-requires-clause-stepping g c =
    let s = c.requires.stepping in
    let none : log_refusal s.me c.args.m ≡ None = sym (c.in_default.ensures s.me s.left.history s.stands.represents) in
    record { me = s.me; done = s.done; left = _; stands = c.accept_log-entries.ensures.stands s.me s.left s.done s.stands none }

pub returns : goal.returns
returns g c = λ me x done st.
    let none : log_refusal me c.args.m ≡ None = sym (c.in_default.ensures me x.history st.represents) in
    let behind = c.accept_log-entries.ensures.stands me x done st none in
    entries_answered me c.args.m x done c.give_entries.new.self c.in_ok-give_entries.field-0 _ (sym none) refl c.accept_log-entries.result c.accept_log-entries.ensures.entries
    (λ y is. c.in_ok-give_entries.ensures me y done (subst (λ (z : Progress). StandsAt me c.accept_log-entries.new.self done z) (sym is) behind))
