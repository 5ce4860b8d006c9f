-- What stays where entries that stamp nothing come, stays behind each message that is given: nothing is stamped before the rules run.
use Rattle.std.proofs.Common.{◌≡◌, true, false, ◌∷◌, refl}
use Rattle.mb_msg.specs.declared.message.Message.{Message}
use Rattle.mb_msg.specs.declared.message.Message.TheVariants as message
use Rattle.mb_model.specs.Histories.{Entry, Accepted, Stamped, Jumped, Closed, History, Identity}
use Rattle.mb_model.specs.Sending.{Progress}
use Rattle.mb_model.specs.Given.{give}
use Rattle.mb_host_laws.proofs.KeptByEvents.{is_plain, state_keeps}
use Rattle.mb_host_laws.proofs.Walks.{KeepsGiven, give_keeps as walked}
use Rattle.mb_history_laws.specs.Speaks.{is_stamp}

pub plain_unstamped : (e : Entry) → is_plain e ≡ true → is_stamp e ≡ false
plain_unstamped (Stamped m) plain = absurd cc
plain_unstamped e plain = refl

module _ {S : Type 0} (self : Identity S) (P : History → Type 0) (more : (e : Entry) (d : History) → is_stamp e ≡ false → P d → P (e ∷ d)) where
  abbrev Has : Progress → Type 0
  Has x = P x.history

  given : KeepsGiven self Has
  given = record {
    accepted = λ m x other p. more (Accepted m) x.history refl p;
    closed = λ h c x p. more (Closed h c) x.history refl p;
    jumped = λ h f x free above p. more (Jumped h f) x.history refl p;
    noted = λ strings x p. p;
    sent = λ l x plain p. p;
    replied = λ c x p. p;
    state = state_keeps self P (λ m d p. more (Accepted (message.State m)) d refl p) (λ e d plain p. more e d (plain_unstamped e plain) p);
  }

  pub give_keeps : (m : Message) (x : Progress) → Has x → Has (give self m x).left
  give_keeps m x p = walked self Has given m x (λ n q. more (Accepted (message.Resend n)) x.history refl q) p
