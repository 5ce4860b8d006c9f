-- What stands whole in a message, by its kind.
use Rattle.std.proofs.Common.{◌≡◌, [], Some, None, refl, sym, ap, ◌∙◌}
use Rattle.std.proofs.lemmas.Option.{same_Some, none-some}
use Rattle.mb_msg.specs.declared.message.Message.{Message}
use Rattle.mb_msg.specs.declared.message.Message.TheVariants as message
use Rattle.mb_msg.specs.declared.transfer.Log.{Log}
use Rattle.mb_msg.specs.declared.change.Open.{Open}
use Rattle.mb_msg.specs.declared.change.NewView.{NewView}
use Rattle.mb_msg.specs.declared.change.ViewChange.{ViewChange}
use Rattle.mb_msg.specs.declared.normal.Commit.{Commit}
use Rattle.mb_msg.specs.declared.normal.Prepare.{Prepare}
use Rattle.mb_msg.specs.declared.stamped.Stamped.{Stamped}
use Rattle.mb_msg.specs.declared.stamped.Stamped.TheVariants as stamped
use Rattle.mb_msg.specs.Stamps.{as_stamped, as_message}
use Rattle.mb_model.specs.Compared.{inside_some}
use Rattle.mb_certified.proofs.BareForms.{no_log}
use Rattle.mb_learn.specs.Shown.{shown_by, shown_in}

-- but for a LOG, in what a USIG stamped alone
by_kind : (m : Message) → ((x : Log) → m ≡ message.Log x → ⊥) → shown_in m ≡ inside_some shown_by (as_stamped m)
by_kind (message.Log m) other = absurd (other m refl)
by_kind m other = refl

-- in a stamped one
pub some_shown : (m : Message) (x : Stamped) → as_stamped m ≡ Some x → shown_by x ≡ shown_in m
some_shown m x is = sym (by_kind m (no_log m x is) ∙ ap (inside_some shown_by) is)

-- in one that is neither stamped nor a LOG
pub none_shown : (m : Message) → as_stamped m ≡ None → ((x : Log) → m ≡ message.Log x → ⊥) → [] ≡ shown_in m
none_shown m none other = sym (by_kind m other ∙ ap (inside_some shown_by) none)

-- in a stamped one of the other kinds
pub none_by : (x : Stamped) → ((m : Prepare) → x ≡ stamped.Prepare m → ⊥) → ((m : Commit) → x ≡ stamped.Commit m → ⊥) → ((m : Open) → x ≡ stamped.Open m → ⊥) → ((m : ViewChange) → x ≡ stamped.ViewChange m → ⊥)
    → ((m : NewView) → x ≡ stamped.NewView m → ⊥) → [] ≡ shown_by x
none_by (stamped.Prepare m) np nc not_so nv nn = absurd (np m refl)
none_by (stamped.Commit m) np nc not_so nv nn = absurd (nc m refl)
none_by (stamped.Open m) np nc not_so nv nn = absurd (not_so m refl)
none_by (stamped.ViewChange m) np nc not_so nv nn = absurd (nv m refl)
none_by (stamped.NewView m) np nc not_so nv nn = absurd (nn m refl)
none_by (stamped.Checkpoint m) np nc not_so nv nn = refl
none_by (stamped.Enter m) np nc not_so nv nn = refl
none_by (stamped.Join m) np nc not_so nv nn = refl

-- the message that a stamped one is
pub again_message : (m : Message) (x : Stamped) → as_stamped m ≡ Some x → as_message x ≡ m
again_message (message.Request m) x is = absurd (none-some x is)
again_message (message.Prepare m) x is = ap as_message (sym (same_Some _ x is))
again_message (message.Commit m) x is = ap as_message (sym (same_Some _ x is))
again_message (message.Reply m) x is = absurd (none-some x is)
again_message (message.Checkpoint m) x is = ap as_message (sym (same_Some _ x is))
again_message (message.ReqViewChange m) x is = absurd (none-some x is)
again_message (message.ViewChange m) x is = ap as_message (sym (same_Some _ x is))
again_message (message.NewView m) x is = ap as_message (sym (same_Some _ x is))
again_message (message.Enter m) x is = ap as_message (sym (same_Some _ x is))
again_message (message.Open m) x is = ap as_message (sym (same_Some _ x is))
again_message (message.Join m) x is = ap as_message (sym (same_Some _ x is))
again_message (message.Resend m) x is = absurd (none-some x is)
again_message (message.Log m) x is = absurd (none-some x is)
again_message (message.Fetch m) x is = absurd (none-some x is)
again_message (message.State m) x is = absurd (none-some x is)
again_message (message.Stop m) x is = absurd (none-some x is)
