-- After any events what a host stamped is an ordered list, numbered from 1, and its own gate stands behind it: for each service.
use Rattle.std.proofs.Common.{◌≡◌, ◌+◌, true, List, [], ◌∷◌, refl, subst}
use Rattle.mb_msg.specs.declared.stamped.Stamped.{Stamped as StampedMessage}
use Rattle.mb_msg.specs.declared.stamped.Stamped.TheVariants as stamped
use Rattle.mb_msg.specs.Stamps.{bare_of, ui_of}
use Rattle.mb_msg.specs.declared.event.Event.{Event}
use Rattle.mb_model.specs.Histories.{Stamped, History, Identity, stamped as all_stamped, counter_of}
use Rattle.mb_model.specs.Sending.{signed, next_ui}
use Rattle.mb_model.specs.Making.{prepare, commit, view_change, new_view, enter, opening, join, checkpoint}
use Rattle.mb_model.specs.HostStep.{after}
use Rattle.mb_steps.specs.OwnLists.{IsOwnList, own_ui, AreNumbered, OwnLists}
use Rattle.mb_steps.proofs.StepRounds.{ui_under, bare_under}
use Rattle.mb_steps.specs.Arises.{Arises, Makes}
use Rattle.mb_steps.proofs.StepEventsArise.{after_arises}
use Rattle.mb_steps.proofs.StepOwnList.{stands_here}
use Rattle.mb_steps.proofs.StepOwnStamped.{steady}

module _ {S : Type 0} (self : Identity S) where
  -- It has this host's next identifier.
  abbrev IsNext : History → StampedMessage → Type 0
  IsNext d m = ui_of m ≡ own_ui self (counter_of d + 1) (bare_of m)

  signed_next : (d : History) (x : StampedMessage) → IsNext d (signed self d x)
  signed_next d x = rw (ui_under (next_ui self d (bare_of x)) x, bare_under (next_ui self d (bare_of x)) x) refl

  made_next : (d : History) (m : StampedMessage) → Makes self d m → IsNext d m
  made_next d (stamped.ViewChange m) (view, e, is) = subst (λ (y : StampedMessage). IsNext d y) is (signed_next d (view_change self d view))
  made_next d (stamped.NewView m) (changes, e, is) = subst (λ (y : StampedMessage). IsNext d y) is (signed_next d (new_view self d changes))
  made_next d (stamped.Enter m) (n, e, is) = subst (λ (y : StampedMessage). IsNext d y) is (signed_next d (enter n))
  made_next d (stamped.Open m) (e, plan, o, is) = subst (λ (y : StampedMessage). IsNext d y) is (signed_next d (opening e plan))
  made_next d (stamped.Join m) (e, is) = subst (λ (y : StampedMessage). IsNext d y) is (signed_next d (join self d))
  made_next d (stamped.Commit m) (p, k, b, e, is) = subst (λ (y : StampedMessage). IsNext d y) is (signed_next d (commit self d p k b))
  made_next d (stamped.Prepare m) (p, b, e, is) = subst (λ (y : StampedMessage). IsNext d y) is (signed_next d (prepare self d p b))
  made_next d (stamped.Checkpoint m) (p, j, whole, is) = subst (λ (y : StampedMessage). IsNext d y) is (signed_next d (checkpoint self d p))

  arises_numbered : (d : History) → Arises self d → AreNumbered self (all_stamped d)
  unfolding all_stamped
  arises_numbered [] a = tt
  arises_numbered (Stamped m ∷ d) a = (made_next d m a.0, arises_numbered d a.1)
  arises_numbered (_ ∷ d) a = arises_numbered d a.1

  list_after : (events : List Event) → IsOwnList self (after self events)
  list_after events = (steady self (after self events) (after_arises self events)).list

pub own_lists : (S : Type 0) → OwnLists S
own_lists S = record {
  gate = λ self events. stands_here self (after self events) (list_after self events).own;
  list = λ self events. list_after self events;
  numbered = λ self events. arises_numbered self (after self events) (after_arises self events);
}
