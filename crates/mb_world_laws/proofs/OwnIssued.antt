-- What a correct host stamped was issued.
use Rattle.std.proofs.Common.{◌≡◌, ℕ, ◌+◌, true, List, [], ◌∷◌, ◌++◌, length, refl, sym, ap, subst, ◌∙◌, Some}
use Rattle.std.specs.Prelude.{map, option_and_then}
use Rattle.std.specs.List.{AllByRecursion}
use Rattle.std.proofs.lemmas.List.{length-map}
use Rattle.mb_base.specs.declared.names.Ui.{Ui}
use Rattle.mb_parts.specs.Bares.{Bare, bare_bytes}
use Rattle.mb_parts.specs.BareReading.{bare_of_bytes}
use Rattle.mb_parts.specs.Counters.{at_counter}
use Rattle.mb_parts.specs.Fits.{FitsBare}
use Rattle.mb_parts.specs.Issued.{stamped_at}
use Rattle.mb_parts.proofs.BareLaws.{bare_again}
use Rattle.mb_parts.proofs.Counters.{at_here}
use Rattle.mb_parts.proofs.IssuedLaws.{issued_again}
use Rattle.mb_msg.specs.declared.stamped.Stamped.{Stamped as StampedMessage}
use Rattle.mb_msg.specs.Stamps.{bare_of, ui_of}
use Rattle.mb_model.specs.GateChecks.{stamp_claim}
use Rattle.mb_model.specs.Histories.{Stamped, History, Identity, said, stamped as all_stamped}
use Rattle.mb_steps.specs.OwnLists.{AreNumbered, own_ui}
use Rattle.mb_world_model.specs.WorldEvents.{IsCorrect}
use Rattle.mb_world_model.specs.World.{World, System, self_of, stamps}
use Rattle.mb_world_model.specs.WorldRecord.{issued}
use Rattle.mb_host_laws.proofs.Found.{bytes_at}
use Rattle.mb_world_laws.proofs.Facts.{Facts}
use Rattle.mb_host_laws.proofs.Moments.{IsPast}

pub past_said_is : (later : History) (m : StampedMessage) (d : History) → (more : List Bare) × (more ++ bare_of m ∷ said d ≡ said (later ++ Stamped m ∷ d))
unfolding all_stamped
past_said_is [] m d = ([], refl)
past_said_is (Stamped x ∷ later) m d = let r = past_said_is later m d in (bare_of x ∷ r.0, ap (λ (l : List Bare). bare_of x ∷ l) r.1)
past_said_is (e ∷ later) m d = past_said_is later m d

pub numbered_here : {S : Type 0} (self : Identity S) (later : History) (m : StampedMessage) (d : History) → AreNumbered self (all_stamped (later ++ Stamped m ∷ d)) → ui_of m ≡ own_ui self (length (all_stamped d) + 1) (bare_of m)
unfolding all_stamped
numbered_here self [] m d n = n.0
numbered_here self (Stamped x ∷ later) m d n = numbered_here self later m d n.1
numbered_here self (e ∷ later) m d n = numbered_here self later m d n

all_middle : (P : Bare → Type 0) (more : List Bare) (b : Bare) (l : List Bare) → AllByRecursion P (more ++ b ∷ l) → P b
all_middle P [] b l a = a.0
all_middle P (x ∷ more) b l a = all_middle P more b l a.1

module _ {S : Type 0} (system : System S) (w : World) (f : Facts system w) where
  pub record IsOwnStamp (h : ℕ) (m : StampedMessage) (d : History) : Type 0 where
    pub host : (ui_of m).host ≡ h
    pub counter : (ui_of m).counter ≡ length (said d) + 1
    pub there : at_counter (said (w.histories h)) (ui_of m).counter ≡ Some (bare_of m)
    pub issues : issued system.schedule w (stamp_claim m) ≡ true

  pub own_stamp : (h : ℕ) (m : StampedMessage) (d : History) → IsCorrect system.schedule h → IsPast (Stamped m ∷ d) (w.histories h) → IsOwnStamp h m d
  own_stamp h m d correct past =
      let r = past_said_is past.later m d in
      let all : r.0 ++ bare_of m ∷ said d ≡ said (w.histories h) = r.1 ∙ ap said past.is in
      let ui : ui_of m ≡ own_ui (self_of system h) (length (all_stamped d) + 1) (bare_of m) =
      numbered_here (self_of system h) past.later m d (subst (λ (x : History). AreNumbered (self_of system h) (all_stamped x)) (sym past.is) (f.numbered h)) in
      let host : (ui_of m).host ≡ h = ap (λ (u : Ui). u.host) ui in
      let counter : (ui_of m).counter ≡ length (said d) + 1 = ap (λ (u : Ui). u.counter) ui ∙ ap (λ (n : ℕ). n + 1) (sym (length-map (all_stamped d) bare_of)) in
      let here : at_counter (said (w.histories h)) (length (said d) + 1) ≡ Some (bare_of m) = subst (λ (l : List Bare). at_counter l (length (said d) + 1) ≡ Some (bare_of m)) all (at_here r.0 (bare_of m) (said d)) in
      let there : at_counter (said (w.histories h)) (ui_of m).counter ≡ Some (bare_of m) = subst (λ (n : ℕ). at_counter (said (w.histories h)) n ≡ Some (bare_of m)) (sym counter) here in
      let fits : FitsBare system.schedule.shape (bare_of m) = all_middle (FitsBare system.schedule.shape) r.0 (bare_of m) (said d) (subst (AllByRecursion (FitsBare system.schedule.shape)) (sym all) (f.fits h correct)) in
      let bytes : at_counter (map bare_bytes (said (w.histories h))) (ui_of m).counter ≡ Some (bare_bytes (bare_of m)) = bytes_at (said (w.histories h)) (ui_of m).counter (bare_of m) there in
      let stamped_here : at_counter (stamps system.schedule w h) (ui_of m).counter ≡ Some (bare_bytes (bare_of m)) = rw correct.1 bytes in
      let found : stamped_at system.schedule.shape (stamps system.schedule w) h (ui_of m).counter ≡ Some (bare_of m) = ap (option_and_then (bare_of_bytes system.schedule.shape)) stamped_here ∙ bare_again system.schedule.shape f.shape (bare_of m) fits in
      record {
        host = host;
        counter = counter;
        there = there;
        issues = issued_again system.schedule.shape (stamps system.schedule w) (stamp_claim m) (subst (λ (i : ℕ). stamped_at system.schedule.shape (stamps system.schedule w) i (ui_of m).counter ≡ Some (bare_of m)) (sym host) found);
      }
