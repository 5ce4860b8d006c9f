-- The entries of a LOG that is taken are accepted one after the other, each that is valid, as long as each is valid or passed already; and all that is said of
-- LOGs, together.
use Rattle.std.proofs.Common.{◌≡◌, ℕ, Bool, true, false, List, [], ◌∷◌, ◌⊎◌, refl, sym, subst, inl, inr, arith, Option, Some, None}
use Rattle.std.specs.Prelude.{if◌then◌else◌, Contains, Result, option_map}
use Rattle.std.specs.Bool.{then_some}
use Rattle.std.specs.Option.{option_or}
use Rattle.std.proofs.lemmas.Bool.{cases_Bool, le-leb}
use Rattle.mb_base.specs.declared.names.Ui.{Ui}
use Rattle.mb_msg.specs.declared.normal.Prepare.{Prepare}
use Rattle.mb_msg.specs.declared.normal.Commit.{Commit}
use Rattle.mb_msg.specs.declared.message.Message.{Message}
use Rattle.mb_msg.specs.declared.message.Message.TheVariants as message
use Rattle.mb_msg.specs.declared.transfer.Log.{Log}
use Rattle.mb_msg.specs.declared.stamped.Stamped.{Stamped as StampedMessage}
use Rattle.mb_msg.specs.declared.stamped.Stamped.TheVariants as stamped
use Rattle.mb_msg.specs.declared.event.Outcome.{Outcome}
use Rattle.mb_msg.specs.declared.event.Outcome.TheVariants as outcome
use Rattle.mb_msg.specs.Stamps.{ui_of, as_message}
use Rattle.mb_model.specs.Histories.{Entry, Accepted, History, Identity, gate}
use Rattle.mb_model.specs.Compared.{compared_in}
use Rattle.mb_model.specs.Sending.{Progress, begin, write, note, next_of}
use Rattle.mb_model.specs.GateChecks.{is_bad_ui, is_own_future, conviction, is_stale, gate_refusal, identifier_refusal}
use Rattle.mb_model.specs.KindChecks.{stamped_refusal}
use Rattle.mb_model.specs.Given.{closing, named_prepare, offer_prepare, casts_vote, accept, give_entries, give_stamped, give_log, jump, floor_shown}
use Rattle.mb_model.specs.HostStep.{on_bytes, transition}
use Rattle.mb_model.proofs.Options.{option_cases}
use Rattle.mb_world_model.specs.World.{System, self_of}
use Rattle.mb_world_model.specs.WorldSteps.{world}
use Rattle.mb_promise.specs.TakesValid.{IsValid}
use Rattle.mb_promise.specs.TakesLogs.{IsValidLog, with_floor_of, IsPassed, with_accepted, AreTaken, TakesEntries, TakesLogs}
use Rattle.mb_one_log.proofs.Walks.{offer_keeps, entries_keep, finished_keeps}
use Rattle.mb_obligations.proofs.Taken.{stamped_passed}
use Rattle.mb_obligations.proofs.TakesValid.{certified, valid_passes}
use Rattle.mb_obligations.proofs.LogsStand.{HasEntry, entry_walked, log_passed, keeps_logs}
use Rattle.mb_obligations.proofs.JumpsToFloors.{jumps_to_floors}

or_next : (x y : Option Outcome) (o : Outcome) → x ≡ None → y ≡ Some o → option_or x y ≡ Some o
or_next None y o a b = b
or_next (Some x) y o a b = absurd cc

or_first : (x y : Option Outcome) (o : Outcome) → x ≡ Some o → option_or x y ≡ Some o
or_first None y o a = absurd cc
or_first (Some x) y o a = a

either_way : (t : Bool) (a b c e : Progress) → a.history ≡ c.history → b.history ≡ e.history → (if t then a else b).history ≡ (if t then c else e).history
either_way true a b c e same other = same
either_way false a b c e same other = other

module _ {S : Type 0} (self : Identity S) where
  -- What is accepted stands in the history.
  commit_there : (m : Commit) (x : Progress) → HasEntry self (Accepted (message.Commit m)) (accept self (stamped.Commit m) x)
  commit_there m x =
      let e : Entry = Accepted (message.Commit m) in
      elim (cases_Bool (casts_vote self x.history m)) [
        | inl votes ↦ rw votes (offer_keeps self (HasEntry self e) (entry_walked self e) (named_prepare self m) (write e x) (0, omega arith, refl))
        | inr not_so ↦ rw not_so (0, omega arith, refl)
      ]

  pub accepted_there : (m : StampedMessage) (x : Progress) → HasEntry self (Accepted (as_message m)) (accept self m x)
  accepted_there (stamped.Commit m) x = commit_there m x
  accepted_there (stamped.Prepare m) x = (0, omega arith, refl)
  accepted_there (stamped.Checkpoint m) x = (0, omega arith, refl)
  accepted_there (stamped.ViewChange m) x = (0, omega arith, refl)
  accepted_there (stamped.NewView m) x = (0, omega arith, refl)
  accepted_there (stamped.Enter m) x = (0, omega arith, refl)
  accepted_there (stamped.Open m) x = (0, omega arith, refl)
  accepted_there (stamped.Join m) x = (0, omega arith, refl)

  -- A valid one is not refused.
  not_refused : (m : StampedMessage) (d : History) → IsValid self d (as_message m) → stamped_refusal self d m ≡ None
  not_refused (stamped.Prepare m) d v = stamped_passed self d (stamped.Prepare m) (valid_passes self d (message.Prepare m) v)
  not_refused (stamped.Commit m) d v = stamped_passed self d (stamped.Commit m) (valid_passes self d (message.Commit m) v)
  not_refused (stamped.Checkpoint m) d v = stamped_passed self d (stamped.Checkpoint m) (valid_passes self d (message.Checkpoint m) v)
  not_refused (stamped.ViewChange m) d v = stamped_passed self d (stamped.ViewChange m) (valid_passes self d (message.ViewChange m) v)
  not_refused (stamped.NewView m) d v = stamped_passed self d (stamped.NewView m) (valid_passes self d (message.NewView m) v)
  not_refused (stamped.Enter m) d v = stamped_passed self d (stamped.Enter m) (valid_passes self d (message.Enter m) v)
  not_refused (stamped.Open m) d v = stamped_passed self d (stamped.Open m) (valid_passes self d (message.Open m) v)
  not_refused (stamped.Join m) d v = stamped_passed self d (stamped.Join m) (valid_passes self d (message.Join m) v)

  -- One that its gate has passed is stale, or the host's own.
  passed_over : (m : StampedMessage) (d : History) → IsPassed self d m
      → (stamped_refusal self d m ≡ Some outcome.Idle) ⊎ (stamped_refusal self d m ≡ Some (outcome.Stale (next_of d (ui_of m).host)))
  unfolding stamped_refusal identifier_refusal gate_refusal
  passed_over m d p =
      let u : Ui = ui_of m in
      let good : then_some (is_bad_ui self m) outcome.BadUi ≡ None = rw (certified self m p.certified) refl in
      let free : option_map outcome.Convicted (conviction self d u) ≡ None = rw p.free refl in
      let is : then_some (is_stale self d u) (outcome.Stale (next_of d u.host)) ≡ Some (outcome.Stale (next_of d u.host)) = rw (le-leb u.counter (gate d u.host).counter p.passed) refl in
      elim (cases_Bool (is_own_future self d u)) [
        | inl own ↦ let idle : then_some (is_own_future self d u) outcome.Idle ≡ Some outcome.Idle = rw own refl in inl (or_first _ _ _ (or_next _ _ _ good (or_first _ _ _ idle)))
        | inr not_own ↦ let past : then_some (is_own_future self d u) outcome.Idle ≡ None = rw not_own refl in inr (or_first _ _ _ (or_next _ _ _ good (or_next _ _ _ past (or_next _ _ _ free (or_first _ _ _ is)))))
      ]

  -- What is accepted depends on the history alone.
  offered : (m : Prepare) (x : Progress) → (offer_prepare self m x).history ≡ (offer_prepare self m (begin x.history)).history
  unfolding offer_prepare
  offered m x = elim (option_cases (stamped_refusal self x.history (stamped.Prepare m))) [
    | inl none ↦ rw none refl
    | inr (o, some) ↦ rw some (closed o)
  ] where
    closed : (o : Outcome) → (closing o m.ui x).history ≡ (closing o m.ui (begin x.history)).history
    closed (outcome.Illegal r) = refl
    closed o = refl

  accepted_is : (m : StampedMessage) (x : Progress) → (accept self m x).history ≡ with_accepted self m x.history
  accepted_is (stamped.Commit m) x =
      let e : Entry = Accepted (message.Commit m) in
      let n : Prepare = named_prepare self m in
      either_way (casts_vote self x.history m) (offer_prepare self n (write e x)) (write e x) (offer_prepare self n (write e (begin x.history))) (write e (begin x.history)) (offered n (write e x)) refl
  accepted_is (stamped.Prepare m) x = refl
  accepted_is (stamped.Checkpoint m) x = refl
  accepted_is (stamped.ViewChange m) x = refl
  accepted_is (stamped.NewView m) x = refl
  accepted_is (stamped.Enter m) x = refl
  accepted_is (stamped.Open m) x = refl
  accepted_is (stamped.Join m) x = refl

  -- What comes to stand in the history behind some entries stands in this one.
  abbrev Reaches : History → Progress → List StampedMessage → Type 0
  Reaches left x l = (e : Entry) → HasEntry self e (give_entries self l x).left → Contains left e

  reached : (left : History) (m : StampedMessage) (l : List StampedMessage) (x : Progress) → IsValid self x.history (as_message m) → Reaches left x (m ∷ l) → Reaches left (accept self m (note (compared_in self x.history m) x)) l
  unfolding give_entries give_stamped
  reached left m l x v r e there = r e (rw (not_refused m x.history v) there)

  passes_over : (left : History) (m : StampedMessage) (l : List StampedMessage) (x : Progress) → IsPassed self x.history m → Reaches left x (m ∷ l) → Reaches left (note (compared_in self x.history m) x) l
  unfolding give_entries give_stamped
  passes_over left m l x p r e there = elim (passed_over m x.history p) [
    | inl idle ↦ r e (rw idle there)
    | inr stale ↦ r e (rw stale there)
  ]

  entries_taken : (left : History) (l : List StampedMessage) (x : Progress) → Reaches left x l → AreTaken self left x.history l
  entries_taken left [] x r = tt
  entries_taken left (m ∷ l) x r =
      let y : Progress = note (compared_in self x.history m) x in (
        (λ v.
            let more : Reaches left (accept self m y) l = reached left m l x v r in (
              more (Accepted (as_message m)) (entries_keep self (HasEntry self (Accepted (as_message m))) (entry_walked self (Accepted (as_message m))) l (accept self m y) (accepted_there m y)),
              subst (λ (d : History). AreTaken self left d l) (accepted_is m y) (entries_taken left l (accept self m y) more),
            )),
        λ p. entries_taken left l y (passes_over left m l x p r),
      )

  log_brings : (m : Log) (d : History) → IsValidLog self m → (left : History) → ((e : Entry) → HasEntry self e (give_log self m (begin d)).left → Contains left e) → AreTaken self left (with_floor_of self m d) m.entries
  unfolding give_log
  log_brings m d v left r =
      let x : Progress = write (Accepted (message.Log m)) (jump self m.host (floor_shown self m.host m.floor) (begin d)) in
      entries_taken left m.entries x (λ e there. r e (rw (log_passed self m v) there))

  takes_entries : (d : History) → TakesEntries self d
  unfolding transition
  takes_entries d bytes m reads v =
      subst (λ (r : Result Message ℕ). AreTaken self (on_bytes self r d).left.history (with_floor_of self m d) m.entries) (sym reads)
      (log_brings m d v _ (λ e there. finished_keeps self (HasEntry self e) (entry_walked self e) _ _ d (give_log self m (begin d)) there))

  pub takes_logs : (d : History) → TakesLogs self d
  takes_logs d = record { keeps = keeps_logs self d; jumps = jumps_to_floors self d; entries = takes_entries d }

pub hosts_take_logs : {S : Type 0} (system : System S) (k h : ℕ) → TakesLogs (self_of system h) ((world system k).histories h)
hosts_take_logs system k h = takes_logs (self_of system h) ((world system k).histories h)
