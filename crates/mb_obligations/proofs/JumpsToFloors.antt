-- A LOG that is taken brings the gate of its sender to its floor or further on, where the gate is not closed.
use Rattle.std.proofs.Common.{◌≡◌, ℕ, ◌≤◌, ◌<◌, true, List, ◌∷◌, length, refl, sym, ap, subst, ◌∙◌, inl, inr, arith, eqb, Option, Some, None}
use Rattle.std.specs.Prelude.{Result, nat_lt}
use Rattle.std.proofs.lemmas.Bool.{cases_Bool, eqb-true, eq-eqb, ltb-false}
use Rattle.mb_parts.specs.declared.certificates.FloorCert.{FloorCert}
use Rattle.mb_parts.specs.declared.floor.Floor.{Floor}
use Rattle.mb_parts.specs.declared.request.Request.{Request}
use Rattle.mb_parts.specs.Bares.{Bare}
use Rattle.mb_parts.specs.Certificates.{certified_floor}
use Rattle.mb_msg.specs.declared.event.Placed.{Placed}
use Rattle.mb_msg.specs.declared.message.Message.{Message}
use Rattle.mb_msg.specs.declared.message.Message.TheVariants as message
use Rattle.mb_msg.specs.declared.transfer.Log.{Log}
use Rattle.mb_model.specs.Verified.{verifies}
use Rattle.mb_model.specs.Histories.{Entry, Accepted, Stamped, Jumped, Closed, Served, Executed, Installed, DroppedParts, LostPatience, Nudged, History, Identity, onto, by_host, stamped_in, origin, taken_of, gate, closed_at}
use Rattle.mb_model.specs.Sending.{Progress, begin, write, signed}
use Rattle.mb_model.specs.CarriedOut.{serve_all}
use Rattle.mb_model.specs.Given.{give_log, jump, floor_shown}
use Rattle.mb_model.specs.HostStep.{on_bytes, transition}
use Rattle.mb_host_laws.proofs.KeptByEvents.{served_keep}
use Rattle.mb_host_laws.proofs.Walks.{is_quiet}
use Rattle.mb_one_log.proofs.Walks.{IsWalked, entries_keep, finished_keeps}
use Rattle.mb_promise.specs.TakesLogs.{IsValidLog, JumpsToFloors}
use Rattle.mb_obligations.proofs.LogsStand.{log_passed}

module _ {S : Type 0} (self : Identity S) where
  module _ (h n : ℕ) where
    abbrev Above : History → Type 0
    Above d = n ≤ (gate d h).counter

    onto_longer : (o : Option Bare) (l : List Bare) → length l ≤ length (onto o l)
    onto_longer None l = omega arith
    onto_longer (Some x) l = omega arith

    entry_more : (e : Entry) (d : History) → is_quiet e ≡ true → Above d → Above (e ∷ d)
    unfolding origin taken_of
    entry_more (Accepted m) d q a = let b = onto_longer (by_host h (stamped_in (Accepted m))) (taken_of d h) in omega (arith, a, b)
    entry_more (Closed g c) d q a = a
    entry_more DroppedParts d q a = a
    entry_more LostPatience d q a = a
    entry_more Nudged d q a = a
    entry_more (Jumped g f) d q a = absurd cc
    entry_more (Stamped m) d q a = absurd cc
    entry_more (Served pos p) d q a = absurd cc
    entry_more (Executed slot) d q a = absurd cc
    entry_more (Installed pos parts) d q a = absurd cc

    stamped_more : (e : Entry) (d : History) → length (taken_of d h) ≤ length (onto (by_host h (stamped_in e)) (taken_of d h))
    stamped_more e d = onto_longer (by_host h (stamped_in e)) (taken_of d h)

    served_more : (pos : ℕ) (p : Placed) (d : History) → Above d → Above (Served pos p ∷ d)
    unfolding origin taken_of
    served_more pos p d a = a

    jumped_more : (g : ℕ) (f : Floor) (d : History) → (gate d g).counter < f.counter → Above d → Above (Jumped g f ∷ d)
    unfolding origin taken_of
    jumped_more g f d lower a = elim (cases_Bool (eqb g h)) [
      | inl same ↦ let is = ap (λ (k : ℕ). (gate d k).counter) (eqb-true g h same) in rw same (omega (arith, lower, a, is))
      | inr other ↦ rw other a
    ]

    serves_keep : (pos : ℕ) (rs : List Request) (x : Progress) → Above x.history → Above (serve_all self pos rs x).history
    serves_keep pos rs x s = served_keep self Above served_more pos rs x s

    gate_walked : IsWalked self (λ (x : Progress). Above x.history)
    unfolding origin taken_of
    gate_walked = record {
      quiet = λ e x q s. entry_more e x.history q s;
      stamped = λ m x s. let b = stamped_more (Stamped (signed self x.history m)) x.history in omega (arith, s, b);
      jumped = λ g f x free lower s. jumped_more g f x.history lower s;
      noted = λ strings x s. s;
      sent = λ l x r s. s;
      replied = λ c x s. s;
      executed = λ pos b x s. serves_keep pos b.requests x s;
      installed = λ x s. s;
    }

  jump_reaches : (h : ℕ) (f : Floor) (d : History) → closed_at d h ≡ None → f.counter ≤ (gate (jump self h (Some f) (begin d)).history h).counter
  unfolding origin taken_of
  jump_reaches h f d free = elim (cases_Bool (nat_lt (gate d h).counter f.counter)) [
    | inl lower ↦ rw (free, lower, eq-eqb h h refl) (omega arith)
    | inr not_lower ↦ rw (free, not_lower) (ltb-false (gate d h).counter f.counter not_lower)
  ]

  log_reaches : (m : Log) (d : History) (c : FloorCert) (f : Floor) → IsValidLog self m → m.floor ≡ Some c → certified_floor self.shape (verifies self.secret) m.host c ≡ Some f → closed_at d m.host ≡ None
      → f.counter ≤ (gate (give_log self m (begin d)).left.history m.host).counter
  unfolding give_log
  log_reaches m d c f v shows is free =
      let floor : floor_shown self m.host m.floor ≡ Some f = ap (floor_shown self m.host) shows ∙ is in
      let x : Progress = jump self m.host (floor_shown self m.host m.floor) (begin d) in
      let there : f.counter ≤ (gate x.history m.host).counter = subst (λ (o : Option Floor). f.counter ≤ (gate (jump self m.host o (begin d)).history m.host).counter) (sym floor) (jump_reaches m.host f d free) in
      rw (log_passed self m v) (entries_keep self (λ (y : Progress). f.counter ≤ (gate y.history m.host).counter) (gate_walked m.host f.counter) m.entries (write (Accepted (message.Log m)) x)
      (entry_more m.host f.counter (Accepted (message.Log m)) x.history refl there))

  pub jumps_to_floors : (d : History) → JumpsToFloors self d
  unfolding transition
  jumps_to_floors d bytes m c f reads v shows is free =
      subst (λ (r : Result Message ℕ). f.counter ≤ (gate (on_bytes self r d).left.history m.host).counter) (sym reads)
      (finished_keeps self (λ (y : Progress). f.counter ≤ (gate y.history m.host).counter) (gate_walked m.host f.counter) _ _ d (give_log self m (begin d)) (log_reaches m d c f v shows is free))
