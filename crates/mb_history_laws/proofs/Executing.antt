-- Execution behind an entry: the last executed position, the state, the requests that wait, snapshots, and the fetched parts of a state.
use Rattle.std.proofs.Common.{◌≡◌, ℕ, ◌≤◌, ◌<◌, Bool, true, false, ◌&&◌, List, [], ◌∷◌, ◌++◌, refl, sym, ap, ◌∙◌, inl, inr, arith, Option, Some, None}
use Rattle.std.specs.Prelude.{◌==◌, ◌%◌, nat_lt, nat_le, if◌then◌else◌}
use Rattle.std.specs.Option.{option_or}
use Rattle.std.proofs.lemmas.Bool.{cases_Bool, eqb-true, eq-eqb, ne_eqb, leb-true, le-leb}
use Rattle.mb_base.specs.Shapes.{Bytes, interval}
use Rattle.mb_parts.specs.declared.request.Request.{Request}
use Rattle.mb_msg.specs.declared.message.Message.TheVariants as message
use Rattle.mb_msg.specs.declared.transfer.StateMsg.{StateMsg}
use Rattle.mb_msg.specs.declared.event.Placed.{Placed}
use Rattle.mb_msg.specs.declared.event.Slot.{Slot}
use Rattle.mb_model.specs.Service.{Served as State, served, is_fresh, reply_of}
use Rattle.mb_model.specs.States.{parts_of}
use Rattle.mb_model.specs.Histories.{Entry, Accepted, Served, Executed, Installed, DroppedParts, Nudged, History, Identity}
use Rattle.mb_model.specs.Stable.{stable_of, low_of}
use Rattle.mb_model.specs.Positions.{exec_of, is_behind}
use Rattle.mb_model.specs.Execution.{if_above, part_in, if_restored, state_from, state_of, if_fresh, pending, parts_after, snapshot_of, part_of, part_held, next_host, asked_host}
use Rattle.mb_model.specs.CarriedOut.{just_served}
use Rattle.mb_model.proofs.Options.{if_some}
use Rattle.mb_steps.specs.Arises.{Arises}
use Rattle.mb_steps.proofs.StepPotential.{grown_low}
use Rattle.mb_history_laws.specs.Speaks.{is_served, speaks_of_snapshots, speaks_of_parts}
use Rattle.mb_history_laws.proofs.Framing.{parts_after_stay, parts_stay}

-- ---- the last executed position, and what was just served

pub executed_is : (slot : Slot) (d : History) → exec_of (Executed slot ∷ d) ≡ slot.pos
unfolding exec_of
executed_is slot d = refl

pub installed_is : (pos : ℕ) (parts : List Bytes) (d : History) → exec_of (Installed pos parts ∷ d) ≡ pos
unfolding exec_of
installed_is pos parts d = refl

pub served_more : (pos : ℕ) (placed : Placed) (d : History) → just_served (Served pos placed ∷ d) ≡ just_served d ++ placed ∷ []
unfolding just_served
served_more pos placed d = refl

pub served_ends : (e : Entry) (d : History) → is_served e ≡ false → just_served (e ∷ d) ≡ []
unfolding just_served
served_ends (Served pos placed) d s = absurd cc
served_ends e d s = refl

module _ {S : Type 0} (self : Identity S) where
  -- ---- the state

  pub state_served : (pos : ℕ) (placed : Placed) (d : History) → state_of self (Served pos placed ∷ d) ≡ served self.machine (state_of self d) pos placed.request
  unfolding state_of
  state_served pos placed d = refl

  pub state_installed : (pos : ℕ) (parts : List Bytes) (d : History) → state_of self (Installed pos parts ∷ d) ≡ if_restored self (state_of self d) (state_from self parts)
  unfolding state_of
  state_installed pos parts d = refl

  -- ---- the requests that wait

  pub request_put : (r : Request) (d : History) (c : ℕ) → pending self (Accepted (message.Request r) ∷ d) c ≡ (if r.client == c then Some r else pending self d c)
  unfolding pending
  request_put r d c = refl

  -- A number that is served settles its client's request.
  pub request_settled : (pos : ℕ) (placed : Placed) (d : History) (c : ℕ) → pending self (Served pos placed ∷ d) c ≡ (if placed.request.client == c then if_above placed.request.seq (pending self d c) else pending self d c)
  unfolding pending
  request_settled pos placed d c = refl

  above_is : (seq : ℕ) (o : Option Request) (r : Request) → if_above seq o ≡ Some r → o ≡ Some r
  above_is seq None r e = absurd cc
  above_is seq (Some q) r e = (if_some (nat_lt seq q.seq) (Some q) r e).1

  fresh_is : (x : State S) (o : Option Request) (r : Request) → if_fresh self x o ≡ Some r → o ≡ Some r
  fresh_is x None r e = absurd cc
  fresh_is x (Some q) r e = (if_some (is_fresh x q) (Some q) r e).1

  pub pending_client : (d : History) (c : ℕ) (r : Request) → pending self d c ≡ Some r → r.client ≡ c
  unfolding pending
  pending_client [] c r e = absurd cc
  pending_client (Accepted (message.Request q) ∷ d) c r e = elim (cases_Bool (q.client == c)) [
    | inl mine ↦ let same : q ≡ r = cc (rw mine at e) in ap (λ (x : Request). x.client) (sym same) ∙ eqb-true q.client c mine
    | inr other ↦ pending_client d c r (rw other at e)
  ]
  pending_client (Served pos placed ∷ d) c r e = elim (cases_Bool (placed.request.client == c)) [
    | inl mine ↦ pending_client d c r (above_is placed.request.seq (pending self d c) r (rw mine at e))
    | inr other ↦ pending_client d c r (rw other at e)
  ]
  pending_client (Installed pos parts ∷ d) c r e = pending_client d c r (fresh_is (state_of self (Installed pos parts ∷ d)) (pending self d c) r e)
  pending_client (x ∷ d) c r e = pending_client d c r e

  -- A state that is installed settles by the numbers of its client table.
  pub requests_adopted : (pos : ℕ) (parts : List Bytes) (d : History) (c : ℕ) → pending self (Installed pos parts ∷ d) c ≡ if_above (reply_of (state_of self (Installed pos parts ∷ d)) c).seq (pending self d c)
  unfolding pending
  requests_adopted pos parts d c = by_table (pending self d c) (pending_client d c) where
    by_table : (o : Option Request) → ((r : Request) → o ≡ Some r → r.client ≡ c) → if_fresh self (state_of self (Installed pos parts ∷ d)) o ≡ if_above (reply_of (state_of self (Installed pos parts ∷ d)) c).seq o
    by_table None client = refl
    by_table (Some r) client = ap (λ n. if nat_lt (reply_of (state_of self (Installed pos parts ∷ d)) n).seq r.seq then Some r else None) (client r refl)

  -- ---- snapshots: a position is executed once

  -- The last executed position never falls.
  pub executed_rises : (e : Entry) (d : History) → Arises self (e ∷ d) → exec_of d ≤ exec_of (e ∷ d)
  unfolding exec_of
  executed_rises (Executed slot) d a = omega (arith, a.0.place)
  executed_rises (Installed pos parts) d a = omega (arith, a.0.1)
  executed_rises e d a = omega arith

  pub parts_behind : (d : History) → Arises self d → (p : ℕ) (x : List Bytes) → parts_after self d p ≡ Some x → p ≤ exec_of d
  unfolding parts_after exec_of
  parts_behind [] a p x e = absurd cc
  parts_behind (Executed slot ∷ d) a p x e = elim (cases_Bool (slot.pos == p)) [
    | inl same ↦ omega (arith, eqb-true slot.pos p same)
    | inr other ↦ omega (arith, a.0.place, parts_behind d a.1 p x (rw other at e))
  ]
  parts_behind (Installed pos parts ∷ d) a p x e = omega (arith, a.0.1, parts_behind d a.1 p x e)
  parts_behind (y ∷ d) a p x e = parts_behind d a.1 p x e

  none_yet : (o : Option (List Bytes)) → ((x : List Bytes) → o ≡ Some x → ⊥) → o ≡ None
  none_yet None n = refl
  none_yet (Some x) n = absurd (n x refl)

  pub executed_once : (slot : Slot) (d : History) → Arises self (Executed slot ∷ d) → parts_after self d slot.pos ≡ None
  executed_once slot d a = none_yet (parts_after self d slot.pos) (λ x e. omega (arith, a.0.place, parts_behind d a.1 slot.pos x e))

  pub parts_put : (slot : Slot) (d : History) (p : ℕ) → parts_after self (Executed slot ∷ d) p ≡ (if slot.pos == p then Some (parts_of self.snapshots (state_of self d)) else parts_after self d p)
  unfolding parts_after state_of
  parts_put slot d p = refl

  pub snapshot_put : (slot : Slot) (d : History) (p : ℕ) → snapshot_of self (Executed slot ∷ d) p
      ≡ (if slot.pos == p then (if slot.pos % interval self.shape == 0 && nat_le (low_of self d) slot.pos then Some (parts_of self.snapshots (state_of self d)) else None) else snapshot_of self d p)
  unfolding stable_of
  snapshot_put slot d p = ap (λ o. if p % interval self.shape == 0 && nat_le (low_of self d) p then o else None) (parts_put slot d p) ∙ elim (cases_Bool (slot.pos == p)) [
    | inl same ↦ rw (same, eqb-true slot.pos p same) refl
    | inr other ↦ rw other refl
  ]

  -- Those below the stable position are dropped.
  pub snapshot_raised : (e : Entry) (d : History) (p : ℕ) → speaks_of_snapshots e ≡ false → snapshot_of self (e ∷ d) p ≡ (if nat_le (low_of self (e ∷ d)) p then snapshot_of self d p else None)
  snapshot_raised e d p s = ap (λ o. if p % interval self.shape == 0 && nat_le (low_of self (e ∷ d)) p then o else None) (parts_after_stay self e d p s) ∙ elim (cases_Bool (nat_le (low_of self (e ∷ d)) p)) [
    | inr below ↦ rw below (none_of (p % interval self.shape == 0))
    | inl above ↦ let was : nat_le (low_of self d) p ≡ true = le-leb (low_of self d) p (omega (arith, grown_low self d e, leb-true (low_of self (e ∷ d)) p above)) in rw (above, was) refl
  ] where
    none_of : (b : Bool) → (if b && false then parts_after self d p else None) ≡ None
    none_of true = refl
    none_of false = refl

  -- ---- the fetched parts

  apart : (a b : ℕ) → a < b → (a == b) ≡ false
  apart a b lt = ne_eqb a b (λ e. omega (arith, lt, e))

  -- No part of a position above the stable one is held.
  pub no_part_above : (d : History) (p i : ℕ) → low_of self d < p → part_of self d p i ≡ None
  unfolding part_of
  no_part_above [] p i above = refl
  no_part_above (Accepted (message.State m) ∷ d) p i above =
      let below : low_of self d < p = omega (arith, above, grown_low self d (Accepted (message.State m))) in
      rw (no_part_above d p i below, apart (low_of self d) p below) (none_of (m.pos == p)) where
        none_of : (b : Bool) → (if b && false then part_in m i else None) ≡ None
        none_of true = refl
        none_of false = refl
  no_part_above (DroppedParts ∷ d) p i above = refl
  no_part_above (Installed q parts ∷ d) p i above = refl
  no_part_above (e ∷ d) p i above = no_part_above d p i (omega (arith, above, grown_low self d e))

  -- where the stable position rises, no part is left
  pub parts_raised : (e : Entry) (d : History) (i : ℕ) → speaks_of_parts e ≡ false → low_of self d < low_of self (e ∷ d) → part_held self (e ∷ d) i ≡ None
  parts_raised e d i s up = parts_stay self e d (low_of self (e ∷ d)) i s ∙ no_part_above d (low_of self (e ∷ d)) i up

  -- of those of a STATE for the stable position each that was not held
  pub parts_held_more : (m : StateMsg) (d : History) (i : ℕ) → m.pos ≡ low_of self d → part_held self (Accepted (message.State m) ∷ d) i ≡ option_or (part_held self d i) (part_in m i)
  unfolding part_of stable_of
  parts_held_more m d i at = rw (at, eq-eqb (low_of self d) (low_of self d) refl) refl

  pub parts_dropped : (d : History) (i : ℕ) → part_held self (DroppedParts ∷ d) i ≡ None
  unfolding part_of
  parts_dropped d i = refl

  pub parts_installed : (pos : ℕ) (parts : List Bytes) (d : History) (i : ℕ) → part_held self (Installed pos parts ∷ d) i ≡ None
  unfolding part_of
  parts_installed pos parts d i = refl

  -- ---- the host that is asked

  pub asked_next : (d : History) → asked_host self (Nudged ∷ d) ≡ (if is_behind self d then next_host self (asked_host self d) else asked_host self d)
  unfolding asked_host
  asked_next d = refl
