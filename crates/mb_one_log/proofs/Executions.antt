-- Executions in a history that arises: what each rests on, and that each is above all before it, and the last position never falls.
use Rattle.std.proofs.Common.{◌≡◌, ◌+◌, ◌≤◌, ◌<◌, ◌⊎◌, List, [], ◌∷◌, ◌++◌, refl, sym, ap, subst, inl, inr, arith}
use Rattle.mb_msg.specs.declared.event.Slot.{Slot}
use Rattle.mb_model.specs.Histories.{Entry, Accepted, Stamped, Jumped, Closed, Served, Executed, Installed, DroppedParts, LostPatience, Nudged, History, Identity}
use Rattle.mb_model.specs.Positions.{exec_of}
use Rattle.mb_model.specs.Members.{In}
use Rattle.mb_model.proofs.Members.{in_right}
use Rattle.mb_steps.specs.Arises.{Executes, Adds, Arises}
use Rattle.mb_host_laws.proofs.Moments.{IsPast}
use Rattle.mb_host_laws.proofs.Executing.{IsExecution, execution}

pub in_parts : {A : Type 0} (a b : List A) (x : A) → In (a ++ b) x → In a x ⊎ In b x
in_parts [] b x i = inr i
in_parts (y ∷ a) b x (inl is) = inl (inl is)
in_parts (y ∷ a) b x (inr i) = elim (in_parts a b x i) [ inl j ↦ inl (inr j) | inr j ↦ inr j ]

-- what stands in a history stood last once
pub in_past : (whole : History) (e : Entry) → In whole e → (d : History) × IsPast (e ∷ d) whole
in_past [] e i = absurd i
in_past (x ∷ d) e (inl is) = (d, record { later = []; is = ap (λ (y : Entry). y ∷ d) (sym is) })
in_past (x ∷ d) e (inr i) = let r = in_past d e i in (r.0, record { later = x ∷ r.1.later; is = ap (λ (y : History). x ∷ y) r.1.is })

pub past_in : (whole : History) (e : Entry) (d : History) → IsPast (e ∷ d) whole → In whole e
past_in whole e d p = subst (λ (y : History). In y e) p.is (in_right p.later (e ∷ d) e (inl refl))

module _ {S : Type 0} (self : Identity S) where
  pub past_adds : (later d : History) → Arises self (later ++ d) → Arises self d
  past_adds [] d a = a
  past_adds (e ∷ later) d a = past_adds later d a.1

  -- what an execution rested on
  pub executed_so : (d whole : History) (slot : Slot) → Arises self whole → IsPast (Executed slot ∷ d) whole → IsExecution self d slot
  executed_so d whole slot a p = execution self d slot (past_adds p.later (Executed slot ∷ d) (subst (λ (y : History). Arises self y) (sym p.is) a)).0

  -- ---- positions

  entry_rises : (e : Entry) (d : History) → Adds self d e → exec_of d ≤ exec_of (e ∷ d)
  unfolding exec_of
  entry_rises (Executed slot) d a = let place : slot.pos ≡ exec_of d + 1 = a.place in omega (arith, place)
  entry_rises (Served pos placed) d a = omega arith
  entry_rises (Installed pos parts) d a = omega (arith, a.1)
  entry_rises (Accepted m) d a = omega arith
  entry_rises (Stamped m) d a = omega arith
  entry_rises (Jumped h f) d a = omega arith
  entry_rises (Closed h c) d a = omega arith
  entry_rises DroppedParts d a = omega arith
  entry_rises LostPatience d a = omega arith
  entry_rises Nudged d a = omega arith

  pub exec_rises : (later d : History) → Arises self (later ++ d) → exec_of d ≤ exec_of (later ++ d)
  exec_rises [] d a = omega arith
  exec_rises (e ∷ later) d a = let r = exec_rises later d a.1 in let s = entry_rises e (later ++ d) a.0 in omega arith

  executed_here : (slot : Slot) (e : Entry) (d : History) → e ≡ Executed slot → exec_of (e ∷ d) ≡ slot.pos
  unfolding exec_of
  executed_here slot e d is = rw is refl

  executed_next : (slot : Slot) (e : Entry) (d : History) → e ≡ Executed slot → Adds self d e → slot.pos ≡ exec_of d + 1
  executed_next slot e d is a = let x : Executes self d slot = subst (λ (y : Entry). Adds self d y) is a in x.place

  pub exec_high : (d : History) (slot : Slot) → Arises self d → In d (Executed slot) → slot.pos ≤ exec_of d
  exec_high [] slot a i = absurd i
  exec_high (e ∷ d) slot a (inl is) = omega (arith, executed_here slot e d is)
  exec_high (e ∷ d) slot a (inr i) = let h = exec_high d slot a.1 i in let r = entry_rises e d a.0 in omega arith

  pub exec_later : (later d : History) (slot : Slot) → Arises self (later ++ d) → In later (Executed slot) → exec_of d < slot.pos
  exec_later [] d slot a i = absurd i
  exec_later (e ∷ later) d slot a (inl is) = let r = exec_rises later d a.1 in let n = executed_next slot e (later ++ d) is a.0 in omega arith
  exec_later (e ∷ later) d slot a (inr i) = exec_later later d slot a.1 i
