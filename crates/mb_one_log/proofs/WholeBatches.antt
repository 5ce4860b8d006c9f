-- The requests of a batch are served in one go, and the batch is executed behind them: no other entry stands between. So what is partly served at a
-- moment is served whole and executed later.
use Rattle.std.proofs.Common.{◌≡◌, ℕ, ◌⊎◌, true, List, [], ◌∷◌, ◌++◌, refl, sym, ap, ◌∙◌, inl, inr, append-nil}
use Rattle.std.proofs.lemmas.List.{append_assoc}
use Rattle.mb_msg.specs.declared.event.Placed.{Placed}
use Rattle.mb_msg.specs.declared.event.Slot.{Slot}
use Rattle.mb_msg.specs.declared.event.Event.{Event}
use Rattle.mb_model.specs.Histories.{Entry, Accepted, Stamped, Jumped, Closed, Served, Executed, Installed, DroppedParts, LostPatience, Nudged, History, Identity}
use Rattle.mb_model.specs.Positions.{exec_of}
use Rattle.mb_model.specs.Sending.{Progress, write}
use Rattle.mb_model.specs.CarriedOut.{just_served}
use Rattle.mb_model.specs.HostStep.{transition}
use Rattle.mb_steps.specs.Arises.{Adds, Arises, IsWhole}
use Rattle.mb_steps.proofs.StepArises.{none_served}
use Rattle.mb_world_model.specs.World.{System, self_of}
use Rattle.mb_world_model.specs.WorldSteps.{world}
use Rattle.mb_host_laws.proofs.KeptByEvents.{served_keep}
use Rattle.mb_world_laws.proofs.KeptByWorlds.{world_keeps}
use Rattle.mb_host_laws.proofs.Moments.{IsPast}
use Rattle.mb_host_laws.proofs.Walks.{is_quiet}
use Rattle.mb_one_log.proofs.Walks.{IsWalked, walked}
use Rattle.mb_one_log.proofs.StepDone.{past_more}

-- Behind each entry but a served request and an executed batch no batch is partly served.
abbrev pub IsUnbroken : History → Type 0
IsUnbroken [] = Unit {0}
IsUnbroken (Served pos placed ∷ d) = IsUnbroken d
IsUnbroken (Executed slot ∷ d) = IsUnbroken d
IsUnbroken (e ∷ d) = IsWhole d × IsUnbroken d

-- so it is, and none is partly served at the end
abbrev pub IsWholeAll : History → Type 0
IsWholeAll d = IsUnbroken d × IsWhole d

pub unbroken_tail : (e : Entry) (d : History) → IsUnbroken (e ∷ d) → IsUnbroken d
unbroken_tail (Served pos placed) d u = u
unbroken_tail (Executed slot) d u = u
unbroken_tail (Accepted m) d u = u.1
unbroken_tail (Stamped m) d u = u.1
unbroken_tail (Jumped h f) d u = u.1
unbroken_tail (Closed h c) d u = u.1
unbroken_tail (Installed pos parts) d u = u.1
unbroken_tail DroppedParts d u = u.1
unbroken_tail LostPatience d u = u.1
unbroken_tail Nudged d u = u.1

pub unbroken_back : (later d : History) → IsUnbroken (later ++ d) → IsUnbroken d
unbroken_back [] d u = u
unbroken_back (e ∷ later) d u = unbroken_back later d (unbroken_tail e (later ++ d) u)

-- ---- of each history

module _ {S : Type 0} (self : Identity S) where
  abbrev Whole : Progress → Type 0
  Whole x = IsWholeAll x.history

  quiet_whole : (e : Entry) (x : Progress) → is_quiet e ≡ true → Whole x → Whole (write e x)
  quiet_whole (Served pos placed) x q a = absurd cc
  quiet_whole (Executed slot) x q a = absurd cc
  quiet_whole (Installed pos parts) x q a = absurd cc
  quiet_whole (Accepted m) x q a = ((a.1, a.0), tt)
  quiet_whole (Stamped m) x q a = absurd cc
  quiet_whole (Jumped h f) x q a = absurd cc
  quiet_whole (Closed h c) x q a = ((a.1, a.0), tt)
  quiet_whole DroppedParts x q a = ((a.1, a.0), tt)
  quiet_whole LostPatience x q a = ((a.1, a.0), tt)
  quiet_whole Nudged x q a = ((a.1, a.0), tt)

  whole_kept : IsWalked self Whole
  whole_kept = record {
    quiet = quiet_whole;
    stamped = λ m x a. ((a.1, a.0), tt);
    jumped = λ h f x free lower a. ((a.1, a.0), tt);
    noted = λ strings x a. a;
    sent = λ l x r a. a;
    replied = λ c x a. a;
    executed = λ pos b x a. (served_keep self IsUnbroken (λ pos p d u. u) pos b.requests x a.0, tt);
    installed = λ x a. ((a.1, a.0), tt);
  }

  step_whole : (d : History) (e : Event) → IsWholeAll d → IsWholeAll (transition self d e).left.history
  step_whole d e a = walked self Whole whole_kept d e a

pub world_whole : {S : Type 0} (system : System S) (k h : ℕ) → IsWholeAll ((world system k).histories h)
world_whole system k h = world_keeps system (λ g d. IsWholeAll d) (λ g. (tt, tt)) (λ g d e a. step_whole (self_of system g) d e a) k h

-- ---- what is partly served is executed later

module _ {S : Type 0} (self : Identity S) where
  -- A batch that begins with what was just served here was executed later, at the next position.
  pub record IsClosed (d whole : History) : Type 0 where
    pub slot : Slot
    pub before : History
    pub past : IsPast (Executed slot ∷ before) whole
    pub last : exec_of before ≡ exec_of d
    pub rest : List Placed
    pub requests : slot.requests ≡ just_served d ++ rest

  -- It goes on, as far as it was served.
  record GoesOn (d whole : History) : Type 0 where
    rest : List Placed
    requests : just_served whole ≡ just_served d ++ rest
    last : exec_of whole ≡ exec_of d

  abbrev ComesTo : History → History → Type 0
  ComesTo d whole = (just_served d ≡ []) ⊎ (GoesOn d whole ⊎ IsClosed d whole)

  closed_more : (e : Entry) (d whole : History) → IsClosed d whole → IsClosed d (e ∷ whole)
  closed_more e d whole c = record { slot = c.slot; before = c.before; past = past_more e (Executed c.slot ∷ c.before) whole c.past; last = c.last; rest = c.rest; requests = c.requests }

  no_first : {A : Type 0} (a b : List A) → [] ≡ a ++ b → a ≡ []
  no_first [] b e = refl
  no_first (x ∷ a) b e = absurd cc

  ended : (d whole : History) → IsWhole whole → GoesOn d whole → just_served d ≡ []
  ended d whole w g = no_first (just_served d) g.rest (sym (none_served whole w) ∙ g.requests)

  onward : (e : Entry) (d whole : History) → Adds self whole e → IsUnbroken (e ∷ whole) → GoesOn d whole → ComesTo d (e ∷ whole)
  unfolding just_served exec_of
  onward (Served pos placed) d whole a u g = inr (inl (record {
    rest = g.rest ++ placed ∷ [];
    requests = ap (λ (l : List Placed). l ++ placed ∷ []) g.requests ∙ append_assoc (just_served d) g.rest (placed ∷ []);
    last = g.last;
  }))
  onward (Executed slot) d whole a u g = inr (inr (record { slot = slot; before = whole; past = record { later = []; is = refl }; last = g.last; rest = g.rest; requests = a.served ∙ g.requests }))
  onward (Accepted m) d whole a u g = inl (ended d whole u.0 g)
  onward (Stamped m) d whole a u g = inl (ended d whole u.0 g)
  onward (Jumped h f) d whole a u g = inl (ended d whole u.0 g)
  onward (Closed h c) d whole a u g = inl (ended d whole u.0 g)
  onward (Installed pos parts) d whole a u g = inl (ended d whole u.0 g)
  onward DroppedParts d whole a u g = inl (ended d whole u.0 g)
  onward LostPatience d whole a u g = inl (ended d whole u.0 g)
  onward Nudged d whole a u g = inl (ended d whole u.0 g)

  go_on : (later d : History) → Arises self (later ++ d) → IsUnbroken (later ++ d) → ComesTo d (later ++ d)
  go_on [] d a u = inr (inl (record { rest = []; requests = sym (append-nil (just_served d)); last = refl }))
  go_on (e ∷ later) d a u = elim (go_on later d a.1 (unbroken_tail e (later ++ d) u)) [
    | inl none ↦ inl none
    | inr (inl on) ↦ onward e d (later ++ d) a.0 u on
    | inr (inr c) ↦ inr (inr (closed_more e d (later ++ d) c))
  ]

  -- At each moment of a whole history nothing is partly served, or it was executed later.
  pub closes : (later d : History) → Arises self (later ++ d) → IsWholeAll (later ++ d) → (just_served d ≡ []) ⊎ IsClosed d (later ++ d)
  closes later d a w = elim (go_on later d a w.0) [
    | inl none ↦ inl none
    | inr (inl on) ↦ inl (ended d (later ++ d) w.1 on)
    | inr (inr c) ↦ inr c
  ]
