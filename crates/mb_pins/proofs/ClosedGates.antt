-- A gate that is closed never comes past the counter at which it was closed: that counter is at most the next one, in each history to which events lead.
use Rattle.std.proofs.Common.{◌≡◌, ℕ, zero, suc, ◌+◌, ◌≤◌, ◌⊎◌, List, [], ◌∷◌, ◌++◌, length, sym, ap, subst, ◌∙◌, inl, inr, arith, eqb, Option, Some, None}
use Rattle.std.specs.Prelude.{slice_get}
use Rattle.std.proofs.lemmas.Bool.{cases_Bool, eqb-true}
use Rattle.mb_parts.specs.Bares.{Bare}
use Rattle.mb_msg.specs.declared.event.Event.{Event}
use Rattle.mb_msg.specs.declared.event.Event.TheVariants as event
use Rattle.mb_msg.specs.Stamps.{as_stamped}
use Rattle.mb_model.specs.Histories.{Entry, Accepted, Stamped, Jumped, Closed, Served, Executed, Installed, DroppedParts, LostPatience, Nudged, History, Identity, onto, by_host, origin, taken_of, closed_at, gate}
use Rattle.mb_schedule.specs.declared.schedule.WorldEvent.{WorldEvent}
use Rattle.mb_promise.specs.AddsGiven.{IsDone, ComesWith, AllCome, AddsWhatCame}
use Rattle.mb_world_model.specs.World.{System, self_of}
use Rattle.mb_world_model.specs.WorldSteps.{after, world}
use Rattle.mb_host_laws.proofs.Cases.{some_is, some_none}
use Rattle.mb_obligations.proofs.Added.{hosts_add_given}
use Rattle.mb_pins.proofs.WorldAdds.{history_moves}

-- At a closed gate the next counter is the one at which it was closed, or a later one.
abbrev pub IsShut : History → Type 0
IsShut d = (h x : ℕ) → closed_at d h ≡ Some x → x ≤ (gate d h).counter + 1

-- So it is of a history and of all its beginnings.
abbrev pub AreShut : History → Type 0
AreShut [] = Unit {0}
AreShut (e ∷ d) = IsShut (e ∷ d) × AreShut d

pub shut_at : (d : History) → AreShut d → IsShut d
unfolding closed_at
shut_at [] a h x closed = absurd cc
shut_at (e ∷ d) a h x closed = a.0 h x closed

pub shut_past : (later d : History) → AreShut (later ++ d) → AreShut d
shut_past [] d a = a
shut_past (e ∷ later) d a = shut_past later d a.1

longer : (o : Option Bare) (l : List Bare) → length l ≤ length (onto o l)
longer None l = omega arith
longer (Some b) l = omega arith

module _ {S : Type 0} (self : Identity S) where
  shut_more : (ev : Event) (e : Entry) (d : History) → IsDone e ⊎ ComesWith self ev d e → IsShut d → IsShut (e ∷ d)
  unfolding origin taken_of closed_at
  shut_more ev (Accepted m) d c p h x closed = let low = p h x closed in let more = longer (by_host h (as_stamped m)) (taken_of d h) in omega (arith, low, more)
  shut_more ev (Stamped m) d c p h x closed = let low = p h x closed in let more = longer (by_host h (Some m)) (taken_of d h) in omega (arith, low, more)
  shut_more (event.Given bytes) (Jumped g f) d (inr (m, reads, (l, is, shows))) p h x closed = elim (cases_Bool (eqb g h)) [
    | inl same ↦ absurd (some_none x (sym closed ∙ ap (closed_at d) (sym (eqb-true g h same)) ∙ shows.free))
    | inr other ↦ rw other (p h x closed)
  ]
  shut_more event.Patience (Jumped g f) d (inr is) p h x closed = absurd cc
  shut_more event.Nudge (Jumped g f) d (inr is) p h x closed = absurd cc
  shut_more ev (Jumped g f) d (inl done) p h x closed = absurd done
  shut_more (event.Given bytes) (Closed g n) d (inr (m, reads, (y, part, out))) p h x closed = elim (cases_Bool (eqb g h)) [
    | inl same ↦
        let at : n ≡ x = some_is n x (rw same at closed) in
        let next : n ≡ (gate d h).counter + 1 = subst (λ (k : ℕ). n ≡ (gate d k).counter + 1) (eqb-true g h same) out.next in
        omega (arith, at, next)
    | inr other ↦ p h x (rw other at closed)
  ]
  shut_more event.Patience (Closed g n) d (inr is) p h x closed = absurd cc
  shut_more event.Nudge (Closed g n) d (inr is) p h x closed = absurd cc
  shut_more ev (Closed g n) d (inl done) p h x closed = absurd done
  shut_more ev (Served pos placed) d c p h x closed = p h x closed
  shut_more ev (Executed slot) d c p h x closed = p h x closed
  shut_more ev (Installed pos parts) d c p h x closed = p h x closed
  shut_more ev DroppedParts d c p h x closed = p h x closed
  shut_more ev LostPatience d c p h x closed = p h x closed
  shut_more ev Nudged d c p h x closed = p h x closed

  shut_on : (ev : Event) (d l : History) → AllCome self ev d l → AreShut d → AreShut (l ++ d)
  shut_on ev d [] c a = a
  shut_on ev d (e ∷ l) c a = let rest = shut_on ev d l c.1 a in (shut_more ev e (l ++ d) c.0 (shut_at (l ++ d) rest), rest)

module _ {S : Type 0} (system : System S) where
  shut_behind : (k h : ℕ) (o : Option WorldEvent) → AreShut ((world system k).histories h) → AreShut ((after system (world system k) o).histories h)
  shut_behind k h None a = a
  shut_behind k h (Some e) a = elim (history_moves system (world system k) e h) [
    | inl same ↦ subst AreShut (sym same) a
    | inr (x, step, is) ↦
        let adds : AddsWhatCame (self_of system h) x ((world system k).histories h) _ = hosts_add_given system k h x in
        subst AreShut (sym (is ∙ adds.is)) (shut_on (self_of system h) x ((world system k).histories h) adds.added adds.come a)
  ]

  pub gates_shut : (k h : ℕ) → AreShut ((world system k).histories h)
  unfolding world
  gates_shut zero h = tt
  gates_shut (suc k) h = shut_behind k h (slice_get system.schedule.events k) (gates_shut k h)
