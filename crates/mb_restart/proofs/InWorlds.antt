-- The history of a correct host in a world is what the events leave that came to it, and all that they send was made there.
use Rattle.std.proofs.Common.{◌≡◌, inl, inr, ℕ, zero, suc, Bool, List, [], ◌∷◌, ◌++◌, map, refl, sym, ap, subst, ◌∙◌, arith, Option, Some, None}
use Rattle.std.specs.Prelude.{Contains, slice_get, option_and_then, if◌then◌else◌, ◌==◌}
use Rattle.std.specs.List.{AllByRecursion}
use Rattle.std.proofs.lemmas.Bool.{cases_Bool, eqb-true, eqb-false}
use Rattle.std.proofs.lemmas.List.Elements.{Contains-append_left, Contains-append_right, Contains-append_cases}
use Rattle.mb_base.specs.Shapes.{Bytes}
use Rattle.mb_msg.specs.Spelling.{spelling}
use Rattle.mb_msg.specs.declared.event.Event.{Event}
use Rattle.mb_model.specs.Histories.{History, Identity}
use Rattle.mb_model.specs.Sending.{Letter}
use Rattle.mb_model.specs.HostStep.{transition, after}
use Rattle.mb_model.proofs.Members.{in_contained, contained, in_map}
use Rattle.mb_schedule.specs.declared.schedule.WorldEvent.{WorldEvent}
use Rattle.mb_world_model.specs.World.{World, System, self_of}
use Rattle.mb_world_model.specs.WorldEvents.{IsCorrect}
use Rattle.mb_world_model.specs.WorldSteps.{world, happens}
use Rattle.mb_world_model.specs.WorldSteps as worlds
use Rattle.mb_world_model.specs.EventsStep.{arrival, MakesStep}
use Rattle.mb_theorem.proofs.EventsStep.{events_step}
use Rattle.mb_restart.specs.Runs.{sent_by, Run}
use Rattle.mb_restart.specs.Restarts.{with_arrival, came, IsPartOf, SendsMade, HostsAreInWorlds}
use Rattle.mb_restart.proofs.GoneOn.{all_weaker, hosts_go_on}
use Rattle.mb_restart.proofs.Pools.{Grows, event_grows}

-- what comes is one thing, to one host
one_arrival : (a b : ℕ × Event) → Some a ≡ Some b → a ≡ b
one_arrival a b is = cc

no_arrival : (b : ℕ × Event) → None ≡ Some b → ⊥
no_arrival b is = absurd cc

abbrev spelled : Letter → Bytes
spelled letter = spelling letter.says

spelled_there : (l : List Letter) (letter : Letter) → Contains l letter → Contains (map spelled l) (spelled letter)
spelled_there l letter there = contained (map spelled l) (spelled letter) (in_map spelled l letter (in_contained l letter there))

module _ {S : Type 0} (system : System S) (h : ℕ) (correct : IsCorrect system.schedule h) where
  abbrev self : Identity S
  self = self_of system h

  -- the world once these events came to the host, the last of them first
  record HasCome (w : World) (es : List Event) : Type 0 where
    stands : w.histories h ≡ after self es
    made : (letter : Letter) → Contains (sent_by self es) letter → Contains w.pool (spelled letter)

  -- nothing came to it
  stayed : (w : World) (es : List Event) (e : WorldEvent) → ((x : Event) → arrival w e ≡ Some (h, x) → ⊥) → HasCome w es → HasCome (happens system w e) es
  stayed w es e none so_far =
      let grows : Grows w.pool (happens system w e).pool = event_grows system w e in
      record {
        stands = (events_step system w).stays e h none ∙ so_far.stands;
        made = λ letter there. subst (λ (l : List Bytes). Contains l (spelled letter)) grows.is (Contains-append_left w.pool grows.more (spelled letter) (so_far.made letter there));
      }

  -- this came
  made_more : (w v : World) (es : List Event) (x : Event) → MakesStep system h x w v → HasCome w es → (letter : Letter) → Contains (sent_by self (x ∷ es)) letter → Contains v.pool (spelled letter)
  unfolding sent_by
  made_more w v es x step so_far letter there =
      let sent : List Letter = (transition self (after self es) x).left.sent in
      let sends : v.pool ≡ w.pool ++ map spelled sent = step.sends ∙ ap (λ (d : History). w.pool ++ map spelled (transition self d x).left.sent) so_far.stands in
      subst (λ (l : List Bytes). Contains l (spelled letter)) (sym sends) (elim (Contains-append_cases (sent_by self es) sent letter there) [
        | inl before ↦ Contains-append_left w.pool (map spelled sent) (spelled letter) (so_far.made letter before)
        | inr now ↦ Contains-append_right w.pool (map spelled sent) (spelled letter) (spelled_there sent letter now)
      ])

  stepped : (w v : World) (es : List Event) (x : Event) → MakesStep system h x w v → HasCome w es → HasCome v (x ∷ es)
  unfolding after
  stepped w v es x step so_far = record {
    stands = step.history ∙ ap (λ (d : History). (transition self d x).left.history) so_far.stands;
    made = made_more w v es x step so_far;
  }

  arrival_so : (w : World) (es : List Event) (e : WorldEvent) (a : Option (ℕ × Event)) → arrival w e ≡ a → HasCome w es → HasCome (happens system w e) (with_arrival h a es)
  arrival_so w es e None at so_far = stayed w es e (λ x comes. no_arrival (h, x) (sym at ∙ comes)) so_far
  arrival_so w es e (Some p) at so_far = elim (cases_Bool (p.0 == h)) [
    | inl same ↦
        subst (λ (t : Bool). HasCome (happens system w e) (if t then p.1 ∷ es else es)) (sym same)
        (stepped w (happens system w e) es p.1 ((events_step system w).steps e h p.1 (at ∙ ap (λ (n : ℕ). Some (n, p.1)) (eqb-true p.0 h same)) correct) so_far)
    | inr other ↦
        subst (λ (t : Bool). HasCome (happens system w e) (if t then p.1 ∷ es else es)) (sym other)
        (stayed w es e (λ x comes. eqb-false p.0 h other (ap (λ (q : ℕ × Event). q.0) (one_arrival p (h, x) (sym at ∙ comes)))) so_far)
  ]

  event_so : (w : World) (es : List Event) (o : Option WorldEvent) → HasCome w es → HasCome (worlds.after system w o) (with_arrival h (option_and_then (arrival w) o) es)
  event_so w es None so_far = so_far
  event_so w es (Some e) so_far = arrival_so w es e (arrival w e) refl so_far

  none_sent : (letter : Letter) → Contains (sent_by self []) letter → Contains (world system zero).pool (spelled letter)
  unfolding sent_by
  none_sent letter there = let lt = there.1 in absurd (omega arith)

  come_so : (k : ℕ) → HasCome (world system k) (came system h k)
  unfolding world came after
  come_so zero = record { stands = refl; made = none_sent }
  come_so (suc k) = event_so (world system k) (came system h k) (slice_get system.schedule.events k) (come_so k)

  part_made : (w : World) (es : List Event) (run : Run) → HasCome w es → IsPartOf self es run → SendsMade w run
  part_made w es run come part letter there =
      let behind = Contains-append_left run.sent part.sends.behind letter there in
      come.made letter (subst (λ (l : List Letter). Contains l letter) part.sends.is (Contains-append_right part.sends.before (run.sent ++ part.sends.behind) letter behind))

pub hosts_are_in_worlds : (S : Type 0) → HostsAreInWorlds S
hosts_are_in_worlds S system h k header made last runs correct are came_is =
    let me = self_of system h in
    let come = come_so system h correct k in
    let parts = subst (λ (es : List Event). AllByRecursion (IsPartOf me es) (last ∷ runs)) (sym came_is) (hosts_go_on S me header made last runs are) in
    record {
      stands = come.stands ∙ ap (after me) came_is;
      parts = parts;
      made = all_weaker (IsPartOf me (came system h k)) (SendsMade (world system k)) (λ run part. part_made system h correct (world system k) (came system h k) run come part) (last ∷ runs) parts;
    }
