-- A schedule's events, one more at a time.
use Rattle.std.proofs.Common.{◌≡◌, ℕ, ◌+◌, ◌-◌, List, [], ◌∷◌, ◌++◌, drop, reverse, inl, inr, length, Some, None, Err, refl, sym, ap, subst, ◌∙◌, add-one, arith}
use Rattle.std.specs.List.{slice_get}
use Rattle.std.proofs.lemmas.Bool.{cases_eq}
use Rattle.std.proofs.lemmas.List.{reverse-append, reverse-reverse}
use Rattle.std.proofs.lemmas.Option.{same_Some}
use Rattle.mb_schedule.specs.declared.schedule.Schedule.{Schedule}
use Rattle.mb_schedule.specs.declared.schedule.WorldEvent.{WorldEvent}
use Rattle.mb_world_model.specs.Stops.{WorldStop as Stop, NotFaulty, NoSuchMessage, WrongKind, Forged, ForgedTag, stop_of}
use Rattle.mb_world_model.specs.WorldSteps.{happens, world as any_world}
use Rattle.mb_members.proofs.LeftLaws.{drop_one}
use Rattle.mb_world.specs.declared.seen.Seen.{Seen}
use Rattle.mb_world.specs.declared.seen.WorldStop.{WorldStop}
use Rattle.mb_world.specs.declared.seen.WorldStop.TheVariants as stop
use Rattle.mb_world.specs.Answers.{Tells}
use Rattle.mb_top.specs.Systems.{system_of, world}
use Rattle.mb_top.specs.Runs.{AreUnstopped, IsFirstStopped, run_stop_of, StopsAt}
use Rattle.mb_top.proofs.StopLaws.{found_is_of}

-- all events are left, last first
pub all_left : (events kept left : List WorldEvent) → kept ≡ events → left ≡ reverse kept → events ≡ reverse left
all_left events kept left same turned = sym (ap reverse turned ∙ (reverse-reverse kept ∙ same))

-- the next event is the last of those that are left
pub next_left : (events : List WorldEvent) (k : ℕ) (left rest : List WorldEvent) (e : WorldEvent) → left ≡ rest ++ e ∷ [] → drop k events ≡ reverse left
    → (slice_get events k ≡ Some e) × (drop (k + 1) events ≡ reverse rest)
next_left events k left rest e split is = drop_one events k e (reverse rest) (is ∙ (ap reverse split ∙ reverse-append rest (e ∷ [])))

module _ (s : Schedule) (k : ℕ) (e : WorldEvent) (at : slice_get s.events k ≡ Some e) where
  -- the world after one more event
  pub world_more : world s (k + 1) ≡ happens (system_of s) (world s k) e
  unfolding any_world
  world_more = ap (world s) (add-one k) ∙ rw at refl

  -- nothing stands in the way of one more
  pub unstopped_more : AreUnstopped s k → stop_of s (world s k) e ≡ None → AreUnstopped s (k + 1)
  unstopped_more before none = λ i f lt there.
      elim (cases_eq i k) [
        | inl same ↦
            let one : f ≡ e = same_Some f e (sym there ∙ (ap (slice_get s.events) same ∙ at)) in
            rw (same, one) none
        | inr other ↦ before i f (omega arith) there
      ]

  -- something does
  first_stopped : AreUnstopped s k → (found : Stop) → stop_of s (world s k) e ≡ Some found → IsFirstStopped s (k + 1) found
  first_stopped before found is =
      let same : k + 1 - 1 ≡ k = omega arith in
      record {
        event = e;
        positive = omega arith;
        stands = rw same at;
        before = rw same before;
        stopped = rw same is;
      }

  module _ (before : AreUnstopped s k) (count : length (world s k).seen ≡ k) where
    forged_is_here : (n host counter : ℕ) → stop_of s (world s k) e ≡ Some (Forged n host counter) → IsFirstStopped s n (Forged n host counter)
    forged_is_here n host counter is =
        let here : n ≡ k + 1 = found_is_of s (world s k) e (Forged n host counter) is ∙ ap (λ i. i + 1) count in
        subst (λ i. IsFirstStopped s i (Forged n host counter)) (sym here) (first_stopped before (Forged n host counter) is)

    tag_is_here : (n : ℕ) → stop_of s (world s k) e ≡ Some (ForgedTag n) → IsFirstStopped s n (ForgedTag n)
    tag_is_here n is =
        let here : n ≡ k + 1 = found_is_of s (world s k) e (ForgedTag n) is ∙ ap (λ i. i + 1) count in
        subst (λ i. IsFirstStopped s i (ForgedTag n)) (sym here) (first_stopped before (ForgedTag n) is)

    -- what is told then of the run
    pub stops_there : (found : WorldStop) → Tells {A = Seen} (stop_of s (world s k) e) (Err found) → StopsAt s (run_stop_of (k + 1) found)
    stops_there (stop.NotFaulty name) told = record { found = NotFaulty name; bad = refl; first = first_stopped before (NotFaulty name) (sym told) }
    stops_there (stop.NoSuchMessage number) told = record { found = NoSuchMessage number; bad = refl; first = first_stopped before (NoSuchMessage number) (sym told) }
    stops_there (stop.WrongKind number) told = record { found = WrongKind number; bad = refl; first = first_stopped before (WrongKind number) (sym told) }
    stops_there (stop.Forged n host counter) told = forged_is_here n host counter (sym told)
    stops_there (stop.ForgedTag n) told = tag_is_here n (sym told)
    stops_there stop.NoMemory told = tt
    stops_there stop.Halted told = tt
