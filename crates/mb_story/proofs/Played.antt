-- A story, one more event at a time.
use Rattle.std.proofs.Common.{◌≡◌, ℕ, ◌+◌, ◌<◌, inl, inr, true, false, is_some, List, ◌∷◌, ◌++◌, [], length, Option, Some, None, Err, refl, sym, ap, subst, ◌∙◌, add-one, arith}
use Rattle.std.specs.List.{slice_get}
use Rattle.std.proofs.lemmas.Bool.{cases_eq}
use Rattle.std.proofs.lemmas.Option.{same_Some, slice_get_within}
use Rattle.mb_schedule.specs.declared.schedule.WorldEvent.{WorldEvent}
use Rattle.mb_service.specs.declared.service.Service.{Ghosts}
use Rattle.mb_world_model.specs.Stops.{WorldStop as Stop, stop_of, IsUnstopped}
use Rattle.mb_world_model.specs.World.{World as WorldState, System, nothing_happened}
use Rattle.mb_world_model.specs.WorldSteps.{happens, world}
use Rattle.mb_members.proofs.ListLaws.{each_push}
use Rattle.mb_world.specs.declared.seen.Seen.{Seen}
use Rattle.mb_world.specs.declared.seen.WorldStop.{WorldStop}
use Rattle.mb_world.specs.declared.seen.WorldStop.TheVariants as stop
use Rattle.mb_world.specs.declared.world.World.{World}
use Rattle.mb_world.specs.Answers.{as_answer, as_stop, Tells}
use Rattle.mb_world.specs.Tables.{RepresentsWorld}
use Rattle.mb_world.specs.Reports.{report_of}
use Rattle.mb_schedule.specs.declared.report.Report.{Report}
use Rattle.mb_story.specs.declared.story.End.TheVariants.{Whole, Stopped}
use Rattle.mb_story.specs.declared.story.Story.{Story}
use Rattle.mb_story.specs.declared.telling.Telling.{Telling}
use Rattle.mb_story.specs.Telling.{Shows, IsTelling}
use Rattle.mb_story.specs.Stories.{IsStoppedAt, IsToldAt, EndsAt, IsStory}

-- ---- one more event

module _ {S : Type 0} (y : System S) (k : ℕ) (e : WorldEvent) (at : slice_get y.schedule.events k ≡ Some e) where
  -- the world behind it
  pub world_more : world y (k + 1) ≡ happens y (world y k) e
  unfolding world
  world_more = ap (world y) (add-one k) ∙ rw at refl

  pub unstopped_more : IsUnstopped y k → stop_of y.schedule (world y k) e ≡ None → IsUnstopped y (k + 1)
  unstopped_more before none = λ i f lt there.
      elim (cases_eq i k) [
        | inl same ↦
            let one : f ≡ e = same_Some f e (sym there ∙ (ap (slice_get y.schedule.events) same ∙ at)) in
            rw (same, one) none
        | inr other ↦ before i f (omega arith) there
      ]

  -- What is told of it is told at its place.
  pub told_here : (t : Telling) → IsTelling y (world y k) (happens y (world y k) e) e t → IsToldAt y k t
  told_here t tells = λ f there.
      let one : e ≡ f = same_Some e f (sym at ∙ there) in
      subst (λ (x : WorldEvent). IsTelling y (world y k) (world y (k + 1)) x t) one
      (subst (λ (x : WorldState). IsTelling y (world y k) x e t) (sym world_more) tells)

-- what is told that is no want of memory is what stands in the way
found_is : (found : Option Stop) (why : WorldStop) → Tells {A = Telling} found (Err why) → is_some (as_stop why) ≡ true → as_stop why ≡ found
found_is found (stop.NotFaulty who) tells some = tells
found_is found (stop.NoSuchMessage number) tells some = tells
found_is found (stop.WrongKind number) tells some = tells
found_is found (stop.Forged n host counter) tells some = tells
found_is found (stop.ForgedTag n) tells some = tells
found_is found stop.NoMemory tells some = absurd cc
found_is found stop.Halted tells some = absurd cc

-- What the code tells of an event is told of it, where it noted how many messages and slots there were before.
pub told_of : {S : Type 0} (y : System S) (x behind : WorldState) (e : WorldEvent) (t : Telling) (seen : Seen) (made executed : ℕ) → behind.seen ≡ as_answer seen ∷ x.seen → t.seen ≡ seen
    → made ≡ length x.pool → executed ≡ length x.line → Shows y behind made executed e t → IsTelling y x behind e t
told_of y x behind e t seen made executed answered same messages slots shows = record {
  answered = answered ∙ ap (λ (s : Seen). as_answer s ∷ x.seen) (sym same);
  shows = subst (λ (n : ℕ). Shows y behind n (length x.line) e t) messages (subst (λ (n : ℕ). Shows y behind made n e t) slots shows);
}

-- the same whatever else would be answered
pub tells_too : (A B : Type 0) (found : Option Stop) (why : WorldStop) → Tells {A = A} found (Err why) → Tells {A = B} found (Err why)
tells_too A B found stop.NoMemory tells = tells
tells_too A B found stop.Halted tells = tells
tells_too A B found why tells = tells

-- ---- a story so far

-- the first k events are told, and the code's world is the one behind them
pub record IsPlayed {V : Type 0} {g : Ghosts V} (y : System V) (told : List Telling) (w : World V g) (k : ℕ) : Type 0 where
  pub unstopped : IsUnstopped y k
  pub stands : RepresentsWorld y w (world y k)
  pub tells : (j : ℕ) (t : Telling) → slice_get told j ≡ Some t → IsToldAt y j t

module _ {V : Type 0} {g : Ghosts V} (y : System V) where
  pub none_played : (w : World V g) → RepresentsWorld y w nothing_happened → IsPlayed y [] w 0
  unfolding world
  none_played w first = record { unstopped = λ j e lt at. absurd (omega arith); stands = first; tells = λ j t at. absurd cc }

  pub played_more : (k : ℕ) (e : WorldEvent) → slice_get y.schedule.events k ≡ Some e → (told : List Telling) (v w : World V g) (t : Telling) → IsPlayed y told v k → length told ≡ k
      → stop_of y.schedule (world y k) e ≡ None → RepresentsWorld y w (happens y (world y k) e) → IsTelling y (world y k) (happens y (world y k) e) e t → IsPlayed y (told ++ t ∷ []) w (k + 1)
  played_more k e at told v w t before count none stands tells = record {
    unstopped = unstopped_more y k e at before.unstopped none;
    stands = subst (RepresentsWorld y w) (sym (world_more y k e at)) stands;
    tells = each_push (IsToldAt y) told t before.tells (subst (λ (i : ℕ). IsToldAt y i t) (sym count) (told_here y k e at t tells));
  }

  pub story_stops : (told : List Telling) (w : World V g) (k : ℕ) (e : WorldEvent) (why : WorldStop) (s : Story) → slice_get y.schedule.events k ≡ Some e → IsPlayed y told w k → length told ≡ k
      → Tells {A = Telling} (stop_of y.schedule (world y k) e) (Err why) → s.told ≡ told → s.end ≡ Stopped why → is_some (as_stop why) ≡ true → IsStory y s
  story_stops told w k e why s at played count tells same stopped some =
      let here : length s.told ≡ k = ap length same ∙ count in
      let cut : IsStoppedAt y k why = record { event = e; there = at; stands = found_is (stop_of y.schedule (world y k) e) why tells some; known = some } in
      record {
        unstopped = subst (IsUnstopped y) (sym here) played.unstopped;
        tells = subst (λ (l : List Telling). (j : ℕ) (t : Telling) → slice_get l j ≡ Some t → IsToldAt y j t) (sym same) played.tells;
        ends = subst (EndsAt y (length s.told)) (sym stopped) (subst (λ (n : ℕ). IsStoppedAt y n why) (sym here) cut);
      }

  pub story_ends : (told : List Telling) (w : World V g) (k : ℕ) (report : Report) → IsPlayed y told w k → length told ≡ k → k ≡ length y.schedule.events → report ≡ report_of y (world y k)
      → IsStory y (record { told = told; end = Whole report })
  story_ends told w k report played count all is = record {
    unstopped = subst (IsUnstopped y) (sym count) played.unstopped;
    tells = played.tells;
    ends = (count ∙ all, is ∙ ap (λ (n : ℕ). report_of y (world y n)) (sym count));
  }

-- ---- what a story says of the whole schedule

module _ {S : Type 0} (y : System S) (s : Story) (is : IsStory y s) where
  -- Where it ends with a report, nothing stands in the way of any event, and it is the report behind all.
  pub whole_story : (report : Report) → s.end ≡ Whole report → IsUnstopped y (length y.schedule.events) × (report ≡ report_of y (world y (length y.schedule.events)))
  whole_story report at =
      let ends = subst (EndsAt y (length s.told)) at is.ends in
      (subst (IsUnstopped y) ends.0 is.unstopped, ends.1 ∙ ap (λ (n : ℕ). report_of y (world y n)) ends.0)

  -- Where it ends before an event, something stands in the way of that.
  pub cut_story : (found : WorldStop) → s.end ≡ Stopped found → IsUnstopped y (length y.schedule.events) → ⊥
  cut_story found at all =
      let ends = subst (EndsAt y (length s.told)) at is.ends in
      let lt : length s.told < length y.schedule.events = slice_get_within y.schedule.events (length s.told) ends.event ends.there in
      let none = ends.stands ∙ all (length s.told) ends.event lt ends.there in
      let never : is_some (as_stop found) ≡ false = ap is_some none in
      let both : true ≡ false = sym ends.known ∙ never in
      absurd cc
