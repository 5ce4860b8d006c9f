-- The run event by event, up to its last world.
use Rattle.std.proofs.Common.{◌≡◌, ℕ, ◌+◌, List, [], ◌∷◌, ◌++◌, length, map, drop, refl, ap, subst, ◌∙◌, arith, Some, None}
use Rattle.std.specs.Prelude.{slice_get, fold}
use Rattle.mb_schedule.specs.declared.schedule.WorldEvent.{WorldEvent}
use Rattle.mb_world_model.specs.World.{World, nothing_happened}
use Rattle.mb_world_model.specs.WorldSteps.{happens, world as any_world}
use Rattle.mb_world_model.specs.Stops.{stop_of}
use Rattle.mb_kv.specs.Machine.{kv_machine}
use Rattle.mb_cache.specs.Represents.{machine_of, snapshots_of}
use Rattle.mb_members.proofs.LeftLaws.{drop_one}
use Rattle.mb_top.specs.Systems.{world}
use Rattle.mb_top.specs.Runs.{AreUnstopped}
use Rattle.mb_top.proofs.RunLaws.{world_more, unstopped_more}
use Rattle.mb_examples_course.proofs.Deeds.{Deed, begun, committed, executed, exchanged, round, rounds, deeds}
use Rattle.mb_examples_course.proofs.Schedule.{events, event_of, events_are_of_deeds, past_checkpoint}
use Rattle.mb_examples_course.proofs.Worlds.{behind, end, found, wanted, all_found}
use Rattle.mb_examples_course.proofs.AllFind.{find_what_they_want}
use Rattle.mb_examples_course.proofs.Makes.{free, makes, same_on_both}
use Rattle.mb_examples_checkpoint.proofs.System.{system, answer, written}
use Rattle.mb_examples_checkpoint.proofs.FirstSteps.{answers_1, answers_2, answers_3, begun_4, committed_4, executed_4, exchanged_4}
use Rattle.mb_examples_checkpoint.proofs.LaterSteps.{answers_5, answers_6, answers_7, begun_8, committed_8, executed_8, exchanged_8, answers_9}

-- ---- all that is written of the events is what the hosts answer

-- It is so of these.
abbrev IsWritten : List Deed → Type 0
IsWritten xs = map answer xs ≡ map written xs

all_with : (k : ℕ) (rest : List Deed) → IsWritten (round k) → IsWritten rest → IsWritten (round k ++ rest)
all_with k rest first then = same_on_both answer written (round k) rest first then

in_parts : (k : ℕ) → IsWritten (begun k) → IsWritten (committed k) → IsWritten (executed k) → IsWritten (exchanged k) → IsWritten (round k)
in_parts k a b c d =
    let last : IsWritten (executed k ++ exchanged k) = same_on_both answer written (executed k) (exchanged k) c d in
    let more : IsWritten (committed k ++ executed k ++ exchanged k) = same_on_both answer written (committed k) (executed k ++ exchanged k) b last in
    same_on_both answer written (begun k) (committed k ++ executed k ++ exchanged k) a more

answers_are_written : IsWritten deeds
answers_are_written =
    all_with 1 (rounds (2 ∷ 3 ∷ 4 ∷ 5 ∷ 6 ∷ 7 ∷ 8 ∷ 9 ∷ [])) answers_1 (
    all_with 2 (rounds (3 ∷ 4 ∷ 5 ∷ 6 ∷ 7 ∷ 8 ∷ 9 ∷ [])) answers_2 (
    all_with 3 (rounds (4 ∷ 5 ∷ 6 ∷ 7 ∷ 8 ∷ 9 ∷ [])) answers_3 (
    all_with 4 (rounds (5 ∷ 6 ∷ 7 ∷ 8 ∷ 9 ∷ [])) (in_parts 4 begun_4 committed_4 executed_4 exchanged_4) (
    all_with 5 (rounds (6 ∷ 7 ∷ 8 ∷ 9 ∷ [])) answers_5 (
    all_with 6 (rounds (7 ∷ 8 ∷ 9 ∷ [])) answers_6 (
    all_with 7 (rounds (8 ∷ 9 ∷ [])) answers_7 (
    all_with 8 (rounds (9 ∷ [])) (in_parts 8 begun_8 committed_8 executed_8 exchanged_8) (
    all_with 9 [] answers_9 refl))))))))

-- ---- so each event leads to the world behind it

-- Behind the first k events, none of which is stopped, this is the world.
pub record Reached (k : ℕ) (w : World) : Type 0 where
  pub is : world past_checkpoint k ≡ w
  pub free : AreUnstopped past_checkpoint k

start : Reached 0 nothing_happened
unfolding any_world
start = record { is = refl; free = λ j e lt at. absurd (omega (arith, lt)) }

-- Nothing stops the next event, and it makes this of the world.
one_more : (k : ℕ) (e : WorldEvent) (w v : World) → slice_get events k ≡ Some e → stop_of past_checkpoint w e ≡ None → happens system w e ≡ v → Reached k w → Reached (k + 1) v
one_more k e w v at none goes before = record {
  is = world_more past_checkpoint k e at ∙ (ap (λ (x : World). happens system x e) before.is ∙ goes);
  free = unstopped_more past_checkpoint k e at before.free (ap (λ (x : World). stop_of past_checkpoint x e) before.is ∙ none);
}

-- The events that are left find what they want, and are answered as is written.
all_more : (rest : List Deed) (k : ℕ) (w : World) → drop k events ≡ map event_of rest → all_found w rest ≡ map wanted rest → map answer rest ≡ map written rest → Reached k w
    → Reached (k + length rest) (fold behind w rest)
all_more [] k w left finds answers here =
    let same : k ≡ k + 0 = omega arith in
    subst (λ (n : ℕ). Reached n w) same here
all_more (x ∷ rest) k w left finds answers here =
    let next : (slice_get events k ≡ Some (event_of x)) × (drop (k + 1) events ≡ map event_of rest) = drop_one events k (event_of x) (map event_of rest) left in
    let first : found w x ≡ wanted x = cc in
    let others : all_found (behind w x) rest ≡ map wanted rest = cc in
    let says : answer x ≡ written x = cc in
    let say : map answer rest ≡ map written rest = cc in
    let goes : happens system w (event_of x) ≡ behind w x = makes (machine_of kv_machine) (snapshots_of kv_machine) [] w x first says in
    let same : k + 1 + length rest ≡ k + length (x ∷ rest) = omega arith in
    subst (λ (n : ℕ). Reached n (fold behind (behind w x) rest)) same (all_more rest (k + 1) (behind w x) next.1 others say (one_more k (event_of x) w (behind w x) next.0 (free w x first) goes here))

pub reached : Reached 39 end
reached = all_more deeds 0 nothing_happened events_are_of_deeds find_what_they_want answers_are_written start
