-- All that is promised holds of the worlds of a schedule, after each event that nothing stopped.
use Rattle.std.proofs.Common.{ℕ, ◌-◌, ◌<◌, ◌≤◌, length, arith}
use Rattle.std.proofs.lemmas.Option.{slice_get_within}
use Rattle.mb_kv.specs.Pairs.{Pairs}
use Rattle.mb_schedule.specs.declared.schedule.Schedule.{Schedule}
use Rattle.mb_schedule.specs.Limits.{IsSchedule}
use Rattle.mb_world_model.specs.Hashed.{HashesApart}
use Rattle.mb_promise.specs.Headline.{Promises, HoldsAtEachEvent}
use Rattle.mb_world_model.specs.Stops.{WorldStop}
use Rattle.mb_theorem.proofs.Promised.{all_stay_one}
use Rattle.mb_top.specs.Systems.{system_of, world}
use Rattle.mb_top.specs.Runs.{AreUnstopped, IsFirstStopped}
use Rattle.mb_top.specs.Answers.{IsFirstForged, certificate, tag}
use Rattle.mb_top.proofs.KvService.{kv_is_service}

pub hold_at_each_event : (s : Schedule) → IsSchedule s → HoldsAtEachEvent (system_of s)
hold_at_each_event s fits = all_stay_one Pairs (system_of s) kv_is_service fits

-- nothing stands in the way of fewer events either
fewer : (s : Schedule) (k n : ℕ) → k ≤ n → AreUnstopped s n → AreUnstopped s k
fewer s k n le all = λ j e lt at. all j e (omega (arith, le, lt)) at

-- of a schedule of which nothing is stopped
pub hold_throughout : (s : Schedule) → IsSchedule s → AreUnstopped s (length s.events) → (k : ℕ) → k ≤ length s.events → HashesApart (world s k).hashed → Promises (system_of s) (world s k)
hold_throughout s fits all k le apart = hold_at_each_event s fits k le (fewer s k (length s.events) le all) apart

-- before the first event that is stopped
hold_before_stop : (s : Schedule) → IsSchedule s → (e : ℕ) (found : WorldStop) → IsFirstStopped s e found → (k : ℕ) → k < e → HashesApart (world s k).hashed → Promises (system_of s) (world s k)
hold_before_stop s fits e found first k lt apart =
    let within : e - 1 < length s.events = slice_get_within s.events (e - 1) first.event first.stands in
    let le : k ≤ e - 1 = omega (arith, lt) in
    let few : k ≤ length s.events = omega (arith, le, within) in
    hold_at_each_event s fits k few (fewer s k (e - 1) le first.before) apart

pub hold_before_forged : (s : Schedule) → IsSchedule s → (e : ℕ) → IsFirstForged s e → (k : ℕ) → k < e → HashesApart (world s k).hashed → Promises (system_of s) (world s k)
hold_before_forged s fits e (out, certificate host counter first is) = hold_before_stop s fits e _ first
hold_before_forged s fits e (out, tag first is) = hold_before_stop s fits e _ first
