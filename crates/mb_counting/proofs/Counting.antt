-- A count can be replicated, so what is promised of all hosts holds of those that keep one.
use Rattle.std.proofs.Common.{◌≡◌, ℕ, List, [], ◌∷◌, refl, ap, arith}
use Rattle.mb_base.specs.Shapes.{Bytes}
use Rattle.mb_cache.specs.Represents.{machine_of, snapshots_of}
use Rattle.mb_counter.specs.Machine.{count_machine}
use Rattle.mb_counter.specs.Operations.{IsCount, after}
use Rattle.mb_counter.specs.Laws.{states_stay, answers_are_short, parts_give_the_state}
use Rattle.mb_theorem.proofs.Promised.{all_stay_one}
use Rattle.mb_schedule.specs.declared.schedule.Schedule.{Schedule}
use Rattle.mb_schedule.specs.Limits.{IsSchedule}
use Rattle.mb_sched.specs.Report.{report_text}
use Rattle.mb_promise.specs.Headline.{state_after, IsService}
use Rattle.mb_members.specs.Hosts.{IsSystem}
use Rattle.mb_story.specs.declared.story.End.{End}
use Rattle.mb_story.specs.declared.story.End.TheVariants.{Whole, Stopped}
use Rattle.mb_story.specs.declared.story.Story.{Story}
use Rattle.mb_story.specs.Stories.{IsStory}
use Rattle.mb_story.proofs.Played.{whole_story, cut_story}
use Rattle.mb_counting.specs.Systems.{system_of}
use Rattle.mb_counting.specs.Counts.{text_of_end, IsAnswer}

-- the count after these operations, from 0 on
abbrev after_all : List Bytes → ℕ
after_all ops = state_after (machine_of count_machine) 0 ops

stays_count : (ops : List Bytes) (count : ℕ) → IsCount count → IsCount (state_after (machine_of count_machine) count ops)
unfolding state_after
stays_count [] count is = is
stays_count (op ∷ ops) count is = stays_count ops (after count op) (states_stay count op is)

is_count : (ops : List Bytes) → IsCount (after_all ops)
is_count ops = stays_count ops 0 (omega arith)

count_is_service : IsService (machine_of count_machine) (snapshots_of count_machine) 0
count_is_service = record {
  short = λ ops op fit fits. answers_are_short (after_all ops) op (is_count ops);
  whole = λ ops fit. parts_give_the_state (after_all ops) (is_count ops);
}

-- Hosts are made with it.
pub is_system : (s : Schedule) → IsSystem count_machine (system_of s)
is_system s = record { machine = refl; snapshots = refl; first = omega arith }

-- what a story ends with is the answer
pub answered : (s : Schedule) → IsSchedule s → (story : Story) → IsStory (system_of s) story → (end : End) → story.end ≡ end → IsAnswer s (text_of_end end)
answered s fits story is (Whole report) at =
    let whole = whole_story (system_of s) story is report at in
    record {
      unstopped = whole.0;
      report = ap report_text whole.1;
      promises = λ k le. all_stay_one ℕ (system_of s) count_is_service fits k le (λ j e lt. whole.0 j e (omega (arith, lt, le)));
    }
answered s fits story is (Stopped found) at = cut_story (system_of s) story is found at
