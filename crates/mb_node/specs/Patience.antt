-- Patience: how many quiets a host bears that waits for something, before it wishes for the view behind its own.
use Rattle.std.specs.Prelude.{ℕ, ◌+◌, ◌*◌, ◌-◌, ◌^◌, ◌==◌, min, Bool, true, false, not, ◌||◌, ◌&&◌, List, [], ◌∷◌, Option, Some, None, nat_lt, if◌then◌else◌}
use Rattle.mb_parts.specs.declared.floor.Floor.{Floor}
use Rattle.mb_parts.specs.Ordered.{phase_is_open}
use Rattle.mb_msg.specs.declared.event.Slot.{Slot}
use Rattle.mb_model.specs.Histories.{History, Identity, here}
use Rattle.mb_replica.specs.Waiting.{wants}
use Rattle.mb_node.specs.declared.patience.Course.{Course}
use Rattle.mb_node.specs.declared.patience.Course.TheVariants as course
use Rattle.mb_node.specs.declared.patience.Patience.{Patience}
use Rattle.mb_node.specs.declared.patience.Shown.{Shown}
use Rattle.mb_node.specs.declared.patience.Standing.{Standing}

-- where a host stands, and whether it waits for something
abbrev pub standing : {S : Type 0} → Identity S → History → Standing
standing self d = record { at = here self d; waits = wants self d }

-- how many quiets a host bears that waits for something, in a view that works
abbrev pub waiting_patience : ℕ
waiting_patience = 8

-- how many one bears that waits for nothing, and was asked again for what it had executed
abbrev pub asked_patience : ℕ
asked_patience = 40

-- how often that is doubled at most
abbrev pub most_doublings : ℕ
most_doublings = 10

-- how many quiets a host bears that is so many views ahead of the last one that it saw work: twice as many for each
abbrev pub patience_limit : Bool → ℕ → ℕ
patience_limit waits ahead = (if waits then waiting_patience else asked_patience) * 2 ^ min ahead most_doublings

-- The next quiet is the last that a host bears which stands there.
abbrev pub is_spent : Standing → Patience → Bool
is_spent s p = (s.waits || p.asked_again) && not (nat_lt (p.quiets + 1) (patience_limit s.waits (s.at.view - p.worked_in)))

-- of a host that stands in this view, and to which nothing has happened since
abbrev pub fresh : ℕ → Patience
fresh view = record { quiets = 0; worked_in = view; asked_again = false }

-- ---- what an event shows

-- of the view in which it leaves the host: by the slots that it executed and the state that it took over, where the host stood, and where it stands
abbrev pub course_of : List Slot → Option ℕ → Floor → Floor → Course
course_of (slot ∷ more) adopted before after = course.Served
course_of [] (Some pos) before after = course.Served
course_of [] None before after = if phase_is_open after.phase && not (phase_is_open before.phase && before.view == after.view) then course.Opened else course.Neither

-- ---- patience behind an event

-- It served, or the view was opened.
abbrev pub moves_on : Course → Bool
moves_on course.Neither = false
moves_on c = true

abbrev pub worked_behind : Course → ℕ → ℕ → ℕ
worked_behind course.Served view before = view
worked_behind c view before = before

abbrev pub again_behind : Course → Bool → Bool → Bool
again_behind course.Neither again before = again || before
again_behind c again before = false

-- behind an event that showed this
abbrev pub behind : Shown → Patience → Patience
behind s p =
    let again : Bool = again_behind s.course s.again p.asked_again in
    record {
      quiets = if s.lost || (moves_on s.course || (s.begins || not (s.waits || again))) then 0 else p.quiets + s.quiets;
      worked_in = worked_behind s.course s.view p.worked_in;
      asked_again = again;
    }
