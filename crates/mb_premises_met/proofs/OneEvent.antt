-- One event of a world of three correct hosts: the COMMIT of h1 comes to h2, which was given nothing before. It is a step of h2, and is answered with no blame.
use Rattle.std.proofs.Common.{◌≡◌, ◌<◌, ℕ, zero, suc, [], ◌∷◌, map, refl, arith, subst}
use Rattle.std.specs.Prelude.{Contains, true, false}
use Rattle.mb_base.specs.Shapes.{Bytes}
use Rattle.mb_msg.specs.declared.event.Event.TheVariants as event
use Rattle.mb_msg.specs.declared.event.Outcome.TheVariants as outcome
use Rattle.mb_msg.specs.declared.message.Message.TheVariants as message
use Rattle.mb_msg.specs.declared.stamped.Stamped.{Stamped as StampedMessage}
use Rattle.mb_msg.specs.declared.stamped.Stamped.TheVariants as stamped
use Rattle.mb_msg.specs.Spelling.{spelling}
use Rattle.mb_msg.specs.Stamps.{ui_of}
use Rattle.mb_schedule.specs.declared.schedule.Name.TheVariants as name
use Rattle.mb_schedule.specs.declared.schedule.WorldEvent.{WorldEvent}
use Rattle.mb_schedule.specs.declared.schedule.WorldEvent.TheVariants.{Raw}
use Rattle.mb_model.specs.Histories.{Closed}
use Rattle.mb_agreement.proofs.ViewChangeData.{asked}
use Rattle.mb_world_model.specs.World.{World, System, OfHost, nothing_happened}
use Rattle.mb_world_model.specs.WorldSteps.{happens}
use Rattle.mb_world_model.specs.WorldEvents.{IsCorrect}
use Rattle.mb_promise.specs.NothingLeft.{HasExecuted}
use Rattle.mb_promise.specs.ExecutesAtOnce.{ExecutesAtOnce}
use Rattle.mb_world_model.specs.EventsStep.{EventsStep, MakesStep}
use Rattle.mb_promise.specs.NoEventBlames.{NoEventBlames, IsOfCorrect, is_blame}
use Rattle.mb_world_model.proofs.WorldsOnLiterals.{worlds_on_literals}
use Rattle.mb_premises_met.proofs.Data.{keeps_last, first_part, commit_1}
use Rattle.mb_premises_met.proofs.NormalCase.{both_complete}
use Rattle.mb_premises_met.proofs.States.{schedule}

abbrev system : System Bytes
system = record { machine = keeps_last; snapshots = first_part; initial = []; schedule = schedule }

abbrev commit_bytes : Bytes
commit_bytes = spelling (message.Commit commit_1)

abbrev commit_comes : WorldEvent
commit_comes = Raw (name.Host 2) commit_bytes

abbrev behind : World
behind = happens system nothing_happened commit_comes

-- h2 stamps its COMMIT, executes, and answers both clients: of each message that is made the kind.
abbrev first_byte : Bytes → ℕ
first_byte [] = 0
first_byte (kind ∷ bytes) = kind

messages_are : map first_byte behind.pool ≡ 3 ∷ 4 ∷ 4 ∷ []
unfolding worlds_on_literals
messages_are = refl

answer_is : behind.seen ≡ OfHost outcome.Took ∷ []
unfolding worlds_on_literals
answer_is = refl

correct_1 : IsCorrect schedule 1
correct_1 =
    let there : 1 < 3 = omega arith in
    (there, refl)

correct_2 : IsCorrect schedule 2
correct_2 =
    let there : 2 < 3 = omega arith in
    (there, refl)

of_one : {A : Type 0} (P : A → Type 0) (a : A) → P a → (x : A) → Contains (a ∷ []) x → P x
of_one P a first x (zero, lt, is) = subst P is first
of_one P a first x (suc k, lt, is) = absurd (omega (arith, lt))

commit_is_of_correct : IsOfCorrect system (message.Commit commit_1)
commit_is_of_correct = of_one (λ (x : StampedMessage). IsCorrect schedule (ui_of x).host) (stamped.Commit commit_1) correct_1

-- The event is a step of h2.
a_step_is_made : EventsStep system nothing_happened → MakesStep system 2 (event.Given commit_bytes) nothing_happened behind
a_step_is_made steps = steps.steps commit_comes 2 (event.Given commit_bytes) refl correct_2

-- Its answer is no blame.
a_commit_is_not_blamed : NoEventBlames system behind → is_blame outcome.Took ≡ false
unfolding worlds_on_literals
a_commit_is_not_blamed blames = blames nothing_happened commit_comes 2 commit_bytes (message.Commit commit_1) outcome.Took refl refl correct_2 refl commit_is_of_correct answer_is

-- Where the gate of h1 is closed, as that of no correct host ever is, the same COMMIT is answered with blame.
abbrev closed_before : World
closed_before = record nothing_happened { histories = λ h. Closed 1 1 ∷ [] }

abbrev convicted : World
convicted = happens system closed_before commit_comes

conviction_is : convicted.seen ≡ OfHost (outcome.Convicted 1) ∷ []
unfolding worlds_on_literals
conviction_is = refl

-- That is refused.
no_correct_host_is_convicted : NoEventBlames system convicted → ⊥
unfolding worlds_on_literals
no_correct_host_is_convicted blames =
    let blamed : true ≡ false = blames closed_before commit_comes 2 commit_bytes (message.Commit commit_1) (outcome.Convicted 1) refl refl correct_2 refl commit_is_of_correct conviction_is in
    absurd cc

-- It brings h2 both votes that lack, and so the batch is executed in the world behind it.
a_vote_executes_at_once : ExecutesAtOnce system nothing_happened → HasExecuted (behind.histories 2) 1 asked
unfolding worlds_on_literals
a_vote_executes_at_once executes = executes.by_both commit_comes 2 commit_bytes commit_1 asked (record { arrives = refl; correct = correct_2 }) both_complete
