-- What becomes of each world of the definitions that the code's world stands for.
use Rattle.std.specs.Prelude.{◌≡◌, ◌++◌, ℕ, List, Bool, false, reverse, filter_map, Result, IfOk}
use Rattle.mb_base.specs.Shapes.{Bytes}
use Rattle.mb_base.specs.declared.shape.Shape.{Shape}
use Rattle.mb_service.specs.Machine.{ServiceMachine}
use Rattle.mb_service.specs.declared.service.Service.{Ghosts}
use Rattle.mb_model.specs.Given.{Answer}
use Rattle.mb_replica.specs.declared.told.StepRecord.{StepRecord}
use Rattle.mb_replica.specs.Represents.{IsTold}
use Rattle.mb_schedule.specs.Limits.{is_faulty}
use Rattle.mb_world_model.specs.World.{World as WorldState, System, update, stepped, nothing_happened}
use Rattle.mb_unforged.specs.Reached.{IsReached}
use Rattle.mb_members.specs.Hosts.{IsSystem, AreServices, ForSystem}
use Rattle.mb_members.specs.Members.{RepresentsMembers}
use Rattle.mb_members.specs.Stamps.{FitsWhereStamped, bare_in, bares_of}
use Rattle.mb_world.specs.declared.seen.Seen.{Seen}
use Rattle.mb_world.specs.declared.world.World.{World}
use Rattle.mb_world.specs.Answers.{as_answer}
use Rattle.mb_world.specs.Sent.{SentIsClean}
use Rattle.mb_world.specs.Tables.{RepresentsRest, RepresentsWorld, Leaves}

-- So it is of each that it represents,
abbrev pub FromEach : {V : Type 0} {g : Ghosts V} → World V g → (System V → WorldState → Type 0) → Type 0
FromEach {V} w P = (y : System V) (x : WorldState) → RepresentsWorld y w x → P y x

-- whatever something else is,
abbrev pub FromEachWith : {V : Type 0} {g : Ghosts V} (A : Type 0) → World V g → (System V → WorldState → A → Type 0) → Type 0
FromEachWith {V} A w P = (y : System V) (x : WorldState) (a : A) → RepresentsWorld y w x → P y x a

-- of each of hosts with this service,
abbrev pub FromServing : {V : Type 0} {g : Ghosts V} → ServiceMachine V → World V g → (System V → WorldState → Type 0) → Type 0
FromServing {V} m w P = (y : System V) (x : WorldState) → IsSystem m y → RepresentsWorld y w x → P y x

-- and of each of these to which events lead that nothing stopped.
abbrev pub FromReached : {V : Type 0} {g : Ghosts V} → ServiceMachine V → World V g → (System V → WorldState → Type 0) → Type 0
FromReached {V} m w P = (y : System V) (x : WorldState) → IsSystem m y → IsReached y x → RepresentsWorld y w x → P y x

-- Unless memory runs out, the world behind it is this one, and the answer is its last.
abbrev pub Happens : {V E : Type 0} {g : Ghosts V} → System V → WorldState → WorldState → Result Seen E → World V g → Type 0
Happens y x after result w = IfOk result (λ a. Leaves y w (as_answer a) x after)

-- A correct host's step is told, whose history is already the longer one: its messages, its tags and its slots are entered.
abbrev pub Enters : {V E : Type 0} {g : Ghosts V} → World V g → ℕ → StepRecord → Result Seen E → World V g → Type 0
Enters {V} old host told result new = (y : System V) (x : WorldState) (a : Answer) → RepresentsMembers y old.members.items (update x.histories host a.left.history) x.faulty_stamps
    → RepresentsRest y.schedule old x → IsTold told a → FitsWhereStamped y.schedule.shape a.left.sent → is_faulty y.schedule host ≡ false
    → bares_of a.left.history ≡ reverse (filter_map bare_in a.left.sent) ++ bares_of (x.histories host) → SentIsClean y x host a
    → IfOk result (λ r. Leaves y new (as_answer r) x (stepped y.schedule host a x))

-- A new world is one of each system with these hosts and clients, each made with this service: nothing has happened there.
abbrev pub MakesWorld : {V E : Type 0} {g : Ghosts V} → ServiceMachine V → Shape → Bytes → List Bool → List Bool → List V → Result (World V g) E → Type 0
MakesWorld m shape secret faulty_hosts faulty_clients services result = ForSystem m shape secret (λ y. y.schedule.faulty_hosts ≡ faulty_hosts → y.schedule.faulty_clients ≡ faulty_clients
    → AreServices y.initial services → IfOk result (λ w. RepresentsWorld y w nothing_happened))
