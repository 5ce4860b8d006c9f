-- One host of a list steps, or stamps.
use Rattle.std.proofs.Common.{◌≡◌, ℕ, ◌+◌, ◌<◌, ◌≤◌, true, false, List, [], ◌∷◌, ◌++◌, length, set, Some, sym, arith}
use Rattle.std.specs.List.{slice_get}
use Rattle.mb_base.specs.Shapes.{IsShape, host_count}
use Rattle.mb_base.specs.declared.shape.Shape.{Shape}
use Rattle.mb_service.specs.Machine.{ServiceMachine}
use Rattle.mb_msg.specs.declared.event.Event.{Event}
use Rattle.mb_replica.specs.declared.told.StepRecord.{StepRecord}
use Rattle.mb_model.specs.Histories.{History, Identity}
use Rattle.mb_model.specs.HostStep.{transition}
use Rattle.mb_steps.specs.Arises.{IsWhole}
use Rattle.mb_history_laws.specs.Sound.{IsSound}
use Rattle.mb_schedule.specs.Limits.{is_faulty}
use Rattle.mb_core.specs.declared.replica.Replica.{Replica}
use Rattle.mb_core.specs.Represents.{Represents, IsHost}
use Rattle.mb_replica.specs.Represents.{IsTold, Serves}
use Rattle.mb_world_model.specs.World.{System, FaultyStamp, self_of, update}
use Rattle.mb_members.specs.declared.members.FaultyHost.{FaultyHost}
use Rattle.mb_members.specs.declared.members.Member.{Member}
use Rattle.mb_members.specs.declared.members.Member.TheVariants as member
use Rattle.mb_members.specs.Hosts.{IsSystem}
use Rattle.mb_members.specs.Members.{has_halted, stamped_by, shape_of, AllRun, StampedWithin, AreOf, IsCorrectHost, IsMember, RepresentsMembers, answer_at, Goes, StepsAt}
use Rattle.mb_members.proofs.StampedLaws.{sent_is_readable}
use Rattle.mb_members.proofs.ListLaws.{each_set, each_push, update_here, update_there}

module _ {V : Type 0} (y : System V) where
  -- one host has a new history
  pub history_written : (members : List (Member V)) (d : ℕ → History) (l : ℕ → List FaultyStamp) (i : ℕ) (m : Member V) (x : History)
      → RepresentsMembers y members d l → IsMember y i m x (l i) → RepresentsMembers y (set members i m) (update d i x) l
  history_written members d l i m x old new =
      each_set (λ h z. IsMember y h z (d h) (l h)) (λ h z. IsMember y h z (update d i x h) (l h)) members i m old (rw (update_here d i x) new)
      (λ h z other is. rw (update_there d i h x other) is)

  -- one host stamped once more
  pub stamp_written : (members : List (Member V)) (d : ℕ → History) (l : ℕ → List FaultyStamp) (i : ℕ) (m : Member V) (x : List FaultyStamp)
      → RepresentsMembers y members d l → IsMember y i m (d i) x → RepresentsMembers y (set members i m) d (update l i x)
  stamp_written members d l i m x old new =
      each_set (λ h z. IsMember y h z (d h) (l h)) (λ h z. IsMember y h z (d h) (update l i x h)) members i m old (rw (update_here l i x) new)
      (λ h z other is. rw (update_there l i h x other) is)

  -- one more host, to which nothing happened
  pub member_made : (members : List (Member V)) (m : Member V) → RepresentsMembers y members (λ h. []) (λ h. []) → IsMember y (length members) m [] []
      → RepresentsMembers y (members ++ m ∷ []) (λ h. []) (λ h. [])
  member_made members m old new = each_push (λ h z. IsMember y h z [] []) members m old new

module _ {V : Type 0} where
  -- ---- invariants

  pub runs_set : (members : List (Member V)) (i : ℕ) (m : Member V) → AllRun members → has_halted m ≡ false → AllRun (set members i m)
  runs_set members i m old new = each_set (λ h y. has_halted y ≡ false) (λ h y. has_halted y ≡ false) members i m old new (λ h y other is. is)

  pub runs_push : (members : List (Member V)) (m : Member V) → AllRun members → has_halted m ≡ false → AllRun (members ++ m ∷ [])
  runs_push members m old new = each_push (λ h y. has_halted y ≡ false) members m old new

  pub of_set : (s : Shape) (members : List (Member V)) (i : ℕ) (m : Member V) → AreOf s members → shape_of s m ≡ s → AreOf s (set members i m)
  of_set s members i m old new = each_set (λ h y. shape_of s y ≡ s) (λ h y. shape_of s y ≡ s) members i m old new (λ h y other is. is)

  pub of_push : (s : Shape) (members : List (Member V)) (m : Member V) → AreOf s members → shape_of s m ≡ s → AreOf s (members ++ m ∷ [])
  of_push s members m old new = each_push (λ h y. shape_of s y ≡ s) members m old new

  pub within_more : (n : ℕ) (members : List (Member V)) → StampedWithin n members → StampedWithin (n + 1) members
  within_more n members all = λ h m e. let one = all h m e in omega arith

  pub within_set : (n : ℕ) (members : List (Member V)) (i : ℕ) (m : Member V) → StampedWithin n members → stamped_by m ≤ n → StampedWithin n (set members i m)
  within_set n members i m old new = each_set (λ h y. stamped_by y ≤ n) (λ h y. stamped_by y ≤ n) members i m old new (λ h y other is. is)

  pub within_push : (n : ℕ) (members : List (Member V)) (m : Member V) → StampedWithin n members → stamped_by m ≤ n → StampedWithin n (members ++ m ∷ [])
  within_push n members m old new = each_push (λ h y. stamped_by y ≤ n) members m old new

-- ---- a step

-- its limits
shape_is : (s : Shape) → IsShape s
shape_is s = record { faults = s.faults_in; intervals = s.interval_in; clients = s.clients_in }

-- A host that was made with a schedule's shape and secret stands for the history in which nothing happened.
pub made_as : {V : Type 0} (machine : ServiceMachine V) (y : System V) (h : ℕ) (r : Replica V)
    → IsSystem machine y → (r.state.protocol.shape ≡ y.schedule.shape) × (r.state.protocol.host ≡ h) × (r.state.protocol.usig.secret ≡ y.schedule.secret)
    → (IsHost (self_of y h) r → Represents (self_of y h) r []) → Represents (self_of y h) r []
made_as machine y h r is host made = made (record { shape = sym host.0; host = sym host.1; secret = sym host.2 })

-- the service of each host
pub serves_as : {V : Type 0} (machine : ServiceMachine V) (y : System V) (h : ℕ)
    → IsSystem machine y → Serves machine (self_of y h)
serves_as machine y h is = record { machine = is.machine; snapshots = is.snapshots; first = is.first }

-- A step that is that of the history leads to a correct host between two events again.
pub goes_on : {V : Type 0} (machine : ServiceMachine V) (y : System V) (h : ℕ) (old new : Replica V) (d : History) (e : Event) (step : StepRecord)
    → IsSystem machine y → h < host_count y.schedule.shape → IsCorrectHost y h old d
    → ((me : Identity V) (b : History) → Serves machine me → Represents me old b → IsWhole b → IsTold step (transition me b e) × (Represents me new (transition me b e).left.history × IsWhole (transition me b e).left.history))
    → Goes y h d e step new
goes_on machine y h old new d e step is there host stands =
    let self : Identity _ = self_of y h in
    let told = stands self d (serves_as machine y h is) host.represents host.whole in
    let sound : IsSound self d = host.represents.tables.sound in
    record {
      step = told.0;
      fit = sent_is_readable self d e (shape_is y.schedule.shape) there sound host.whole host.represents.fit;
      stands = record { correct = host.correct; represents = told.1.0; whole = told.1.1 };
    }

module _ {V : Type 0} (y : System V) where
  -- A correct host takes an event.
  pub correct_steps : (members : List (Member V)) (d : ℕ → History) (l : ℕ → List FaultyStamp) (i : ℕ) (old new : Replica V) (e : Event) (step : StepRecord)
      → RepresentsMembers y members d l → slice_get members i ≡ Some (member.Correct old) → (IsCorrectHost y i old (d i) → Goes y i (d i) e step new)
      → StepsAt y i e d l (Some step) (set members i (member.Correct new))
  correct_steps members d l i old new e step all at stands =
      let is : IsCorrectHost y i old (d i) = all i (member.Correct old) at in
      let goes : Goes y i (d i) e step new = stands is in
      record { correct = is.correct; step = goes.step; fit = goes.fit; members = history_written y members d l i (member.Correct new) (answer_at y i e d).left.history all goes.stands }

  -- At a faulty host nothing is made of it.
  pub faulty_stays : (members : List (Member V)) (d : ℕ → History) (l : ℕ → List FaultyStamp) (i : ℕ) (f : FaultyHost)
      → RepresentsMembers y members d l → slice_get members i ≡ Some (member.Faulty f) → is_faulty y.schedule i ≡ true
  faulty_stays members d l i f all at = (all i (member.Faulty f) at).0
