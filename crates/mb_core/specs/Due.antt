-- What a host has to do next: a rule of its history, of which the code names the kind and the position. What it is done with is lent again.
use Rattle.std.specs.Prelude.{◌≡◌, Option, Some, None}
use Rattle.std.specs.Option.{option_or}
use Rattle.mb_service.specs.Machine.{ServiceMachine}
use Rattle.mb_model.specs.Histories.{History, Identity}
use Rattle.mb_model.specs.Sending.{Progress}
use Rattle.mb_model.specs.EnabledRules.{Rule, ChangeView, Announce, Enter, Open, Join, Commit, Execute, Prepare, change_enabled, announce_enabled, enter_enabled, open_enabled, join_enabled, commit_enabled, execute_enabled, prepare_enabled, next_rule}
use Rattle.mb_replica.specs.declared.state.ReplicaState.{ReplicaState}
use Rattle.mb_replica.specs.declared.sending.StepOutput.{StepOutput}
use Rattle.mb_core.specs.declared.rules.Due.{Due}
use Rattle.mb_core.specs.declared.rules.Due.TheVariants as due
use Rattle.mb_replica.specs.Represents.{Serves, StandsAt}

-- The code names this rule.
abbrev pub IsNamed : Due → Rule → Type 0
IsNamed (due.ChangeView view) (ChangeView target) = view ≡ target
IsNamed due.Announce (Announce changes) = Unit {0}
IsNamed due.Enter (Enter n) = Unit {0}
IsNamed due.Open (Open e plan) = Unit {0}
IsNamed due.Join Join = Unit {0}
IsNamed (due.Commit pos) (Commit p k b) = pos ≡ p
IsNamed (due.Execute pos) (Execute p b) = pos ≡ p
IsNamed due.Prepare (Prepare p b) = Unit {0}
IsNamed x rule = ⊥

-- The code finds a rule exactly where there is one, and names it.
abbrev pub Names : Option Due → Option Rule → Type 0
Names None rule = rule ≡ None
Names (Some x) None = ⊥
Names (Some x) (Some rule) = IsNamed x rule

module _ {S : Type 0} (self : Identity S) where
  -- the first that is enabled of those of view changes, and of those of the normal case

  abbrev pub change_rule : History → Option Rule
  change_rule d = option_or (change_enabled self d) (option_or (announce_enabled self d) (option_or (enter_enabled self d) (option_or (open_enabled self d) (join_enabled self d))))

  abbrev pub normal_rule : History → Option Rule
  normal_rule d = option_or (commit_enabled self d) (option_or (execute_enabled self d) (prepare_enabled self d))

-- There is a step that the replica is in, of a host with this service, in which the rule of this name is next.
pub record IsDue {V : Type 0} (machine : ServiceMachine V) (r : ReplicaState V) (done : StepOutput) (due : Due) : Type 0 where
  pub me : Identity V
  pub left : Progress
  pub rule : Rule
  pub serves : Serves machine me
  pub stands : StandsAt me r done left
  pub named : IsNamed due rule
  pub next : next_rule me left.history ≡ Some rule
