-- What is proved of hosts after each event: no rule is left to be carried out, and what follows from that.
use Rattle.std.specs.Prelude.{◌≡◌, ℕ, None}
use Rattle.mb_model.specs.Histories.{History, Identity}
use Rattle.mb_model.specs.EnabledRules.{change_enabled, announce_enabled, enter_enabled, open_enabled, join_enabled, commit_enabled, execute_enabled, prepare_enabled}
use Rattle.mb_world_model.specs.World.{System, self_of}
use Rattle.mb_world_model.specs.WorldSteps.{world}
use Rattle.mb_promise.specs.NothingLeft.{OrdersRequests, CommitsNext, ExecutesAtQuorum, StampsCheckpoints, LeavesView, AnnouncesView, EntersView, OpensByEvidence, OpensByEnters, JoinsBehind, JoinsPast, InstallsState, KeepsSlots, CountsPrepares, CountsCommits}

module _ {S : Type 0} (self : Identity S) (d : History) where
  -- None of the eight rules is left to be carried out.
  pub record LeavesNoRule : Type 0 where
    pub change : change_enabled self d ≡ None
    pub announce : announce_enabled self d ≡ None
    pub enter : enter_enabled self d ≡ None
    pub opening : open_enabled self d ≡ None
    pub join : join_enabled self d ≡ None
    pub commit : commit_enabled self d ≡ None
    pub execute : execute_enabled self d ≡ None
    pub prepare : prepare_enabled self d ≡ None

  -- and what of that is said in words of what a host holds
  pub record HasCarriedOut : Type 0 where
    pub rules : LeavesNoRule
    pub orders : OrdersRequests self d
    pub commits : CommitsNext self d
    pub executes : ExecutesAtQuorum self d
    pub checkpoints : StampsCheckpoints self d
    pub leaves : LeavesView self d
    pub announces : AnnouncesView self d
    pub enters : EntersView self d
    pub opens : OpensByEvidence self d
    pub opens_by_enters : OpensByEnters self d
    pub joins_behind : JoinsBehind self d
    pub joins_past : JoinsPast self d
    pub installs : InstallsState self d
    pub keeps_slots : KeepsSlots self d
    pub counts_prepares : CountsPrepares self d
    pub counts_commits : CountsCommits self d

-- After any events, whoever is faulty and whatever is forged, each host has carried out its rules.
abbrev pub HostsCarryOut : Type 0 → Type 0
HostsCarryOut S = (system : System S) (k h : ℕ) → HasCarriedOut (self_of system h) ((world system k).histories h)
