-- All that is due at a host, put together: what it has done, what it takes and finds, what it sends, and what it executes in the step in which it is given.
use Rattle.std.specs.Prelude.{ℕ}
use Rattle.mb_model.specs.Histories.{History, Identity}
use Rattle.mb_world_model.specs.World.{System, self_of}
use Rattle.mb_world_model.specs.WorldSteps.{world}
use Rattle.mb_promise.specs.TakesValid.{TakesWhatIsValid}
use Rattle.mb_promise.specs.KeepsTables.{KeepsTables}
use Rattle.mb_promise.specs.NothingLeft.{OrdersRequests, OrdersAllThatFit, CommitsNext, ExecutesAtQuorum, StampsCheckpoints, LeavesView, AnnouncesView, EntersView, OpensByEvidence, OpensByEnters, JoinsBehind, JoinsPast, InstallsState, TakesWhatPasses, KeepsSlots, CountsPrepares, CountsCommits, CountsOpens, ExecutesWithCommit, ExecutesWithPrepare, ExecutesWithBoth, ExecutesWithOpen}
use Rattle.mb_promise.specs.OwnStamps.{CountsOwn}
use Rattle.mb_promise.specs.WhatCame.{FindsWhatCame}
use Rattle.mb_promise.specs.FindsTables.{FindsTables}
use Rattle.mb_promise.specs.ReplacesTables.{ReplacesTables}
use Rattle.mb_promise.specs.GatesStand.{GatesStand}
use Rattle.mb_promise.specs.LeavesWithCause.{LeavesWithCause}
use Rattle.mb_promise.specs.CutsLog.{CutsLog}
use Rattle.mb_promise.specs.TakesLogs.{TakesLogs}
use Rattle.mb_promise.specs.Sends.{SendsAll}
use Rattle.mb_promise.specs.Answers.{AnswersAll}
use Rattle.mb_promise.specs.Writes.{Writes}
use Rattle.mb_promise.specs.AddsGiven.{AddsGiven}
use Rattle.mb_promise.specs.JoinsWithCause.{JoinsWithCause}
use Rattle.mb_promise.specs.LeavesAlone.{LeavesAlone}
use Rattle.mb_promise.specs.TellsAndAsks.{TellsAndAsks}
use Rattle.mb_promise.specs.Says.{SaysWhatItHolds}
use Rattle.mb_promise.specs.OwnChanges.{ShowsInChanges}
use Rattle.mb_promise.specs.TellsFloors.{TellsFloors}

module _ {S : Type 0} (self : Identity S) (d : History) where
  pub record LeavesNothing : Type 0 where
    pub orders : OrdersRequests self d
    pub fills : OrdersAllThatFit self d
    pub commits : CommitsNext self d
    pub executes : ExecutesAtQuorum self d
    pub checkpoints : StampsCheckpoints self d
    pub cuts : CutsLog self d
    pub leaves : LeavesView self d
    pub leaves_with_cause : LeavesWithCause self d
    pub announces : AnnouncesView self d
    pub enters : EntersView self d
    pub opens : OpensByEvidence self d
    pub opens_by_enters : OpensByEnters self d
    pub joins_behind : JoinsBehind self d
    pub joins_past : JoinsPast self d
    pub installs : InstallsState self d
    pub takes : TakesWhatPasses self d
    pub takes_valid : TakesWhatIsValid self d
    pub takes_logs : TakesLogs self d
    pub keeps_slots : KeepsSlots self d
    pub counts_prepares : CountsPrepares self d
    pub counts_commits : CountsCommits self d
    pub counts_opens : CountsOpens self d
    pub keeps : KeepsTables self d
    pub sends : SendsAll self d
    pub answers : AnswersAll self d
    pub executes_with_commit : ExecutesWithCommit self d
    pub executes_with_prepare : ExecutesWithPrepare self d
    pub executes_with_both : ExecutesWithBoth self d
    pub executes_with_open : ExecutesWithOpen self d
    pub counts_own : CountsOwn self d
    pub finds : FindsWhatCame self d
    pub finds_tables : FindsTables self d
    pub replaces : ReplacesTables self d
    pub gates : GatesStand d
    pub writes : Writes self d
    pub adds : AddsGiven self d
    pub joins_with_cause : JoinsWithCause self d
    pub alone : LeavesAlone self d
    pub tells : TellsAndAsks self d
    pub shows_in_changes : ShowsInChanges self d
    pub says : SaysWhatItHolds self
    pub tells_floors : TellsFloors self d

-- After any events, whoever is faulty and whatever is forged, no host has left anything undone.
abbrev pub HostsLeaveNothing : Type 0 → Type 0
HostsLeaveNothing S = (system : System S) → (k h : ℕ) → LeavesNothing (self_of system h) ((world system k).histories h)
