-- All promises hold of each world that nothing stopped, while no two of its hashed strings share a digest.
use Rattle.mb_world_model.specs.World.{self_of}
use Rattle.mb_world_model.specs.WorldSteps.{world}
use Rattle.mb_promise.specs.AllDue.{HostsLeaveNothing}
use Rattle.mb_promise.specs.CarriedOut.{HasCarriedOut}
use Rattle.mb_promise.specs.Headline.{HostsStayOne}
use Rattle.mb_each_host.proofs.CarriedOut.{hosts_carry_out}
use Rattle.mb_views.proofs.InWorlds.{worlds_agree}
use Rattle.mb_one_log.specs.Worlds.{HasOneList}
use Rattle.mb_one_log.proofs.InWorlds.{worlds_have_one_list}
use Rattle.mb_justified.specs.Worlds.{HoldsOfTheCorrect}
use Rattle.mb_justified.proofs.InWorlds.{worlds_are_justified}
use Rattle.mb_obligations.proofs.Taken.{hosts_take_what_passes}
use Rattle.mb_obligations.proofs.TakesValid.{hosts_take_what_is_valid}
use Rattle.mb_obligations.proofs.OrdersAll.{orders_all_that_fit}
use Rattle.mb_obligations.proofs.OpensCount.{counts_opens_of}
use Rattle.mb_obligations.proofs.Completing.{hosts_execute_with_commit, hosts_execute_with_prepare, hosts_execute_with_both}
use Rattle.mb_obligations.proofs.CompletingOpens.{hosts_execute_with_open}
use Rattle.mb_provenance.proofs.KeptTables.{keeps_tables}
use Rattle.mb_obligations.proofs.OwnCounts.{hosts_count_own}
use Rattle.mb_provenance.proofs.WhatCame.{hosts_find_what_came}
use Rattle.mb_provenance.proofs.TablesCame.{hosts_find_tables}
use Rattle.mb_provenance.proofs.TablesReplaced.{hosts_replace_tables}
use Rattle.mb_obligations.proofs.KeptGates.{hosts_gates_stand}
use Rattle.mb_obligations.proofs.LeavesWithCause.{hosts_leave_with_cause}
use Rattle.mb_obligations.proofs.CutsLog.{hosts_cut_logs}
use Rattle.mb_obligations.proofs.TakesLogs.{hosts_take_logs}
use Rattle.mb_obligations.proofs.Sends.{hosts_send_all}
use Rattle.mb_obligations.proofs.Answers.{hosts_answer}
use Rattle.mb_obligations.proofs.Written.{hosts_write}
use Rattle.mb_obligations.proofs.Added.{hosts_add_given}
use Rattle.mb_obligations.proofs.JoinsWithCause.{hosts_join_with_cause}
use Rattle.mb_obligations.proofs.LeftAlone.{hosts_leave_alone}
use Rattle.mb_obligations.proofs.TellsAndAsks.{hosts_tell_and_ask}
use Rattle.mb_obligations.proofs.OwnChanges.{hosts_show_in_changes}
use Rattle.mb_obligations.proofs.Says.{says_what_it_holds}
use Rattle.mb_obligations.proofs.TellsFloors.{hosts_tell_floors}
use Rattle.mb_theorem.specs.Worlds.{EventsAreSteps, VotesExecuteAtOnce, NoEventIsBlame}
use Rattle.mb_theorem.proofs.EventsStep.{events_step}
use Rattle.mb_theorem.proofs.ExecutesAtOnce.{executes_at_once}
use Rattle.mb_theorem.proofs.NobodyBlamed.{no_event_blames}

-- Nothing that is due is left undone, whoever is faulty and whatever is forged.
pub nothing_left : (S : Type 0) → HostsLeaveNothing S
nothing_left S system k h =
    let c : HasCarriedOut (self_of system h) ((world system k).histories h) = hosts_carry_out S system k h in
    record {
      orders = c.orders;
      fills = orders_all_that_fit system k h;
      commits = c.commits;
      executes = c.executes;
      checkpoints = c.checkpoints;
      cuts = hosts_cut_logs system k h;
      leaves = c.leaves;
      leaves_with_cause = hosts_leave_with_cause system k h;
      announces = c.announces;
      enters = c.enters;
      opens = c.opens;
      opens_by_enters = c.opens_by_enters;
      joins_behind = c.joins_behind;
      joins_past = c.joins_past;
      installs = c.installs;
      takes = hosts_take_what_passes system k h;
      takes_valid = hosts_take_what_is_valid system k h;
      takes_logs = hosts_take_logs system k h;
      keeps_slots = c.keeps_slots;
      counts_prepares = c.counts_prepares;
      counts_commits = c.counts_commits;
      counts_opens = counts_opens_of system k h;
      keeps = keeps_tables (self_of system h) ((world system k).histories h);
      sends = hosts_send_all system k h;
      answers = hosts_answer system k h;
      executes_with_commit = hosts_execute_with_commit system k h;
      executes_with_prepare = hosts_execute_with_prepare system k h;
      executes_with_both = hosts_execute_with_both system k h;
      executes_with_open = hosts_execute_with_open system k h;
      counts_own = hosts_count_own system k h;
      finds = hosts_find_what_came system k h;
      finds_tables = hosts_find_tables system k h;
      replaces = hosts_replace_tables system k h;
      gates = hosts_gates_stand system k h;
      writes = hosts_write system k h;
      adds = hosts_add_given system k h;
      joins_with_cause = hosts_join_with_cause system k h;
      alone = hosts_leave_alone system k h;
      tells = hosts_tell_and_ask system k h;
      shows_in_changes = hosts_show_in_changes system k h;
      says = says_what_it_holds (self_of system h);
      tells_floors = hosts_tell_floors system k h;
    }

-- ---- each event

pub all_are_steps : (S : Type 0) → EventsAreSteps S
all_are_steps S system k = events_step system (world system k)

pub all_execute_at_once : (S : Type 0) → VotesExecuteAtOnce S
all_execute_at_once S system k = executes_at_once system (world system k) (nothing_left S system k)

pub none_is_blame : (S : Type 0) → NoEventIsBlame S
none_is_blame S system fits k le none apart =
    let held : HoldsOfTheCorrect system (world system k) = worlds_are_justified S system fits k le none apart in
    no_event_blames system (world system k) held.blameless

-- ---- all of it

pub all_stay_one : (S : Type 0) → HostsStayOne S
all_stay_one S system service fits k le none apart =
    let line : HasOneList system (world system k) = worlds_have_one_list S system service fits k le none apart in
    let held : HoldsOfTheCorrect system (world system k) = worlds_are_justified S system fits k le none apart in
    record {
      agrees = worlds_agree S system fits k le none apart;
      safe = line.safe;
      results = line.results;
      justified = held.justified;
      done = λ h correct. nothing_left S system k h;
      bounded = held.bounded;
      blameless = held.blameless;
      unblamed = none_is_blame S system fits k le none apart;
      steps = all_are_steps S system k;
      executes_at_once = all_execute_at_once S system k;
    }
