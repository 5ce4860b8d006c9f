use Rattle.std.proofs.Common.{Some, ◌∙◌}
use Rattle.std.proofs.lemmas.Option.{IfSome_then}
use Rattle.mb_sched.proofs.EventLimits.{schedule_fits}
use Rattle.mb_top.proofs.Answered.{reports, reported_is_unstopped, tells_forged}
use Rattle.mb_top.proofs.Promised.{hold_at_each_event, hold_throughout, hold_before_forged}
use Rattle.mb_top.proofs.SoakLaws.{all_hold}
use Rattle.mb_top.specs.declared.command.Command.TheVariants.{KeptNode}
use Rattle.mb_top.proofs.Blamed.{audits_convict, audit_tells}
use Rattle.mb_top.proofs.Learnt.{learns_the_line}
use Rattle.mb_top.proofs.Rerun.{kept_nodes_run}
use Rattle.mb_top.proofs.Doing.{replays, replay_ends, soaks_few, audits, learns, at_disk_as}
use Rattle.mb_top.proofs.Ending.{comes_to_an_end}
use Rattle.mb_top.proofs.top.minbft.Goals as goal

pub run-requires : goal.run-requires
run-requires g c = c.command_in.ensures.within

pub returns-clause-does : goal.returns-clause-does
returns-clause-does g c = rw (← c.command_in.ensures.command) c.run.ensures.does

pub returns-clause-at_disk : goal.returns-clause-at_disk
returns-clause-at_disk g c = rw (← c.command_in.ensures.command) c.run.ensures.at_disk

pub returns-clause-statuses : goal.returns-clause-statuses
returns-clause-statuses g c = rw (← c.command_in.ensures.command) c.run.ensures.statuses

pub returns-clause-ends : goal.returns-clause-ends
returns-clause-ends g c = rw (← c.command_in.ensures.command) (comes_to_an_end _ _ _ _ c.run.ensures.does)

pub returns-clause-limit : goal.returns-clause-limit
returns-clause-limit g c = rw (← c.command_in.ensures.command) c.run.ensures.limit

-- ---- what follows of a schedule

pub returns-clause-report : goal.returns-clause-report
returns-clause-report g c = λ asked zero.
    let is = c.command_in.ensures.command ∙ asked in
    (replay_ends _ _ _ _ c.run.ensures.does is zero, IfSome_then (g.S.Source.seen c.args.source.now).bytes (replays _ _ _ _ c.run.ensures.does is) (λ text r. reports text _ _ _ _ _ r zero))

pub returns-clause-history : goal.returns-clause-history
returns-clause-history g c = λ asked zero text s left is.
    let told = rw left at (replays _ _ _ _ c.run.ensures.does (c.command_in.ensures.command ∙ asked)) in
    hold_throughout s (schedule_fits text s is) (reported_is_unstopped text s _ _ is (reports text _ _ _ _ _ told zero))

pub returns-clause-history_so_far : goal.returns-clause-history_so_far
returns-clause-history_so_far g c = λ asked text s left is k le none apart. hold_at_each_event s (schedule_fits text s is) k le none apart

pub returns-clause-forged : goal.returns-clause-forged
returns-clause-forged g c = λ asked three.
    IfSome_then (g.S.Source.seen c.args.source.now).bytes (replays _ _ _ _ c.run.ensures.does (c.command_in.ensures.command ∙ asked)) (λ text r. tells_forged text _ _ _ _ _ r three)

pub returns-clause-history_before : goal.returns-clause-history_before
returns-clause-history_before g c = λ asked three text s e left is first. hold_before_forged s (schedule_fits text s is) e first

pub returns-clause-soak_history : goal.returns-clause-soak_history
returns-clause-soak_history g c = λ seed n asked zero. all_hold seed n (soaks_few _ _ _ _ c.run.ensures.does seed n (c.command_in.ensures.command ∙ asked))

-- ---- what follows of a journal and of a record

pub returns-clause-kept_node_runs : goal.returns-clause-kept_node_runs
returns-clause-kept_node_runs g c = λ host n asked.
    IfSome_then (g.S.Source.seen c.args.source.now).bytes (at_disk_as _ (Some (KeptNode host n)) _ _ _ _ _ _ _ _ _ (c.command_in.ensures.command ∙ asked) c.run.ensures.at_disk)
    (λ text does. kept_nodes_run text host n _ _ _ _ _ _ _ _ _ does.0)

pub returns-clause-audit_blame : goal.returns-clause-audit_blame
returns-clause-audit_blame g c = λ host asked text r left is.
    let told = rw left at (audits _ _ _ _ c.run.ensures.does host (c.command_in.ensures.command ∙ asked)) in
    audits_convict host text r _ _ _ _ _ is told

pub returns-clause-audit_disorder : goal.returns-clause-audit_disorder
returns-clause-audit_disorder g c = λ host asked twelve text r left is.
    let told = rw left at (audits _ _ _ _ c.run.ensures.does host (c.command_in.ensures.command ∙ asked)) in
    audit_tells host text r _ twelve is _ _ _ _ told

pub returns-clause-learn_history : goal.returns-clause-learn_history
returns-clause-learn_history g c = λ asked text r left is.
    let told = rw left at (learns _ _ _ _ c.run.ensures.does (c.command_in.ensures.command ∙ asked)) in
    learns_the_line text r _ _ _ _ _ is told
