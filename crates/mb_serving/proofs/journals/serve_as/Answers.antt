use Rattle.std.proofs.Common.{◌<◌, refl, sym, subst, inl, inr, arith, rules}
use Rattle.std.specs.Prelude.{Contains, IsErrOf}
use Rattle.std.proofs.lemmas.Result.{IfOk-weaker}
use Rattle.mb_base.specs.Shapes.{host_count}
use Rattle.mb_edge.proofs.FaultLemmas.{tells_both, tells_none, tells_as}
use Rattle.mb_journal.specs.declared.opening.OpenStop.TheVariants as opening
use Rattle.mb_answer.specs.Texts.{bad_journal_text}
use Rattle.mb_answer.proofs.Statuses.{low_no_disk, low_no_link, said_is, responded_is}
use Rattle.mb_serving.specs.Journals.{kept_node_statuses}
use Rattle.mb_serving.proofs.NodeLaws.{link_served, sink_served}
use Rattle.mb_serving.proofs.JournalLaws.{told_answer, opened_as, bad_as, unread_as, kept_known, kept_unread, disk_served, bad_told}
use Rattle.mb_serving.proofs.journals.serve_as.Goals as goal

pub respond-requires : goal.respond-requires
respond-requires g c = IfOk-weaker c.bad_journal.result _ _ (λ a h. bad_told a.status h.0) c.bad_journal.ensures

-- ---- what is done

pub returns-in-Ok-clause-serves : goal.returns-in-Ok-clause-serves
returns-in-Ok-clause-serves g c =
    let below : c.args.host < host_count c.args.config.now.shape = omega (arith, c.if-host-from.false, c.from.ensures, c.n.ensures) in
    opened_as c.args.config.now _ c.args.host c.args.events _ c.served_status.result c.in-Ok.opened.events.items c.in-Ok.opened.journal _ _ _ _ _ _ _ (omega arith) c.served_status.ensures below c.in-Ok.ensures.opened c.run_kept.ensures.serves

pub returns-in-Err-BadJournal-clause-serves : goal.returns-in-Err-BadJournal-clause-serves
returns-in-Err-BadJournal-clause-serves g c =
    let below : c.args.host < host_count c.args.config.now.shape = omega (arith, c.if-host-from.false, c.from.ensures, c.n.ensures) in
    let broken = rw c.in-Err-BadJournal.field-0-is at c.in-Err-BadJournal.ensures.opened in
    bad_as c.args.config.now _ c.args.host c.args.events c.respond.result c.in-Err-BadJournal.at _ _ _ _ _ (omega arith) below
    (told_answer c.bad_journal.result 17 (bad_journal_text c.in-Err-BadJournal.at) c.respond.result _ _ c.bad_journal.ensures c.respond.ensures.says c.respond.ensures.lacks) broken

pub returns-in-Err-DiskFault-clause-serves : goal.returns-in-Err-DiskFault-clause-serves
returns-in-Err-DiskFault-clause-serves g c =
    let below : c.args.host < host_count c.args.config.now.shape = omega (arith, c.if-host-from.false, c.from.ensures, c.n.ensures) in
    let failed : IsErrOf c.open_in.result opening.DiskFault = search rules in
    unread_as c.args.config.now _ c.args.host c.args.events _ _ _ _ _ (omega arith) below (inl (refl, c.open_in.ensures.disk.rose failed)) (rw failed at c.open_in.ensures.opened)

pub returns-in-Err-NoMemory-clause-serves : goal.returns-in-Err-NoMemory-clause-serves
returns-in-Err-NoMemory-clause-serves g c =
    let below : c.args.host < host_count c.args.config.now.shape = omega (arith, c.if-host-from.false, c.from.ensures, c.n.ensures) in
    let starved : IsErrOf c.open_in.result opening.NoMemory = search rules in
    unread_as c.args.config.now _ c.args.host c.args.events _ _ _ _ _ (omega arith) below (inr refl) (rw starved at c.open_in.ensures.opened)

-- ---- statuses

pub returns-then-host-from-clause-statuses : goal.returns-then-host-from-clause-statuses
returns-then-host-from-clause-statuses g c = said_is (Contains kept_node_statuses) (3, omega arith, refl) (5, omega arith, refl) _ _ _ _ _ (1, omega arith, refl) c.say.ensures.says

pub returns-in-Ok-clause-statuses : goal.returns-in-Ok-clause-statuses
returns-in-Ok-clause-statuses g c = kept_known c.run_kept.result _ c.served_status.ensures

pub returns-in-Ok-clause-unread : goal.returns-in-Ok-clause-unread
returns-in-Ok-clause-unread g c = kept_unread c.run_kept.result _ c.served_status.ensures

pub returns-in-Err-BadJournal-clause-statuses : goal.returns-in-Err-BadJournal-clause-statuses
returns-in-Err-BadJournal-clause-statuses g c =
    responded_is (Contains kept_node_statuses) (3, omega arith, refl) (5, omega arith, refl) c.bad_journal.result _ _ _
    (IfOk-weaker c.bad_journal.result _ _ (λ a h. subst (Contains kept_node_statuses) (sym h.0) (10, omega arith, refl)) c.bad_journal.ensures) c.respond.ensures.says c.respond.ensures.lacks

pub returns-in-Err-DiskFault-clause-statuses : goal.returns-in-Err-DiskFault-clause-statuses
returns-in-Err-DiskFault-clause-statuses g c = (8, omega arith, refl)

pub returns-in-Err-NoMemory-clause-statuses : goal.returns-in-Err-NoMemory-clause-statuses
returns-in-Err-NoMemory-clause-statuses g c = (3, omega arith, refl)

-- ---- faults

pub returns-in-Ok-clause-sink : goal.returns-in-Ok-clause-sink
returns-in-Ok-clause-sink g c = tells_as _ _ c.run_kept.ensures.sink (λ six. sink_served c.run_kept.result _ c.served_status.ensures six)

pub returns-in-Ok-clause-link : goal.returns-in-Ok-clause-link
returns-in-Ok-clause-link g c = tells_as _ _ c.run_kept.ensures.link (λ seven. link_served c.run_kept.result _ c.served_status.ensures seven)

pub returns-in-Ok-clause-disk : goal.returns-in-Ok-clause-disk
returns-in-Ok-clause-disk g c = tells_both _ _ _ c.open_in.ensures.disk c.run_kept.ensures.disk (λ told. inr (disk_served c.run_kept.result _ c.served_status.ensures told))

pub returns-in-Err-DiskFault-clause-sink : goal.returns-in-Err-DiskFault-clause-sink
returns-in-Err-DiskFault-clause-sink g c = tells_none _ (λ six. absurd (omega (arith, six)))

pub returns-in-Err-DiskFault-clause-link : goal.returns-in-Err-DiskFault-clause-link
returns-in-Err-DiskFault-clause-link g c = tells_none _ (λ seven. absurd (omega (arith, seven)))

pub returns-in-Err-NoMemory-clause-sink : goal.returns-in-Err-NoMemory-clause-sink
returns-in-Err-NoMemory-clause-sink g c = tells_none _ (λ six. absurd (omega (arith, six)))

pub returns-in-Err-NoMemory-clause-link : goal.returns-in-Err-NoMemory-clause-link
returns-in-Err-NoMemory-clause-link g c = tells_none _ (λ seven. absurd (omega (arith, seven)))

pub returns-then-host-from-clause-link : goal.returns-then-host-from-clause-link
returns-then-host-from-clause-link g c = tells_none _ (low_no_link _ c.say.ensures.low)

pub returns-then-host-from-clause-disk : goal.returns-then-host-from-clause-disk
returns-then-host-from-clause-disk g c = tells_none _ (low_no_disk _ c.say.ensures.low)

pub returns-in-Err-BadJournal-clause-link : goal.returns-in-Err-BadJournal-clause-link
returns-in-Err-BadJournal-clause-link g c = tells_none _ (low_no_link _ c.respond.ensures.low)

pub returns-in-Err-BadJournal-clause-disk : goal.returns-in-Err-BadJournal-clause-disk
returns-in-Err-BadJournal-clause-disk g c = tells_as _ _ c.open_in.ensures.disk (λ told. absurd (low_no_disk _ c.respond.ensures.low told))

pub returns-in-Err-DiskFault-clause-disk : goal.returns-in-Err-DiskFault-clause-disk
returns-in-Err-DiskFault-clause-disk g c =
    let failed : IsErrOf c.open_in.result opening.DiskFault = search rules in
    tells_as _ _ c.open_in.ensures.disk (λ told. failed)

pub returns-in-Err-NoMemory-clause-disk : goal.returns-in-Err-NoMemory-clause-disk
returns-in-Err-NoMemory-clause-disk g c = tells_as _ _ c.open_in.ensures.disk (λ told. absurd (omega (arith, told)))
