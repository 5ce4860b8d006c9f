use Rattle.std.proofs.Common.{◌<◌, refl, sym, subst, inl, inr, arith, rules}
use Rattle.std.specs.Prelude.{Contains, IsErrOf}
use Rattle.std.proofs.lemmas.Result.{IfOk-weaker}
use Rattle.mb_base.specs.Shapes.{host_count}
use Rattle.mb_edge.proofs.FaultLemmas.{tells_none, tells_as}
use Rattle.mb_journal.specs.declared.making.MakeStop.TheVariants as making
use Rattle.mb_answer.specs.Texts.{exists_text}
use Rattle.mb_answer.proofs.Statuses.{low_no_disk, said_is, responded_is}
use Rattle.mb_serving.specs.Journals.{making_statuses}
use Rattle.mb_serving.proofs.JournalLaws.{told_answer, made_as, exists_as, unmade_as, there_told}
use Rattle.mb_serving.proofs.journals.make_as.Goals as goal

pub respond-requires : goal.respond-requires
respond-requires g c = IfOk-weaker c.journal_exists.result _ _ (λ a h. there_told a.status h.0) c.journal_exists.ensures

-- ---- what is done

pub returns-in-Ok-clause-makes : goal.returns-in-Ok-clause-makes
returns-in-Ok-clause-makes g c =
    let below : c.args.host < host_count c.args.config.now.shape = omega (arith, c.if-host-from.false, c.from.ensures, c.n.ensures) in
    made_as c.args.config.now _ c.args.host _ _ _ (omega arith) below c.in-Ok.ensures.made c.in-Ok.ensures.crash

pub returns-in-Err-Exists-clause-makes : goal.returns-in-Err-Exists-clause-makes
returns-in-Err-Exists-clause-makes g c =
    let below : c.args.host < host_count c.args.config.now.shape = omega (arith, c.if-host-from.false, c.from.ensures, c.n.ensures) in
    let there = rw c.in-Err-Exists.field-0-is at c.in-Err-Exists.ensures.made in
    exists_as c.args.config.now _ c.args.host c.respond.result c.in-Err-Exists.length _ _ _ _ (omega arith) below
    (told_answer c.journal_exists.result 16 (exists_text c.in-Err-Exists.length) c.respond.result _ _ c.journal_exists.ensures c.respond.ensures.says c.respond.ensures.lacks) there

pub returns-in-Err-DiskFault-clause-makes : goal.returns-in-Err-DiskFault-clause-makes
returns-in-Err-DiskFault-clause-makes g c =
    let below : c.args.host < host_count c.args.config.now.shape = omega (arith, c.if-host-from.false, c.from.ensures, c.n.ensures) in
    let failed : IsErrOf c.make_in.result making.DiskFault = search rules in
    unmade_as c.args.config.now _ c.args.host _ _ _ _ (omega arith) below (inl (refl, c.make_in.ensures.disk.rose failed)) c.make_in.ensures.crash

pub returns-in-Err-NoMemory-clause-makes : goal.returns-in-Err-NoMemory-clause-makes
returns-in-Err-NoMemory-clause-makes g c =
    let below : c.args.host < host_count c.args.config.now.shape = omega (arith, c.if-host-from.false, c.from.ensures, c.n.ensures) in
    unmade_as c.args.config.now _ c.args.host _ _ _ _ (omega arith) below (inr refl) c.make_in.ensures.crash

-- ---- statuses

pub returns-then-host-from-clause-statuses : goal.returns-then-host-from-clause-statuses
returns-then-host-from-clause-statuses g c = said_is (Contains making_statuses) (3, omega arith, refl) (5, omega arith, refl) _ _ _ _ _ (1, omega arith, refl) c.say.ensures.says

pub returns-in-Ok-clause-statuses : goal.returns-in-Ok-clause-statuses
returns-in-Ok-clause-statuses g c = (0, omega arith, refl)

pub returns-in-Err-Exists-clause-statuses : goal.returns-in-Err-Exists-clause-statuses
returns-in-Err-Exists-clause-statuses g c =
    responded_is (Contains making_statuses) (3, omega arith, refl) (5, omega arith, refl) c.journal_exists.result _ _ _
    (IfOk-weaker c.journal_exists.result _ _ (λ a h. subst (Contains making_statuses) (sym h.0) (7, omega arith, refl)) c.journal_exists.ensures) c.respond.ensures.says c.respond.ensures.lacks

pub returns-in-Err-DiskFault-clause-statuses : goal.returns-in-Err-DiskFault-clause-statuses
returns-in-Err-DiskFault-clause-statuses g c = (6, omega arith, refl)

pub returns-in-Err-NoMemory-clause-statuses : goal.returns-in-Err-NoMemory-clause-statuses
returns-in-Err-NoMemory-clause-statuses g c = (3, omega arith, refl)

-- ---- faults

pub returns-in-Ok-clause-sink : goal.returns-in-Ok-clause-sink
returns-in-Ok-clause-sink g c = tells_none _ (λ six. absurd (omega (arith, six)))

pub returns-in-Err-DiskFault-clause-sink : goal.returns-in-Err-DiskFault-clause-sink
returns-in-Err-DiskFault-clause-sink g c = tells_none _ (λ six. absurd (omega (arith, six)))

pub returns-in-Err-NoMemory-clause-sink : goal.returns-in-Err-NoMemory-clause-sink
returns-in-Err-NoMemory-clause-sink g c = tells_none _ (λ six. absurd (omega (arith, six)))

pub returns-then-host-from-clause-disk : goal.returns-then-host-from-clause-disk
returns-then-host-from-clause-disk g c = tells_none _ (low_no_disk _ c.say.ensures.low)

pub returns-in-Ok-clause-disk : goal.returns-in-Ok-clause-disk
returns-in-Ok-clause-disk g c = tells_as _ _ c.make_in.ensures.disk (λ told. absurd (omega (arith, told)))

pub returns-in-Err-Exists-clause-disk : goal.returns-in-Err-Exists-clause-disk
returns-in-Err-Exists-clause-disk g c = tells_as _ _ c.make_in.ensures.disk (λ told. absurd (low_no_disk _ c.respond.ensures.low told))

pub returns-in-Err-DiskFault-clause-disk : goal.returns-in-Err-DiskFault-clause-disk
returns-in-Err-DiskFault-clause-disk g c =
    let failed : IsErrOf c.make_in.result making.DiskFault = search rules in
    tells_as _ _ c.make_in.ensures.disk (λ told. failed)

pub returns-in-Err-NoMemory-clause-disk : goal.returns-in-Err-NoMemory-clause-disk
returns-in-Err-NoMemory-clause-disk g c = tells_as _ _ c.make_in.ensures.disk (λ told. absurd (omega (arith, told)))
