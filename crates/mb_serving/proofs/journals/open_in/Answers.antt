use Rattle.std.proofs.Common.{◌⊎◌, ◌∙◌, Ok, Err, sym, ap, subst, arith}
use Rattle.std.specs.Prelude.{Result}
use Rattle.std.specs.List.{AllByRecursion}
use Rattle.std.proofs.lemmas.Result.{err_from_is_err_and}
use Rattle.mb_edge.specs.Disks.{IsImage}
use Rattle.mb_edge.proofs.FaultLemmas.{tells_as, tells_call}
use Rattle.mb_journal.specs.Headers.{header_text}
use Rattle.mb_journal.specs.Keeping.{JournalState}
use Rattle.mb_journal.specs.Opening.{StaysWhole}
use Rattle.mb_journal.specs.declared.making.Opened.{Opened}
use Rattle.mb_journal.specs.declared.opening.OpenStop.{OpenStop}
use Rattle.mb_journal.proofs.Crashes.{leaves_same}
use Rattle.mb_node.proofs.Faults.{call_calm, counts_after}
use Rattle.mb_sched.specs.Records.{EventFits}
use Rattle.mb_serving.specs.Journals.{IsOpened}
use Rattle.mb_serving.proofs.JournalLaws.{not_opened, opened_of, opening_fault}
use Rattle.mb_serving.proofs.journals.open_in.Goals as goal

pub returns-in_err-open-clause-opened : goal.returns-in_err-open-clause-opened
returns-in_err-open-clause-opened g c =
    let p = err_from_is_err_and c.from_residual.result c.from_residual.ensures.1 in
    not_opened c.args.config.now c.args.host _ _ c.from_residual.result p.0 c.in_err-open.field-0.0 p.1 p.2
    (λ old is. leaves_same (λ image. IsImage old.now image ⊎ StaysWhole (header_text c.args.config.now c.args.host) old.now.reads image) old _ (c.in_err-open.ensures.same ∙ is))

pub returns-in_err-open-clause-disk : goal.returns-in_err-open-clause-disk
returns-in_err-open-clause-disk g c =
    let p = err_from_is_err_and c.from_residual.result c.from_residual.ensures.1 in
    tells_as _ _ (tells_call _ _ _ c.in_err-open.ensures.cause c.in_err-open.ensures.sound c.in_err-open.ensures.quiet) (λ told. opening_fault c.in_err-open.field-0.0 p.0 c.from_residual.result p.1 p.2 told)

pub returns-in_err-opened-clause-opened : goal.returns-in_err-opened-clause-opened
returns-in_err-opened-clause-opened g c =
    let cause = c.in_ok-open.ensures.cause in
    let p = err_from_is_err_and c.from_residual-in_err-opened.result c.from_residual-in_err-opened.ensures.1 in
    let before = g.D.Disk.seen c.args.disk.now in
    let after = g.D.Disk.seen c.open-2.new.disk in
    subst (λ (r : Result Opened OpenStop). IsOpened c.args.config.now c.args.host r before after) (c.in_err-opened.was ∙ ap Err (sym p.2) ∙ sym p.1)
    (opened_of c.args.config.now c.args.host before after (g.D.Disk.seen c.open.new.self).moments c.open-2.result
    c.in_ok-open.ensures.same (omega (arith, cause.later, c.open-2.ensures.faults.later)) c.open-2.ensures.journal c.open-2.ensures.events c.open-2.ensures.bad c.open-2.ensures.rests (rw c.in_err-opened.was tt)
    (λ old is. c.open-2.ensures.any_moment old (c.in_ok-open.ensures.same ∙ is)))

pub returns-in_err-opened-clause-disk : goal.returns-in_err-opened-clause-disk
returns-in_err-opened-clause-disk g c =
    let p = err_from_is_err_and c.from_residual-in_err-opened.result c.from_residual-in_err-opened.ensures.1 in
    counts_after _ _ _ _ _ _ _ (call_calm _ _ _ _ _ c.in_ok-open.ensures.cause c.in_ok-open.ensures.sound c.in_ok-open.ensures.quiet)
    (tells_as _ _ c.open-2.ensures.faults (λ told. cc (p.1, p.2, c.in_err-opened.was, told)))

pub returns-clause-opened : goal.returns-clause-opened
returns-clause-opened g c =
    let cause = c.in_ok-open.ensures.cause in
    let o = c.in_ok-opened.opened in
    opened_of c.args.config.now c.args.host (g.D.Disk.seen c.args.disk.now) (g.D.Disk.seen c.open-2.new.disk) (g.D.Disk.seen c.open.new.self).moments (Ok o)
    c.in_ok-open.ensures.same (omega (arith, cause.later, c.open-2.ensures.faults.later)) c.in_ok-opened.ensures.journal c.in_ok-opened.ensures.events (λ at told. absurd cc) c.in_ok-opened.ensures.rests
    (subst (AllByRecursion EventFits) c.deref.ensures.value c.are_of_bytes.ensures) (λ old is. c.open-2.ensures.any_moment old (c.in_ok-open.ensures.same ∙ is))

pub returns-clause-runs : goal.returns-clause-runs
returns-clause-runs g c = ap (λ (j : JournalState). j.halted) c.in_ok-opened.ensures.journal

pub returns-clause-disk : goal.returns-clause-disk
returns-clause-disk g c =
    counts_after _ _ _ _ _ _ _ (call_calm _ _ _ _ _ c.in_ok-open.ensures.cause c.in_ok-open.ensures.sound c.in_ok-open.ensures.quiet) (tells_as _ _ c.open-2.ensures.faults (λ told. absurd cc))
