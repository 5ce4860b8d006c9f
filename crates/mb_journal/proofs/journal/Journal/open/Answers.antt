use Rattle.std.proofs.Common.{rules, ◌⊎◌, ◌+◌, ◌∙◌, sym, ap, subst, IsErrOf}
use Rattle.mb_base.specs.Shapes.{Bytes}
use Rattle.mb_edge.specs.Disks.{IsImage, LeavesOnly}
use Rattle.mb_journal.specs.declared.opening.OpenStop.TheVariants.{BadJournal}
use Rattle.mb_journal.specs.Files.{contents_of}
use Rattle.mb_journal.specs.Keeping.{JournalState, RestsAt}
use Rattle.mb_journal.specs.Opening.{StaysWhole}
use Rattle.mb_journal.proofs.journal.Journal.open.Goals as goal

pub returns-in_err-found-clause-bad : goal.returns-in_err-found-clause-bad
returns-in_err-found-clause-bad g c at told old is =
    let header = c.deref.ensures.value ∙ c.in_ok-header.ensures in
    let stop : IsErrOf c.open_file.result (BadJournal at) = search rules in
    ap (λ (h : Bytes). contents_of h old.now.reads) (sym header) ∙ c.open_file.ensures.bad at stop old is

pub returns-in_err-found-clause-any_moment : goal.returns-in_err-found-clause-any_moment
returns-in_err-found-clause-any_moment g c old is =
    subst (λ (h : Bytes). LeavesOnly (λ image. IsImage old.now image ⊎ StaysWhole h old.now.reads image) old (g.D.Disk.seen c.open_file.new.disk).moments) (c.deref.ensures.value ∙ c.in_ok-header.ensures) (c.open_file.ensures.any_moment old is)

pub returns-clause-events : goal.returns-clause-events
returns-clause-events g c old is = record {
  gate = c.in_ok-found.found.gate;
  says = ap (λ (h : Bytes). contents_of h old.now.reads) (sym (c.deref.ensures.value ∙ c.in_ok-header.ensures)) ∙ c.in_ok-found.ensures.found old is;
}

pub returns-clause-rests : goal.returns-clause-rests
returns-clause-rests g c old is new new_is =
    let events = c.in_ok-found.found.events.items in
    subst (λ (j : JournalState). RestsAt j.header j.end events new.now) (sym c.at_rest.ensures)
    (subst (λ (h : Bytes). RestsAt h (c.in_ok-found.found.gate + 1) events new.now) c.deref.ensures.value (c.in_ok-found.ensures.rests old is new new_is))

pub returns-clause-any_moment : goal.returns-clause-any_moment
returns-clause-any_moment g c old is =
    subst (λ (h : Bytes). LeavesOnly (λ image. IsImage old.now image ⊎ StaysWhole h old.now.reads image) old (g.D.Disk.seen c.open_file.new.disk).moments) (c.deref.ensures.value ∙ c.in_ok-header.ensures) (c.open_file.ensures.any_moment old is)
