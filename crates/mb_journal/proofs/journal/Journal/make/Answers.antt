use Rattle.std.proofs.Common.{rules, ◌≡◌, ◌∙◌, arith}
use Rattle.sha2.proofs.Facts256.{length-sha256}
use Rattle.mb_journal.specs.Headers.{header_text}
use Rattle.mb_journal.proofs.OpenLemmas.{made_file, no_bytes_read}
use Rattle.mb_journal.specs.Making.{SaysNothing}
use Rattle.mb_journal.proofs.Crashes.{leaves_same}
use Rattle.mb_journal.proofs.MakeLemmas.{leaves_nothing}
use Rattle.mb_journal.proofs.journal.Journal.make.Goals as goal

pub returns-clause-rests : goal.returns-clause-rests
returns-clause-rests g c old is new new_is =
    let none : c.in_ok-length.length ≡ 0 = search rules in
    let empty = no_bytes_read old.now c.in_ok-length.length (c.in_ok-length.ensures.len old is) none in
    made_file (header_text c.args.config.now c.args.id) c.deref.result.now old.now new.now (c.deref.ensures.value ∙ c.in_ok-start.ensures) empty
    (c.in_ok-write_and_sync.ensures.done old (c.len.ensures.same ∙ is) new new_is) (omega (arith, length-sha256 c.args.config.now.secret))

pub returns-in_err-length-clause-any_moment : goal.returns-in_err-length-clause-any_moment
returns-in_err-length-clause-any_moment g c old is empty = leaves_same (SaysNothing (header_text c.args.config.now c.args.id)) old _ (c.len.ensures.same ∙ is)

pub returns-then-length-ne0-clause-any_moment : goal.returns-then-length-ne0-clause-any_moment
returns-then-length-ne0-clause-any_moment g c old is empty = leaves_same (SaysNothing (header_text c.args.config.now c.args.id)) old _ (c.len.ensures.same ∙ is)

pub returns-in_err-start-clause-any_moment : goal.returns-in_err-start-clause-any_moment
returns-in_err-start-clause-any_moment g c old is empty = leaves_same (SaysNothing (header_text c.args.config.now c.args.id)) old _ (c.len.ensures.same ∙ is)

pub returns-clause-any_moment : goal.returns-clause-any_moment
returns-clause-any_moment g c old is empty =
    leaves_nothing (header_text c.args.config.now c.args.id) c.deref.result.now (c.deref.ensures.value ∙ c.in_ok-start.ensures) old (g.D.Disk.seen c.len.new.self).moments (g.D.Disk.seen c.write_and_sync.new.disk).moments
    (c.len.ensures.same ∙ is) empty c.write_and_sync.ensures.crash

pub returns-in_err-write_and_sync-clause-any_moment : goal.returns-in_err-write_and_sync-clause-any_moment
returns-in_err-write_and_sync-clause-any_moment g c old is empty =
    leaves_nothing (header_text c.args.config.now c.args.id) c.deref.result.now (c.deref.ensures.value ∙ c.in_ok-start.ensures) old (g.D.Disk.seen c.len.new.self).moments (g.D.Disk.seen c.write_and_sync.new.disk).moments
    (c.len.ensures.same ∙ is) empty c.write_and_sync.ensures.crash

-- ---- a file with bytes

pub returns-in_err-length-clause-there : goal.returns-in_err-length-clause-there
returns-in_err-length-clause-there g c old is some = c.len.ensures.same

pub returns-then-length-ne0-clause-there : goal.returns-then-length-ne0-clause-there
returns-then-length-ne0-clause-there g c old is some = c.len.ensures.same

pub returns-in_err-start-clause-there : goal.returns-in_err-start-clause-there
returns-in_err-start-clause-there g c old is some = c.len.ensures.same

pub returns-in_err-write_and_sync-clause-there : goal.returns-in_err-write_and_sync-clause-there
returns-in_err-write_and_sync-clause-there g c old is some =
    let none : c.in_ok-length.length ≡ 0 = search rules in
    absurd (some (no_bytes_read old.now c.in_ok-length.length (c.in_ok-length.ensures.len old is) none))

pub returns-clause-there : goal.returns-clause-there
returns-clause-there g c old is some =
    let none : c.in_ok-length.length ≡ 0 = search rules in
    absurd (some (no_bytes_read old.now c.in_ok-length.length (c.in_ok-length.ensures.len old is) none))
