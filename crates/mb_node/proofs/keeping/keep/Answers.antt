use Rattle.std.proofs.Common.{◌≡◌, ◌∙◌, [], ◌∷◌, sym, ap, subst}
use Rattle.std.proofs.lemmas.Bool.{false≢true}
use Rattle.mb_journal.specs.declared.journal.AppendStop.TheVariants as append
use Rattle.mb_node.specs.declared.stops.ServeStop.{ServeStop}
use Rattle.mb_node.specs.declared.stops.ServeStop.TheVariants as stop
use Rattle.mb_node.specs.Keeping.{AreKept, IsFullFor}
use Rattle.mb_node.specs.Stops.{IsOfKeeping}
use Rattle.mb_node.proofs.Faults.{counts_as}
use Rattle.mb_node.proofs.Kept.{appended, not_appended, keeping_of, fault_of}
use Rattle.mb_node.proofs.keeping.keep.Goals as goal

pub append_stop-requires : goal.append_stop-requires
append_stop-requires g c = λ is. false≢true (sym c.requires.runs ∙ c.in-Err.ensures.halted.0 (let same : c.in-Err.stop ≡ append.Halted = is in cc))

pub returns-in-Ok-clause-kept : goal.returns-in-Ok-clause-kept
returns-in-Ok-clause-kept g c =
    appended c.args.journal.now c.append.new.self (g.D.Disk.seen c.args.disk.now).moments (g.D.Disk.seen c.append.new.disk).moments c.args.event.now c.requires.runs c.in-Ok.ensures.after c.in-Ok.ensures.full.1 c.requires.fits
    c.in-Ok.ensures.acknowledged c.in-Ok.ensures.any_moment

pub returns-in-Ok-clause-runs : goal.returns-in-Ok-clause-runs
returns-in-Ok-clause-runs g c = rw c.in-Ok.ensures.after c.requires.runs

pub returns-in-Err-clause-kept : goal.returns-in-Err-clause-kept
returns-in-Err-clause-kept g c =
    let journal = c.args.journal.now in
    let now = c.append.new.self in
    let told = (g.D.Disk.seen c.args.disk.now).moments in
    let new = (g.D.Disk.seen c.append.new.disk).moments in
    let e = c.args.event.now in
    subst (λ (s : ServeStop). AreKept journal now told new (e ∷ []) [] × IsFullFor s now e) (sym c.append_stop.ensures)
    (not_appended journal now told new e c.in-Err.stop c.requires.runs c.in-Err.ensures.after c.in-Err.ensures.halted c.in-Err.ensures.full c.in-Err.ensures.length
    (λ none. ap (λ x. (g.D.Disk.seen x).moments) (c.append.ensures.unchanged none)) c.requires.fits c.in-Err.ensures.any_moment)

pub returns-in-Err-clause-causes : goal.returns-in-Err-clause-causes
returns-in-Err-clause-causes g c = subst IsOfKeeping (sym c.append_stop.ensures) (keeping_of c.in-Err.stop)

pub returns-in-Err-clause-disk : goal.returns-in-Err-clause-disk
returns-in-Err-clause-disk g c =
    counts_as _ _ _ _ _ _ c.in-Err.ensures.faults
    (λ told. let same : c.append_stop.result ≡ stop.DiskFault = cc in let fault : c.in-Err.stop ≡ append.DiskFault = fault_of c.in-Err.stop (sym c.append_stop.ensures ∙ same) in cc)
