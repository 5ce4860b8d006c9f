use Rattle.std.proofs.Common.{◌∙◌}
use Rattle.std.proofs.lemmas.Result.{err_from_is_err_and}
use Rattle.mb_edge.proofs.FaultLemmas.{tells_as, tells_call}
use Rattle.mb_journal.specs.Headers.{header_text}
use Rattle.mb_journal.specs.Making.{SaysNothing}
use Rattle.mb_journal.proofs.Crashes.{leaves_same}
use Rattle.mb_node.proofs.Faults.{call_calm, counts_after}
use Rattle.mb_serving.proofs.JournalLaws.{not_made, made_of, making_fault}
use Rattle.mb_serving.proofs.journals.make_in.Goals as goal

pub returns-in_err-open-clause-made : goal.returns-in_err-open-clause-made
returns-in_err-open-clause-made g c =
    let p = err_from_is_err_and c.from_residual.result c.from_residual.ensures.1 in
    not_made c.args.config.now c.args.host _ _ c.from_residual.result p.0 c.in_err-open.field-0.0 p.1 p.2

pub returns-in_err-open-clause-crash : goal.returns-in_err-open-clause-crash
returns-in_err-open-clause-crash g c = record {
  there = λ old is some. c.in_err-open.ensures.same;
  empty = λ old is empty. leaves_same (SaysNothing (header_text c.args.config.now c.args.host)) old _ (c.in_err-open.ensures.same ∙ is);
}

pub returns-in_err-open-clause-disk : goal.returns-in_err-open-clause-disk
returns-in_err-open-clause-disk g c =
    let p = err_from_is_err_and c.from_residual.result c.from_residual.ensures.1 in
    tells_as _ _ (tells_call _ _ _ c.in_err-open.ensures.cause c.in_err-open.ensures.sound c.in_err-open.ensures.quiet) (λ told. making_fault c.in_err-open.field-0.0 p.0 c.from_residual.result p.1 p.2 told)

pub returns-clause-made : goal.returns-clause-made
returns-clause-made g c =
    made_of c.args.config.now c.args.host (g.D.Disk.seen c.args.disk.now) (g.D.Disk.seen c.make.new.disk) (g.D.Disk.seen c.open.new.self).moments c.make.result
    c.in_ok-open.ensures.same c.make.ensures.exists c.make.ensures.kept c.make.ensures.empty c.make.ensures.rests

pub returns-clause-crash : goal.returns-clause-crash
returns-clause-crash g c = record {
  there = λ old is some. c.make.ensures.there old (c.in_ok-open.ensures.same ∙ is) some ∙ c.in_ok-open.ensures.same;
  empty = λ old is empty. c.make.ensures.any_moment old (c.in_ok-open.ensures.same ∙ is) empty;
}

pub returns-clause-disk : goal.returns-clause-disk
returns-clause-disk g c = counts_after _ _ _ _ _ _ _ (call_calm _ _ _ _ _ c.in_ok-open.ensures.cause c.in_ok-open.ensures.sound c.in_ok-open.ensures.quiet) c.make.ensures.faults
