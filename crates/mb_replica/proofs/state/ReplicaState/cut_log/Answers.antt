use Rattle.std.proofs.Common.{◌∙◌, sym, refl, Some, None}
use Rattle.mb_replica.proofs.Keeping.{within, cut_stands}
use Rattle.mb_replica.proofs.state.ReplicaState.cut_log.Goals as goal

-- src/learning.rt
pub cut_by-requires : goal.cut_by-requires
cut_by-requires g c = let b = c.requires in within b.me c.args.self.now b.entry b.history b.awaits c.in-Some.cert

pub returns-in-Some-clause-stands : goal.returns-in-Some-clause-stands
returns-in-Some-clause-stands g c = λ me e d w.
    cut_stands me c.args.self.now e d w c.cut_by.new.self (Some c.in-Some.cert) (λ s h x st. sym c.in-Some.is ∙ c.in_ok-cert.ensures s h x st) c.cut_by.ensures.cuts

pub returns-in_default-clause-stands : goal.returns-in_default-clause-stands
returns-in_default-clause-stands g c = λ me e d w.
    cut_stands me c.args.self.now e d w c.args.self.now None (λ s h x st. sym c.in_default.is ∙ c.in_ok-cert.ensures s h x st) refl
