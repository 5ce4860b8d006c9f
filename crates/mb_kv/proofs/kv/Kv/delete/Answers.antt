use Rattle.std.proofs.Common.{rules}
use Rattle.mb_kv.proofs.EntryLaws.{stays_without}
use Rattle.mb_kv.proofs.kv.Kv.delete.Goals as goal

pub returns-then-not-has-clause-state : goal.returns-then-not-has-clause-state
returns-then-not-has-clause-state c =
    search (rules, stays_without c.args.self.now c.args.key.now c.has.result c.has.ensures c.if-not-has.true)
