use Rattle.mb_cache.proofs.table.Table.execute.Goals as goal

pub returns-clause-stands : goal.returns-clause-stands
returns-clause-stands g c = c.in_ok-execute_quietly.ensures.stands
