use Rattle.mb_sched.proofs.RecordSpellings.{record_spelled, record_read}
use Rattle.mb_sched.proofs.records.records_are_their_spellings.Goals as goal

pub returns-clause-spelled : goal.returns-clause-spelled
returns-clause-spelled c = record_spelled

pub returns-clause-read : goal.returns-clause-read
returns-clause-read c = record_read
