use Rattle.mb_sched.proofs.CutRecords.{cut_record}
use Rattle.mb_sched.proofs.records.cut_records_are_read.Goals as goal

pub returns : goal.returns
returns c = cut_record
