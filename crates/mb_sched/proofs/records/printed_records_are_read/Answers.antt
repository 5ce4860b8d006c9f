use Rattle.mb_sched.proofs.PrintedRecords.{record_again}
use Rattle.mb_sched.proofs.records.printed_records_are_read.Goals as goal

pub returns : goal.returns
returns c = record_again
