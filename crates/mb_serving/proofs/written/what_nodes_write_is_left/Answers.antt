use Rattle.mb_serving.proofs.WrittenLaws.{nodes_leave_records}
use Rattle.mb_serving.proofs.written.what_nodes_write_is_left.Goals as goal

pub returns : goal.returns
returns c = nodes_leave_records
