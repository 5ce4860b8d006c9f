use Rattle.mb_serving.proofs.KeptWritten.{kept_nodes_leave_records}
use Rattle.mb_serving.proofs.written.what_kept_nodes_write_is_left.Goals as goal

pub returns : goal.returns
returns c = kept_nodes_leave_records
