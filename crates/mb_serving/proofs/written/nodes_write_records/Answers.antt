use Rattle.mb_serving.proofs.WrittenLaws.{writes_front}
use Rattle.mb_serving.proofs.written.nodes_write_records.Goals as goal

pub returns : goal.returns
returns c = writes_front
