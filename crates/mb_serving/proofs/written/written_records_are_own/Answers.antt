use Rattle.mb_serving.proofs.WrittenLaws.{own_so_far}
use Rattle.mb_serving.proofs.written.written_records_are_own.Goals as goal

pub returns : goal.returns
returns c = own_so_far
