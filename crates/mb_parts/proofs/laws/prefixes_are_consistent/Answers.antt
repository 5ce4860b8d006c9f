use Rattle.mb_parts.proofs.IssuedLaws.{are_prefixes}
use Rattle.mb_parts.proofs.laws.prefixes_are_consistent.Goals as goal

pub returns : goal.returns
returns c = are_prefixes
