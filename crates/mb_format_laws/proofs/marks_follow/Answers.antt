use Rattle.mb_format_laws.proofs.Formats.{follow}
use Rattle.mb_format_laws.proofs.marks_follow.Goals as goal

pub returns : goal.returns
returns c = follow
