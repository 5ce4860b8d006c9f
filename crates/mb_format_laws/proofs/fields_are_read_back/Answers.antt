use Rattle.mb_format_laws.proofs.Formats.{fields_back}
use Rattle.mb_format_laws.proofs.fields_are_read_back.Goals as goal

pub returns : goal.returns
returns c = fields_back
