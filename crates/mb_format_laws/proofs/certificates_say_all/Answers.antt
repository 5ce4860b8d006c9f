use Rattle.mb_format_laws.proofs.Formats.{say_all}
use Rattle.mb_format_laws.proofs.certificates_say_all.Goals as goal

pub returns : goal.returns
returns c = say_all
