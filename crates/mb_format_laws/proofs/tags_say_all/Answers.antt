use Rattle.mb_format_laws.proofs.Tagged.{tags_say}
use Rattle.mb_format_laws.proofs.tags_say_all.Goals as goal

pub returns : goal.returns
returns c = tags_say
