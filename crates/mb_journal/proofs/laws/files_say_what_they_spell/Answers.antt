use Rattle.mb_journal.proofs.Spelled.{holds_spelled, spelled_holds}
use Rattle.mb_journal.proofs.laws.files_say_what_they_spell.Goals as goal

pub returns : goal.returns
returns c header events file fits = (holds_spelled header events file fits, spelled_holds header events file)
