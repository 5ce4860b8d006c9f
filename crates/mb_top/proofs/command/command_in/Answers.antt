use Rattle.std.proofs.Common.{◌∙◌, arith}
use Rattle.mb_top.proofs.FourWords.{four_asked}
use Rattle.mb_top.proofs.command.command_in.Goals as goal

pub returns-in-len4-clause-command : goal.returns-in-len4-clause-command
returns-in-len4-clause-command c =
    let asked = four_asked c.args.words.now c.name-item-then-words-lt5.result c.host-item.result c.events-item.result (omega (arith, c.in-len4.len_at_least, c.in-len4.len_below)) c.name-item-then-words-lt5.is c.host-item.is c.events-item.is in
    c.four_words.ensures.command ∙ rw (c.as_bytes-in-len4.ensures.value, c.as_bytes-in-len4-2.ensures.value, c.as_bytes-in-len4-3.ensures.value) asked
