use Rattle.std.proofs.Common.{◌≡◌, ◌∙◌, map, string_bytes, sym, arith}
use Rattle.mb_top.specs.Commands.{command_of, with_path_of}
use Rattle.mb_top.proofs.FourWords.{four_asked}
use Rattle.mb_top.proofs.reasons.beyond_limits.Goals as goal

pub returns-in-len4 : goal.returns-in-len4
returns-in-len4 c =
    let asked = four_asked c.args.words.now c.name-item-then-words-lt5.result c.host-item.result c.events-item.result (omega (arith, c.in-len4.len_at_least, c.in-len4.len_below)) c.name-item-then-words-lt5.is c.host-item.is c.events-item.is in
    let told : with_path_of c.as_bytes-in-len4.result.now c.as_bytes-in-len4-2.result.now c.as_bytes-in-len4-3.result.now ≡ command_of (map string_bytes c.args.words.now) = rw (c.as_bytes-in-len4.ensures.value, c.as_bytes-in-len4-2.ensures.value, c.as_bytes-in-len4-3.ensures.value) asked in
    λ some. sym told ∙ c.in_four_words.ensures some
