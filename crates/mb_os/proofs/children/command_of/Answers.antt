use Rattle.std.proofs.Common.{◌≡◌, length, map, take, Some, refl, ap, ◌∙◌, arith}
use Rattle.std.specs.Prelude.{slice_get, string_bytes}
use Rattle.std.proofs.lemmas.List.{take_all}
use Rattle.std.proofs.lemmas.Option.{slice_get_read}
use Rattle.mb_os.proofs.WordLemmas.{one_more}
use Rattle.mb_os.proofs.children.command_of.Goals as goal

pub loop-word-init : goal.loop-word-init
loop-word-init c = record { program = c.in_ok-command.ensures.program; words = c.in_ok-command.ensures.args }

pub loop-word-preserved : goal.loop-word-preserved
loop-word-preserved c =
    let words = c.args.words.now in
    let i = c.loop-word.word-index in
    let word = c.word-item.result in
    let at : slice_get words i ≡ Some word = slice_get_read words (length words) i word refl c.loop-word-test.true c.word-item.is in
    record {
      program = c.in_ok-add_word.ensures.program ∙ c.loop-word.invariant.program;
      words = one_more string_bytes words i word _ _ _ at c.loop-word.invariant.words c.in_ok-add_word.ensures.words c.as_str.ensures.value;
    }

pub returns-clause-words : goal.returns-clause-words
returns-clause-words c =
    let words = c.args.words.now in
    let all : take c.loop-word.word-index words ≡ words = take_all c.loop-word.word-index words (omega arith) in
    c.loop-word.invariant.words ∙ ap (map string_bytes) all
