use Rattle.std.proofs.Common.{◌∷◌, List, ap, ◌∙◌}
use Rattle.mb_base.specs.Shapes.{Bytes}
use Rattle.mb_sched.proofs.Pieces.{cut_words}
use Rattle.mb_sched.proofs.ReadWords.{left_behind}
use Rattle.mb_sched.proofs.header.first_word.Goals as goal

pub returns : goal.returns
returns c =
    cut_words c.args.line.now c.cut.result.0.now c.cut.result.1 c.cut.ensures.parts
    ∙ ap (λ (ws : List Bytes). c.cut.result.0.now ∷ ws) (left_behind c.cut.result.1)
