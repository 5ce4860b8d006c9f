use Rattle.std.proofs.Common.{◌∙◌, None, refl, ap, arith}
use Rattle.std.specs.Prelude.{option_map}
use Rattle.std.proofs.lemmas.List.{get_or_read}
use Rattle.mb_plan.specs.Lent.{vote}
use Rattle.mb_plan.proofs.Places.{note_next}
use Rattle.mb_plan.proofs.shown_votes.note_everywhere.Goals as goal

pub loop-index-init : goal.loop-index-init
loop-index-init c = record { noted = λ k lt l was. absurd (omega (arith, lt)); others = λ k le. refl }

pub loop-index-preserved : goal.loop-index-preserved
loop-index-preserved c = note_next c.args.votes.now c.args.base c.args.entry.now c.loop-index.votes c.loop-index.index c.vote_by.result (omega arith) c.loop-index.invariant
    (λ l was. c.vote_by.ensures l (ap (option_map vote) (get_or_read c.loop-index.votes c.loop-index.index c.index-votes-index.result (omega arith) c.index-votes-index.is None) ∙ was))

pub returns : goal.returns
returns c = λ l are i lt. c.loop-index.invariant.noted i (omega arith) l (are i (omega arith))
