use Rattle.std.proofs.Common.{sym, ◌∙◌}
use Rattle.std.proofs.lemmas.Bool.{not-true, not-false}
use Rattle.std.proofs.lemmas.Result.{on_ok_weaker}
use Rattle.mb_learn.proofs.CountedVotes.{opening_apart, opening_by}
use Rattle.mb_learn.proofs.counting.count_one.Goals as goal

pub returns-then-ne : goal.returns-then-ne
returns-then-ne c = opening_apart c.args.plan.now c.args.opening.now c.args.votes.now (not-true _ (sym c.ne.ensures ∙ c.if-ne.true))

pub returns : goal.returns
returns c = on_ok_weaker c.count_plan.result (opening_by c.args.plan.now c.args.opening.now c.args.votes.now c.count_plan.new.votes (not-false _ (sym c.ne.ensures ∙ c.if-ne.false))) c.count_plan.ensures
