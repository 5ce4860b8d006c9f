use Rattle.std.proofs.Common.{[], ◌∷◌, ◌++◌, ap, ◌∙◌}
use Rattle.std.specs.Global.{Vec}
use Rattle.mb_learn.specs.declared.heard.Opening.{Opening}
use Rattle.mb_learn.proofs.CountedVotes.{opening_of, counted_open}
use Rattle.mb_learn.proofs.heard.Heard.count_open.Goals as goal

pub returns-clause-counts : goal.returns-clause-counts
returns-clause-counts c = counted_open c.args.self.now (record c.count_opening.new.self { openings = c.push.new.self }) c.args.m.now (c.in_ok-push.ensures.items ∙ ap (λ (v : Vec Opening). v.items ++ opening_of c.args.self.now c.args.self.now c.args.m.now ∷ []) c.count_opening.ensures.openings) c.in_ok-count_opening.ensures.votes
