use Rattle.std.proofs.Common.{sym, ap, ◌∙◌, arith}
use Rattle.std.specs.Prelude.{count_by}
use Rattle.mb_model.specs.Votes.{is_vote}
use Rattle.mb_votes.proofs.Ranks.{ranked_agree, agree_ranked}
use Rattle.mb_votes.proofs.ballot.Ballot.agrees.Goals as goal

pub returns-clause-yes : goal.returns-clause-yes
returns-clause-yes c = λ e.
    let found = ranked_agree c.args.quorum c.self.inside.by_host (sym c.any_has_rank.ensures ∙ e) in
    (found.0, let enough = found.1 in let many = c.self.invariant.ranks found.0 ∙ ap (count_by (λ v. is_vote v found.0)) c.self.view_is in omega (arith, enough, many))

pub returns-clause-no : goal.returns-clause-no
returns-clause-no c = λ x enough.
    let many = c.self.invariant.ranks x ∙ ap (count_by (λ v. is_vote v x)) c.self.view_is in
    c.any_has_rank.ensures ∙ agree_ranked c.args.quorum x c.self.inside.by_host c.requires (omega (arith, enough, many))
