use Rattle.std.proofs.Common.{◌+◌, sym, subst, set, Some, refl}
use Rattle.mb_votes.specs.Counted.{IsCounted}
use Rattle.mb_votes.proofs.Ranks.{added, added_view}
use Rattle.mb_votes.proofs.ballot.Ballot.add.Goals as goal

pub invariant_of-self : goal.invariant_of-self
invariant_of-self c =
    subst (λ i. IsCounted (set c.self.inside.by_host i (Some (record { vote = c.args.vote; rank = c.matching-rank.result + 1 })))) (sym c.from.ensures)
    (added c.self.inside.by_host c.args.self.now c.args.host c.args.vote c.self.view_is c.matching-rank.result c.self.invariant c.requires.host c.requires.first c.matching-rank.ensures.value)

pub returns-clause-added : goal.returns-clause-added
returns-clause-added c =
    rw c.from.ensures (added_view c.self.inside.by_host c.args.self.now c.args.host c.args.vote c.self.view_is (record { vote = c.args.vote; rank = c.matching-rank.result + 1 }) refl)
