use Rattle.std.proofs.Common.{◌∙◌, sym, ap, Option}
use Rattle.mb_parts.specs.declared.certificates.Evidence.{Evidence}
use Rattle.mb_model.specs.Held.{is_news}
use Rattle.mb_refinement.proofs.Changes.{change_answers, news_held}
use Rattle.mb_replica.proofs.state.ReplicaState.hold_news.Goals as goal

-- src/holding.rt
pub returns-then-is_news-clause-holds : goal.returns-then-is_news-clause-holds
returns-then-is_news-clause-holds g c = λ me d r.
    let t = c.args.self.now.protocol.change in
    news_held me t c.hold_evidence.new.self d c.args.evidence
    (ap (λ (held : Option Evidence). is_news me d held c.args.evidence) (change_answers me t d r.tables.change).evidence ∙ sym (c.if-is_news.ensures me d r)) c.hold_evidence.ensures.stands
