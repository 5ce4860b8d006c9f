use Rattle.std.proofs.Common.{sym, ap, ◌∙◌}
use Rattle.mb_client.specs.Represents.{as_taken}
use Rattle.mb_cluster.proofs.HearingLemmas.{leaves_accepted, leaves_waiting, leaves_bad, leaves_other}
use Rattle.mb_cluster.proofs.listener.Listener.count.Goals as goal

pub returns-in-Accepted-clause-stands : goal.returns-in-Accepted-clause-stands
returns-in-Accepted-clause-stands c = λ s secret side listens.
    let leaves = leaves_accepted s secret side.asker c.args.reply _ c.args.self.now.most (sym (ap as_taken c.in-Accepted.is) ∙ c.take.ensures.answer s secret 0 side.asker listens.asker) in
    record { held = listens.held; asker = c.take.ensures.stands s secret 0 side.asker listens.asker; most = leaves.most listens.most }

pub returns-in-Accepted-clause-heard : goal.returns-in-Accepted-clause-heard
returns-in-Accepted-clause-heard c = λ s secret side listens.
    (leaves_accepted s secret side.asker c.args.reply _ 0 (sym (ap as_taken c.in-Accepted.is) ∙ c.take.ensures.answer s secret 0 side.asker listens.asker)).heard_as

pub returns-in-Waiting-clause-stands : goal.returns-in-Waiting-clause-stands
returns-in-Waiting-clause-stands c = λ s secret side listens.
    let leaves = leaves_waiting s secret side.asker c.args.reply _ c.args.self.now.most (sym (ap as_taken c.in-Waiting.is) ∙ c.take.ensures.answer s secret 0 side.asker listens.asker) in
    record { held = listens.held; asker = c.take.ensures.stands s secret 0 side.asker listens.asker; most = leaves.most listens.most }

pub returns-in-Waiting-clause-heard : goal.returns-in-Waiting-clause-heard
returns-in-Waiting-clause-heard c = λ s secret side listens.
    (leaves_waiting s secret side.asker c.args.reply _ 0 (sym (ap as_taken c.in-Waiting.is) ∙ c.take.ensures.answer s secret 0 side.asker listens.asker)).heard_as

pub returns-in-BadTag-clause-stands : goal.returns-in-BadTag-clause-stands
returns-in-BadTag-clause-stands c = λ s secret side listens.
    let leaves = leaves_bad s secret side.asker c.args.reply c.args.self.now.most (sym (ap as_taken c.in-BadTag.is) ∙ c.take.ensures.answer s secret 0 side.asker listens.asker) in
    record { held = listens.held; asker = c.take.ensures.stands s secret 0 side.asker listens.asker; most = leaves.most listens.most }

pub returns-in-BadTag-clause-heard : goal.returns-in-BadTag-clause-heard
returns-in-BadTag-clause-heard c = λ s secret side listens.
    (leaves_bad s secret side.asker c.args.reply 0 (sym (ap as_taken c.in-BadTag.is) ∙ c.take.ensures.answer s secret 0 side.asker listens.asker)).heard_as

pub returns-in-OtherSeq-clause-stands : goal.returns-in-OtherSeq-clause-stands
returns-in-OtherSeq-clause-stands c = λ s secret side listens.
    let leaves = leaves_other s secret side.asker c.args.reply _ c.args.self.now.most (sym (ap as_taken c.in-OtherSeq.is) ∙ c.take.ensures.answer s secret 0 side.asker listens.asker) in
    record { held = listens.held; asker = c.take.ensures.stands s secret 0 side.asker listens.asker; most = leaves.most listens.most }

pub returns-in-OtherSeq-clause-heard : goal.returns-in-OtherSeq-clause-heard
returns-in-OtherSeq-clause-heard c = λ s secret side listens.
    (leaves_other s secret side.asker c.args.reply _ 0 (sym (ap as_taken c.in-OtherSeq.is) ∙ c.take.ensures.answer s secret 0 side.asker listens.asker)).heard_as
