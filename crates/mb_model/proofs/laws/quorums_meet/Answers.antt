use Rattle.mb_model.proofs.Quorums.{quorums_meet, quorum_has_correct}
use Rattle.mb_model.proofs.laws.quorums_meet.Goals as goal

pub returns : goal.returns
returns c = record { meet = quorums_meet; correct = quorum_has_correct }
