use Rattle.mb_cluster.proofs.HearingLemmas.{none_agree}
use Rattle.mb_cluster.proofs.listener.Listener.make.Goals as goal

pub returns-clause-stands : goal.returns-clause-stands
returns-clause-stands c = record { held = c.in_ok-no_joiners.ensures; asker = c.in_ok-make.ensures; most = none_agree }
