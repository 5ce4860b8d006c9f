use Rattle.mb_msg.specs.declared.message.Message.TheVariants.{Request}
use Rattle.mb_msg.proofs.Sizes.{small_request}
use Rattle.mb_cluster.proofs.HearingLemmas.{none_agree}
use Rattle.mb_cluster.proofs.SizeLemmas.{spelled_some}
use Rattle.mb_cluster.proofs.listener.Listener.ask.Goals as goal

pub encode_own-requires : goal.encode_own-requires
encode_own-requires c = small_request c.args.self.now.shape c.in_ok-request.request (rw c.args.self.now.one_shape at c.in_ok-request.ensures.fits)

pub returns-clause-some : goal.returns-clause-some
returns-clause-some c = rw c.in_ok-bytes.ensures (spelled_some (Request c.in_ok-request.request))

pub returns-clause-short : goal.returns-clause-short
returns-clause-short c = rw c.in_ok-bytes.ensures ((small_request c.args.self.now.shape c.in_ok-request.request (rw c.args.self.now.one_shape at c.in_ok-request.ensures.fits)).size)

pub returns-clause-stands : goal.returns-clause-stands
returns-clause-stands c = λ s secret side listens.
    record { held = listens.held; asker = c.in_ok-request.ensures.stands s secret 0 side.asker listens.asker; most = none_agree }
