use Rattle.std.proofs.Common.{ap, ◌∙◌}
use Rattle.mb_base.specs.Shapes.{Bytes}
use Rattle.mb_msg.specs.declared.message.Message.TheVariants.{Stop}
use Rattle.mb_msg.specs.Spelling.{spelling}
use Rattle.mb_cluster.proofs.SizeLemmas.{spelled_some, small_stop, stop_tag_length}
use Rattle.mb_cluster.proofs.stopping.stop_message.Goals as goal

pub encode_own-requires : goal.encode_own-requires
encode_own-requires c = small_stop c.args.shape.now (record { tag = c.tag_stop-tag.result }) (rw (c.tag_stop-tag.ensures, c.new.ensures) (stop_tag_length c.args.secret.now))

pub returns-clause-bytes : goal.returns-clause-bytes
returns-clause-bytes c = c.in_ok-bytes.ensures ∙ ap (λ (t : Bytes). spelling (Stop (record { tag = t }))) (rw c.new.ensures at c.tag_stop-tag.ensures)

pub returns-clause-some : goal.returns-clause-some
returns-clause-some c = rw c.in_ok-bytes.ensures (spelled_some (Stop (record { tag = c.tag_stop-tag.result })))

pub returns-clause-short : goal.returns-clause-short
returns-clause-short c = rw c.in_ok-bytes.ensures ((small_stop c.args.shape.now (record { tag = c.tag_stop-tag.result }) (rw (c.tag_stop-tag.ensures, c.new.ensures) (stop_tag_length c.args.secret.now))).size)
