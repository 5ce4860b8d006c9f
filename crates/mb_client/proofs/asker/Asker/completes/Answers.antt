use Rattle.std.proofs.Common.{◌≡◌, ◌+◌, nat_le, ap, sym, ◌∙◌}
use Rattle.std.specs.Prelude.{if◌then◌else◌}
use Rattle.mb_base.specs.Shapes.{quorum}
use Rattle.mb_client.specs.Replies.{has_host}
use Rattle.mb_client.proofs.CountedReplies.{agreeing_counted}
use Rattle.mb_client.proofs.asker.Asker.completes.Goals as goal
use Rattle.mb_client.proofs.asker.Asker.completes.Goals.{then-has, else-has}

pub returns : goal.returns
returns c = λ s secret client a stands.
    let r = c.args.reply.now in
    let before = c.agreeing-counted.result in
    let has = c.has.ensures a.replies stands.replies ∙ ap (has_host a.replies) c.host.ensures in
    let more : c.if-has.matching ≡ (if has_host a.replies r.host then before else before + 1) = elim c.if-has.branch [
      | then-has w ↦ rw (sym has ∙ w.if-has.true) w.matching-is
      | else-has w ↦ rw (sym has ∙ w.if-has.false) w.matching-is
    ] in
    let now = agreeing_counted a.replies r before c.if-has.matching (c.agreeing-counted.ensures.counts a.replies stands.replies) more in
    ap (λ q. nat_le q c.if-has.matching) (c.quorum.ensures ∙ ap quorum stands.shape) ∙ ap (nat_le (quorum s)) now
