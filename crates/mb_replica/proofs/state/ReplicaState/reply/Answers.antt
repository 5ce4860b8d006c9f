use Rattle.std.proofs.Common.{◌≡◌, ◌∙◌, ap, sym, subst, length}
use Rattle.mb_parts.specs.Fits.{FitsText}
use Rattle.mb_msg.proofs.Sizes.{small_reply}
use Rattle.mb_usig.proofs.Laws.{length-signed_reply}
use Rattle.mb_replica.proofs.state.ReplicaState.reply.Goals as goal

-- src/executing.rt
pub returns-clause-fits : goal.returns-clause-fits
returns-clause-fits g c =
    let a = c.args.self.now.protocol in
    let text : c.from_vec.result ≡ c.args.answer.now = c.from_vec.ensures ∙ c.in_ok-from_slice.ensures.items in
    small_reply a.shape _ (record {
      host = a.host_in;
      client = c.requires.client;
      seq = c.requires.seq;
      pos = c.requires.place;
      result = subst FitsText (sym text) c.requires.short;
      tag = ap length c.tag_reply.ensures ∙ length-signed_reply a.usig.secret a.usig.host c.args.client c.as_slice.result.now;
    })
