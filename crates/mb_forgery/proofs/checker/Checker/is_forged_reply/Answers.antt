use Rattle.std.proofs.Common.{◌≡◌, ◌<◌, ◌++◌, false, Bool, get_or, length, slice_get, refl, sym, ap, subst, ◌∙◌, arith}
use Rattle.std.specs.Int.{w8}
use Rattle.std.proofs.lemmas.Option.{unwrap_or-slice_get, slice_get_read, same_Some}
use Rattle.mb_base.specs.Shapes.{Bytes, client_count}
use Rattle.mb_base.specs.Spelling.{number}
use Rattle.mb_usig.specs.Tags.{same_bytes, reply_text, signed_reply, reply_tag}
use Rattle.mb_usig.specs.Trusted.{Signer}
use Rattle.mb_msg.specs.Fits.{FitsReply, FitsFields}
use Rattle.mb_msg.specs.declared.message.Message.TheVariants as message
use Rattle.mb_schedule.specs.Limits.{is_faulty}
use Rattle.mb_world_model.specs.World.{stamps}
use Rattle.mb_world_model.specs.Forged.{was_tagged}
use Rattle.mb_forgery.proofs.TagLaws.{faulty_clean, made_clean, verified_decides}
use Rattle.mb_forgery.proofs.checker.Checker.is_forged_reply.Goals.{then-self-from-via-then-self-from, then-self-from-via-else-self-from+in_ok-was_tagged+then-branch}
use Rattle.mb_forgery.proofs.checker.Checker.is_forged_reply.Goals as goal

pub returns-then-self-from : goal.returns-then-self-from
returns-then-self-from c s w a =
    let m = c.args.m.now in
    let faulty : is_faulty s m.host ≡ get_or c.args.self.now.faulty_hosts.now c.from.result false =
    unwrap_or-slice_get s.faulty_hosts m.host false ∙ ap (λ l. get_or l m.host false) (sym a.hosts) ∙ ap (λ i. get_or c.args.self.now.faulty_hosts.now i false) (sym c.from.ensures) in
    let verified : Bool = same_bytes m.tag (reply_tag s.secret m.host m.client m.seq m.pos m.result) in
    elim c.then-self-from.branch [
      | then-self-from-via-then-self-from x ↦ faulty_clean verified (is_faulty s m.host) (was_tagged s w (message.Reply m)) (faulty ∙ x.if-self-from.true)
      | then-self-from-via-else-self-from+in_ok-was_tagged+then-branch x ↦ made_clean verified (is_faulty s m.host) (was_tagged s w (message.Reply m))
          (ap (was_tagged s w) (sym c.requires.1) ∙ sym (x.in_ok-was_tagged.ensures s.shape (stamps s w) w.asked w.tagged a.ledger) ∙ x.if-branch.true)
    ]

pub returns : goal.returns
returns c s w a =
    let m = c.args.m.now in
    let self = c.args.self.now in
    let fits : FitsReply self.shape.now m = subst (FitsFields self.shape.now) c.requires.1 c.requires.0.fields in
    let place : c.from-2.result < length self.pens.now = omega (arith, fits.client, c.from-2.ensures, self.pens_len) in
    let pen : get_or self.pens.now c.from-2.result c.index-self-from.result ≡ record { client = m.client; secret = s.secret } = sym c.index-self-from.is ∙ same_Some _ _
    (sym (slice_get_read self.pens.now _ c.from-2.result c.index-self-from.result refl place c.index-self-from.is) ∙ ap (slice_get self.pens.now) c.from-2.ensures ∙ a.pens m.client (subst (λ z. m.client < client_count z) a.shape fits.client)) in
    let text : Bytes = reply_text m.client m.seq m.pos m.result in
    let front : c.put_u8.new.out.items ≡ number w8 m.host = c.in_ok-put_u8.ensures.ok ∙ ap (λ l. l ++ number w8 m.host) c.new-signed.ensures.items in
    let rest : c.as_slice-2.result.now ≡ text = c.as_slice-2.ensures.value ∙ c.in_ok-rest.ensures ∙ ap (reply_text m.client m.seq m.pos) c.as_slice.ensures in
    let signed : c.as_slice-3.result.now ≡ number w8 m.host ++ text =
    c.as_slice-3.ensures.value ∙ c.in_ok-extend_from_slice.ensures.items ∙ ap (λ l. l ++ c.as_slice-2.result.now) front ∙ ap (λ l. number w8 m.host ++ l) rest in
    let faulty : is_faulty s m.host ≡ get_or self.faulty_hosts.now c.from.result false =
    unwrap_or-slice_get s.faulty_hosts m.host false ∙ ap (λ l. get_or l m.host false) (sym a.hosts) ∙ ap (λ i. get_or self.faulty_hosts.now i false) (sym c.from.ensures) in
    c.verify_reply.ensures.reply m.host text signed
    ∙ ap (λ (p : Signer). same_bytes m.tag (signed_reply p.secret m.host p.client text)) pen
    ∙ verified_decides (same_bytes m.tag (reply_tag s.secret m.host m.client m.seq m.pos m.result)) (is_faulty s m.host) (was_tagged s w (message.Reply m)) (faulty ∙ c.if-self-from.false)
    (ap (was_tagged s w) (sym c.requires.1) ∙ sym (c.in_ok-was_tagged.ensures s.shape (stamps s w) w.asked w.tagged a.ledger) ∙ c.if-branch.false)
