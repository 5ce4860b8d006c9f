use Rattle.std.proofs.Common.{◌≡◌, Some, length, refl, sym, ap, ◌∙◌}
use Rattle.std.specs.Prelude.{slice_index_or, List}
use Rattle.std.proofs.lemmas.Option.{slice_get_read, get_or_from_slice_get}
use Rattle.mb_base.specs.declared.shape.Shape.{Shape}
use Rattle.mb_msg.specs.Reading.{message_of}
use Rattle.mb_frag.specs.Held.{Held, nothing_held}
use Rattle.mb_cluster.specs.Hearing.{joined, reply_in, reply_or_none}
use Rattle.mb_cluster.proofs.HearingLemmas.{heard_whole}
use Rattle.mb_cluster.proofs.listener.Listener.hear.Goals as goal

pub returns-in-Some-2-clause-stands : goal.returns-in-Some-2-clause-stands
returns-in-Some-2-clause-stands c = λ s secret side listens.
    let items = c.join.new.joiners.items in
    let host = c.in-Some.host in
    let x = c.index.result.now in
    let made = c.in-Some.ensures in
    let datagram = c.args.datagram.now in
    let elem : slice_index_or items host nothing_held ≡ x = get_or_from_slice_get items host x nothing_held (slice_get_read items (length items) host x refl made.within c.index.ensures) in
    let whole : (joined c.args.self.now.joiners.items datagram).1 ≡ Some c.message.result.now = made.message ∙ ap (λ (h : Held). Some h.bytes) elem ∙ ap Some (sym c.message.ensures) in
    let shape : c.args.self.now.shape ≡ s = sym c.args.self.now.one_shape ∙ listens.asker.shape in
    let read : Some c.in-Some-2.reply ≡ reply_or_none (message_of s c.message.result.now) = sym c.in-Some-2.is ∙ c.in_ok-reply.ensures.reply ∙ ap (λ (z : Shape). reply_or_none (message_of z c.message.result.now)) shape in
    let is : reply_in s (joined side.held datagram).1 ≡ Some c.in-Some-2.reply = heard_whole s side datagram c.message.result.now (Some c.in-Some-2.reply) c.args.self.now.joiners.items listens.held whole read in
    rw is (c.count.ensures.stands s secret (record side { held = (joined side.held datagram).0 })
    (record { held = made.held ∙ ap (λ (h : List Held). (joined h datagram).0) listens.held; asker = listens.asker; most = listens.most }))

pub returns-in-Some-2-clause-heard : goal.returns-in-Some-2-clause-heard
returns-in-Some-2-clause-heard c = λ s secret side listens.
    let items = c.join.new.joiners.items in
    let host = c.in-Some.host in
    let x = c.index.result.now in
    let made = c.in-Some.ensures in
    let datagram = c.args.datagram.now in
    let elem : slice_index_or items host nothing_held ≡ x = get_or_from_slice_get items host x nothing_held (slice_get_read items (length items) host x refl made.within c.index.ensures) in
    let whole : (joined c.args.self.now.joiners.items datagram).1 ≡ Some c.message.result.now = made.message ∙ ap (λ (h : Held). Some h.bytes) elem ∙ ap Some (sym c.message.ensures) in
    let shape : c.args.self.now.shape ≡ s = sym c.args.self.now.one_shape ∙ listens.asker.shape in
    let read : Some c.in-Some-2.reply ≡ reply_or_none (message_of s c.message.result.now) = sym c.in-Some-2.is ∙ c.in_ok-reply.ensures.reply ∙ ap (λ (z : Shape). reply_or_none (message_of z c.message.result.now)) shape in
    let is : reply_in s (joined side.held datagram).1 ≡ Some c.in-Some-2.reply = heard_whole s side datagram c.message.result.now (Some c.in-Some-2.reply) c.args.self.now.joiners.items listens.held whole read in
    rw is (c.count.ensures.heard s secret (record side { held = (joined side.held datagram).0 })
    (record { held = made.held ∙ ap (λ (h : List Held). (joined h datagram).0) listens.held; asker = listens.asker; most = listens.most }))
