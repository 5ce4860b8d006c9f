use Rattle.std.proofs.Common.{◌≡◌, ◌<◌, Some, length, slice_get, slice_set, refl, sym, ap, subst, ◌∙◌, arith}
use Rattle.std.proofs.lemmas.Option.{slice_get_read}
use Rattle.mb_base.specs.Spelling.{IsBytes}
use Rattle.mb_forgery.proofs.Kept.{keeps_stamp}
use Rattle.mb_forgery.proofs.ledger.Ledger.note_stamp.Goals as goal

pub returns-clause-keeps : goal.returns-clause-keeps
returns-clause-keeps c stamps asked tagged k =
    let self = c.args.self.now in
    let before = c.index_mut.result.now in
    let after = c.push.new.self in
    let place : c.from.result < length self.stamps.items = omega (arith, c.from.ensures, c.requires, self.stamps_len) in
    let at : slice_get self.stamps.items c.args.host ≡ Some before =
    ap (slice_get self.stamps.items) (sym c.from.ensures) ∙ slice_get_read self.stamps.items _ c.from.result before refl place c.index_mut.ensures.value in
    keeps_stamp self.shape self _ stamps asked tagged k refl c.args.host before after c.args.bare c.requires (subst IsBytes c.as_slice.ensures c.are_bytes.ensures) at c.in_ok-push.ensures.items
    (ap (λ i. slice_set self.stamps.items i after) c.from.ensures) refl refl
