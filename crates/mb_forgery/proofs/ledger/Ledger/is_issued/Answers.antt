use Rattle.std.proofs.Common.{rules, arith, ◌≡◌, ◌<◌, ◌-◌, Some, length, slice_get, refl, ap, sym, subst, ◌∙◌}
use Rattle.std.proofs.lemmas.Option.{slice_get_read}
use Rattle.mb_base.specs.Shapes.{IsShape, host_count}
use Rattle.mb_forgery.specs.Places.{is_there}
use Rattle.mb_forgery.proofs.Kept.{zero_not_issued, stands_issued}
use Rattle.mb_forgery.proofs.ledger.Ledger.is_issued.Goals as goal

pub returns-then-counter-eq0 : goal.returns-then-counter-eq0
returns-then-counter-eq0 c s stamps asked tagged says cert keeps fits is =
    let shape : IsShape c.args.self.now.shape = search rules in
    zero_not_issued s (subst IsShape keeps.shape shape) c.args.self.now stamps asked tagged keeps c.args.host says fits cert c.args.counter c.if-counter-eq0.true

pub returns : goal.returns
returns c s stamps asked tagged says cert keeps fits is =
    let self = c.args.self.now in
    let shape : IsShape self.shape = search rules in
    let place : c.from.result < length self.stamps.items = omega (arith, c.from.ensures, c.requires, self.stamps_len) in
    let there : slice_get self.stamps.items c.args.host ≡ Some c.index.result.now =
    ap (slice_get self.stamps.items) (sym c.from.ensures) ∙ slice_get_read self.stamps.items _ c.from.result c.index.result.now refl place c.index.ensures in
    c.stands_at.ensures
    ∙ ap (λ l. is_there (slice_get l (c.args.counter - 1)) c.args.bare.now) c.as_slice.ensures.value
    ∙ ap (is_there (slice_get c.index.result.now.items (c.args.counter - 1))) is
    ∙ stands_issued s (subst IsShape keeps.shape shape) self stamps asked tagged keeps c.args.host says fits cert c.args.counter c.index.result.now
    (subst (λ z. c.args.host < host_count z) keeps.shape c.requires) c.if-counter-eq0.false there
