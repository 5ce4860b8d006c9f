use Rattle.std.proofs.Common.{◌+◌, ◌<◌, ◌^◌, length, map, refl, sym, ap, subst, ◌∙◌, arith}
use Rattle.std.proofs.lemmas.List.{length-map}
use Rattle.mb_parts.specs.Bares.{batch_digest}
use Rattle.mb_usig.specs.Tags.{is_certified}
use Rattle.mb_base.specs.Shapes.{Bytes}
use Rattle.mb_msg.specs.Bodies.{FitsBody}
use Rattle.mb_msg.specs.Fits.{FitsOpenBody}
use Rattle.mb_msg.specs.declared.stamped.Shown.TheVariants as shown
use Rattle.std.proofs.lemmas.Result.{on_ok_weaker}
use Rattle.mb_learn.proofs.HeldMore.{holds_plan}
use Rattle.mb_learn.proofs.Opening.{open_short, open_unstamped, open_false, open_right, open_tags}
use Rattle.mb_learn.proofs.heard.Heard.hold_open.Goals as goal

pub returns-in_default : goal.returns-in_default
returns-in_default c = open_short c.args.self.now c.args.m.now c.requires.ready c.in_default.not-Whole

pub returns-then-not-verify_ui : goal.returns-then-not-verify_ui
returns-then-not-verify_ui c =
    open_unstamped c.args.self.now c.args.m.now c.requires.ready
    (sym (c.verify_ui.ensures ∙ ap (λ (b : Bytes). is_certified c.args.self.now.usig.secret c.args.m.now.ui.host c.args.m.now.ui.counter b c.args.m.now.ui.cert) c.requires.bare) ∙ c.if-not-verify_ui.true)

pub returns-then-not-branch : goal.returns-then-not-branch
returns-then-not-branch c = open_false c.args.self.now c.args.m.now c.requires.ready c.in-Whole.body c.in-Whole.is (sym c.in_ok-check_open.ensures ∙ c.if-not-branch.true)

pub returns : goal.returns
returns c =
    let m = c.args.m.now in
    let t = c.args.self.now in
    let stamped = sym (c.verify_ui.ensures ∙ ap (λ (b : Bytes). is_certified t.usig.secret m.ui.host m.ui.counter b m.ui.cert) c.requires.bare) ∙ c.if-not-verify_ui.false in
    let plans = sym c.in_ok-check_open.ensures ∙ c.if-not-branch.false in
    let fits : FitsOpenBody t.shape m.evidence c.in-Whole.body = subst (FitsBody (FitsOpenBody t.shape m.evidence)) c.in-Whole.is c.requires.fits.body in
    let ends = c.requires.fits.evidence.end in
    let as_many = length-map c.in-Whole.body.batches batch_digest in
    let low : c.in-Whole.body.stable.pos + length (map batch_digest c.in-Whole.body.batches) < 2 ^ 63 = omega (arith, as_many, fits.1.0, fits.1.1, ends.0, ends.1.1) in
    on_ok_weaker c.hold_plan.result
    (λ holds. holds_plan t c.hold_plan.new.self (shown.Open m) m c.in-Whole.body refl c.in-Whole.is c.requires.ready holds (open_right t m c.requires.ready c.in-Whole.body c.in-Whole.is stamped plans)
    (open_tags t m c.requires.ready c.in-Whole.body c.in-Whole.is plans) fits.0.1 low) c.hold_plan.ensures
