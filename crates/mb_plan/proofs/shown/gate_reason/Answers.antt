use Rattle.std.proofs.Common.{◌≡◌, ◌∙◌, ◌&&◌, Bool, true, false, sym}
use Rattle.std.specs.Prelude.{◌==◌}
use Rattle.mb_parts.specs.Claims.{Claim}
use Rattle.mb_parts.specs.Certificates.{inner_valid}
use Rattle.mb_msg.specs.Stamps.{bare_of_shown, ui_of_shown}
use Rattle.mb_gate.specs.SenderLogs.{may_stand}
use Rattle.mb_model.specs.Verified.{verifies}
use Rattle.mb_model.specs.UsableLogs.{entry_claim}
use Rattle.mb_plan.specs.Behind.{is_next}
use Rattle.mb_plan.proofs.AtGate.{at_gate}
use Rattle.mb_plan.proofs.shown.gate_reason.Goals as goal

pub returns-then-not-takes-clause-reason : goal.returns-then-not-takes-clause-reason
returns-then-not-takes-clause-reason c = λ log r shape sender closed.
    let e = c.args.entry.now in
    let valid : Claim → Bool = verifies c.args.usig.now.secret in
    let next : is_next log (ui_of_shown e).counter ≡ true = rw (← c.ui-ui.ensures) (sym (c.is_next.ensures log r) ∙ c.if-not-is_next.false) in
    let claimed : ((ui_of_shown e).host == log.sender && valid (entry_claim log.sender e)) ≡ true =
    rw (sender, ← c.ui-ui.ensures, ← c.in_ok-bare.ensures, ← c.as_slice.ensures.value) (sym c.is_claimed.ensures ∙ c.if-not-is_claimed.false) in
    let inner : c.shown_inner_valid-inner.result ≡ inner_valid log.shape valid (bare_of_shown e) = rw shape c.shown_inner_valid-inner.ensures in
    let says : false ≡ may_stand log c.shown_inner_valid-inner.result (bare_of_shown e) = sym c.if-not-takes.true ∙ c.takes.ensures.answer log r closed next in
    at_gate valid log e c.shown_inner_valid-inner.result false next claimed inner says

pub returns-clause-reason : goal.returns-clause-reason
returns-clause-reason c = λ log r shape sender closed.
    let e = c.args.entry.now in
    let valid : Claim → Bool = verifies c.args.usig.now.secret in
    let next : is_next log (ui_of_shown e).counter ≡ true = rw (← c.ui-ui.ensures) (sym (c.is_next.ensures log r) ∙ c.if-not-is_next.false) in
    let claimed : ((ui_of_shown e).host == log.sender && valid (entry_claim log.sender e)) ≡ true =
    rw (sender, ← c.ui-ui.ensures, ← c.in_ok-bare.ensures, ← c.as_slice.ensures.value) (sym c.is_claimed.ensures ∙ c.if-not-is_claimed.false) in
    let inner : c.shown_inner_valid-inner.result ≡ inner_valid log.shape valid (bare_of_shown e) = rw shape c.shown_inner_valid-inner.ensures in
    let says : true ≡ may_stand log c.shown_inner_valid-inner.result (bare_of_shown e) = sym c.if-not-takes.false ∙ c.takes.ensures.answer log r closed next in
    at_gate valid log e c.shown_inner_valid-inner.result true next claimed inner says
