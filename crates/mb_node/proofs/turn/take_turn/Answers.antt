use Rattle.std.proofs.Common.{◌≡◌, ◌+◌, ◌∙◌, List, length, refl, ap, sym, subst}
use Rattle.std.specs.Prelude.{◌%◌, ◌^◌}
use Rattle.std.proofs.lemmas.Result.{err_from_is_err_and}
use Rattle.mb_base.specs.Shapes.{Bytes}
use Rattle.mb_msg.specs.declared.event.Sent.{Sent}
use Rattle.mb_model.specs.Histories.{History}
use Rattle.mb_model.specs.HostStep.{transition}
use Rattle.mb_edge.specs.Told.{with_more}
use Rattle.mb_node.specs.Recording.{entry_with, lines_with, lines_at}
use Rattle.mb_node.specs.Sends.{numbered}
use Rattle.mb_node.specs.Outside.{SendsPart}
use Rattle.mb_node.proofs.Faults.{link_no_budget, sink_no_budget, link_alone, sink_alone}
use Rattle.mb_node.proofs.Turning.{cut_none, turned_err, lines_are, sends_are, showing_is, turned, cut_sending, cut_writing}
use Rattle.mb_node.proofs.turn.take_turn.Goals as goal

pub returns-in_err-step-clause-stands : goal.returns-in_err-step-clause-stands
returns-in_err-step-clause-stands g c = λ me d n serves rep whole hosts host number.
    let p = err_from_is_err_and c.from_residual.result c.from_residual.ensures.1 in
    turned_err me d n c.args.event _ _ c.step_of.new.replica c.args.outbox.now c.from_residual.result p.0 p.1 (λ k is. absurd (cc (p.2, is))) (cut_none me d c.args.event n _ _ c.step_of.new.replica.halted refl refl)

pub returns-in_err-lines-clause-stands : goal.returns-in_err-lines-clause-stands
returns-in_err-lines-clause-stands g c = λ me d n serves rep whole hosts host number.
    let p = err_from_is_err_and c.from_residual-in_err-lines.result c.from_residual-in_err-lines.ensures.1 in
    turned_err me d n c.args.event _ _ c.step_of.new.replica c.args.outbox.now c.from_residual-in_err-lines.result p.0 p.1 (λ k is. absurd (cc (p.2, is))) (cut_none me d c.args.event n _ _ c.step_of.new.replica.halted refl refl)

pub returns-in_err-write_all-clause-stands : goal.returns-in_err-write_all-clause-stands
returns-in_err-write_all-clause-stands g c = λ me d n serves rep whole hosts host number.
    let p = err_from_is_err_and c.from_residual-in_err-write_all.result c.from_residual-in_err-write_all.ensures.1 in
    let e = c.args.event in
    let s = c.in_ok-step.step in
    let r = c.step_of.new.replica in
    let outbox = c.args.outbox.now in
    let steps = c.in_ok-step.ensures.stands me d serves rep whole in
    let text : Bytes = c.as_slice.result.now in
    let made : text ≡ lines_with (entry_with e s.sent) c.is_stopping.result = c.as_slice.ensures.value ∙ c.in_ok-lines.ensures ∙ ap (λ (l : List Sent). lines_with (entry_with e l) c.is_stopping.result) c.as_slice-sent.ensures in
    let lines : text ≡ lines_at me d e = lines_are me d e s r steps c.is_stopping.result text c.is_stopping.ensures made in
    turned_err me d n e _ _ r outbox c.from_residual-in_err-write_all.result p.0 p.1 (λ k is. sink_no_budget c.in_err-write_all.field-0.0 k (sym p.2 ∙ is))
    (cut_writing me d e s r steps n outbox.hosts outbox.host _ _ text lines (sends_are me d e s r steps outbox.hosts outbox.host n hosts host) c.in_ok-step.ensures.runs c.in_err-write_all.ensures.part refl)

pub returns-in_err-send_all-clause-stands : goal.returns-in_err-send_all-clause-stands
returns-in_err-send_all-clause-stands g c = λ me d n serves rep whole hosts host number.
    let p = err_from_is_err_and c.from_residual-in_err-send_all.result c.from_residual-in_err-send_all.ensures.1 in
    let e = c.args.event in
    let s = c.in_ok-step.step in
    let r = c.step_of.new.replica in
    let outbox = c.args.outbox.now in
    let steps = c.in_ok-step.ensures.stands me d serves rep whole in
    let text : Bytes = c.as_slice.result.now in
    let made : text ≡ lines_with (entry_with e s.sent) c.is_stopping.result = c.as_slice.ensures.value ∙ c.in_ok-lines.ensures ∙ ap (λ (l : List Sent). lines_with (entry_with e l) c.is_stopping.result) c.as_slice-sent.ensures in
    let lines : text ≡ lines_at me d e = lines_are me d e s r steps c.is_stopping.result text c.is_stopping.ensures made in
    let part = subst (λ (l : List Sent). SendsPart (numbered outbox.hosts outbox.host n l) (g.L.Link.seen c.args.link.now).sent (g.L.Link.seen c.send_all.new.link).sent) c.as_slice-sent.ensures (c.in_err-send_all.ensures.sends n number) in
    turned_err me d n e _ _ r c.send_all.new.self c.from_residual-in_err-send_all.result p.0 p.1 (λ k is. link_no_budget c.in_err-send_all.field-0.0 k (sym p.2 ∙ is))
    (cut_sending me d e s r steps n outbox.hosts outbox.host _ _ text lines (sends_are me d e s r steps outbox.hosts outbox.host n hosts host) c.in_ok-step.ensures.runs c.in_ok-write_all.ensures.all part)

pub returns-clause-stands : goal.returns-clause-stands
returns-clause-stands g c = λ me d n serves rep whole hosts host number.
    let e = c.args.event in
    let s = c.in_ok-step.step in
    let r = c.step_of.new.replica in
    let outbox = c.args.outbox.now in
    let steps = c.in_ok-step.ensures.stands me d serves rep whole in
    let text : Bytes = c.as_slice.result.now in
    let made : text ≡ lines_with (entry_with e s.sent) c.is_stopping.result = c.as_slice.ensures.value ∙ c.in_ok-lines.ensures ∙ ap (λ (l : List Sent). lines_with (entry_with e l) c.is_stopping.result) c.as_slice-sent.ensures in
    let lines : text ≡ lines_at me d e = lines_are me d e s r steps c.is_stopping.result text c.is_stopping.ensures made in
    let sent = c.in_ok-send_all.ensures.sends n number ∙ ap (λ (l : List Sent). with_more (g.L.Link.seen c.args.link.now).sent (numbered outbox.hosts outbox.host n l)) c.as_slice-sent.ensures in
    let count = c.in_ok-send_all.ensures.number n number ∙ ap (λ (l : List Sent). (n + length l) % 2 ^ 32) c.as_slice-sent.ensures in
    let later : History = (transition me d e).left.history in
    let showing = showing_is me d e s r steps c.of-before.result c.of.result c.shown.result (c.of-before.ensures me d rep) (c.of.ensures me later steps.represents) c.shown.ensures in
    turned me d e s r steps n outbox.hosts outbox.host _ _ text lines (sends_are me d e s r steps outbox.hosts outbox.host n hosts host) c.send_all.new.self _ c.in_ok-write_all.ensures.all sent count c.is_stopping.ensures
    showing

pub returns-in_err-step-clause-alone : goal.returns-in_err-step-clause-alone
returns-in_err-step-clause-alone g c =
    let p = err_from_is_err_and c.from_residual.result c.from_residual.ensures.1 in
    rw (p.1, p.2) (λ of. of)

pub returns-in_err-lines-clause-alone : goal.returns-in_err-lines-clause-alone
returns-in_err-lines-clause-alone g c =
    let p = err_from_is_err_and c.from_residual-in_err-lines.result c.from_residual-in_err-lines.ensures.1 in
    rw (p.1, p.2) (λ of. of)

pub returns-in_err-write_all-clause-alone : goal.returns-in_err-write_all-clause-alone
returns-in_err-write_all-clause-alone g c =
    let p = err_from_is_err_and c.from_residual-in_err-write_all.result c.from_residual-in_err-write_all.ensures.1 in
    rw (p.1, p.2) (sink_alone c.in_err-write_all.field-0.0)

pub returns-in_err-send_all-clause-alone : goal.returns-in_err-send_all-clause-alone
returns-in_err-send_all-clause-alone g c =
    let p = err_from_is_err_and c.from_residual-in_err-send_all.result c.from_residual-in_err-send_all.ensures.1 in
    rw (p.1, p.2) (link_alone c.in_err-send_all.field-0.0)
