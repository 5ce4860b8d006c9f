use Rattle.std.proofs.Common.{◌≤◌, ◌<◌, List, subst, ap, ◌∙◌, arith}
use Rattle.std.proofs.lemmas.Result.{IfOk-weaker}
use Rattle.mb_base.specs.Shapes.{Bytes, host_count}
use Rattle.mb_audit.specs.Stamps.{texts}
use Rattle.mb_audit.specs.Verdicts.{IsVerdict}
use Rattle.mb_reviewing.specs.Audits.{no_host, judged}
use Rattle.mb_reviewing.proofs.auditing.answer_record.Goals as goal

pub returns-then-host-from : goal.returns-then-host-from
returns-then-host-from c =
    let none : host_count c.args.written.config.shape ≤ c.args.host = omega (arith, c.if-host-from.true, c.from.ensures, c.n.ensures) in
    IfOk-weaker c.usage.result _ _ (λ a h. no_host none h.0 h.1) c.usage.ensures

pub returns : goal.returns
returns c =
    let shape = c.args.written.config.shape in
    let secret = c.args.written.config.secret in
    let below : c.args.host < host_count shape = omega (arith, c.if-host-from.false, c.from.ensures, c.n.ensures) in
    let found = c.in_ok-verdict.verdict in
    let keyed = subst (λ (k : Bytes). IsVerdict shape k (texts c.as_slice.result.now) c.args.host found) (ap (λ u. u.secret) c.new-usig.ensures) c.in_ok-verdict.ensures in
    let given = subst (λ (l : List Bytes). IsVerdict shape secret l c.args.host found) (ap texts c.as_slice.ensures.value ∙ c.in_ok-given.ensures) keyed in
    judged found below given c.status_of.ensures (ap (λ v. v.items) c.into_bytes.ensures.value ∙ c.in_ok-text.ensures)
