use Rattle.std.proofs.Common.{Err, refl, sym, subst, ap, ◌∙◌}
use Rattle.std.proofs.lemmas.Result.{IfOk-weaker}
use Rattle.mb_kv.specs.Laws.StateLaws.{no_keys_is_state}
use Rattle.mb_node.specs.Retracing.{Retraces}
use Rattle.mb_node.specs.declared.retracing.RetraceStop.{RetraceStop}
use Rattle.mb_serving.specs.Records.{recorded_host, same_text, same, differs}
use Rattle.mb_serving.proofs.retracing.answer_record.Goals as goal

pub returns-in-Ok : goal.returns-in-Ok
returns-in-Ok c =
    let is = c.in-Ok.ensures (recorded_host c.args.written.now) (record { machine = refl; snapshots = refl; first = no_keys_is_state }) (sym c.new.ensures) (record { shape = refl; host = refl; secret = refl }) in
    IfOk-weaker c.same.result _ _ (λ a h. same is.0 h.0 (h.1 ∙ ap same_text is.1)) c.same.ensures

pub returns-in-Err-Differs : goal.returns-in-Err-Differs
returns-in-Err-Differs c =
    let me = recorded_host c.args.written.now in
    let told = c.in-Err-Differs.ensures me (record { machine = refl; snapshots = refl; first = no_keys_is_state }) (sym c.new.ensures) (record { shape = refl; host = refl; secret = refl }) in
    let is = subst (λ (s : RetraceStop). Retraces me c.args.written.now.entries (Err s)) c.in-Err-Differs.field-0-is told in
    IfOk-weaker c.differs.result _ _ (λ a h. differs c.in-Err-Differs.event c.in-Err-Differs.recorded c.in-Err-Differs.found is h.0 h.1) c.differs.ensures
