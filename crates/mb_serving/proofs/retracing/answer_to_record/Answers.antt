use Rattle.std.proofs.lemmas.Result.{IfOk-weaker}
use Rattle.mb_answer.specs.Records.{right}
use Rattle.mb_answer.proofs.RecordTexts.{host_below, refuses_record}
use Rattle.mb_serving.specs.Records.{AnswersRecord}
use Rattle.mb_serving.proofs.retracing.answer_to_record.Goals as goal

pub answer_record-requires : goal.answer_record-requires
answer_record-requires c = host_below c.args.text.now c.in-Ok.record c.in-Ok.ensures

pub returns-in-Ok : goal.returns-in-Ok
returns-in-Ok c = IfOk-weaker c.answer_record.result _ _ (λ a h. right c.in-Ok.record c.in-Ok.ensures h) c.answer_record.ensures

pub returns-in-Err : goal.returns-in-Err
returns-in-Err c = IfOk-weaker c.refusal.result _ _ (λ a h. refuses_record AnswersRecord c.args.text.now c.in-Err.fault a.status a.text.items c.in-Err.ensures h) c.refusal.ensures
