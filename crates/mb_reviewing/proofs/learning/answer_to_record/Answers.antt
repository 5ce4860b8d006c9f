use Rattle.std.proofs.lemmas.Result.{IfOk-weaker}
use Rattle.mb_answer.specs.Records.{right}
use Rattle.mb_answer.proofs.RecordTexts.{refuses_record}
use Rattle.mb_reviewing.specs.Learning.{AnswersLearn}
use Rattle.mb_reviewing.proofs.learning.answer_to_record.Goals as goal

pub returns-in-Ok : goal.returns-in-Ok
returns-in-Ok c = IfOk-weaker c.answer_record.result _ _ (λ a h. right c.in-Ok.record c.in-Ok.ensures h) c.answer_record.ensures

pub returns-in-Err : goal.returns-in-Err
returns-in-Err c = IfOk-weaker c.refusal.result _ _ (λ a h. refuses_record AnswersLearn c.args.text.now c.in-Err.fault a.status a.text.items c.in-Err.ensures h) c.refusal.ensures
