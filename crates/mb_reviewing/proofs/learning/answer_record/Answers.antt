use Rattle.std.proofs.Common.{List, Err, ap, subst, ◌∙◌}
use Rattle.std.proofs.lemmas.Result.{IfOk-weaker}
use Rattle.mb_base.specs.Shapes.{Bytes}
use Rattle.mb_audit.specs.Stamps.{texts}
use Rattle.mb_learn.specs.declared.learner.LearnStop.{LearnStop}
use Rattle.mb_reviewing.specs.Given.{given_in}
use Rattle.mb_reviewing.specs.Learning.{learnt, differs, differs_text, FirstDiffers, LearnsAll}
use Rattle.mb_reviewing.proofs.LearntAll.{Took, made_empty}
use Rattle.mb_reviewing.proofs.learning.answer_record.Goals as goal

pub returns-in-Ok : goal.returns-in-Ok
returns-in-Ok c =
    let r = c.args.written in
    let took = c.in-Ok.ensures r (made_empty r _ c.in_ok-learner.learner c.new.ensures c.in_ok-learner.ensures) in
    let all : Took r (given_in r.entries) c.learn_all.new.learner = subst (λ (l : List Bytes). Took r l c.learn_all.new.learner) (ap texts c.as_slice.ensures.value ∙ c.in_ok-given.ensures) took in
    IfOk-weaker c.learnt.result _ _ (λ a h. learnt all.0 all.1 h.0 h.1) (c.learnt.ensures r (given_in r.entries) all.0 all.2)

pub returns-in-Err-Differs : goal.returns-in-Err-Differs
returns-in-Err-Differs c =
    let r = c.args.written in
    let stopped = subst (λ (e : LearnStop). LearnsAll r (texts c.as_slice.result.now) (Err e) c.learn_all.new.learner) c.in-Err-Differs.field-0-is (c.in-Err-Differs.ensures r (made_empty r _ c.in_ok-learner.learner c.new.ensures c.in_ok-learner.ensures)) in
    let first = subst (λ (l : List Bytes). FirstDiffers r l stopped.0 c.in-Err-Differs.pos c.in-Err-Differs.certified) (ap texts c.as_slice.ensures.value ∙ c.in_ok-given.ensures) stopped.1 in
    IfOk-weaker c.differs.result _ _ (λ a h. differs stopped.0 c.in-Err-Differs.pos c.in-Err-Differs.certified first h.0 (h.1 ∙ ap (λ (d : Bytes). differs_text c.in-Err-Differs.pos d c.in-Err-Differs.certified) stopped.2)) c.differs.ensures
