use Rattle.std.proofs.Common.{refl, subst, sym}
use Rattle.std.proofs.lemmas.Result.{IfOk-weaker}
use Rattle.mb_counting.specs.Counts.{IsAnswer}
use Rattle.mb_counting.specs.Systems.{system_of}
use Rattle.mb_counting.proofs.Counting.{is_system, answered}
use Rattle.mb_counting.proofs.hosts.counted.Goals as goal

pub play-requires-clause-system : goal.play-requires-clause-system
play-requires-clause-system c =
    let s = c.args.schedule.now in
    record { system = system_of s; is = is_system s; plays = refl; alike = c.in_ok-services.ensures.alike }

pub returns : goal.returns
returns c =
    let s = c.args.schedule.now in
    let story = c.in_ok-story.story in
    let is = c.in_ok-story.ensures (system_of s) (is_system s) refl c.in_ok-services.ensures.alike in
    IfOk-weaker c.text_of_end-text.result _ _ (λ o e. subst (IsAnswer s) (sym e) (answered s c.requires story is story.end refl)) c.text_of_end-text.ensures
