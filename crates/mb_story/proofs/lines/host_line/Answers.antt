use Rattle.std.proofs.Common.{refl}
use Rattle.mb_story.proofs.lines.host_line.Goals as goal

pub returns-in-Some : goal.returns-in-Some
returns-in-Some g c = λ y x h.
    let host = c.in-Some.ensures y x h in
    rw (c.state_of.ensures y c.args.host (x.histories c.args.host) host, host.correct) refl

pub returns-in-None : goal.returns-in-None
returns-in-None g c = λ y x h. rw (c.in-None.ensures y x h) refl
