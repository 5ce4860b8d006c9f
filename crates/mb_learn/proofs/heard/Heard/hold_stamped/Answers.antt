use Rattle.std.proofs.Common.{[]}
use Rattle.mb_learn.specs.Shown.{shown_by}
use Rattle.mb_learn.proofs.Going.{holds_none, holds_alike}
use Rattle.mb_learn.proofs.Walking.{none_by}
use Rattle.mb_learn.proofs.heard.Heard.hold_stamped.Goals as goal

pub returns-in_default : goal.returns-in_default
returns-in_default c =
    holds_alike [] (shown_by c.args.stamped.now) c.args.self.now c.args.self.now
    (none_by c.args.stamped.now c.in_default.not-Prepare c.in_default.not-Commit c.in_default.not-Open c.in_default.not-ViewChange c.in_default.not-NewView) (holds_none c.args.self.now c.requires.ready)
