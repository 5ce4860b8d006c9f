use Rattle.std.proofs.Common.{◌≡◌, true, not, is_none, sym, ap, ◌∙◌}
use Rattle.mb_learn.proofs.Stamping.{hears_known}
use Rattle.mb_learn.proofs.heard.Heard.is_known.Goals as goal

pub returns-then-not-awaits : goal.returns-then-not-awaits
returns-then-not-awaits c so s secret claims shown lists h =
    let none : is_none c.newly_said_by.result ≡ true = ap not (c.is_none.ensures ∙ ap not so) in
    hears_known c.args.self.now c.args.stamp.now s secret claims shown lists h
    (c.awaits.ensures c.if-not-awaits.true s secret claims lists (sym h.hears.shape) (record { follows_all = h.hears.follows; are_whole = h.whole })) c.newly_said_by.result c.newly_said_by.ensures none
