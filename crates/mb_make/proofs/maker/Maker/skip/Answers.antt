use Rattle.mb_make.proofs.DrawLaws.{if_ok, passes, stays}
use Rattle.mb_make.proofs.maker.Maker.skip.Goals.{then-self-host, else-self-host}
use Rattle.mb_make.proofs.maker.Maker.skip.Goals as goal

pub returns : goal.returns
returns c = elim c.if-self-host.branch [
  | then-self-host w ↦ if_ok _ _ (passes c.args.pool c.args.self.now c.if-self-host.self c.detail.result c.detail.ensures.value w.if-self-host.true w.self-is) c.ask.result c.ask.ensures
  | else-self-host w ↦ if_ok _ _ (stays c.args.pool c.args.self.now c.if-self-host.self c.detail.result c.detail.ensures.value w.if-self-host.false w.self-is) c.ask.result c.ask.ensures
]
