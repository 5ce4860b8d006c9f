use Rattle.std.proofs.Common.{◌-◌, length, refl, sym, ap, ◌∙◌, arith}
use Rattle.std.proofs.lemmas.Option.{slice_get_read}
use Rattle.mb_learn.proofs.Followed.{led_long}
use Rattle.mb_learn.proofs.Leading.{is_led, compared_led, leads_zero, leads_behind, leads_at}
use Rattle.mb_learn.proofs.follower.Follower.leads.Goals as goal
use Rattle.mb_learn.proofs.follower.Follower.leads.Goals.{then-counter-eq0-via-then-counter-eq0, then-counter-eq0-via-else-counter-eq0+then-counter-len}

pub returns-then-counter-eq0 : goal.returns-then-counter-eq0
returns-then-counter-eq0 c s secret host first l fo = elim c.then-counter-eq0.branch [
  | then-counter-eq0-via-then-counter-eq0 w ↦ leads_zero c.args.view l c.args.counter w.if-counter-eq0.true
  | then-counter-eq0-via-else-counter-eq0+then-counter-len w ↦
      let long = led_long s secret host first c.args.self.now l fo in
      leads_behind c.args.view l c.args.counter (omega (arith, w.if-counter-len.true, w.len.ensures, long))
]

pub returns : goal.returns
returns c s secret host first l fo =
    let led = c.args.self.now.led.items in
    let value = c.index.result.now in
    c.eq.ensures ∙ compared_led c.args.view value
    ∙ ap (is_led c.args.view) (sym (slice_get_read led (length led) (c.args.counter - 1) value refl (omega (arith, c.if-counter-eq0.false, c.if-counter-len.false, c.len.ensures)) c.index.ensures))
    ∙ leads_at c.args.view l c.args.counter (c.args.counter - 1) led (omega (arith, c.if-counter-eq0.false)) fo.led
