use Rattle.std.proofs.Common.{◌≤◌, ◌-◌, ◌∙◌, length, drop, ap, sym, arith}
use Rattle.std.proofs.lemmas.List.{drop_all, take_all, length-drop}
use Rattle.mb_story.proofs.gathering.new_slots.Goals as goal

pub returns-then-before-line : goal.returns-then-before-line
returns-then-before-line g c = λ y x h.
    let short : length x.line ≤ c.args.before = omega (arith, ap length (c.line-line.ensures y x h), c.if-before-line.true) in
    c.new.ensures ∙ sym (drop_all c.args.before x.line short)

pub returns : goal.returns
returns g c = λ y x h.
    let line = c.line-line.result.now in
    let behind : length (drop c.args.before line) ≤ length line - c.args.before = omega (arith, length-drop c.args.before line) in
    c.from_vec.ensures ∙ c.in_ok-duplicate_all.ensures ∙ take_all (length line - c.args.before) (drop c.args.before line) behind ∙ ap (drop c.args.before) (c.line-line.ensures y x h)
