use Rattle.std.proofs.Common.{◌+◌, ◌*◌, ◌<◌, ◌≤◌, length, ap, ◌∙◌, arith}
use Rattle.mb_base.specs.Limits.{log_intervals, other_limit}
use Rattle.mb_base.specs.Shapes.{interval}
use Rattle.mb_base.specs.declared.limits.TheConstants.{MESSAGE_LIMIT}
use Rattle.mb_base.specs.declared.shape.Shape.{Shape}
use Rattle.mb_parts.specs.Counted.{counted}
use Rattle.mb_msg.specs.Spelling.{stamped_bytes}
use Rattle.mb_members.proofs.SizeLaws.{too_many, too_long, sendable}
use Rattle.mb_world.proofs.world.World.change_of.Goals as goal

pub returns-then-len-from-clause-stops : goal.returns-then-len-from-clause-stops
returns-then-len-from-clause-stops g c = λ y x h faulty.
    let messages = c.in_ok-messages.messages in
    too_many y.schedule x c.args.host c.args.view c.args.counter messages.items (c.in_ok-messages.ensures.after y x h faulty) c.k.result (c.k.ensures ∙ ap (λ (z : Shape). interval z) h.rest.shape)
    (omega (arith, c.len.ensures, c.from.ensures, c.if-len-from.true, messages.ok.0))

pub returns-then-count-gt-MESSAGE_LIMIT-clause-stops : goal.returns-then-count-gt-MESSAGE_LIMIT-clause-stops
returns-then-count-gt-MESSAGE_LIMIT-clause-stops g c = λ y x h faulty.
    let messages = c.in_ok-messages.messages in
    let few : length messages.items ≤ log_intervals * c.k.result + other_limit = omega (arith, c.len.ensures, c.from.ensures, c.if-len-from.false, messages.ok.0) in
    let long : MESSAGE_LIMIT < counted 0 (stamped_bytes c.in_ok-content.content) = omega (arith, c.count.ensures, c.if-count-gt-MESSAGE_LIMIT.true) in
    too_long y.schedule x c.args.host c.args.view c.args.counter messages.items (c.in_ok-messages.ensures.after y x h faulty) c.k.result (c.k.ensures ∙ ap (λ (z : Shape). interval z) h.rest.shape)
    few c.in_ok-content.content c.in_ok-content.ensures.content long

pub returns-clause-stops : goal.returns-clause-stops
returns-clause-stops g c = λ y x h faulty.
    let messages = c.in_ok-messages.messages in
    let few : length messages.items ≤ log_intervals * c.k.result + other_limit = omega (arith, c.len.ensures, c.from.ensures, c.if-len-from.false, messages.ok.0) in
    let short : counted 0 (stamped_bytes c.in_ok-content.content) ≤ MESSAGE_LIMIT = omega (arith, c.count.ensures, c.if-count-gt-MESSAGE_LIMIT.false) in
    sendable y.schedule x c.args.host c.args.view c.args.counter messages.items (c.in_ok-messages.ensures.after y x h faulty) c.k.result (c.k.ensures ∙ ap (λ (z : Shape). interval z) h.rest.shape)
    few c.in_ok-content.content c.in_ok-content.ensures.content short
