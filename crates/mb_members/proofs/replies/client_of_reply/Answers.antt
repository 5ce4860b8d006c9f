use Rattle.std.proofs.Common.{◌∙◌}
use Rattle.mb_base.specs.Fields.{place_of}
use Rattle.mb_members.proofs.ReplyLaws.{too_long, no_kind, is_reply, is_other}
use Rattle.mb_members.proofs.replies.client_of_reply.Goals as goal

pub returns-then-bytes-gt-MESSAGE_LIMIT : goal.returns-then-bytes-gt-MESSAGE_LIMIT
returns-then-bytes-gt-MESSAGE_LIMIT c = too_long c.args.shape.now c.args.bytes.now c.if-bytes-gt-MESSAGE_LIMIT.true

pub returns-in-Ok : goal.returns-in-Ok
returns-in-Ok c =
    c.client_behind.ensures
    ∙ is_reply c.args.shape.now c.args.bytes.now c.in-Ok.kind (place_of c.u8_in.new.self) c.if-bytes-gt-MESSAGE_LIMIT.false (rw c.over-fields.ensures at c.in-Ok.ensures) c.if-kind-eq-REPLY.true

pub returns-in_default : goal.returns-in_default
returns-in_default c = is_other c.args.shape.now c.args.bytes.now c.in-Ok.kind (place_of c.u8_in.new.self) c.if-bytes-gt-MESSAGE_LIMIT.false (rw c.over-fields.ensures at c.in-Ok.ensures) c.if-kind-eq-REPLY.false

pub returns-in_default-2 : goal.returns-in_default-2
returns-in_default-2 c = no_kind c.args.shape.now c.args.bytes.now _ c.if-bytes-gt-MESSAGE_LIMIT.false (rw c.over-fields.ensures at c.in_default.ensures.0)
