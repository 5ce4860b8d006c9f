use Rattle.std.proofs.Common.{◌≡◌, Ok, Err, subst}
use Rattle.mb_base.specs.declared.shape.Shape.{Shape}
use Rattle.mb_msg.specs.Reading.{message_of}
use Rattle.mb_audit.specs.Stamps.{claims_among}
use Rattle.mb_learn.specs.Shown.{shown_among}
use Rattle.mb_learn.proofs.Going.{keeps_same}
use Rattle.mb_learn.proofs.Taking.{hears_read, hears_unread, malformed}
use Rattle.mb_learn.proofs.heard.Heard.take.Goals as goal

pub returns-in-Ok : goal.returns-in-Ok
returns-in-Ok c = record {
  takes = λ s secret taken lists h.
      hears_read s taken c.args.bytes.now secret c.take_message.result c.in-Ok.message c.take_message.new.self
      (subst (λ (z : Shape). message_of z c.args.bytes.now ≡ Ok c.in-Ok.message) h.hears.shape c.in-Ok.ensures.exact)
      (c.take_message.ensures.takes s secret (claims_among s taken) (shown_among s taken) lists h);
  keeps = c.take_message.ensures.keeps;
}

pub returns-in-Err-Malformed : goal.returns-in-Err-Malformed
returns-in-Err-Malformed c = record {
  takes = λ s secret taken lists h.
      hears_unread s taken c.args.bytes.now secret c.in-Err-Malformed.field-0-0 lists c.args.self.now
      (subst (λ (z : Shape). message_of z c.args.bytes.now ≡ Err c.in-Err-Malformed.field-0-0) h.hears.shape (malformed c.args.self.now.shape c.args.bytes.now c.decode.result c.in-Err-Malformed.field-0 c.in-Err-Malformed.field-0-0 c.decode.ensures.exact c.in-Err-Malformed.is c.in-Err-Malformed.field-0-is)) h;
  keeps = keeps_same c.args.self.now c.requires;
}
