use Rattle.std.proofs.Common.{true, sym, refl}
use Rattle.mb_parts.proofs.Joined.{floor_after_nil}
use Rattle.mb_parts.proofs.OrderedParts.{ordered_nil}
use Rattle.mb_gate.proofs.gate.Gate.from.Goals as goal

pub returns : goal.returns
returns c = record {
  shape_is = refl;
  sender_is = refl;
  ordered = ordered_nil c.args.floor c.args.shape c.args.sender (λ b. true);
  stands = sym (floor_after_nil c.args.floor);
  closes = refl;
  floors = c.start.ensures;
}
