use Rattle.std.proofs.Common.{true, false, refl, sym}
use Rattle.mb_core.proofs.Nudged.{nudged}
use Rattle.mb_core.proofs.nudges.ask_next.Goals as goal

-- src/nudges.rt
pub returns-then-is_behind : goal.returns-then-is_behind
returns-then-is_behind g c = λ me d r. nudged me c.args.replica.now _ d r (record { shape = refl; host = refl; secret = refl }) c.next_host-replica.result refl true (sym (c.if-is_behind.ensures me d r)) (c.next_host-replica.ensures.next me d r)

pub returns-else-is_behind : goal.returns-else-is_behind
returns-else-is_behind g c = λ me d r. nudged me c.args.replica.now c.args.replica.now d r (record { shape = refl; host = refl; secret = refl }) c.args.replica.now.protocol.asked refl false (sym (c.if-is_behind.ensures me d r)) refl
