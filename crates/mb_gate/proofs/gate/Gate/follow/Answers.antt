use Rattle.std.proofs.Common.{sym, ◌∙◌}
use Rattle.mb_gate.proofs.FloorsBehind.{floors_more, floors_same}
use Rattle.mb_gate.proofs.Standing.{takes}
use Rattle.mb_gate.proofs.gate.Gate.follow.Goals as goal

pub returns-in-Checkpoint : goal.returns-in-Checkpoint
returns-in-Checkpoint c = λ log m inner r is e.
    let t = takes c.args.self.now log r c.args.mark.now m is c.of-kind.result (c.of-kind.ensures m is) inner c.behind-self.result e (c.behind-self.ensures c.args.self.now.shape c.args.self.now.sender) in
    record {
      shape_is = r.shape_is;
      sender_is = r.sender_is;
      ordered = t.ordered;
      stands = t.stands;
      closes = r.closes;
      floors = rw (floors_more log.from log.taken m (c.in-Checkpoint.ensures m is), ← t.stands) (c.push.ensures _ r.floors);
    }

pub returns-in_default : goal.returns-in_default
returns-in_default c = λ log m inner r is e.
    let of = c.of-kind.ensures m is in
    let t = takes c.args.self.now log r c.args.mark.now m is c.of-kind.result of inner c.behind-self.result e (c.behind-self.ensures c.args.self.now.shape c.args.self.now.sender) in
    record {
      shape_is = r.shape_is;
      sender_is = r.sender_is;
      ordered = t.ordered;
      stands = t.stands;
      closes = r.closes;
      floors = rw (floors_same log.from log.taken m (λ h. c.in_default.not-Checkpoint (of ∙ sym h))) r.floors;
    }
