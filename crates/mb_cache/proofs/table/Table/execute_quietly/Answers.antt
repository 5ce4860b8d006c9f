use Rattle.std.proofs.Common.{◌≤◌, arith}
use Rattle.mb_cache.specs.Tables.{last_of}
use Rattle.mb_cache.specs.Represents.{machine_of, joined}
use Rattle.mb_cache.proofs.Clients.{served_old, stands_served}
use Rattle.mb_cache.proofs.table.Table.execute_quietly.Goals as goal

pub returns-then-request-last_seq-clause-served : goal.returns-then-request-last_seq-clause-served
returns-then-request-last_seq-clause-served g c =
    let m = machine_of g.V.Service.machine in
    let r = c.args.request.now in
    let below : r.seq ≤ (last_of c.args.self.now r.client).seq = omega (arith, c.if-request-last_seq.true, c.last_seq.ensures) in
    served_old m (joined c.args.service.now c.args.self.now) c.args.pos r below

pub returns-then-request-last_seq-clause-stands : goal.returns-then-request-last_seq-clause-stands
returns-then-request-last_seq-clause-stands g c =
    let m = machine_of g.V.Service.machine in
    let x = joined c.args.service.now c.args.self.now in
    stands_served m x c.args.pos c.args.request.now x (returns-then-request-last_seq-clause-served g c)

pub returns-clause-stands : goal.returns-clause-stands
returns-clause-stands g c =
    let m = machine_of g.V.Service.machine in
    let x = joined c.args.service.now c.args.self.now in
    let y = joined c.serve.new.service c.serve.new.self in
    stands_served m x c.args.pos c.args.request.now y c.in_ok-serve.ensures.served
