use Rattle.std.proofs.Common.{length, ap, arith}
use Rattle.mb_edge.proofs.memory_disk.MemoryDisk.tear.Goals as goal

pub returns-clause-torn : goal.returns-clause-torn
returns-clause-torn c =
    let whole = ap length c.deref.ensures.value in
    record { bytes = c.deref.result.now; length_is = omega (arith, whole, c.in_ok-resize.ensures.len, c.resize.new.self.ok.0); is = c.in_ok-put.ensures.done }
