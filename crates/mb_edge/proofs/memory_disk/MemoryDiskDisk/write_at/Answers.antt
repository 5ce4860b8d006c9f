use Rattle.std.proofs.Common.{◌≡◌, Some, ap}
use Rattle.mb_edge.specs.MemoryDisks.{moments_of, moments_after, first_moment}
use Rattle.mb_edge.proofs.DiskLemmas.{put_told, torn_told}
use Rattle.mb_edge.proofs.memory_disk.MemoryDiskDisk.write_at.Goals as goal

pub returns-then-next_fails-clause-written : goal.returns-then-next_fails-clause-written
returns-then-next_fails-clause-written c m is =
    let told = ap moments_of c.self.view_is in
    let same : moments_after (first_moment c.self.inside.first) c.self.inside.done.items ≡ m = cc (told, is) in
    torn_told c.tear.result _ c.tear.new.self c.args.at c.args.from.now m c.tear.ensures.torn c.tear.ensures.stays same

pub returns-clause-written : goal.returns-clause-written
returns-clause-written c m is =
    let told = ap moments_of c.self.view_is in
    let same : moments_after (first_moment c.self.inside.first) c.self.inside.done.items ≡ m = cc (told, is) in
    ap Some (put_told _ c.put.new.self c.args.at c.args.from.now m c.in_ok-put.ensures.done same)
