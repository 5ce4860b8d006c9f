use Rattle.std.proofs.Common.{◌≡◌, sym, ◌∙◌, ap, rules}
use Rattle.mb_base.specs.Shapes.{Bytes}
use Rattle.mb_edge.specs.Disks.{Moments, overwritten}
use Rattle.mb_edge.specs.MemoryDisks.{first_moment}
use Rattle.mb_edge.proofs.DiskLemmas.{written_moments}
use Rattle.mb_edge.proofs.memory_disk.MemoryDisk.put.Goals as goal

pub invariant_of-self-2 : goal.invariant_of-self-2
invariant_of-self-2 c =
    let copied : c.in_ok-to_vec.field-0.items ≡ c.args.from.now = search rules in
    let pushed = written_moments (first_moment c.self.inside.first) c.self.inside.done.items c.push.new.self.items c.args.at c.from_vec-bytes.result c.args.from.now c.in_ok-push.ensures.items (c.from_vec-bytes.ensures ∙ copied) in
    c.in_ok-new.ensures ∙ ap (λ (l : Bytes). overwritten c.args.at c.args.from.now l) (c.deref.ensures.value ∙ c.self.invariant) ∙ sym (ap (λ (m : Moments). m.now.reads) pushed)
