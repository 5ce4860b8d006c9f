use Rattle.std.proofs.Common.{sym, ap, ◌∙◌, Option, Some, option_copied}
use Rattle.std.specs.Ordering.{is_lt}
use Rattle.mb_base.specs.Shapes.{Bytes}
use Rattle.mb_kv.specs.Pairs.{compare}
use Rattle.mb_kv.specs.Snapshots.{is_above}
use Rattle.mb_kv.proofs.PartLaws.{last_seen, below_by_bytes}
use Rattle.mb_kv.proofs.snapshot.is_above.Goals as goal

pub returns-in-Some : goal.returns-in-Some
returns-in-Some c =
    let key = c.args.key.now in
    let last = last_seen c.args.before.now (Some c.in-Some.field-0.now) (sym c.last.ensures.value ∙ ap option_copied c.in-Some.is) in
    c.lt.ensures
    ∙ below_by_bytes c.as_slice.result.now key
    ∙ ap (λ (k : Bytes). is_lt (compare k key)) c.as_slice.ensures.value
    ∙ sym (ap (λ (o : Option (Bytes × Bytes)). is_above o key) last)
