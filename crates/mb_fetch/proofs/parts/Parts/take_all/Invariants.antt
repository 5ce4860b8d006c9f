use Rattle.std.proofs.Common.{◌≡◌, ℕ, ◌+◌, ◌≤◌, length, Some}
use Rattle.std.specs.Option.{option_or}
use Rattle.std.specs.Vec.Iter.{into_iter_items, into_iter_len}
use Rattle.mb_base.specs.Limits.{part_count}
use Rattle.mb_base.specs.Shapes.{Bytes}
use Rattle.mb_fetch.specs.Fetched.{part_at, IsCertified}
use Rattle.mb_fetch.specs.Parts.{part_from}
use Rattle.mb_fetch.proofs.parts.Parts.take_all.Given as goal

abbrev pub invariant-loop-part : goal.invariant-loop-part
invariant-loop-part l = record {
  within : l.place + length (into_iter_items l.part-iterator) ≤ part_count;
  certified : (i : ℕ) (part : Bytes) → part_from l.place (into_iter_items l.part-iterator) i ≡ Some part → IsCertified l.fn.self.pos l.fn.self.digest i part;
  pos : l.self.pos ≡ l.fn.self.pos;
  digest : l.self.digest ≡ l.fn.self.digest;
  taken : (i : ℕ) → option_or (part_at l.self i) (part_from l.place (into_iter_items l.part-iterator) i) ≡ option_or (part_at l.fn.self i) (part_from l.fn.first l.fn.parts.items i);
  len : into_iter_len l.part-iterator ≡ length (into_iter_items l.part-iterator);
}
