use Rattle.std.proofs.Common.{◌≡◌, ℕ, Some, Contains}
use Rattle.slab.specs.Slab.{get}
use Rattle.mb_fetch.specs.declared.shelved.HashedPart.{HashedPart}
use Rattle.mb_fetch.proofs.keys.find_key.Given as goal

-- each part that is held and has these bytes is among those that are left
abbrev pub invariant-loop-key : goal.invariant-loop-key
invariant-loop-key l = record {
  can_next : (goal.iterator-loop-key).can_next l.key-iterator;
  is_finite : (goal.iterator-loop-key).is_finite l.key-iterator;
  left : (key : ℕ) (part : HashedPart) → get l.held key ≡ Some part → part.bytes ≡ l.bytes → Contains l.key-iterator (key, part);
}
