-- The digests of the parts of a service.
use Rattle.std.specs.Prelude.{ℕ}
use Rattle.sha2.specs.Sha256.{sha256}
use Rattle.mb_base.specs.Shapes.{Bytes}

abbrev pub part_digest : {S : Type 0} → (S → ℕ → Bytes) → S → ℕ → Bytes
part_digest part_of state i = sha256 (part_of state i)
