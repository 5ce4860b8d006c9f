-- What keeping the parts of a STATE answers.
use Rattle.std.specs.Prelude.{ℕ, ◌≡◌, ◌+◌, ◌-◌, ◌≤◌, ◌==◌, length, Option, Some, None, Result, Ok, Err, if◌then◌else◌}
use Rattle.sha2.specs.Sha256.{sha256}
use Rattle.mb_base.specs.Limits.{part_count}
use Rattle.mb_base.specs.Shapes.{Bytes}
use Rattle.mb_usig.specs.Tags.{same_bytes}
use Rattle.mb_msg.specs.declared.transfer.StateMsg.{StateMsg}
use Rattle.mb_model.specs.States.{digest_string}
use Rattle.mb_model.specs.PlainChecks.{string_at, wrong_part}
use Rattle.mb_fetch.specs.declared.parts.Kept.{Kept}
use Rattle.mb_fetch.specs.declared.parts.Kept.TheVariants.{WrongDigest, NoMemory}

-- digests of all parts, and some parts of those that there are
pub record HasParts (m : StateMsg) : Type 0 where
  pub digest_count : length m.digests ≡ part_count
  pub some : 1 ≤ length m.parts
  pub within : m.first + length m.parts ≤ part_count

-- the SHA-256 of the list of digests with the position, which has the number behind all parts
abbrev pub list_digest : StateMsg → Bytes
list_digest m = sha256 (digest_string m.digests m.pos)

-- the SHA-256 of the list or of a part
abbrev pub found_at : StateMsg → ℕ → Bytes
found_at m i = if i == part_count then list_digest m else sha256 (string_at m.parts (i - m.first))

-- The first that is not what is certified: the list, then the parts in order.
abbrev pub first_wrong : Bytes → StateMsg → Option ℕ
first_wrong digest m = if same_bytes (list_digest m) digest then wrong_part m.digests m.first m.parts else Some part_count

-- No wrong one is told exactly where there is none; else the first, with its SHA-256.
abbrev pub Keeps : {U : Type 0} → Option ℕ → StateMsg → Result U Kept → Type 0
Keeps wrong m (Ok u) = wrong ≡ None
Keeps wrong m (Err (WrongDigest part found)) = (wrong ≡ Some part) × (found ≡ found_at m part)
Keeps wrong m (Err NoMemory) = wrong ≡ None
