-- Bytes at a place.
use Rattle.std.specs.Prelude.{Bool, false, Option, Some, None}
use Rattle.mb_base.specs.Shapes.{Bytes}
use Rattle.mb_usig.specs.Tags.{same_bytes}

-- whether the bytes are there, and are these
abbrev pub is_there : Option Bytes → Bytes → Bool
is_there None bytes = false
is_there (Some x) bytes = same_bytes x bytes
