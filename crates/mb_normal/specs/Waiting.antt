-- The pending requests of clients.
use Rattle.std.specs.Prelude.{ℕ, ◌≡◌, List, slice_index_or, Option, Some, None}
use Rattle.mb_parts.specs.declared.request.Request.{Request}
use Rattle.mb_parts.specs.Fits.{FitsText}

-- that of a client
abbrev pub request_of : List (Option Request) → ℕ → Option Request
request_of l c = slice_index_or l c None

-- Their operations have at most 1,024 bytes.
abbrev pub AreShort : List (Option Request) → Type 0
AreShort l = (c : ℕ) (r : Request) → request_of l c ≡ Some r → FitsText r.op
