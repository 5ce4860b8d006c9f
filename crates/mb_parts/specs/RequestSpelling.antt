-- The bytes of a request, and those of the requests of a batch, beside which a digest may be kept.
use Rattle.std.specs.Prelude.{◌≡◌, ◌++◌, List, Option, IfSome}
use Rattle.std.specs.Int.{w8, w64}
use Rattle.sha2.specs.Sha256.{sha256}
use Rattle.mb_base.specs.Shapes.{Bytes}
use Rattle.mb_base.specs.Spelling.{number, text16, listed}
use Rattle.mb_parts.specs.declared.request.Request.{Request}

unfoldable pub request_bytes : Request → Bytes
request_bytes r = number w8 r.client ++ (number w64 r.seq ++ (text16 r.op ++ r.tag))

-- how many there are, and each of them
abbrev pub requests_bytes : List Request → Bytes
requests_bytes = listed w8 request_bytes

-- Where a digest is kept beside them, it is that of the batch that they are.
abbrev pub IsHashed : List Request → Option Bytes → Type 0
IsHashed requests kept = IfSome kept (λ digest. digest ≡ sha256 (requests_bytes requests))
