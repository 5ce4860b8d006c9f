use Rattle.std.proofs.Common.{◌≡◌, ◌++◌, length, List, ℕ, [], refl, ap, ◌∙◌}
use Rattle.std.specs.Int.{w8}
use Rattle.std.specs.List.{flat_map}
use Rattle.sha2.specs.Sha256.{sha256}
use Rattle.mb_base.specs.Spelling.{number}
use Rattle.mb_parts.specs.declared.batch.Batch.{Batch}
use Rattle.mb_parts.specs.declared.request.Request.{Request}
use Rattle.mb_parts.specs.Spelling.{request_bytes, batch_bytes}
use Rattle.mb_parts.proofs.batch.Batch.hashed.Goals as goal

-- the count and the requests, in the order in which they are hashed
joined : (b : Batch) (count : List ℕ) (requests : List Request) → count ≡ number w8 (length b.requests) → requests ≡ b.requests → count ++ flat_map request_bytes requests ≡ batch_bytes b
unfolding batch_bytes
joined b count requests a d = rw (a, d) refl

pub returns : goal.returns
returns c =
    let one = c.update.ensures [] c.new-hasher.ensures in
    let two = c.feed.ensures _ one in
    let count : c.byte.result ≡ number w8 (length c.args.self.now.requests) = rw (← c.as_slice-requests.ensures) c.byte.ensures in
    c.finalize.ensures _ two ∙ ap sha256 (joined c.args.self.now _ _ count c.as_slice-requests.ensures)
