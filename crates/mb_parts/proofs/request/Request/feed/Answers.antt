use Rattle.std.proofs.Common.{◌≡◌, ◌++◌, length, List, ℕ, subst, append_assoc}
use Rattle.std.specs.Int.{w8, w16, w64}
use Rattle.mb_base.specs.Spelling.{number}
use Rattle.mb_parts.specs.declared.request.Request.{Request}
use Rattle.mb_parts.specs.Spelling.{request_bytes}
use Rattle.mb_parts.proofs.request.Request.feed.Goals as goal

-- the five pieces of a request, in the order in which they are hashed
joined : (r : Request) (m client seq size op : List ℕ) → client ≡ number w8 r.client → seq ≡ number w64 r.seq → size ≡ number w16 (length r.op) → op ≡ r.op
    → ((((m ++ client) ++ seq) ++ size) ++ op) ++ r.tag ≡ m ++ request_bytes r
unfolding request_bytes
joined r m client seq size op a b c d = rw (a, b, c, d) (simp append_assoc)

pub returns : goal.returns
unfolding number
returns g c m before =
    let one = c.update.ensures m before in
    let two = c.update-2.ensures _ one in
    let three = c.update-3.ensures _ two in
    let four = c.update-4.ensures _ three in
    let five = c.update-5.ensures _ four in
    let size : c.to_be_bytes-2.result ≡ number w16 (length c.args.self.now.op) = rw (← c.len.ensures) c.to_be_bytes-2.ensures in
    subst (g.H.Digest.holds c.update-5.new.self) (joined c.args.self.now m _ _ _ _ c.byte.ensures c.to_be_bytes.ensures size c.as_slice.ensures) five
