use Rattle.std.proofs.Common.{[], ap, ◌∙◌}
use Rattle.sha2.specs.Sha256.{sha256}
use Rattle.mb_base.specs.Spelling.{number}
use Rattle.mb_cache.specs.Represents.{joined, snapshots_of}
use Rattle.mb_cache.proofs.Hashing.{state_string}
use Rattle.mb_cache.proofs.state_digest.digest.Goals as goal

pub returns-clause-digest : goal.returns-clause-digest
unfolding number
returns-clause-digest g c =
    let one = c.in_ok-hash_parts.ensures.hashed [] c.new-hasher.ensures in
    let two = c.update.ensures _ one in
    let three = c.update-2.ensures _ two in
    let snapshots = snapshots_of g.V.Service.machine in
    let table = c.digest.ensures ∙ ap sha256 (c.as_slice.ensures ∙ c.in_ok-replies.ensures.part) in
    c.finalize.ensures _ three ∙ ap sha256 (state_string snapshots (joined c.args.service.now c.args.table.now) c.args.pos c.digest.result c.to_be_bytes.result table c.to_be_bytes.ensures)
