use Rattle.std.proofs.Common.{◌+◌, List, ℕ, ap, refl, subst, ◌∙◌}
use Rattle.sha2.specs.Sha256.{sha256}
use Rattle.mb_cache.specs.Digests.{part_digest}
use Rattle.mb_cache.proofs.Hashing.{one_more}
use Rattle.mb_cache.proofs.state_digest.hash_parts.Goals as goal

pub loop-part-preserved : goal.loop-part-preserved
loop-part-preserved g c =
    let f = part_digest g.V.Service.machine.part_of c.args.service.now in
    let part = c.loop-part.part in
    record {
      hashed = λ m h. subst (λ (l : List ℕ). g.H.Digest.holds c.update.new.self l)
          (one_more f m c.in_ok-part_digest.field-0 part (part + 1) (c.in_ok-part_digest.ensures.digest ∙ ap (λ s. sha256 (g.V.Service.machine.part_of s part)) c.loop-part.invariant.kept) refl)
          (c.update.ensures _ (c.loop-part.invariant.hashed m h));
      kept = c.part_digest.ensures.kept ∙ c.loop-part.invariant.kept;
    }
