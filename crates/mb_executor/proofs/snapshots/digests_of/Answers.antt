use Rattle.std.proofs.Common.{◌≤◌, ◌≡◌, ◌+◌, ◌∙◌, List, [], ◌∷◌, ◌++◌, length, map, suc, ap, arith}
use Rattle.sha2.specs.Sha256.{sha256}
use Rattle.mb_base.specs.Shapes.{Bytes}
use Rattle.mb_fetch.specs.Snapshots.{parts_at}
use Rattle.std.specs.Prelude.{option_map}
use Rattle.mb_executor.specs.Sent.{kept_at}
use Rattle.mb_executor.proofs.Shelved.{in_kept, digest_more, no_digest, take_all}
use Rattle.mb_executor.proofs.snapshots.digests_of.Goals as goal

pub loop-part-preserved : goal.loop-part-preserved
loop-part-preserved c =
    let kept = kept_at c.args.shelf.now c.args.pos in
    let n = c.loop-part.part in
    let up : n + 1 ≡ suc n = omega arith in
    c.in_ok-push.ensures.ok
    ∙ (ap (λ (l : List Bytes). l ++ c.in-Some.digest ∷ []) c.loop-part.invariant
    ∙ digest_more kept n (n + 1) c.in-Some.digest up (c.in-Some.ensures.digest ∙ ap (option_map sha256) (in_kept (parts_at c.args.shelf.now c.args.pos) n)))

pub returns-in_default : goal.returns-in_default
returns-in_default c =
    let kept = kept_at c.args.shelf.now c.args.pos in
    let n = c.loop-part.part in
    c.loop-part.invariant ∙ no_digest kept n (c.in_default.ensures.digest ∙ ap (option_map sha256) (in_kept (parts_at c.args.shelf.now c.args.pos) n))

pub returns : goal.returns
returns c =
    let kept = kept_at c.args.shelf.now c.args.pos in
    let n = c.loop-part.part in
    let at_least = c.loop-part-test.false in
    let le : length kept ≤ n = omega (arith, c.requires, at_least) in
    c.loop-part.invariant ∙ ap (map sha256) (take_all kept n le)
