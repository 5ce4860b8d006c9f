use Rattle.std.proofs.Common.{◌≡◌, ◌++◌, List, ℕ, [], ◌∷◌, map, refl, ap, ◌∙◌, append_assoc}
use Rattle.std.specs.Int.{w8, w64}
use Rattle.std.specs.List.{flat_map}
use Rattle.sha2.specs.Sha256.{sha256}
use Rattle.mb_base.specs.Shapes.{Bytes}
use Rattle.mb_base.specs.Spelling.{number}
use Rattle.mb_parts.specs.Bares.{batch_digest}
use Rattle.mb_msg.specs.declared.change.Plan.{Plan}
use Rattle.mb_msg.specs.Plans.{plan_string, plan_text}
use Rattle.mb_change.proofs.held_plan.digest_with.Goals as goal

-- the four pieces of a plan, in the order in which they are hashed
joined : (p : Plan) (letter base : Bytes) (digests : List Bytes) → letter ≡ number w8 80 → base ≡ number w64 p.base.pos → digests ≡ map batch_digest p.batches
    → ((letter ++ base) ++ p.base.state) ++ flat_map (λ (d : Bytes). d) digests ≡ plan_text p
unfolding plan_string
joined p letter base digests a b e = rw (a, b, e) (simp append_assoc)

pub returns : goal.returns
unfolding number
returns c =
    let one = c.update.ensures [] c.new-hasher.ensures in
    let two = c.update-2.ensures _ one in
    let three = c.update-3.ensures _ two in
    let four = c.feed.ensures _ three in
    c.finalize.ensures _ four ∙ ap sha256 (joined c.args.plan.now (80 ∷ []) c.to_be_bytes.result c.args.batches.now refl c.to_be_bytes.ensures c.requires.batches)
