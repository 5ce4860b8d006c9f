use Rattle.std.proofs.Common.{◌≡◌, ◌++◌, List, ℕ, [], ◌∷◌, map, refl, ap, ◌∙◌, append_assoc}
use Rattle.std.specs.Int.{w8, w64}
use Rattle.std.specs.List.{flat_map}
use Rattle.std.proofs.lemmas.List.Concat.{flat_map-cons}
use Rattle.sha2.specs.Sha256.{sha256}
use Rattle.mb_base.specs.Shapes.{Bytes}
use Rattle.mb_base.specs.Spelling.{number}
use Rattle.mb_parts.specs.declared.batch.Batch.{Batch}
use Rattle.mb_parts.specs.Bares.{batch_digest}
use Rattle.mb_msg.specs.Plans.{plan_string}
use Rattle.mb_msg.proofs.plan.digest_of_plan.Goals as goal

one_by_one : (bs : List Batch) → flat_map batch_digest bs ≡ flat_map (λ (d : Bytes). d) (map batch_digest bs)
one_by_one [] = refl
one_by_one (b ∷ bs) = flat_map-cons batch_digest b bs ∙ ap (λ (u : Bytes). batch_digest b ++ u) (one_by_one bs)

-- the four pieces of a plan, in the order in which they are hashed
joined : (place : ℕ) (letter base state : Bytes) (batches : List Batch) → letter ≡ number w8 80 → base ≡ number w64 place
    → ((letter ++ base) ++ state) ++ flat_map batch_digest batches ≡ plan_string place state (map batch_digest batches)
unfolding plan_string
joined place letter base state batches a b = rw (a, b, one_by_one batches) (simp append_assoc)

pub returns : goal.returns
unfolding number
returns c =
    let one = c.update.ensures [] c.new-hasher.ensures in
    let two = c.update-2.ensures _ one in
    let three = c.update-3.ensures _ two in
    let four = c.feed.ensures _ three in
    c.finalize.ensures _ four ∙ ap sha256 (joined c.args.base (80 ∷ []) c.to_be_bytes.result c.args.state.now c.args.batches.now refl c.to_be_bytes.ensures)
