-- The digest of a plan, one batch after the other.
use Rattle.std.proofs.Common.{◌≡◌, ℕ, ◌+◌, ◌<◌, List, [], ◌∷◌, ◌++◌, length, get_or, take, map, sym, ap, ◌∙◌, append_assoc}
use Rattle.std.specs.Int.{w8, w64}
use Rattle.std.specs.List.{flat_map}
use Rattle.std.proofs.lemmas.List.{append-nil, take_more}
use Rattle.std.proofs.lemmas.List.Concat.{flat_map-cons}
use Rattle.std.proofs.lemmas.List.Folds.{flat_map-map}
use Rattle.std.proofs.lemmas.Grind.{flat_map-append}
use Rattle.mb_base.specs.Shapes.{Bytes}
use Rattle.mb_base.specs.Spelling.{number}
use Rattle.mb_parts.specs.declared.batch.Batch.{Batch}
use Rattle.mb_parts.specs.Bares.{batch_digest}
use Rattle.mb_msg.specs.Plans.{plan_string}

-- one more digest is hashed
pub one_more_digest : (m : Bytes) (bs : List Batch) (i : ℕ) (b : Batch) (d : Bytes) → i < length bs → b ≡ get_or bs i b → d ≡ batch_digest b → (m ++ flat_map batch_digest (take i bs)) ++ d ≡ m ++ flat_map batch_digest (take (i + 1) bs)
one_more_digest m bs i b d lt there is =
    let one : flat_map batch_digest (b ∷ []) ≡ d = flat_map-cons batch_digest b [] ∙ append-nil (batch_digest b) ∙ sym is in
    let more : take (i + 1) bs ≡ take i bs ++ b ∷ [] = take_more bs i b lt ∙ ap (λ (x : Batch). take i bs ++ x ∷ []) (sym there) in
    append_assoc m (flat_map batch_digest (take i bs)) d
    ∙ ap (λ (x : Bytes). m ++ x) (ap (λ (x : Bytes). flat_map batch_digest (take i bs) ++ x) (sym one) ∙ sym (flat_map-append batch_digest (take i bs) (b ∷ [])) ∙ ap (flat_map batch_digest) (sym more))

-- the four pieces of a plan, in the order in which they are hashed
pub hashed_in_order : (place : ℕ) (letter base state : Bytes) (batches : List Batch) → letter ≡ number w8 80 → base ≡ number w64 place
    → ((letter ++ base) ++ state) ++ flat_map batch_digest batches ≡ plan_string place state (map batch_digest batches)
unfolding plan_string
hashed_in_order place letter base state batches a b = rw (a, b, sym (flat_map-map (λ (d : Bytes). d) batch_digest batches)) (simp append_assoc)
