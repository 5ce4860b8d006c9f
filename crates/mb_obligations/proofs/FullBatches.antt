-- The batch of the first requests of a list has no place for the next one.
use Rattle.std.proofs.Common.{◌≡◌, ℕ, zero, suc, ◌+◌, ◌<◌, ◌⊎◌, List, [], ◌∷◌, ◌++◌, length, refl, ap, subst, ◌∙◌, inl, inr, arith, length-append, Some}
use Rattle.std.specs.List.{AllByRecursion, flat_map}
use Rattle.std.proofs.lemmas.Bool.{cases_Bool, leb-false}
use Rattle.std.proofs.lemmas.List.Concat.{flat_map-cons}
use Rattle.mb_base.specs.Limits.{batch_limit, batch_bytes_limit}
use Rattle.mb_base.specs.declared.shape.Shape.{Shape}
use Rattle.mb_parts.specs.declared.request.Request.{Request}
use Rattle.mb_parts.specs.declared.batch.Batch.{Batch}
use Rattle.mb_parts.specs.Spelling.{request_bytes}
use Rattle.mb_parts.specs.Fits.{FitsRequest}
use Rattle.mb_model.specs.Batches.{has_place, fitting, first_batch}
use Rattle.mb_promise.specs.NothingLeft.{IsFull}
use Rattle.mb_host_laws.proofs.Cases.{some_is}
use Rattle.mb_host_laws.proofs.FirstBatches.{first_fits}

-- A list begins with these, which are as many as may be, or have no place for the next one.
record EndsFull (most used : ℕ) (l some : List Request) : Type 0 where
  pub rest : List Request
  pub begins : l ≡ some ++ rest
  pub full : (r : Request) (more : List Request) → rest ≡ r ∷ more → (length some ≡ most) ⊎ (batch_bytes_limit < used + length (flat_map request_bytes (some ++ r ∷ [])))

joined_length : (r : Request) (l : List Request) → length (flat_map request_bytes (r ∷ l)) ≡ length (request_bytes r) + length (flat_map request_bytes l)
joined_length r l = ap length (flat_map-cons request_bytes r l) ∙ length-append (request_bytes r) (flat_map request_bytes l)

with_first : (most used : ℕ) (r : Request) (l some : List Request) → EndsFull most (used + length (request_bytes r)) l some → EndsFull (suc most) used (r ∷ l) (r ∷ some)
with_first most used r l some x = record {
  rest = x.rest;
  begins = ap (λ (y : List Request). r ∷ y) x.begins;
  full = λ q more e. elim (x.full q more e) [
    | inl many ↦ inl (omega (arith, many))
    | inr long ↦ inr (omega (arith, long, joined_length r (some ++ q ∷ [])))
  ];
}

none_more : (most used : ℕ) (r : Request) (l : List Request) → batch_bytes_limit < used + length (request_bytes r) → EndsFull (suc most) used (r ∷ l) []
none_more most used r l long = record {
  rest = r ∷ l;
  begins = refl;
  full = λ q more e. inr (subst (λ (y : Request). batch_bytes_limit < used + length (flat_map request_bytes (y ∷ []))) (first_same q more e) (omega (arith, long, joined_length r [])));
} where
  first_same : (q : Request) (more : List Request) → r ∷ l ≡ q ∷ more → r ≡ q
  first_same q more e = cc

ends_full : (most used : ℕ) (l : List Request) → EndsFull most used l (fitting most used l)
unfolding fitting
ends_full zero used l = record { rest = l; begins = refl; full = λ r more e. inl refl }
ends_full (suc most) used [] = record { rest = []; begins = refl; full = λ r more e. absurd cc }
ends_full (suc most) used (r ∷ l) = elim (cases_Bool (has_place used r)) [
  | inl place ↦ rw place (with_first most used r l (fitting most (used + length (request_bytes r)) l) (ends_full most (used + length (request_bytes r)) l))
  | inr none ↦ rw none (none_more most used r l (omega (arith, leb-false (used + length (request_bytes r)) batch_bytes_limit none)))
]

-- It is full, where the requests have the values of the grammar.
pub first_full : (s : Shape) (l : List Request) (b : Batch) → AllByRecursion (FitsRequest s) l → first_batch l ≡ Some b → IsFull l b
first_full s [] b a e = absurd cc
first_full s (r ∷ l) b a e =
    let batch : Batch = record { requests = fitting batch_limit 0 (r ∷ l) } in
    let ends : EndsFull batch_limit 0 (r ∷ l) batch.requests = ends_full batch_limit 0 (r ∷ l) in
    let fits = first_fits s (r ∷ l) batch a refl in
    let full : IsFull (r ∷ l) batch = record {
      rest = ends.rest;
      begins = ends.begins;
      some = fits.count.0;
      few = fits.count.1;
      short = fits.size;
      full = λ q more e. elim (ends.full q more e) [ inl many ↦ inl many | inr long ↦ inr (omega (arith, long)) ];
    } in
    subst (IsFull (r ∷ l)) (some_is batch b e) full
