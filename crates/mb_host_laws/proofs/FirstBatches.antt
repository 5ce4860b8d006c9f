-- The batch of the first requests of a list: it has the values of the grammar where the requests have, and what holds of them holds of its requests.
use Rattle.std.proofs.Common.{◌≡◌, ℕ, zero, suc, ◌+◌, ◌≤◌, true, List, [], ◌∷◌, length, ap, subst, ◌∙◌, inl, inr, arith, length-append, Some}
use Rattle.std.specs.List.{AllByRecursion, flat_map}
use Rattle.std.proofs.lemmas.Bool.{cases_Bool, leb-true, le-leb}
use Rattle.std.proofs.lemmas.List.Concat.{flat_map-cons}
use Rattle.mb_base.specs.Limits.{batch_limit, batch_bytes_limit}
use Rattle.mb_base.specs.declared.shape.Shape.{Shape}
use Rattle.mb_parts.specs.declared.request.Request.{Request}
use Rattle.mb_parts.specs.declared.batch.Batch.{Batch}
use Rattle.mb_parts.specs.Spelling.{request_bytes}
use Rattle.mb_parts.specs.Fits.{FitsRequest, FitsBatch}
use Rattle.mb_model.specs.Batches.{has_place, fitting, first_batch}
use Rattle.mb_msg.proofs.Sizes.{request_short}
use Rattle.mb_host_laws.proofs.Cases.{some_is}

-- ---- what the requests have

pub fitting_all : (P : Request → Type 0) (most used : ℕ) (l : List Request) → AllByRecursion P l → AllByRecursion P (fitting most used l)
unfolding fitting
fitting_all P zero used l a = tt
fitting_all P (suc most) used [] a = tt
fitting_all P (suc most) used (r ∷ l) a = elim (cases_Bool (has_place used r)) [
  | inl place ↦ rw place (a.0, fitting_all P most (used + length (request_bytes r)) l a.1)
  | inr none ↦ rw none tt
]

-- ---- how many they are, and how long

fitting_few : (most used : ℕ) (l : List Request) → length (fitting most used l) ≤ most
unfolding fitting
fitting_few zero used l = omega arith
fitting_few (suc most) used [] = omega arith
fitting_few (suc most) used (r ∷ l) = elim (cases_Bool (has_place used r)) [
  | inl place ↦ rw place (let few = fitting_few most (used + length (request_bytes r)) l in omega (arith, few))
  | inr none ↦ rw none (omega arith)
]

fitting_short : (most used : ℕ) (l : List Request) → used ≤ batch_bytes_limit → used + length (flat_map request_bytes (fitting most used l)) ≤ batch_bytes_limit
unfolding fitting
fitting_short zero used l le = omega (arith, le)
fitting_short (suc most) used [] le = omega (arith, le)
fitting_short (suc most) used (r ∷ l) le = elim (cases_Bool (has_place used r)) [
  | inl place ↦ rw place (with_it (fitting_short most (used + length (request_bytes r)) l (leb-true (used + length (request_bytes r)) batch_bytes_limit place)))
  | inr none ↦ rw none (omega (arith, le))
] where
  more : List Request
  more = fitting most (used + length (request_bytes r)) l

  with_it : used + length (request_bytes r) + length (flat_map request_bytes more) ≤ batch_bytes_limit → used + length (flat_map request_bytes (r ∷ more)) ≤ batch_bytes_limit
  with_it rest =
      let joined : length (flat_map request_bytes (r ∷ more)) ≡ length (request_bytes r) + length (flat_map request_bytes more) =
      ap length (flat_map-cons request_bytes r more) ∙ length-append (request_bytes r) (flat_map request_bytes more) in
      omega (arith, rest, joined)

-- A request by itself goes into a batch.
alone : (s : Shape) (r : Request) → FitsRequest s r → has_place 0 r ≡ true
alone s r f = le-leb (0 + length (request_bytes r)) batch_bytes_limit (omega (arith, request_short s r f))

first_some : (most : ℕ) (r : Request) (l : List Request) → has_place 0 r ≡ true → 1 ≤ length (fitting (suc most) 0 (r ∷ l))
unfolding fitting
first_some most r l place = rw place (omega arith)

-- ---- the batch

pub first_fits : (s : Shape) (l : List Request) (b : Batch) → AllByRecursion (FitsRequest s) l → first_batch l ≡ Some b → FitsBatch s b
first_fits s [] b a e = absurd cc
first_fits s (r ∷ l) b a e =
    let requests : List Request = fitting batch_limit 0 (r ∷ l) in
    let batch : Batch = record { requests = requests } in
    let few = fitting_few batch_limit 0 (r ∷ l) in
    let size = fitting_short batch_limit 0 (r ∷ l) (omega arith) in
    let fits : FitsBatch s batch = record {
      count = (first_some 15 r l (alone s r a.0), omega (arith, few));
      requests = fitting_all (FitsRequest s) batch_limit 0 (r ∷ l) a;
      size = omega (arith, size);
    } in
    subst (FitsBatch s) (some_is batch b e) fits

pub first_all : (P : Request → Type 0) (l : List Request) (b : Batch) → AllByRecursion P l → first_batch l ≡ Some b → AllByRecursion P b.requests
first_all P [] b a e = absurd cc
first_all P (r ∷ l) b a e =
    let batch : Batch = record { requests = fitting batch_limit 0 (r ∷ l) } in
    subst (λ (x : Batch). AllByRecursion P x.requests) (some_is batch b e) (fitting_all P batch_limit 0 (r ∷ l) a)
