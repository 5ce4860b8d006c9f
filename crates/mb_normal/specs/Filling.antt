-- A batch that is being filled, request by request.
use Rattle.std.specs.Prelude.{◌≡◌, ◌+◌, ◌&&◌, Bool, true, false, nat_lt, [], ◌∷◌, ◌++◌, length, Option, Some, None}
use Rattle.mb_base.specs.Limits.{batch_limit}
use Rattle.mb_parts.specs.declared.request.Request.{Request}
use Rattle.mb_parts.specs.Spelling.{request_bytes}
use Rattle.mb_model.specs.Batches.{has_place}
use Rattle.mb_normal.specs.declared.filling.Filling.{Filling}

-- The request behind the others has place in the batch.
abbrev pub goes_into : Filling → Request → Bool
goes_into f r = nat_lt (length f.requests) batch_limit && has_place f.used r

-- What adding a request does, where there is one. One that has no place is not added.
abbrev pub Adds : Filling → Option Request → Filling → Bool → Type 0
Adds old None new added = (added ≡ true) × (new ≡ old)
Adds old (Some r) new true = (goes_into old r ≡ true) × ((new.requests ≡ old.requests ++ r ∷ []) × (new.used ≡ old.used + length (request_bytes r)))
Adds old (Some r) new false = (goes_into old r ≡ false) × (new ≡ old)
