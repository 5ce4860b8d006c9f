-- What stands at a place of a list, as indexing reads it.
use Rattle.std.proofs.Common.{◌≡◌, ◌<◌, ◌∙◌, ℕ, List, Some, ap, refl, length}
use Rattle.std.specs.Prelude.{slice_get, get_or}
use Rattle.std.proofs.lemmas.Option.{slice_get_read}

-- The index is a place as a wider number.
pub stored : {X : Type 0} (xs : List X) (at i : ℕ) (x : X) → i ≡ at → at < length xs → x ≡ get_or xs i x → slice_get xs at ≡ Some x
stored xs at i x same lt is = slice_get_read xs _ at x refl lt (is ∙ ap (λ k. get_or xs k x) same)
