-- A list with one more item taken, and with one more dropped.
use Rattle.std.proofs.Common.{◌≡◌, ℕ, zero, suc, List, [], ◌∷◌, ◌++◌, take, drop, slice_get, Some, refl, ap}
use Rattle.std.proofs.lemmas.Option.{none-some, same_Some}
use Rattle.mb_msg.specs.declared.stamped.Shown.{Shown}
use Rattle.mb_model.specs.UsableLogs.{newest_first}

pub newest_more : (l es : List Shown) (e : Shown) → newest_first l (es ++ e ∷ []) ≡ e ∷ newest_first l es
newest_more l [] e = refl
newest_more l (x ∷ es) e = newest_more (x ∷ l) es e

pub take_one : {A : Type 0} (l : List A) (i : ℕ) (x : A) → slice_get l i ≡ Some x → take (suc i) l ≡ take i l ++ x ∷ []
take_one [] i x at = absurd (none-some x at)
take_one (y ∷ l) zero x at = ap (λ z. z ∷ []) (same_Some y x at)
take_one (y ∷ l) (suc i) x at = ap (λ t. y ∷ t) (take_one l i x at)

pub drop_one : {A : Type 0} (l : List A) (i : ℕ) (x : A) → slice_get l i ≡ Some x → drop i l ≡ x ∷ drop (suc i) l
drop_one [] i x at = absurd (none-some x at)
drop_one (y ∷ l) zero x at = ap (λ z. z ∷ l) (same_Some y x at)
drop_one (y ∷ l) (suc i) x at = drop_one l i x at
