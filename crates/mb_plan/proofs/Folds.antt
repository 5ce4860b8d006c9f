-- Loops that go through a list from its head, against searches that are told from its head, or from its end.
use Rattle.std.proofs.Common.{◌≡◌, ℕ, ◌+◌, ◌≤◌, List, [], ◌∷◌, length, take, drop, slice_get, Some, sym, ap, ◌∙◌, add-one}
use Rattle.std.proofs.lemmas.List.{drop_all, take_all}
use Rattle.mb_msg.specs.declared.stamped.Shown.{Shown}
use Rattle.mb_model.specs.UsableLogs.{newest_first}
use Rattle.mb_plan.proofs.TakenLists.{newest_more, take_one, drop_one}

-- ---- entries, newest first

pub newest_next : {R : Type 0} (F : List Shown → R) (es : List Shown) (i : ℕ) (e : Shown) → slice_get es i ≡ Some e
    → F (newest_first [] (take (i + 1) es)) ≡ F (e ∷ newest_first [] (take i es))
newest_next F es i e at = ap F (ap (λ n. newest_first [] (take n es)) (add-one i) ∙ ap (newest_first []) (take_one es i e at) ∙ newest_more [] (take i es) e)

pub newest_all : {R : Type 0} (F : List Shown → R) (es : List Shown) (i : ℕ) → length es ≤ i → F (newest_first [] (take i es)) ≡ F (newest_first [] es)
newest_all F es i le = ap (λ l. F (newest_first [] l)) (take_all i es le)

-- ---- what a search makes of a list from a place on

pub rest_next : {A R : Type 0} (F : List A → R) (l : List A) (i : ℕ) (x : A) → slice_get l i ≡ Some x → F (drop i l) ≡ F (x ∷ drop (i + 1) l)
rest_next F l i x at = ap F (drop_one l i x at) ∙ ap (λ n. F (x ∷ drop n l)) (sym (add-one i))

pub rest_none : {A R : Type 0} (F : List A → R) (l : List A) (i : ℕ) → length l ≤ i → F (drop i l) ≡ F []
rest_none F l i le = ap F (drop_all i l le)
