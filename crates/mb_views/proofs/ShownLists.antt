-- The list that a VIEW_CHANGE shows stands oldest first; put back, it is the kept log as it stands, newest first.
use Rattle.std.proofs.Common.{◌≡◌, List, [], ◌∷◌, ◌++◌, refl, ap, ◌∙◌}
use Rattle.std.specs.Prelude.{map, reverse}
use Rattle.std.specs.List.{AllByRecursion}
use Rattle.std.proofs.lemmas.List.{append-nil, reverse-append}
use Rattle.mb_msg.specs.declared.stamped.Shown.{Shown}
use Rattle.mb_model.specs.UsableLogs.{newest_first}
use Rattle.mb_host_laws.proofs.Cases.{map_append}

newest_append : (l a b : List Shown) → newest_first l (a ++ b) ≡ newest_first (newest_first l a) b
newest_append l [] b = refl
newest_append l (e ∷ a) b = newest_append (e ∷ l) a b

newest_onto : {A : Type 0} (g : A → Shown) (l : List A) (acc : List Shown) → newest_first acc (map g (reverse l)) ≡ map g l ++ acc
newest_onto g [] acc = refl
newest_onto {A} g (x ∷ l) acc =
    ap (λ (y : List A). newest_first acc (map g y)) (reverse-append (x ∷ []) l)
    ∙ ap (newest_first acc) (map_append g (reverse l) (x ∷ []))
    ∙ newest_append acc (map g (reverse l)) (g x ∷ [])
    ∙ ap (λ (y : List Shown). g x ∷ y) (newest_onto g l acc)

pub newest_again : {A : Type 0} (g : A → Shown) (l : List A) → newest_first [] (map g (reverse l)) ≡ map g l
newest_again g l = newest_onto g l [] ∙ append-nil (map g l)

pub all_map : {A B : Type 0} (P : B → Type 0) (g : A → B) (l : List A) → AllByRecursion (λ x. P (g x)) l → AllByRecursion P (map g l)
all_map P g [] a = tt
all_map P g (x ∷ l) a = (a.0, all_map P g l a.1)
