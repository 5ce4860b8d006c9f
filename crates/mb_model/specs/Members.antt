-- Members of lists: what `Contains` says, in a form that steps through the list.
use Rattle.std.specs.Prelude.{◌≡◌, ◌⊎◌, List, [], ◌∷◌}

abbrev pub In : {A : Type 0} → List A → A → Type 0
In [] x = ⊥
In (y ∷ l) x = (y ≡ x) ⊎ In l x
