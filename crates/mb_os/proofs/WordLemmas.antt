-- The texts of words, one more at a time.
use Rattle.std.proofs.Common.{◌≡◌, ℕ, ◌+◌, List, [], ◌∷◌, ◌++◌, map, take, Some, sym, ap, ◌∙◌}
use Rattle.std.specs.Prelude.{slice_get}
use Rattle.std.proofs.lemmas.List.{map-append, take_more}
use Rattle.std.proofs.lemmas.Option.{slice_get_within, get_or_from_slice_get}

pub one_more : {X : Type 0} (text : X → List ℕ) (words : List X) (i : ℕ) (word : X) (before now : List (List ℕ)) (said : List ℕ) → slice_get words i ≡ Some word → before ≡ map text (take i words) → now ≡ before ++ said ∷ [] → said ≡ text word
    → now ≡ map text (take (i + 1) words)
one_more text words i word before now said at so_far more is =
    let next : take (i + 1) words ≡ take i words ++ word ∷ [] =
    take_more words i word (slice_get_within words i word at) ∙ ap (λ w. take i words ++ w ∷ []) (get_or_from_slice_get words i word word at) in
    more ∙ rw (so_far, is) (sym (map-append text (take i words) (word ∷ [])) ∙ ap (map text) (sym next))
