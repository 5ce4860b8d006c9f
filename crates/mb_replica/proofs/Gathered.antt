-- A list that is made number by number of a search in the history.
use Rattle.std.proofs.Common.{◌≡◌, ℕ, ◌+◌, List, [], ◌∷◌, ◌++◌, map, sym, ap, ◌∙◌, arith}
use Rattle.std.specs.List.{range_with_len}
use Rattle.std.proofs.lemmas.List.FromFn.{map-range_with_len_more}
use Rattle.mb_base.specs.declared.shape.Shape.{Shape}
use Rattle.mb_base.specs.Shapes.{host_count}
use Rattle.mb_model.specs.Histories.{History, Identity}
use Rattle.mb_replica.specs.declared.state.ReplicaState.{ReplicaState}
use Rattle.mb_replica.specs.Represents.{Represents}

module _ {V : Type 0} {A : Type 0} (r : ReplicaState V) (f : Identity V → History → ℕ → A) where
  -- It has what the search finds for the numbers below one.
  abbrev pub Gathered : List A → ℕ → Type 0
  Gathered l n = (me : Identity V) (d : History) → Represents me r d → l ≡ map (f me d) (range_with_len 0 n)

  pub none_gathered : (l : List A) → l ≡ [] → Gathered l 0
  none_gathered l none me d rep = none

  pub one_gathered : (l : List A) (n : ℕ) (x : A) → ((me : Identity V) (d : History) → Represents me r d → x ≡ f me d n) → Gathered l n → Gathered (l ++ x ∷ []) (n + 1)
  one_gathered l n x is so_far me d rep =
      let place : 0 + n ≡ n = omega arith in
      ap (λ (k : List A). k ++ x ∷ []) (so_far me d rep) ∙ (ap (λ (y : A). map (f me d) (range_with_len 0 n) ++ y ∷ []) (is me d rep) ∙ sym (map-range_with_len_more (f me d) 0 n n place))

  -- those of all hosts
  pub all_gathered : (l : List A) (n : ℕ) → n ≡ host_count r.protocol.shape → Gathered l n → (me : Identity V) (d : History) → Represents me r d → l ≡ map (f me d) (range_with_len 0 (host_count me.shape))
  all_gathered l n all so_far me d rep = so_far me d rep ∙ ap (λ (k : ℕ). map (f me d) (range_with_len 0 k)) (all ∙ ap (λ (s : Shape). host_count s) (sym rep.who.shape))
