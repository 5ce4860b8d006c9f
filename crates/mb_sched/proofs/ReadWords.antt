-- Words that are read one after the other, as a loop does.
use Rattle.std.proofs.Common.{◌≡◌, suc, List, [], ◌∷◌, ◌++◌, length, Option, Some, None, refl, sym, ap, ◌∙◌, append_assoc}
use Rattle.std.specs.Option.{option_copied}
use Rattle.std.proofs.lemmas.List.{append-nil}
use denote.Ref.{Bor}
use Rattle.mb_base.specs.Shapes.{Bytes}
use Rattle.mb_sched.specs.Words.{all_of, words_behind, after, ◌>>=◌}
use Rattle.mb_sched.proofs.Pieces.{words_left}

-- the steps of what was read
pub some_is : {A : Type 0} (x y : A) → Some x ≡ Some y → x ≡ y
some_is x y e = cc

pub bind_some : {A B : Type 0} (o : Option A) (f : A → Option B) (y : B) → (o >>= f) ≡ Some y → (x : A) × (o ≡ Some x) × (f x ≡ Some y)
bind_some None f y e = absurd cc
bind_some (Some x) f y e = (x, refl, e)

pub no_front : {A : Type 0} (o : Option (List A)) → after [] o ≡ o
no_front None = refl
no_front (Some xs) = refl

pub regroup : {A : Type 0} (front : List A) (x : A) (o : Option (List A)) → after front (o >>= λ xs. Some (x ∷ xs)) ≡ after (front ++ x ∷ []) o
regroup front x None = refl
regroup {A = A} front x (Some xs) = ap (λ (ys : List A). Some ys) (simp append_assoc)

cons_read : {A : Type 0} (o : Option A) (p : Option (List A)) (x : A) (xs : List A) → o ≡ Some x → p ≡ Some xs → (o >>= λ y. p >>= λ ys. Some (y ∷ ys)) ≡ Some (x ∷ xs)
cons_read o p x xs e h = rw (e, h) refl

module _ {A : Type 0} (read : Bytes → Option A) where
  -- one word more
  pub goes_on : (front : List A) (ws : List Bytes) (word : Bytes) (more : List Bytes) (x : A) (total : Option (List A)) → ws ≡ word ∷ more → Some x ≡ read word
      → after front (all_of read ws) ≡ total → after (front ++ x ∷ []) (all_of read more) ≡ total
  goes_on front ws word more x total parts is so_far =
      let seen = rw (parts, ← is) at so_far in
      sym (regroup front x (all_of read more)) ∙ seen

  -- a word that says nothing
  pub stops : (front : List A) (ws : List Bytes) (word : Bytes) (more : List Bytes) (total : Option (List A)) → ws ≡ word ∷ more → None ≡ read word
      → after front (all_of read ws) ≡ total → None ≡ total
  stops front ws word more total parts is so_far = rw (parts, ← is) at so_far

  -- no word is left
  pub is_done : (front : List A) (ws : List Bytes) (total : Option (List A)) → ws ≡ [] → after front (all_of read ws) ≡ total → Some front ≡ total
  is_done front ws total none so_far =
      let seen = rw none at so_far in
      ap (λ (xs : List A). Some xs) (sym (append-nil front)) ∙ seen

  -- nothing was read yet
  pub begins : (ws : List Bytes) → after [] (all_of read ws) ≡ all_of read ws
  begins ws = no_front (all_of read ws)

  -- as many things as words
  pub as_many : (ws : List Bytes) (xs : List A) → all_of read ws ≡ Some xs → length xs ≡ length ws
  as_many [] xs e = rw (← some_is [] xs e) refl
  as_many (word ∷ more) xs e =
      let first = bind_some (read word) _ xs e in
      let rest = bind_some (all_of read more) _ xs first.2 in
      rw (← some_is (first.0 ∷ rest.0) xs rest.2) (ap suc (as_many more rest.0 rest.1))

  -- what words say one behind the other
  pub all_of-append : (vs ws : List Bytes) (xs ys : List A) → all_of read vs ≡ Some xs → all_of read ws ≡ Some ys → all_of read (vs ++ ws) ≡ Some (xs ++ ys)
  all_of-append [] ws xs ys first second = rw (← some_is [] xs first) second
  all_of-append (word ∷ more) ws xs ys first second =
      let one = bind_some (read word) _ xs first in
      let rest = bind_some (all_of read more) _ xs one.2 in
      let both = all_of-append more ws rest.0 ys rest.1 second in
      let whole = some_is (one.0 ∷ rest.0) xs rest.2 in
      cons_read (read word) (all_of read (more ++ ws)) one.0 (rest.0 ++ ys) one.1 both ∙ ap (λ (zs : List A). Some (zs ++ ys)) whole

pub left_behind : (o : Option (Bor Bytes)) → words_left o ≡ words_behind (option_copied o)
left_behind None = refl
left_behind (Some text) = refl
