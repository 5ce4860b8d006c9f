-- After each operation a state is a state, and each result is short.
use Rattle.std.proofs.Common.{◌≡◌, ℕ, suc, ◌≤◌, Bool, true, false, cond, leb, eqb, ◌&&◌, [], ◌∷◌, length, length-append, Option, Some, None, is_none, Ok, Err, refl, sym, ap, subst, ◌∙◌, arith}
use Rattle.std.specs.Int.{w8, w16}
use Rattle.std.specs.Ordering.{is_eq, match_ordering}
use Rattle.std.specs.declared.cmp.Ordering.{Ordering}
use Rattle.std.specs.declared.cmp.Ordering.TheVariants.{Less, Equal, Greater}
use Rattle.std.specs.List.{AllByRecursion}
use Rattle.std.specs.List.Sorted.{IsStrictlySortedBy}
use Rattle.std.specs.Map.{keys_of}
use Rattle.std.proofs.lemmas.Bool.{leb-false}
use Rattle.std.proofs.lemmas.Option.{same_Some}
use Rattle.mb_base.specs.Shapes.{Bytes}
use Rattle.mb_base.specs.Spelling.{number, text16}
use Rattle.mb_base.specs.Reading.{◌>>=◌, Cursor, cursor, Reads, number_at, pair_at, map_at}
use Rattle.mb_base.proofs.Laws.{bind_ok, ok_is, number_length, wide16}
use Rattle.mb_service.specs.Parts.{IsShort}
use Rattle.mb_kv.specs.declared.limits.TheConstants.{MAX_KEYS, MAX_KEY, MAX_VALUE}
use Rattle.mb_kv.specs.Pairs.{Pairs, compare, value_of, with_value, without}
use Rattle.mb_kv.specs.Operations.{Operation, Put, Get, Delete, Swap, Bad, key_at, value_at, operation_at, operation_of, if_whole, is_full_for, same, swapped, after_operation, after, result_of, get_result, delete_result, swap_result, answer}
use Rattle.mb_kv.specs.States.{PairFits, IsState, OperationFits}
use Rattle.mb_kv.specs.Laws.TextLaws.{text_is_within}
use Rattle.mb_kv.specs.Laws.OrderLaws.{Rises, IsBelowAll, below_all, put_rises, put_fits, put_length, none_below}

-- ---- what the bytes of an operation ask for has allowed lengths

key_and_value_fit : (s : Cursor) (p : Bytes × Bytes) (t : Cursor) → pair_at key_at value_at s ≡ Ok (p, t) → PairFits p
key_and_value_fit s p t e =
    let a = bind_ok (key_at s) (λ k. value_at k.1 >>= λ v. Ok ((k.0, v.0), v.1)) (p, t) e in
    let b = bind_ok (value_at a.0.1) (λ v. Ok ((a.0.0, v.0), v.1)) (p, t) a.2 in
    let is : (a.0.0, b.0.0) ≡ p = ap (λ (v : (Bytes × Bytes) × Cursor). v.0) (ok_is ((a.0.0, b.0.0), b.0.1) (p, t) b.2) in
    let key = text_is_within w8 1 MAX_KEY s a.0.0 a.0.1 a.1 in
    let value = text_is_within w16 0 MAX_VALUE a.0.1 b.0.0 b.0.1 b.1 in
    subst PairFits is (record { key_some = key.0; key_short = key.1; value_short = value.1 })

-- the same of a key and the second of two values
swap_fits : (s : Cursor) (p : Bytes × (Bytes × Bytes)) (t : Cursor) → pair_at key_at (pair_at value_at value_at) s ≡ Ok (p, t) → PairFits (p.0, p.1.1)
swap_fits s p t e =
    let a = bind_ok (key_at s) (λ k. pair_at value_at value_at k.1 >>= λ v. Ok ((k.0, v.0), v.1)) (p, t) e in
    let b = bind_ok (pair_at value_at value_at a.0.1) (λ v. Ok ((a.0.0, v.0), v.1)) (p, t) a.2 in
    let is : (a.0.0, b.0.0) ≡ p = ap (λ (v : (Bytes × (Bytes × Bytes)) × Cursor). v.0) (ok_is ((a.0.0, b.0.0), b.0.1) (p, t) b.2) in
    let c = bind_ok (value_at a.0.1) (λ x. value_at x.1 >>= λ y. Ok ((x.0, y.0), y.1)) b.0 b.1 in
    let d = bind_ok (value_at c.0.1) (λ y. Ok ((c.0.0, y.0), y.1)) b.0 c.2 in
    let new : d.0.0 ≡ b.0.0.1 = ap (λ (v : (Bytes × Bytes) × Cursor). v.0.1) (ok_is ((c.0.0, d.0.0), d.0.1) b.0 d.2) in
    let key = text_is_within w8 1 MAX_KEY s a.0.0 a.0.1 a.1 in
    let value = text_is_within w16 0 MAX_VALUE c.0.1 d.0.0 d.0.1 d.1 in
    subst (λ (q : Bytes × (Bytes × Bytes)). PairFits (q.0, q.1.1)) is (record { key_some = key.0; key_short = key.1; value_short = omega (arith, ap length new, value.1) })

-- what was read fits
abbrev ReadsFit : Reads Operation → Type 0
ReadsFit r = (x : Operation × Cursor) → r ≡ Ok x → OperationFits x.0

mapped_fits : {A : Type 0} (to : A → Operation) (f : Cursor → Reads A) (s : Cursor) → ((a : A) (t : Cursor) → f s ≡ Ok (a, t) → OperationFits (to a)) → ReadsFit (map_at to f s)
mapped_fits to f s h x e =
    let a = bind_ok (f s) (λ y. Ok (to y.0, y.1)) x e in
    subst (λ (y : Operation × Cursor). OperationFits y.0) (ok_is (to a.0.0, a.0.1) x a.2) (h a.0.0 a.0.1 a.1)

if_fits : (b : Bool) (f g : Cursor → Reads Operation) (s : Cursor) → ReadsFit (f s) → ReadsFit (g s) → ReadsFit (cond b f g s)
if_fits true f g s h k = h
if_fits false f g s h k = k

kind_fits : (kind : ℕ) (s : Cursor) → ReadsFit (operation_at kind s)
unfolding operation_at
kind_fits kind s =
    if_fits (eqb kind 1) _ _ s (mapped_fits (λ (p : Bytes × Bytes). Put p.0 p.1) (pair_at key_at value_at) s (key_and_value_fit s))
    (if_fits (eqb kind 2) _ _ s (mapped_fits Get key_at s (λ a t e. tt))
    (if_fits (eqb kind 3) _ _ s (mapped_fits Delete key_at s (λ a t e. tt))
    (if_fits (eqb kind 4) _ _ s (mapped_fits (λ (p : Bytes × (Bytes × Bytes)). Swap p.0 p.1.0 p.1.1) (pair_at key_at (pair_at value_at value_at)) s (swap_fits s))
    (λ x e. subst (λ (y : Operation × Cursor). OperationFits y.0) (ok_is (Bad, s) x e) tt))))

whole_fits : (r : Reads Operation) → ReadsFit r → OperationFits (if_whole r)
whole_fits (Ok x) h = by (eqb (length x.1.rest) 0)
  where
    by : (b : Bool) → OperationFits (cond b x.0 Bad)
    by true = h x refl
    by false = tt
whole_fits (Err at) h = tt

operation_fits : (op : Bytes) → OperationFits (operation_of op)
unfolding operation_of
operation_fits op = whole_fits (number_at w8 (cursor 0 op) >>= λ kind. operation_at kind.0 kind.1) (λ x e.
    let a = bind_ok (number_at w8 (cursor 0 op)) (λ kind. operation_at kind.0 kind.1) x e in
    kind_fits a.0.0 a.0.1 x a.2)

-- ---- no keys

pub no_keys_is_state : IsState []
unfolding IsStrictlySortedBy
no_keys_is_state = record { rises = tt; fits = tt; few = omega arith }

-- ---- a put

-- a key that the state has is not counted again
put_again : (key value : Bytes) (ps : Pairs) (v : Bytes) → Rises ps → value_of ps key ≡ Some v → length (with_value ps key value) ≡ length ps
unfolding IsStrictlySortedBy
put_again key value [] v rise e = absurd cc
put_again key value (p ∷ ps) v rise e = by (compare key p.0) refl e (λ found. put_again key value ps v rise.1 found)
  where
    by : (r : Ordering) → compare key p.0 ≡ r → cond (is_eq r) (Some p.1) (value_of ps key) ≡ Some v → (value_of ps key ≡ Some v → length (with_value ps key value) ≡ length ps) → length (match_ordering r ((key, value) ∷ p ∷ ps) ((p.0, value) ∷ ps) (p ∷ with_value ps key value)) ≡ length (p ∷ ps)
    by Less lt found more =
        let none : value_of ps key ≡ None = none_below key ps (below_all key p.0 (keys_of ps) lt rise.0) in
        absurd (let never : Some v ≡ None = sym found ∙ none in cc)
    by Equal eq found more = refl
    by Greater gt found more = ap suc (more found)

-- with room for a key there are not too many behind it
put_few : (key value : Bytes) (s : Pairs) → IsState s → is_full_for s key ≡ false → length (with_value s key value) ≤ MAX_KEYS
put_few key value s h room = by (value_of s key) refl
  where
    by : (found : Option Bytes) → value_of s key ≡ found → length (with_value s key value) ≤ MAX_KEYS
    by (Some v) is = omega (arith, put_again key value s v h.rises is, h.few)
    by None is =
        let test : leb MAX_KEYS (length s) ≡ false = one (leb MAX_KEYS (length s)) (ap (λ (o : Option Bytes). leb MAX_KEYS (length s) && is_none o) (sym is) ∙ room) in
        omega (arith, leb-false _ _ test, put_length key value s)
      where
        one : (b : Bool) → (b && true) ≡ false → b ≡ false
        one true e = absurd cc
        one false e = refl

put_stays : (key value : Bytes) (s : Pairs) → PairFits (key, value) → IsState s → is_full_for s key ≡ false → IsState (with_value s key value)
put_stays key value s fits h room = record {
  rises = put_rises key value s h.rises;
  fits = put_fits key value s fits h.fits;
  few = put_few key value s h room;
}

-- an old key has room
old_has_room : (s : Pairs) (key v : Bytes) → value_of s key ≡ Some v → is_full_for s key ≡ false
old_has_room s key v e = rw e (one (leb MAX_KEYS (length s)))
  where
    one : (b : Bool) → (b && false) ≡ false
    one true = refl
    one false = refl

-- ---- a delete

module _ (key : Bytes) where
  above_left : (k : Bytes) (ps : Pairs) → IsBelowAll k (keys_of ps) → IsBelowAll k (keys_of (without ps key))
  above_left k [] all = tt
  above_left k (p ∷ ps) all = by (is_eq (compare key p.0)) (above_left k ps all.1)
    where
      by : (b : Bool) → IsBelowAll k (keys_of (without ps key)) → IsBelowAll k (keys_of (cond b ps (p ∷ without ps key)))
      by true more = all.1
      by false more = (all.0, more)

  pub left_rises : (ps : Pairs) → Rises ps → Rises (without ps key)
  unfolding IsStrictlySortedBy
  left_rises [] rise = tt
  left_rises (p ∷ ps) rise = by (is_eq (compare key p.0)) (left_rises ps rise.1)
    where
      by : (b : Bool) → Rises (without ps key) → Rises (cond b ps (p ∷ without ps key))
      by true more = rise.1
      by false more = (above_left p.0 ps rise.0, more)

  pub left_fits : (ps : Pairs) → AllByRecursion PairFits ps → AllByRecursion PairFits (without ps key)
  left_fits [] all = tt
  left_fits (p ∷ ps) all = by (is_eq (compare key p.0)) (left_fits ps all.1)
    where
      by : (b : Bool) → AllByRecursion PairFits (without ps key) → AllByRecursion PairFits (cond b ps (p ∷ without ps key))
      by true more = all.1
      by false more = (all.0, more)

  left_length : (ps : Pairs) → length (without ps key) ≤ length ps
  left_length [] = omega arith
  left_length (p ∷ ps) = by (is_eq (compare key p.0)) (left_length ps)
    where
      by : (b : Bool) → length (without ps key) ≤ length ps → length (cond b ps (p ∷ without ps key)) ≤ length (p ∷ ps)
      by true le = omega arith
      by false le = omega (arith, le)

-- ---- each operation

put_is_state : (key value : Bytes) (s : Pairs) (full : Bool) → is_full_for s key ≡ full → PairFits (key, value) → IsState s → IsState (cond full s (with_value s key value))
put_is_state key value s true e fits h = h
put_is_state key value s false e fits h = put_stays key value s fits h e

swap_is_state : (key old new : Bytes) (s : Pairs) (found : Option Bytes) → value_of s key ≡ found → PairFits (key, new) → IsState s → IsState (swapped found s key old new)
swap_is_state key old new s None e fits h = h
swap_is_state key old new s (Some v) e fits h = by (same v old)
  where
    by : (b : Bool) → IsState (cond b (with_value s key new) s)
    by true = put_stays key new s fits h (old_has_room s key v e)
    by false = h

operation_stays : (o : Operation) (s : Pairs) → OperationFits o → IsState s → IsState (after_operation o s)
operation_stays (Put key value) s fits h = put_is_state key value s (is_full_for s key) refl fits h
operation_stays (Get key) s fits h = h
operation_stays (Delete key) s fits h = record {
  rises = left_rises key s h.rises;
  fits = left_fits key s h.fits;
  few = omega (arith, left_length key s, h.few);
}
operation_stays (Swap key old new) s fits h = swap_is_state key old new s (value_of s key) refl fits h
operation_stays Bad s fits h = h

pub states_stay : (s : Pairs) (op : Bytes) → IsState s → IsState (after s op)
states_stay s op h = operation_stays (operation_of op) s (operation_fits op) h

-- ---- results

pub value_is_short : (key : Bytes) (ps : Pairs) (v : Bytes) → AllByRecursion PairFits ps → value_of ps key ≡ Some v → length v ≤ MAX_VALUE
value_is_short key [] v all e = absurd cc
value_is_short key (p ∷ ps) v all e = by (is_eq (compare key p.0)) e (λ is. value_is_short key ps v all.1 is)
  where
    by : (b : Bool) → cond b (Some p.1) (value_of ps key) ≡ Some v → (value_of ps key ≡ Some v → length v ≤ MAX_VALUE) → length v ≤ MAX_VALUE
    by true is more = omega (arith, all.0.value_short, ap length (same_Some p.1 v is))
    by false is more = more is

-- with a byte before it and two of its length
text_is_short : (first : ℕ) (v : Bytes) → length v ≤ MAX_VALUE → IsShort (first ∷ text16 v)
text_is_short first v le = omega (arith, length-append (number w16 (length v)) v, number_length w16 _ (length v) wide16, le)

get_is_short : (found : Option Bytes) → ((v : Bytes) → found ≡ Some v → length v ≤ MAX_VALUE) → IsShort (get_result found)
get_is_short (Some v) h = text_is_short 1 v (h v refl)
get_is_short None h = omega arith

delete_is_short : (found : Option Bytes) → IsShort (delete_result found)
delete_is_short (Some v) = omega arith
delete_is_short None = omega arith

swap_is_short : (old : Bytes) (found : Option Bytes) → ((v : Bytes) → found ≡ Some v → length v ≤ MAX_VALUE) → IsShort (swap_result found old)
swap_is_short old (Some v) h = by (same v old)
  where
    by : (b : Bool) → IsShort (cond b (0 ∷ []) (3 ∷ text16 v))
    by true = omega arith
    by false = text_is_short 3 v (h v refl)
swap_is_short old None h = omega arith

put_is_short : (full : Bool) → IsShort (cond full (4 ∷ []) (0 ∷ []))
put_is_short true = omega arith
put_is_short false = omega arith

result_is_short : (o : Operation) (s : Pairs) → IsState s → IsShort (result_of o s)
result_is_short (Put key value) s h = put_is_short (is_full_for s key)
result_is_short (Get key) s h = get_is_short (value_of s key) (λ v e. value_is_short key s v h.fits e)
result_is_short (Delete key) s h = delete_is_short (value_of s key)
result_is_short (Swap key old new) s h = swap_is_short old (value_of s key) (λ v e. value_is_short key s v h.fits e)
result_is_short Bad s h = omega arith

pub answers_are_short : (s : Pairs) (op : Bytes) → IsState s → IsShort (answer s op)
answers_are_short s op h = result_is_short (operation_of op) s h
