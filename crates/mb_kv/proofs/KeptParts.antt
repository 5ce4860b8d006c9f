-- The parts that a state is kept in: a look-up, a pair put, a pair taken out, and the text of each.
use Rattle.std.proofs.Common.{◌≡◌, ◌≢◌, ℕ, zero, suc, ◌+◌, ◌-◌, ◌≤◌, ◌<◌, Bool, true, false, cond, eqb, leb, ◌&&◌, List, [], ◌∷◌, length, get_or, set, replicate, slice_get, Option, Some, None, is_some, is_none, Bor, inl, inr, refl, sym, ap, subst, ◌∙◌, arith}
use Rattle.std.specs.Ordering.{is_eq, match_ordering}
use Rattle.std.specs.declared.cmp.Ordering.{Ordering}
use Rattle.std.specs.declared.cmp.Ordering.TheVariants.{Less, Equal, Greater}
use Rattle.std.specs.List.{AllByRecursion}
use Rattle.std.specs.List.Sorted.{IsStrictlySortedBy}
use Rattle.std.specs.Map.{keys_of}
use Rattle.std.proofs.lemmas.Bool.{cases_eq, cases_lt, eqb-true, eqb-false, eq-eqb, ne_eqb, leb-false}
use Rattle.std.proofs.lemmas.List.{get_or-set_same, get_or-set_other, get_or-replicate, length-set, length-replicate, same_lists}
use Rattle.std.proofs.lemmas.List.Concat.{flat_map-cons}
use Rattle.std.proofs.lemmas.Option.{get_or_from_slice_get, slice_get-get_or}
use Rattle.std.specs.Prelude.{slice_index_or, option_copied}
use Rattle.std.specs.Option.{IfSome}
use Rattle.std.specs.Fn.{Called, Mut}
use Rattle.std.specs.Array.{IsFromFnResultFrom}
use Rattle.mb_base.specs.Limits.{service_parts}
use Rattle.mb_base.specs.Shapes.{Bytes}
use Rattle.mb_kv.specs.declared.limits.TheConstants.{MAX_KEYS, MAX_VALUE}
use Rattle.mb_kv.specs.Pairs.{Pairs, compare, is_key, value_of, with_value, without}
use Rattle.mb_kv.specs.Operations.{is_full_for}
use Rattle.mb_kv.specs.Snapshots.{bucket_of, in_bucket, part_text, part_of, collected}
use Rattle.mb_kv.specs.States.{PairFits, IsState}
use Rattle.mb_kv.specs.InParts.{state_of, AreKept}
use Rattle.mb_kv.specs.Laws.OrderLaws.{Rises, IsBelowAll, key_is, is_key-itself, below_all, none_below, same_pairs, put_rises, put_fits, value_after_put, all_put_fit}
use Rattle.mb_kv.specs.Laws.PartTexts.{InPart}
use Rattle.mb_kv.specs.Laws.SnapshotLaws.{AreBuckets, joined, found, bucket_below, bucket_rises, value_in_bucket, no_other, value_collected, collected_rises, buckets_fit}
use Rattle.mb_kv.specs.Laws.StateLaws.{left_rises, left_fits, value_is_short}

-- ---- the part of a bucket

from_first : (b : ℕ) → 0 + b ≡ b
from_first b = omega arith

part_at : (i : ℕ) (pss : List Pairs) (k : ℕ) → AreBuckets i pss → k < length pss → InPart (i + k) (get_or pss k [])
part_at i [] k are lt = absurd (omega (arith, lt))
part_at i (ps ∷ pss) zero are lt = let here : i + zero ≡ i = omega arith in subst (λ (b : ℕ). InPart b ps) (sym here) are.0
part_at i (ps ∷ pss) (suc k) are lt =
    let here : (i + 1) + k ≡ i + suc k = omega arith in
    subst (λ (b : ℕ). InPart b (get_or pss k [])) here (part_at (i + 1) pss k are.1 (omega (arith, lt)))

part_put : (i : ℕ) (pss : List Pairs) (k : ℕ) (ps : Pairs) → AreBuckets i pss → InPart (i + k) ps → AreBuckets i (set pss k ps)
part_put i [] k ps are is = tt
part_put i (qs ∷ pss) zero ps are is = let here : i + zero ≡ i = omega arith in (subst (λ (b : ℕ). InPart b ps) here is, are.1)
part_put i (qs ∷ pss) (suc k) ps are is =
    let here : i + suc k ≡ (i + 1) + k = omega arith in
    (are.0, part_put (i + 1) pss k ps are.1 (subst (λ (b : ℕ). InPart b ps) here is))

found_at : (q : Bytes) (i : ℕ) (pss : List Pairs) (k : ℕ) → bucket_of q ≡ i + k → found q i pss ≡ value_of (get_or pss k []) q
found_at q i [] k is = refl
found_at q i (ps ∷ pss) zero is =
    let test : eqb (bucket_of q) i ≡ true = eq-eqb _ _ (omega (arith, is)) in
    rw test refl
found_at q i (ps ∷ pss) (suc k) is =
    let test : eqb (bucket_of q) i ≡ false = ne_eqb _ _ (λ e. omega (arith, e, is)) in
    rw test (found_at q (i + 1) pss k (omega (arith, is)))

-- a key has its value in the part of its bucket
pub value_kept : (q : Bytes) (pss : List Pairs) → AreBuckets 0 pss → value_of (state_of pss) q ≡ value_of (get_or pss (bucket_of q) []) q
value_kept q pss are = value_collected q pss are ∙ found_at q 0 pss (bucket_of q) (sym (from_first (bucket_of q)))

-- ---- a pair taken out

one_taken : (a b : Bool) (v : Bytes) (left rest : Option Bytes) → (a ≡ true → b ≡ true → ⊥) → left ≡ cond a None rest → cond b (Some v) left ≡ cond a None (cond b (Some v) rest)
one_taken true true v left rest apart e = absurd (apart refl refl)
one_taken true false v left rest apart e = e
one_taken false true v left rest apart e = refl
one_taken false false v left rest apart e = e

here_taken : (a b : Bool) (v : Bytes) (rest : Option Bytes) → a ≡ b → (a ≡ true → rest ≡ None) → rest ≡ cond a None (cond b (Some v) rest)
here_taken true b v rest same none = none refl
here_taken false true v rest same none = absurd cc
here_taken false false v rest same none = refl

stays_none : (a : Bool) (o : Option Bytes) → o ≡ None → o ≡ cond a None o
stays_none true o e = e
stays_none false o e = refl

value_after_delete : (q key : Bytes) (ps : Pairs) → Rises ps → value_of (without ps key) q ≡ cond (is_key q key) None (value_of ps q)
unfolding IsStrictlySortedBy
value_after_delete q key [] rise = stays_none (is_key q key) (value_of [] q) refl
value_after_delete q key (p ∷ ps) rise = by (is_eq (compare key p.0)) refl (value_after_delete q key ps rise.1)
  where
    by : (b : Bool) → is_eq (compare key p.0) ≡ b → value_of (without ps key) q ≡ cond (is_key q key) None (value_of ps q) → value_of (cond b ps (p ∷ without ps key)) q ≡ cond (is_key q key) None (value_of (p ∷ ps) q)
    by true e more =
        let same : key ≡ p.0 = key_is key p.0 e in
        here_taken (is_key q key) (is_key q p.0) p.1 (value_of ps q) (ap (is_key q) same) (λ is. none_below q ps (subst (λ (k : Bytes). IsBelowAll k (keys_of ps)) (sym same ∙ sym (key_is q key is)) rise.0))
    by false e more =
        one_taken (is_key q key) (is_key q p.0) p.1 (value_of (without ps key) q) (value_of ps q) (λ a b.
        let same : key ≡ p.0 = sym (key_is q key a) ∙ key_is q p.0 b in
        let never : false ≡ true = sym e ∙ ap (is_key key) (sym same) ∙ is_key-itself key in
        cc) more

-- ---- how many there are

pub put_count : (key value : Bytes) (ps : Pairs) → Rises ps → length (with_value ps key value) ≡ length ps + cond (is_none (value_of ps key)) 1 0
unfolding IsStrictlySortedBy
put_count key value [] rise = refl
put_count key value (p ∷ ps) rise = by (compare key p.0) refl (put_count key value ps rise.1)
  where
    by : (r : Ordering) → compare key p.0 ≡ r → length (with_value ps key value) ≡ length ps + cond (is_none (value_of ps key)) 1 0
        → length (match_ordering r ((key, value) ∷ p ∷ ps) ((p.0, value) ∷ ps) (p ∷ with_value ps key value)) ≡ length (p ∷ ps) + cond (is_none (cond (is_eq r) (Some p.1) (value_of ps key))) 1 0
    by Less lt more =
        let none : value_of ps key ≡ None = none_below key ps (below_all key p.0 (keys_of ps) lt rise.0) in
        rw none (omega arith)
    by Equal eq more = omega arith
    by Greater gt more = omega (arith, more)

pub delete_count : (key : Bytes) (ps : Pairs) → length (without ps key) + cond (is_some (value_of ps key)) 1 0 ≡ length ps
delete_count key [] = refl
delete_count key (p ∷ ps) = by (is_eq (compare key p.0)) (delete_count key ps)
  where
    by : (b : Bool) → length (without ps key) + cond (is_some (value_of ps key)) 1 0 ≡ length ps → length (cond b ps (p ∷ without ps key)) + cond (is_some (cond b (Some p.1) (value_of ps key))) 1 0 ≡ length (p ∷ ps)
    by true more = omega arith
    by false more = omega (arith, more)

-- ---- one part changes

own_after_put : (b : ℕ) (key value : Bytes) (ps : Pairs) → bucket_of key ≡ b → AllByRecursion (λ (p : Bytes × Bytes). bucket_of p.0 ≡ b) ps → AllByRecursion (λ (p : Bytes × Bytes). bucket_of p.0 ≡ b) (with_value ps key value)
own_after_put b key value [] is all = (is, tt)
own_after_put b key value (p ∷ ps) is all = by (compare key p.0) (own_after_put b key value ps is all.1)
  where
    by : (r : Ordering) → AllByRecursion (λ (p : Bytes × Bytes). bucket_of p.0 ≡ b) (with_value ps key value) → AllByRecursion (λ (p : Bytes × Bytes). bucket_of p.0 ≡ b) (match_ordering r ((key, value) ∷ p ∷ ps) ((p.0, value) ∷ ps) (p ∷ with_value ps key value))
    by Less more = (is, all)
    by Equal more = all
    by Greater more = (all.0, more)

own_left : (b : ℕ) (key : Bytes) (ps : Pairs) → AllByRecursion (λ (p : Bytes × Bytes). bucket_of p.0 ≡ b) ps → AllByRecursion (λ (p : Bytes × Bytes). bucket_of p.0 ≡ b) (without ps key)
own_left b key [] all = tt
own_left b key (p ∷ ps) all = by (is_eq (compare key p.0)) (own_left b key ps all.1)
  where
    by : (c : Bool) → AllByRecursion (λ (p : Bytes × Bytes). bucket_of p.0 ≡ b) (without ps key) → AllByRecursion (λ (p : Bytes × Bytes). bucket_of p.0 ≡ b) (cond c ps (p ∷ without ps key))
    by true more = all.1
    by false more = (all.0, more)

module _ (pss : List Pairs) (long : length pss ≡ service_parts) (are : AreBuckets 0 pss) where
  pub own_part : (b : ℕ) → b < service_parts → InPart b (get_or pss b [])
  own_part b lt = subst (λ (x : ℕ). InPart x (get_or pss b [])) (from_first b) (part_at 0 pss b are (omega (arith, lt, long)))

  module _ (key : Bytes) where
    here_lt : bucket_of key < length pss
    here_lt = omega (arith, long, bucket_below key)

    abbrev here : Pairs
    here = get_or pss (bucket_of key) []

    own_here : InPart (bucket_of key) here
    own_here = own_part (bucket_of key) (bucket_below key)

    -- the values of the parts of which that of a key was changed
    values_after : (ps : Pairs) (q : Bytes) → AreBuckets 0 (set pss (bucket_of key) ps) → (change : Option Bytes → Option Bytes) → (bucket_of key ≡ bucket_of q → value_of ps q ≡ change (value_of here q)) → ((bucket_of key ≢ bucket_of q) → change (value_of (state_of pss) q) ≡ value_of (state_of pss) q)
        → value_of (state_of (set pss (bucket_of key) ps)) q ≡ change (value_of (state_of pss) q)
    values_after ps q are' change same other = value_kept q (set pss (bucket_of key) ps) are' ∙ elim (cases_eq (bucket_of key) (bucket_of q)) [
      | inl e ↦
          let there : get_or (set pss (bucket_of key) ps) (bucket_of q) [] ≡ ps = ap (λ (i : ℕ). get_or (set pss (bucket_of key) ps) i []) (sym e) ∙ get_or-set_same pss (bucket_of key) ps [] here_lt in
          ap (λ (qs : Pairs). value_of qs q) there ∙ same e ∙ ap (λ (i : ℕ). change (value_of (get_or pss i []) q)) e ∙ ap change (sym (value_kept q pss are))
      | inr ne ↦
          ap (λ (qs : Pairs). value_of qs q) (get_or-set_other pss (bucket_of key) (bucket_of q) ps [] (λ is. ne (sym is))) ∙ sym (value_kept q pss are) ∙ sym (other ne)
    ]

    not_key : (q : Bytes) → bucket_of key ≢ bucket_of q → is_key q key ≡ false
    not_key q ne = by (is_key q key) refl
      where
        by : (b : Bool) → is_key q key ≡ b → is_key q key ≡ false
        by true e = absurd (ne (ap bucket_of (sym (key_is q key e))))
        by false e = e

    module _ (value : Bytes) (fits : PairFits (key, value)) where
      pub put_own : AreBuckets 0 (set pss (bucket_of key) (with_value here key value))
      put_own =
          let is : InPart (bucket_of key) (with_value here key value) = record {
            rises = put_rises key value here own_here.rises;
            own = own_after_put (bucket_of key) key value here refl own_here.own;
            fits = put_fits key value here fits own_here.fits;
          } in
          part_put 0 pss (bucket_of key) (with_value here key value) are (subst (λ (x : ℕ). InPart x (with_value here key value)) (sym (from_first (bucket_of key))) is)

      pub put_state : state_of (set pss (bucket_of key) (with_value here key value)) ≡ with_value (state_of pss) key value
      put_state =
          same_pairs _ _ (collected_rises (joined (set pss (bucket_of key) (with_value here key value)))) (put_rises key value (state_of pss) (collected_rises (joined pss))) (λ q.
          values_after (with_value here key value) q put_own (cond (is_key q key) (Some value)) (λ e. value_after_put q key value here) (λ ne. rw (not_key q ne) refl)
          ∙ sym (value_after_put q key value (state_of pss)))

    pub delete_own : AreBuckets 0 (set pss (bucket_of key) (without here key))
    delete_own =
        let is : InPart (bucket_of key) (without here key) = record {
          rises = left_rises key here own_here.rises;
          own = own_left (bucket_of key) key here own_here.own;
          fits = left_fits key here own_here.fits;
        } in
        part_put 0 pss (bucket_of key) (without here key) are (subst (λ (x : ℕ). InPart x (without here key)) (sym (from_first (bucket_of key))) is)

    pub delete_state : state_of (set pss (bucket_of key) (without here key)) ≡ without (state_of pss) key
    delete_state =
        same_pairs _ _ (collected_rises (joined (set pss (bucket_of key) (without here key)))) (left_rises key (state_of pss) (collected_rises (joined pss))) (λ q.
        values_after (without here key) q delete_own (cond (is_key q key) None) (λ e. value_after_delete q key here own_here.rises) (λ ne. rw (not_key q ne) refl)
        ∙ sym (value_after_delete q key (state_of pss) (collected_rises (joined pss))))

  -- the text of a part
  pub part_is : (b : ℕ) → b < service_parts → get_or pss b [] ≡ in_bucket b (state_of pss)
  part_is b lt = same_pairs _ _ (own_part b lt).rises (bucket_rises b (state_of pss) (collected_rises (joined pss))) (λ q. one q (eqb (bucket_of q) b) refl)
    where
      one : (q : Bytes) (c : Bool) → eqb (bucket_of q) b ≡ c → value_of (get_or pss b []) q ≡ value_of (in_bucket b (state_of pss)) q
      one q true e =
          ap (λ (i : ℕ). value_of (get_or pss i []) q) (sym (eqb-true _ _ e)) ∙ sym (value_kept q pss are)
          ∙ sym (value_in_bucket b (state_of pss) q ∙ ap (λ (t : Bool). cond t (value_of (state_of pss) q) None) e)
      one q false e =
          no_other b (get_or pss b []) q (own_part b lt).own (eqb-false _ _ e)
          ∙ sym (value_in_bucket b (state_of pss) q ∙ ap (λ (t : Bool). cond t (value_of (state_of pss) q) None) e)

-- ---- what is kept is a state

pub kept_is_state : (pss : List Pairs) (count : ℕ) → AreKept pss count → IsState (state_of pss)
kept_is_state pss count kept = record {
  rises = collected_rises (joined pss);
  fits = all_put_fit [] (joined pss) tt (buckets_fit 0 pss kept.own);
  few = omega (arith, kept.count_is, kept.few);
}

few_in_bucket : (b : ℕ) (s : Pairs) → length (in_bucket b s) ≤ length s
few_in_bucket b [] = omega arith
few_in_bucket b (p ∷ ps) = by (eqb (bucket_of p.0) b) (few_in_bucket b ps)
  where
    by : (c : Bool) → length (in_bucket b ps) ≤ length ps → length (cond c (p ∷ in_bucket b ps) (in_bucket b ps)) ≤ length (p ∷ ps)
    by true le = omega arith
    by false le = omega arith

module _ (pss : List Pairs) (count : ℕ) (kept : AreKept pss count) (b : ℕ) (lt : b < service_parts) (default : Pairs) where
  same_part : get_or pss b [] ≡ get_or pss b default
  same_part = get_or_from_slice_get pss b (get_or pss b default) [] (slice_get-get_or pss b default (omega (arith, lt, kept.long)))

  -- each part can be written
  pub part_fits : (length (get_or pss b default) ≤ MAX_KEYS) × AllByRecursion PairFits (get_or pss b default)
  part_fits =
      let is = part_is pss kept.long kept.own b lt in
      let few : length (get_or pss b []) ≤ MAX_KEYS = omega (arith, ap length is, few_in_bucket b (state_of pss), kept.count_is, kept.few) in
      subst (λ (ps : Pairs). (length ps ≤ MAX_KEYS) × AllByRecursion PairFits ps) same_part (few, (own_part pss kept.long kept.own b lt).fits)

  -- its text is that of the state's part
  pub part_text_is : part_text (get_or pss b default) ≡ part_of (state_of pss) b
  unfolding part_of
  part_text_is = ap part_text (sym same_part ∙ part_is pss kept.long kept.own b lt)

-- a value that is found is short
pub short_if_found : (r : Option (Bor Bytes)) (pairs : Pairs) (key : Bytes) → IsState pairs → option_copied r ≡ value_of pairs key → IfSome r (λ value. length value.now ≤ MAX_VALUE)
short_if_found None pairs key state is = tt
short_if_found (Some value) pairs key state is = value_is_short key pairs value.now state.fits (sym is)

-- ---- what is kept after a change

and_true : (b : Bool) → (b && true) ≡ b
and_true true = refl
and_true false = refl

room_for : (is_new : Bool) (s : Pairs) (key : Bytes) → length s ≤ MAX_KEYS → is_full_for s key ≡ false → is_new ≡ is_none (value_of s key) → length s + cond is_new 1 0 ≤ MAX_KEYS
room_for true s key le room is =
    let test : leb MAX_KEYS (length s) ≡ false = sym (and_true _) ∙ ap (λ (b : Bool). leb MAX_KEYS (length s) && b) is ∙ room in
    omega (arith, leb-false _ _ test)
room_for false s key le room is = omega (arith, le)

one_more : (is_new : Bool) (n : ℕ) → n + cond is_new 1 0 ≡ cond is_new (n + 1) n
one_more true n = refl
one_more false n = omega arith

one_fewer : (was : Bool) (n : ℕ) → n - cond was 1 0 ≡ cond was (n - 1) n
one_fewer true n = refl
one_fewer false n = omega arith

module _ (pss : List Pairs) (count : ℕ) (kept : AreKept pss count) (place : ℕ) (old new : Pairs) (key : Bytes) (own : place ≡ bucket_of key) (there : slice_get pss place ≡ Some old) where
  old_is : get_or pss (bucket_of key) [] ≡ old
  old_is = ap (λ (i : ℕ). get_or pss i []) (sym own) ∙ get_or_from_slice_get pss place old [] there

  -- a key has its value there
  pub value_there : value_of (state_of pss) key ≡ value_of old key
  value_there = value_kept key pss kept.own ∙ ap (λ (ps : Pairs). value_of ps key) old_is

  module _ (value : Bytes) (is : new ≡ with_value old key value) (fits : PairFits (key, value)) where
    put_is : set pss (bucket_of key) (with_value (get_or pss (bucket_of key) []) key value) ≡ set pss place new
    put_is = ap (λ (i : ℕ). set pss i (with_value (get_or pss (bucket_of key) []) key value)) (sym own) ∙ ap (λ (ps : Pairs). set pss place (with_value ps key value)) old_is ∙ ap (set pss place) (sym is)

    pub put_gives : state_of (set pss place new) ≡ with_value (state_of pss) key value
    put_gives = ap state_of (sym put_is) ∙ put_state pss kept.long kept.own key value fits

    pub put_kept : (is_new : Bool) → is_full_for (state_of pss) key ≡ false → is_new ≡ is_none (value_of old key) → AreKept (set pss place new) (cond is_new (count + 1) count)
    put_kept is_new room new_is =
        let is_none_there : is_new ≡ is_none (value_of (state_of pss) key) = new_is ∙ ap is_none (sym value_there) in
        let counted = put_count key value (state_of pss) (collected_rises (joined pss)) in
        subst (AreKept (set pss place new)) (one_more is_new count) (record {
          long = length-set pss place new ∙ kept.long;
          own = subst (AreBuckets 0) put_is (put_own pss kept.long kept.own key value fits);
          count_is = ap (λ (n : ℕ). n + cond is_new 1 0) kept.count_is ∙ ap (λ (b : Bool). length (state_of pss) + cond b 1 0) is_none_there ∙ sym counted ∙ ap length (sym put_gives);
          few = omega (arith, kept.count_is, room_for is_new (state_of pss) key (omega (arith, kept.count_is, kept.few)) room is_none_there);
        })

  module _ (is : new ≡ without old key) where
    delete_is : set pss (bucket_of key) (without (get_or pss (bucket_of key) []) key) ≡ set pss place new
    delete_is = ap (λ (i : ℕ). set pss i (without (get_or pss (bucket_of key) []) key)) (sym own) ∙ ap (λ (ps : Pairs). set pss place (without ps key)) old_is ∙ ap (set pss place) (sym is)

    pub delete_gives : state_of (set pss place new) ≡ without (state_of pss) key
    delete_gives = ap state_of (sym delete_is) ∙ delete_state pss kept.long kept.own key

    counted_left : (was : Bool) → was ≡ is_some (value_of old key) → length (state_of (set pss place new)) + cond was 1 0 ≡ count
    counted_left was was_is =
        ap (λ (b : Bool). length (state_of (set pss place new)) + cond b 1 0) (was_is ∙ ap is_some (sym value_there))
        ∙ ap (λ (ps : Pairs). length ps + cond (is_some (value_of (state_of pss) key)) 1 0) delete_gives
        ∙ delete_count key (state_of pss) ∙ sym kept.count_is

    pub some_left : true ≡ is_some (value_of old key) → 1 ≤ count
    some_left was_is = omega (arith, counted_left true was_is)

    pub delete_kept : (was : Bool) → was ≡ is_some (value_of old key) → AreKept (set pss place new) (cond was (count - 1) count)
    delete_kept was was_is = subst (AreKept (set pss place new)) (one_fewer was count) (record {
      long = length-set pss place new ∙ kept.long;
      own = subst (AreBuckets 0) delete_is (delete_own pss kept.long kept.own key);
      count_is = omega (arith, counted_left was was_is);
      few = omega (arith, kept.few);
    })

-- ---- where nothing is kept, all parts are empty

none_kept : (i n : ℕ) → AreBuckets i (replicate n [])
unfolding IsStrictlySortedBy
none_kept i zero = tt
none_kept i (suc n) = (record { rises = tt; own = tt; fits = tt }, none_kept (i + 1) n)

none_joined : (n : ℕ) → joined (replicate n []) ≡ []
none_joined zero = refl
none_joined (suc n) = flat_map-cons (λ (ps : Pairs). ps) [] (replicate n []) ∙ none_joined n

pub none_is : (pss : List Pairs) → pss ≡ replicate service_parts [] → state_of pss ≡ []
none_is pss e = ap state_of e ∙ ap collected (none_joined service_parts)

pub none_are_kept : (pss : List Pairs) → pss ≡ replicate service_parts [] → AreKept pss 0
none_are_kept pss e = record {
  long = ap length e ∙ length-replicate {A = Pairs} service_parts [];
  own = subst (AreBuckets 0) (sym e) (none_kept 0 service_parts);
  count_is = sym (ap length (none_is pss e));
  few = omega arith;
}

-- What `from_fn` makes where each call gives the same.
module _ {F B : Type 0} (g : Mut F (ℕ × Unit {0}) B) (x : B) (step : (p q : F) (i : ℕ) (y : B) → Called g p (i, tt) y q → y ≡ x) where
  made_same : (f : F) (ys : List B) (i n : ℕ) → IsFromFnResultFrom g f ys i n → (k : ℕ) → i ≤ k → k < i + n → (d : B) → slice_index_or ys k d ≡ x
  made_same f ys i zero from k le lt d = absurd (omega (arith, le, lt))
  made_same f ys i (suc n) (q, y, at, called, rest) k le lt d = elim (cases_lt i k) [
    | inl less ↦ made_same q ys (i + 1) n rest k (omega (arith, less)) (omega (arith, lt)) d
    | inr more ↦ let same : i ≡ k = omega (arith, le, more) in ap (λ (j : ℕ). slice_index_or ys j d) (sym same) ∙ at.1 d ∙ step f q i y called
  ]

  pub made_all : (f : F) (ys : List B) (n : ℕ) → length ys ≡ n → IsFromFnResultFrom g f ys 0 n → ys ≡ replicate n x
  made_all f ys n long from = same_lists ys (replicate n x) (long ∙ sym (length-replicate n x)) (λ k d lt. made_same f ys 0 n from k (omega arith) (omega (arith, lt, long)) d ∙ sym (get_or-replicate n k x d (omega (arith, lt, long))))
