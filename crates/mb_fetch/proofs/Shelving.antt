-- A shelf with one snapshot more and with fewer.
use Rattle.std.proofs.Common.{◌≡◌, ℕ, ◌<◌, ◌≤◌, Bool, true, false, ◌||◌, List, [], ◌∷◌, ◌++◌, map, length, Option, Some, None, is_some, inl, inr, refl, sym, ap, ◌∙◌, subst, arith}
use Rattle.std.proofs.Math.Path.{fun_ext}
use Rattle.std.specs.Prelude.{if◌then◌else◌}
use Rattle.std.specs.List.{filter, AllByRecursion}
use Rattle.std.proofs.lemmas.Bool.{cases_Bool, or_left, or_right, false_from_ne_true}
use Rattle.std.proofs.lemmas.List.{length_push, length-map, map_push}
use Rattle.mb_base.specs.Limits.{part_count, snapshot_limit}
use Rattle.mb_base.specs.Shapes.{Bytes}
use Rattle.mb_fetch.specs.declared.shelved.Keyed.{Keyed}
use Rattle.mb_fetch.specs.Snapshots.{Snapshot, snapshot}
use Rattle.mb_fetch.specs.Shelves.{has_key, all_keys, bytes_under, seen, seen_one, HoldsOnce, Extends, AddsOnly, IsShelf}
use Rattle.mb_fetch.proofs.ByKey.{there, AreSame, has_key-append, all_keys_more, keys_of_filtered, same_seen, keys_hold, key_holds}

-- nothing is kept
pub none_is : (p : ℕ → Option Bytes) → ((key : ℕ) → p key ≡ None) → IsShelf [] p
none_is p none = record {
  few = omega arith;
  whole = tt;
  used = λ key. ap (λ (o : Option Bytes). is_some o) (none key);
  once = λ a b part ea eb. let e = sym (none a) ∙ ea in absurd cc;
}

pub as_many_seen : (p : ℕ → Option Bytes) (keyed : List Keyed) (shelf : List Snapshot) → seen p keyed ≡ shelf → length shelf < snapshot_limit → length keyed < snapshot_limit
as_many_seen p keyed shelf e room =
    let same = length-map keyed (seen_one p) in
    let all = ap length e in
    omega (arith, same, all, room)

not_there : (o : Option Bytes) → is_some o ≡ false → o ≡ None
not_there None e = refl
not_there (Some x) e = absurd cc

module _ (keyed : List Keyed) (p : ℕ → Option Bytes) (is : IsShelf keyed p) where
  used_there : (key : ℕ) → has_key key (all_keys keyed) ≡ true → (x : Bytes) × (p key ≡ Some x)
  used_there key e = (bytes_under p key, there (p key) (is.used key ∙ e))

  -- ---- one snapshot more

  module _ (q : ℕ → Option Bytes) (more : Extends p q) where
    pub used_stay : AreSame p q (all_keys keyed)
    used_stay key e = let was = used_there key e in more key was.0 was.1 ∙ sym was.1

    module _ (k : Keyed) (parts : List Bytes) (hold : map q k.keys.items ≡ map (λ x. Some x) parts) where
      pub more_seen : seen q (keyed ++ k ∷ []) ≡ seen p keyed ++ snapshot k.pos parts ∷ []
      more_seen =
          map_push (seen_one q) keyed k
          ∙ (ap (λ (l : List Snapshot). l ++ seen_one q k ∷ []) (same_seen p q keyed used_stay)
          ∙ ap (λ (l : List Bytes). seen p keyed ++ snapshot k.pos l ∷ []) (keys_hold q k.keys.items parts hold))

      whole_more : (l : List Keyed) → AllByRecursion (λ x. length x.keys.items ≡ part_count) l → length k.keys.items ≡ part_count → AllByRecursion (λ x. length x.keys.items ≡ part_count) (l ++ k ∷ [])
      whole_more [] all one = (one, tt)
      whole_more (x ∷ xs) all one = (all.0, whole_more xs all.1 one)

      as_many : length k.keys.items ≡ length parts
      as_many = sym (length-map k.keys.items q) ∙ (ap length hold ∙ length-map parts (λ (x : Bytes). Some x))

      used_more : AddsOnly p q k.keys.items → (key : ℕ) → is_some (q key) ≡ has_key key (all_keys (keyed ++ k ∷ []))
      used_more only key = by_place (has_key key (all_keys keyed)) (has_key key k.keys.items) refl refl ∙ sym (ap (has_key key) (all_keys_more keyed k) ∙ has_key-append key (all_keys keyed) k.keys.items) where
        by_place : (a b : Bool) → has_key key (all_keys keyed) ≡ a → has_key key k.keys.items ≡ b → is_some (q key) ≡ (has_key key (all_keys keyed) || has_key key k.keys.items)
        by_place true b old new =
            let was = used_there key old in
            ap (λ (o : Option Bytes). is_some o) (more key was.0 was.1) ∙ sym (or_left (has_key key (all_keys keyed)) (has_key key k.keys.items) old)
        by_place false true old new = key_holds q k.keys.items parts hold key new ∙ sym (or_right (has_key key (all_keys keyed)) (has_key key k.keys.items) new)
        by_place false false old new = rw (old, new) (false_from_ne_true (is_some (q key)) (λ e.
            let now = there (q key) e in
            elim (only key (bytes_under q key) now) [
              | inl was ↦ let some = ap (λ (o : Option Bytes). is_some o) (sym was) ∙ (is.used key ∙ old) in absurd cc
              | inr here ↦ let both = sym here ∙ new in absurd cc
            ]))

      pub more_is : AddsOnly p q k.keys.items → HoldsOnce q → length keyed < snapshot_limit → length parts ≡ part_count → IsShelf (keyed ++ k ∷ []) q
      more_is only once room count = record {
        few = let longer = length_push keyed k in omega (arith, longer, room);
        whole = whole_more keyed is.whole (as_many ∙ count);
        used = used_more only;
        once = once;
      }

    -- ---- what was held more is dropped again

    module _ (r : ℕ → Option Bytes) (dropped : (key : ℕ) → r key ≡ (if has_key key (all_keys keyed) then q key else None)) where
      back_at : (key : ℕ) → r key ≡ p key
      back_at key = by_use (has_key key (all_keys keyed)) refl where
        by_use : (b : Bool) → has_key key (all_keys keyed) ≡ b → r key ≡ p key
        by_use true e = dropped key ∙ (rw e (used_stay key e))
        by_use false e = dropped key ∙ (rw e (sym (not_there (p key) (is.used key ∙ e))))

      pub back : r ≡ p
      back = fun_ext back_at

  -- ---- fewer snapshots

  module _ (test : Keyed → Bool) (r : ℕ → Option Bytes) (dropped : (key : ℕ) → r key ≡ (if has_key key (all_keys (filter test keyed)) then p key else None)) where
    left : (key : ℕ) (part : Bytes) → r key ≡ Some part → p key ≡ Some part
    left key part e = by_use (has_key key (all_keys (filter test keyed))) refl where
      by_use : (b : Bool) → has_key key (all_keys (filter test keyed)) ≡ b → p key ≡ Some part
      by_use true u = let same : r key ≡ p key = dropped key ∙ rw u refl in sym same ∙ e
      by_use false u = let none : r key ≡ None = dropped key ∙ rw u refl in absurd cc

    left_used : AreSame p r (all_keys (filter test keyed))
    left_used key e = dropped key ∙ rw e refl

    pub fewer_seen : seen r (filter test keyed) ≡ seen p (filter test keyed)
    fewer_seen = same_seen p r (filter test keyed) left_used

    used_left : (key : ℕ) → is_some (r key) ≡ has_key key (all_keys (filter test keyed))
    used_left key = by_use (has_key key (all_keys (filter test keyed))) refl where
      by_use : (b : Bool) → has_key key (all_keys (filter test keyed)) ≡ b → is_some (r key) ≡ has_key key (all_keys (filter test keyed))
      by_use true u = ap (λ (o : Option Bytes). is_some o) (left_used key u) ∙ (is.used key ∙ (keys_of_filtered test key keyed u ∙ sym u))
      by_use false u = let none : r key ≡ None = dropped key ∙ rw u refl in ap (λ (o : Option Bytes). is_some o) none ∙ sym u

    whole_fewer : (l : List Keyed) → AllByRecursion (λ x. length x.keys.items ≡ part_count) l → AllByRecursion (λ x. length x.keys.items ≡ part_count) (filter test l)
    whole_fewer [] all = all
    whole_fewer (x ∷ xs) all = elim (cases_Bool (test x)) [
      | inl so ↦ rw so (all.0, whole_fewer xs all.1)
      | inr not_so ↦ rw not_so (whole_fewer xs all.1)
    ]

    not_longer : (l : List Keyed) → length (filter test l) ≤ length l
    not_longer [] = omega arith
    not_longer (x ∷ xs) = let rest = not_longer xs in elim (cases_Bool (test x)) [
      | inl so ↦ rw so (omega (arith, rest))
      | inr not_so ↦ rw not_so (omega (arith, rest))
    ]

    pub fewer_is : IsShelf (filter test keyed) r
    fewer_is = record {
      few = let less = not_longer keyed in let few = is.few in omega (arith, less, few);
      whole = whole_fewer keyed is.whole;
      used = used_left;
      once = λ a b part ea eb. is.once a b part (left a part ea) (left b part eb);
    }

  -- ---- the same of lists and parts that are known to be these

  module _ (test : Keyed → Bool) (l : List Keyed) (are : l ≡ filter test keyed) (r : ℕ → Option Bytes) (dropped : (key : ℕ) → r key ≡ (if has_key key (all_keys l) then p key else None)) where
    so_dropped : (key : ℕ) → r key ≡ (if has_key key (all_keys (filter test keyed)) then p key else None)
    so_dropped = subst (λ (x : List Keyed). (key : ℕ) → r key ≡ (if has_key key (all_keys x) then p key else None)) are dropped

    pub left_is : IsShelf l r
    left_is = subst (λ (x : List Keyed). IsShelf x r) (sym are) (fewer_is test r so_dropped)

    pub left_seen : seen r l ≡ seen p (filter test keyed)
    left_seen = ap (seen r) are ∙ fewer_seen test r so_dropped
