-- What is kept in the map, as pairs: a look-up, a pair put, and a pair taken out.
use Rattle.std.proofs.Common.{◌≡◌, ℕ, Bool, true, false, not, cond, List, [], ◌∷◌, Option, Some, None, is_some, is_none, option_map, refl, sym, ap, ◌∙◌}
use Rattle.std.specs.Global.{Vec}
use Rattle.std.specs.Ordering.{is_eq, match_ordering}
use Rattle.std.specs.declared.cmp.Ordering.{Ordering}
use Rattle.std.specs.declared.cmp.Ordering.TheVariants.{Less, Equal, Greater}
use Rattle.std.specs.Map.{lookup, remove_entry}
use Rattle.std.specs.BTreeMap.{insert_entry, is_at}
use Rattle.mb_base.specs.Shapes.{Bytes}
use Rattle.mb_kv.specs.declared.kept.Kept.{Kept}
use Rattle.mb_kv.specs.Pairs.{Pairs, compare, value_of, with_value, without}
use Rattle.mb_kv.specs.Seen.{pair_seen, pairs_seen}

abbrev pub Entry : Type 0
Entry = Vec ℕ × Kept

-- the map's order of its keys
abbrev pub key_order : Vec ℕ → Vec ℕ → Ordering
key_order x y = compare x.items y.items

-- the map's search for a key
abbrev pub search_for : Bytes → Vec ℕ → Ordering
search_for key k = compare key k.items

one_lookup : {X Y : Type 0} (f : X → Y) (b : Bool) (x : X) (rest : Option X) → cond b (Some (f x)) (option_map f rest) ≡ option_map f (cond b (Some x) rest)
one_lookup f true x rest = refl
one_lookup f false x rest = refl

-- a look-up finds the value
pub lookup_seen : (key : Bytes) (es : List Entry) → value_of (pairs_seen es) key ≡ option_map (λ k. k.value) (lookup (is_at (search_for key)) es)
lookup_seen key [] = refl
lookup_seen key (e ∷ es) = rw (lookup_seen key es) (one_lookup (λ (k : Kept). k.value) (is_eq (compare key e.0.items)) e.1 (lookup (is_at (search_for key)) es))

-- whether there is a value
pub none_seen : (r : Bool) (o : Option Kept) → not r ≡ is_some o → r ≡ is_none (option_map (λ (k : Kept). k.value) o)
none_seen true None e = refl
none_seen true (Some k) e = absurd cc
none_seen false None e = absurd cc
none_seen false (Some k) e = refl

pub some_seen : (o : Option Kept) → is_some o ≡ is_some (option_map (λ (k : Kept). k.value) o)
some_seen None = refl
some_seen (Some k) = refl

one_insert : (r : Ordering) (k : Vec ℕ) (v : Kept) (e : Entry) (es new : List Entry) (seen : Pairs) → pairs_seen new ≡ seen
    → pairs_seen (match_ordering r ((k, v) ∷ e ∷ es) ((e.0, v) ∷ es) (e ∷ new)) ≡ match_ordering r ((k.items, v.value) ∷ pairs_seen (e ∷ es)) ((e.0.items, v.value) ∷ pairs_seen es) (pair_seen e ∷ seen)
one_insert Less k v e es new seen h = refl
one_insert Equal k v e es new seen h = refl
one_insert Greater k v e es new seen h = ap (λ (ps : Pairs). pair_seen e ∷ ps) h

-- an entry that is put
pub insert_seen : (k : Vec ℕ) (v : Kept) (es : List Entry) → pairs_seen (insert_entry key_order es k v) ≡ with_value (pairs_seen es) k.items v.value
insert_seen k v [] = refl
insert_seen k v (e ∷ es) = one_insert (compare k.items e.0.items) k v e es (insert_entry key_order es k v) (with_value (pairs_seen es) k.items v.value) (insert_seen k v es)

one_remove : (b : Bool) (e : Entry) (es new : List Entry) (seen : Pairs) → pairs_seen new ≡ seen → pairs_seen (cond b es (e ∷ new)) ≡ cond b (pairs_seen es) (pair_seen e ∷ seen)
one_remove true e es new seen h = refl
one_remove false e es new seen h = ap (λ (ps : Pairs). pair_seen e ∷ ps) h

-- an entry that is taken out
pub remove_seen : (key : Bytes) (es : List Entry) → pairs_seen (remove_entry (is_at (search_for key)) es) ≡ without (pairs_seen es) key
remove_seen key [] = refl
remove_seen key (e ∷ es) = one_remove (is_eq (compare key e.0.items)) e es (remove_entry (is_at (search_for key)) es) (without (pairs_seen es) key) (remove_seen key es)

none_found : (b : Bool) (v : Bytes) (rest : Option Bytes) → cond b (Some v) rest ≡ None → (b ≡ false) × (rest ≡ None)
none_found true v rest e = absurd cc
none_found false v rest e = (refl, e)

-- where there is no such key, nothing is taken out
pub without_absent : (pairs : Pairs) (key : Bytes) → value_of pairs key ≡ None → without pairs key ≡ pairs
without_absent [] key e = refl
without_absent (p ∷ ps) key e =
    let h = none_found (is_eq (compare key p.0)) p.1 (value_of ps key) e in
    rw h.0 (ap (λ (qs : Pairs). p ∷ qs) (without_absent ps key h.1))

absent_stays : (pairs : Pairs) (key : Bytes) (found : Option Bytes) → value_of pairs key ≡ found → is_some found ≡ false → pairs ≡ without pairs key
absent_stays pairs key (Some value) is e = absurd cc
absent_stays pairs key None is e = sym (without_absent pairs key is)

-- a key that the state does not have
pub stays_without : (pairs : Pairs) (key : Bytes) (has : Bool) → has ≡ is_some (value_of pairs key) → has ≡ false → pairs ≡ without pairs key
stays_without pairs key has is absent = absent_stays pairs key (value_of pairs key) refl (sym is ∙ absent)
