-- The digests of all parts, one behind the other.
use Rattle.std.proofs.Common.{◌≡◌, ℕ, zero, suc, ◌+◌, List, [], ◌∷◌, ◌++◌, map, sym, ap, ◌∙◌, arith, append_assoc}
use Rattle.std.specs.List.{flat_map, range_with_len}
use Rattle.std.specs.Int.{w64}
use Rattle.std.proofs.lemmas.List.{append-nil}
use Rattle.std.proofs.lemmas.List.Concat.{flat_map-cons}
use Rattle.sha2.specs.Sha256.{sha256}
use Rattle.mb_base.specs.Limits.{service_parts}
use Rattle.mb_base.specs.Shapes.{Bytes}
use Rattle.mb_base.specs.Spelling.{number}
use Rattle.mb_model.specs.Service.{Served}
use Rattle.mb_model.specs.States.{Snapshots, table_bytes, parts_of, digest_string, part_digests}
use Rattle.mb_cache.specs.Digests.{part_digest}

-- one part more
pub parts_more : (f : ℕ → Bytes) (first count : ℕ) → flat_map f (range_with_len first (suc count)) ≡ flat_map f (range_with_len first count) ++ f (first + count)
parts_more f first zero =
    let same : first + 0 ≡ first = omega arith in
    flat_map-cons f first [] ∙ (append-nil (f first) ∙ ap f (sym same))
parts_more f first (suc count) =
    let next : (first + 1) + count ≡ first + suc count = omega arith in
    flat_map-cons f first (range_with_len (first + 1) (suc count))
    ∙ (ap (λ (l : Bytes). f first ++ l) (parts_more f (first + 1) count)
    ∙ (sym (append_assoc (f first) (flat_map f (range_with_len (first + 1) count)) (f ((first + 1) + count)))
    ∙ (ap (λ (l : Bytes). l ++ f ((first + 1) + count)) (sym (flat_map-cons f first (range_with_len (first + 1) count)))
    ∙ ap (λ (i : ℕ). flat_map f (range_with_len first (suc count)) ++ f i) next)))

parts_and_table : (part : ℕ → Bytes) (ns : List ℕ) (table : Bytes) → flat_map (λ (d : Bytes). d) (map sha256 (map part ns ++ table ∷ [])) ≡ flat_map (λ (i : ℕ). sha256 (part i)) ns ++ sha256 table
parts_and_table part [] table = flat_map-cons (λ (d : Bytes). d) (sha256 table) [] ∙ append-nil (sha256 table)
parts_and_table part (n ∷ ns) table =
    flat_map-cons (λ (d : Bytes). d) (sha256 (part n)) (map sha256 (map part ns ++ table ∷ []))
    ∙ (ap (λ (l : Bytes). sha256 (part n) ++ l) (parts_and_table part ns table)
    ∙ (sym (append_assoc (sha256 (part n)) (flat_map (λ (i : ℕ). sha256 (part i)) ns) (sha256 table))
    ∙ ap (λ (l : Bytes). l ++ sha256 table) (sym (flat_map-cons (λ (i : ℕ). sha256 (part i)) n ns))))

-- one digest more behind what was hashed before
pub one_more : (f : ℕ → Bytes) (m digest : Bytes) (part next : ℕ) → digest ≡ f part → next ≡ part + 1 → (m ++ flat_map f (range_with_len 0 part)) ++ digest ≡ m ++ flat_map f (range_with_len 0 next)
one_more f m digest part next is up =
    let here : 0 + part ≡ part = omega arith in
    let above : suc part ≡ next = omega (arith, up) in
    append_assoc m (flat_map f (range_with_len 0 part)) digest
    ∙ (ap (λ (x : Bytes). m ++ (flat_map f (range_with_len 0 part) ++ x)) (is ∙ ap f (sym here))
    ∙ (ap (λ (x : Bytes). m ++ x) (sym (parts_more f 0 part))
    ∙ ap (λ (n : ℕ). m ++ flat_map f (range_with_len 0 n)) above))

-- what is hashed is the string of the state digest
pub state_string : {S : Type 0} (snapshots : Snapshots S) (x : Served S) (pos : ℕ) (replies place : Bytes) → replies ≡ sha256 (table_bytes x.table) → place ≡ number w64 pos
    → (flat_map (part_digest snapshots.part x.state) (range_with_len 0 service_parts) ++ replies) ++ place ≡ digest_string (part_digests (parts_of snapshots x)) pos
unfolding digest_string parts_of
state_string snapshots x pos replies place table is =
    rw (table, is) (ap (λ (l : Bytes). l ++ number w64 pos) (sym (parts_and_table (snapshots.part x.state) (range_with_len 0 service_parts) (table_bytes x.table))))
