-- The laws of a service, for a count. They stand here because an impl can name only what is in `specs`.
use Rattle.std.proofs.Common.{◌≡◌, ℕ, zero, suc, ◌+◌, ◌-◌, ◌≤◌, Bool, true, false, cond, eqb, ltb, List, [], ◌∷◌, length, map, Result, Ok, Err, refl, sym, ap, subst, ◌∙◌, arith}
use Rattle.std.specs.List.{range_with_len}
use Rattle.std.specs.Int.{w64, from_be_bytes}
use Rattle.std.proofs.lemmas.Bool.{eqb-true, ltb-true, ne_eqb}
use Rattle.mb_base.specs.Limits.{service_parts}
use Rattle.mb_base.specs.Shapes.{Bytes}
use Rattle.mb_base.specs.Spelling.{IsBytes, number}
use Rattle.mb_base.proofs.Laws.{number_length, wide64}
use Rattle.mb_service.specs.Parts.{IsShort, parts_of, AreParts}
use Rattle.mb_counter.specs.declared.operation.Operation.{Operation}
use Rattle.mb_counter.specs.declared.operation.Operation.TheVariants.{Add, Tell, Bad}
use Rattle.mb_counter.specs.Operations.{IsCount, operation_of, has_room, after_operation, after, count_result, result_of, answer}
use Rattle.mb_counter.specs.Snapshots.{part_of, count_in, count_behind, or_bad_part, counted, restored}

-- ---- operations

added_stays : (count amount : ℕ) (room : Bool) → has_room count amount ≡ room → IsCount count → IsCount (cond room (count + amount) count)
added_stays count amount true e h = ltb-true _ _ e
added_stays count amount false e h = h

operation_stays : (o : Operation) (count : ℕ) → IsCount count → IsCount (after_operation o count)
operation_stays (Add amount) count h = added_stays count amount (has_room count amount) refl h
operation_stays Tell count h = h
operation_stays Bad count h = h

pub states_stay : (count : ℕ) (op : Bytes) → IsCount count → IsCount (after count op)
states_stay count op h = operation_stays (operation_of op) count h

-- ---- results

count_is_short : (count : ℕ) → IsShort (count_result count)
count_is_short count = omega (arith, number_length w64 _ count wide64)

added_is_short : (count amount : ℕ) (room : Bool) → IsShort (cond room (count_result (count + amount)) (1 ∷ []))
added_is_short count amount true = count_is_short (count + amount)
added_is_short count amount false = omega arith

result_is_short : (o : Operation) (count : ℕ) → IsShort (result_of o count)
result_is_short (Add amount) count = added_is_short count amount (has_room count amount)
result_is_short Tell count = count_is_short count
result_is_short Bad count = omega arith

pub answers_are_short : (count : ℕ) (op : Bytes) → IsCount count → IsShort (answer count op)
answers_are_short count op h = result_is_short (operation_of op) count

-- ---- the parts of a count give that count

others_are_empty : (count part : ℕ) → 1 ≤ part → part_of count part ≡ []
others_are_empty count part some =
    let other : eqb part 0 ≡ false = ne_eqb part 0 (λ q. omega (arith, q, some)) in
    rw other refl

count_again : (count : ℕ) → IsCount count → count_in (number w64 count) ≡ Ok count
unfolding number
count_again count lt = ap Ok (wide64.again count lt)

others_again : (count before part n : ℕ) → 1 ≤ part → counted before part (map (part_of count) (range_with_len part n)) ≡ Ok before
others_again count before part zero some = refl
others_again count before part (suc n) some =
    let other : eqb part 0 ≡ false = ne_eqb part 0 (λ q. omega (arith, q, some)) in
    rw other (others_again count before (part + 1) n (omega arith))

pub parts_give_the_state : (count : ℕ) → IsCount count → restored (parts_of part_of count) ≡ Ok count
parts_give_the_state count h =
    ap (λ (r : Result ℕ ℕ). or_bad_part 0 r (λ c. counted c 1 (map (part_of count) (range_with_len 1 (service_parts - 1))))) (count_again count h)
    ∙ others_again count count 1 (service_parts - 1) (omega arith)

-- ---- no other parts give it

abbrev whole : ℕ → Result ℕ (ℕ × ℕ)
whole count = Ok count

read_is : (x y : ℕ) → whole x ≡ whole y → x ≡ y
read_is x y e = cc

or_bad_ok : (part : ℕ) (r : Result ℕ ℕ) (go : ℕ → Result ℕ (ℕ × ℕ)) (y : ℕ) → or_bad_part part r go ≡ Ok y → (x : ℕ) × (r ≡ Ok x) × (go x ≡ Ok y)
or_bad_ok part (Ok x) go y e = (x, refl, e)
or_bad_ok part (Err at) go y e = absurd cc

count_taken : (bytes : Bytes) (count : ℕ) → IsBytes bytes → count_in bytes ≡ Ok count → IsCount count × (bytes ≡ number w64 count)
unfolding number
count_taken bytes count fits e = by (ltb (length bytes) 8) (eqb (length bytes) 8) refl e
  where
    by : (short right : Bool) → eqb (length bytes) 8 ≡ right → cond {A = Result ℕ ℕ} short (Err 0) (cond right (Ok (from_be_bytes w64 bytes)) (Err 8)) ≡ Ok count → IsCount count × (bytes ≡ number w64 count)
    by true right same e = absurd cc
    by false true same e =
        let is : from_be_bytes w64 bytes ≡ count = cc in
        (subst IsCount is (wide64.below bytes fits), sym (wide64.back bytes (eqb-true _ _ same) fits) ∙ ap (number w64) is)
    by false false same e = absurd cc

empty_taken : (before part : ℕ) (bytes : Bytes) (count : ℕ) → 1 ≤ part → count_behind before part bytes ≡ Ok count → (before ≡ count) × (bytes ≡ [])
empty_taken before part bytes count some e =
    let other : eqb part 0 ≡ false = ne_eqb part 0 (λ q. omega (arith, q, some)) in
    by bytes (eqb (length bytes) 0) refl (rw other at e)
  where
    by : (bytes : Bytes) (empty : Bool) → eqb (length bytes) 0 ≡ empty → cond {A = Result ℕ ℕ} empty (Ok before) (Err 0) ≡ Ok count → (before ≡ count) × (bytes ≡ [])
    by [] true same e = (cc, refl)
    by [] false same e = absurd cc
    by (b ∷ bs) true same e = absurd (omega (arith, eqb-true _ _ same))
    by (b ∷ bs) false same e = absurd cc

others_taken : (any before part : ℕ) (parts : List Bytes) (count : ℕ) → 1 ≤ part → counted before part parts ≡ Ok count → (before ≡ count) × (parts ≡ map (part_of any) (range_with_len part (length parts)))
others_taken any before part [] count some e = (read_is before count e, refl)
others_taken any before part (bytes ∷ parts) count some e =
    let a = or_bad_ok part (count_behind before part bytes) (λ c. counted c (part + 1) parts) count e in
    let one = empty_taken before part bytes a.0 some a.1 in
    let rest = others_taken any a.0 (part + 1) parts count (omega arith) a.2 in
    let here : bytes ≡ part_of any part = one.1 ∙ sym (others_are_empty any part some) in
    (one.0 ∙ rest.0, ap (λ (x : Bytes). x ∷ parts) here ∙ ap (λ (xs : List Bytes). part_of any part ∷ xs) rest.1)

pub one_list_of_parts : (parts : List Bytes) (count : ℕ) → AreParts parts → restored parts ≡ Ok count → IsCount count × (parts ≡ parts_of part_of count)
one_list_of_parts [] count are e = absurd (omega (arith, are.0))
one_list_of_parts (first ∷ others) count are e =
    let a = or_bad_ok 0 (count_in first) (λ c. counted c 1 others) count e in
    let one = count_taken first a.0 are.1.0 a.1 in
    let rest = others_taken count a.0 1 others count (omega arith) a.2 in
    let long : length others ≡ service_parts - 1 = omega (arith, are.0) in
    let front : first ≡ number w64 count = one.1 ∙ ap (number w64) rest.0 in
    let behind : others ≡ map (part_of count) (range_with_len 1 (service_parts - 1)) = rest.1 ∙ ap (λ (n : ℕ). map (part_of count) (range_with_len 1 n)) long in
    (subst IsCount rest.0 one.0, ap (λ (x : Bytes). x ∷ others) front ∙ ap (λ (xs : List Bytes). number w64 count ∷ xs) behind)
