-- What each operation leaves and answers, by its bytes: a kind, a length of one byte with the key, and values with lengths of two bytes. Results are 0 done, 1
-- found, 2 no such key, 3 another value, 5 no operation.
use Rattle.std.proofs.Common.{◌≡◌, [], ◌∷◌, refl}
use Rattle.mb_base.specs.Shapes.{Bytes}
use Rattle.mb_base.specs.Spelling.{number}
use Rattle.mb_base.specs.Reading.{number_in, text_in}
use Rattle.mb_kv.specs.Pairs.{Pairs}
use Rattle.mb_kv.specs.Operations.{operation_at, operation_of, after, answer}

-- the keys a, b and c, of one byte each, and c1, which c begins
abbrev a : Bytes
a = 97 ∷ []

abbrev b : Bytes
b = 98 ∷ []

abbrev c : Bytes
c = 99 ∷ []

abbrev c1 : Bytes
c1 = 99 ∷ 49 ∷ []

-- a has the value 1, c the value 3
abbrev two : Pairs
two = (a, 49 ∷ []) ∷ (c, 51 ∷ []) ∷ []

-- This is what an operation leaves of the two, and its result.
abbrev Does : Bytes → Pairs → Bytes → Type 0
Does op left result = (after two op ≡ left) × (answer two op ≡ result)

-- ---- PUT: a new value of a, a new key between the two, one behind them, and a value of no bytes

puts_there : Does (1 ∷ 1 ∷ 97 ∷ 0 ∷ 1 ∷ 57 ∷ []) ((a, 57 ∷ []) ∷ (c, 51 ∷ []) ∷ []) (0 ∷ [])
unfolding operation_of operation_at text_in number_in number
puts_there = (refl, refl)

puts_between : Does (1 ∷ 1 ∷ 98 ∷ 0 ∷ 1 ∷ 50 ∷ []) ((a, 49 ∷ []) ∷ (b, 50 ∷ []) ∷ (c, 51 ∷ []) ∷ []) (0 ∷ [])
unfolding operation_of operation_at text_in number_in number
puts_between = (refl, refl)

puts_behind : Does (1 ∷ 2 ∷ 99 ∷ 49 ∷ 0 ∷ 0 ∷ []) ((a, 49 ∷ []) ∷ (c, 51 ∷ []) ∷ (c1, []) ∷ []) (0 ∷ [])
unfolding operation_of operation_at text_in number_in number
puts_behind = (refl, refl)

-- ---- GET

gets_there : Does (2 ∷ 1 ∷ 99 ∷ []) two (1 ∷ 0 ∷ 1 ∷ 51 ∷ [])
unfolding operation_of operation_at text_in number_in number
gets_there = (refl, refl)

gets_none : Does (2 ∷ 1 ∷ 98 ∷ []) two (2 ∷ [])
unfolding operation_of operation_at text_in number_in number
gets_none = (refl, refl)

-- ---- DEL

deletes_there : Does (3 ∷ 1 ∷ 97 ∷ []) ((c, 51 ∷ []) ∷ []) (0 ∷ [])
unfolding operation_of operation_at text_in number_in number
deletes_there = (refl, refl)

deletes_none : Does (3 ∷ 1 ∷ 98 ∷ []) two (2 ∷ [])
unfolding operation_of operation_at text_in number_in number
deletes_none = (refl, refl)

-- ---- SWAP: from the value that is there, from another one, and of a key that is not there

swaps_there : Does (4 ∷ 1 ∷ 97 ∷ 0 ∷ 1 ∷ 49 ∷ 0 ∷ 1 ∷ 53 ∷ []) ((a, 53 ∷ []) ∷ (c, 51 ∷ []) ∷ []) (0 ∷ [])
unfolding operation_of operation_at text_in number_in number
swaps_there = (refl, refl)

swaps_not : Does (4 ∷ 1 ∷ 97 ∷ 0 ∷ 1 ∷ 55 ∷ 0 ∷ 1 ∷ 53 ∷ []) two (3 ∷ 0 ∷ 1 ∷ 49 ∷ [])
unfolding operation_of operation_at text_in number_in number
swaps_not = (refl, refl)

swaps_none : Does (4 ∷ 1 ∷ 98 ∷ 0 ∷ 1 ∷ 55 ∷ 0 ∷ 1 ∷ 53 ∷ []) two (2 ∷ [])
unfolding operation_of operation_at text_in number_in number
swaps_none = (refl, refl)

-- ---- no operation: another kind, no bytes, a key of no bytes, and a byte too many

knows_no_other : Does (5 ∷ 1 ∷ 97 ∷ []) two (5 ∷ [])
unfolding operation_of operation_at text_in number_in number
knows_no_other = (refl, refl)

knows_no_nothing : Does [] two (5 ∷ [])
unfolding operation_of operation_at text_in number_in number
knows_no_nothing = (refl, refl)

knows_no_empty_key : Does (3 ∷ 0 ∷ []) two (5 ∷ [])
unfolding operation_of operation_at text_in number_in number
knows_no_empty_key = (refl, refl)

knows_no_more : Does (3 ∷ 1 ∷ 97 ∷ 0 ∷ []) two (5 ∷ [])
unfolding operation_of operation_at text_in number_in number
knows_no_more = (refl, refl)
