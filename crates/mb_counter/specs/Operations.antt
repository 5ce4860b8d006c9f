-- What the bytes of an operation ask for, what it does, and its result. A state is a number.
use Rattle.std.specs.Prelude.{ℕ, ◌+◌, ◌^◌, ◌<◌, Bool, [], ◌∷◌, length, nat_lt, ◌==◌, Ok, Err, if◌then◌else◌}
use Rattle.std.specs.Int.{w8, w64}
use Rattle.mb_base.specs.Shapes.{Bytes}
use Rattle.mb_base.specs.Spelling.{number}
use Rattle.mb_base.specs.Reading.{Cursor, cursor, Reads, ◌>>=◌, number_at, map_at}
use Rattle.mb_counter.specs.declared.operation.Operation.{Operation}
use Rattle.mb_counter.specs.declared.operation.Operation.TheVariants.{Add, Tell, Bad}

-- a number of 64 bits
abbrev pub IsCount : ℕ → Type 0
IsCount count = count < 2 ^ 64

-- ---- reading: a byte 1 and the eight bytes of an amount, or a byte 2

-- behind the byte that says which operation it is
unfoldable pub operation_at : ℕ → Cursor → Reads Operation
operation_at kind =
    if kind == 1 then map_at Add (number_at w64)
    else (if kind == 2 then (λ c. Ok (Tell, c))
    else (λ c. Ok (Bad, c)))

abbrev pub kind_and_operation_at : Cursor → Reads Operation
kind_and_operation_at s = number_at w8 s >>= λ kind. operation_at kind.0 kind.1

-- Nothing may follow.
abbrev pub if_whole : Reads Operation → Operation
if_whole (Ok x) = if length x.1.rest == 0 then x.0 else Bad
if_whole (Err at) = Bad

unfoldable pub operation_of : Bytes → Operation
operation_of op = if_whole (kind_and_operation_at (cursor 0 op))

-- ---- what is done

abbrev pub has_room : ℕ → ℕ → Bool
has_room count amount = nat_lt (count + amount) (2 ^ 64)

abbrev pub after_operation : Operation → ℕ → ℕ
after_operation (Add amount) count = if has_room count amount then count + amount else count
after_operation Tell count = count
after_operation Bad count = count

-- ---- results: a byte 0 and the count, 1 no room, 2 no operation

abbrev pub count_result : ℕ → Bytes
count_result count = 0 ∷ number w64 count

abbrev pub result_of : Operation → ℕ → Bytes
result_of (Add amount) count = if has_room count amount then count_result (count + amount) else 1 ∷ []
result_of Tell count = count_result count
result_of Bad count = 2 ∷ []

-- ---- by its bytes

abbrev pub after : ℕ → Bytes → ℕ
after count op = after_operation (operation_of op) count

abbrev pub answer : ℕ → Bytes → Bytes
answer count op = result_of (operation_of op) count
