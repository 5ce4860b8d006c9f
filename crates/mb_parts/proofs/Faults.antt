-- A fault of one part is a fault of the list.
use Rattle.std.proofs.Common.{◌≡◌, ℕ, ◌-◌, ◌<◌, List}
use Rattle.mb_base.specs.declared.fields.Fields.{Fields}
use Rattle.mb_base.specs.Reading.{Cursor, Reads, repeat_at, rising_at, bounded_one, bounded_at}
use Rattle.mb_base.proofs.Loops.{with_front, ends, rising_ends, bounded_ends}
use Rattle.mb_parts.specs.declared.fault.Undecoded.{Undecoded}
use Rattle.mb_parts.specs.declared.fault.Undecoded.TheVariants.{Malformed, NoMemory}
use Rattle.mb_parts.specs.Decoded.{Fails}

pub part_fails : {A : Type 0} (f : Cursor → Reads A) (e : Undecoded) (front : List A) (count i : ℕ) (s : Cursor) (new : Fields) (total : Reads (List A)) → i < count → Fails e new (f s)
    → with_front front (repeat_at f (count - i) s) ≡ total → Fails e new total
part_fails f NoMemory front count i s new total lt h so_far = tt
part_fails f (Malformed at) front count i s new total lt h so_far = (ends f at front count i s total lt h.0 so_far, h.1)

pub member_fails : {A : Type 0} (f : ℕ → Cursor → Reads A) (number_of : A → ℕ) (e : Undecoded) (front : List A) (count i least : ℕ) (s : Cursor) (new : Fields) (total : Reads (List A)) → i < count → Fails e new (f least s)
    → with_front front (rising_at f number_of (count - i) least s) ≡ total → Fails e new total
member_fails f number_of NoMemory front count i least s new total lt h so_far = tt
member_fails f number_of (Malformed at) front count i least s new total lt h so_far = (rising_ends f number_of at front count i least s total lt h.0 so_far, h.1)

pub bounded_fails : {A : Type 0} (text : A → List ℕ) (most : ℕ) (f : Cursor → Reads A) (e : Undecoded) (front : List A) (count i used : ℕ) (s : Cursor) (new : Fields) (total : Reads (List A)) → i < count → Fails e new (bounded_one text most f used s)
    → with_front front (bounded_at text most f (count - i) used s) ≡ total → Fails e new total
bounded_fails text most f NoMemory front count i used s new total lt h so_far = tt
bounded_fails text most f (Malformed at) front count i used s new total lt h so_far = (bounded_ends text most f at front count i used s total lt h.0 so_far, h.1)
