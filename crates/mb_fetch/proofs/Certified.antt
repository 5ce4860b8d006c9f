-- Where nothing wrong is found in a STATE, each of its parts is certified.
use Rattle.std.proofs.Common.{◌≡◌, ℕ, ◌+◌, ◌-◌, ◌<◌, ◌≤◌, Bool, true, false, not, List, [], length, Option, Some, None, inl, inr, refl, sym, ap, ◌∙◌, arith, slice_get, unwrap_or}
use Rattle.std.proofs.lemmas.Bool.{cases_Bool, cases_lt, lt-leb, le-leb}
use Rattle.sha2.specs.Sha256.{sha256}
use Rattle.mb_base.specs.Shapes.{Bytes}
use Rattle.mb_usig.specs.Tags.{same_bytes}
use Rattle.mb_usig.proofs.Laws.{same_bytes-true}
use Rattle.mb_msg.specs.declared.transfer.StateMsg.{StateMsg}
use Rattle.mb_model.specs.PlainChecks.{string_at, wrong_part}
use Rattle.mb_fetch.specs.Fetched.{IsCertified}
use Rattle.mb_fetch.specs.Checks.{HasParts, list_digest, first_wrong}
use Rattle.mb_fetch.specs.Parts.{part_from}
use Rattle.std.proofs.lemmas.Option.{slice_get_within}
use Rattle.mb_fetch.proofs.Places.{got, none_in_range}

not_false : (b : Bool) → not b ≡ false → b ≡ true
not_false true e = refl
not_false false e = absurd cc

list_right : (digest : Bytes) (m : StateMsg) → first_wrong digest m ≡ None → (list_digest m ≡ digest) × (wrong_part m.digests m.first m.parts ≡ None)
list_right digest m e = elim (cases_Bool (same_bytes (list_digest m) digest)) [
  | inl so ↦ (same_bytes-true (list_digest m) digest so, rw so at e)
  | inr not_so ↦ let wrong = rw not_so at e in absurd cc
]

found_in : (first : ℕ) (parts : List Bytes) (i : ℕ) (part : Bytes) → part_from first parts i ≡ Some part → (first ≤ i) × (slice_get parts (i - first) ≡ Some part)
found_in first parts i part e = elim (cases_lt i first) [
  | inl lt ↦ let none = rw (lt-leb first i lt) at e in absurd cc
  | inr ge ↦ (ge, rw (le-leb first i ge) at e)
]

part_right : (digests : List Bytes) (first : ℕ) (parts : List Bytes) → wrong_part digests first parts ≡ None → (i : ℕ) → first ≤ i → i < first + length parts → sha256 (string_at parts (i - first)) ≡ string_at digests i
unfolding wrong_part
part_right digests first parts e i low high =
    same_bytes-true (sha256 (string_at parts (i - first))) (string_at digests i)
    (not_false (same_bytes (sha256 (string_at parts (i - first))) (string_at digests i))
    (none_in_range (λ j. not (same_bytes (sha256 (string_at parts (j - first))) (string_at digests j))) first (length parts) i e low high))

pub all_certified : (digest : Bytes) (m : StateMsg) → HasParts m → first_wrong digest m ≡ None → (i : ℕ) (part : Bytes) → part_from m.first m.parts i ≡ Some part → IsCertified m.pos digest i part
all_certified digest m has e i part is =
    let right = list_right digest m e in
    let found = found_in m.first m.parts i part is in
    let low = found.0 in
    let short = slice_get_within m.parts (i - m.first) part found.1 in
    let within = has.within in
    let count = has.digest_count in
    let high : i < m.first + length m.parts = omega (arith, low, short) in
    let hash : sha256 (string_at m.parts (i - m.first)) ≡ string_at m.digests i = part_right m.digests m.first m.parts right.1 i low high in
    let same : string_at m.parts (i - m.first) ≡ part = ap (λ (o : Option Bytes). unwrap_or o []) found.1 in
    (m.digests, right.0, got m.digests i [] (omega (arith, high, within, count)) ∙ ap (λ (d : Bytes). Some d) (sym hash ∙ ap sha256 same))
