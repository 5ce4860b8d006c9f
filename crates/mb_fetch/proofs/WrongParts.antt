-- The first wrong part of a STATE, looked for part by part.
use Rattle.std.proofs.Common.{◌≡◌, ℕ, zero, suc, ◌+◌, ◌-◌, ◌<◌, Bool, true, false, not, List, [], ◌∷◌, length, get_or, Option, Some, None, refl, sym, ap, ◌∙◌, arith}
use Rattle.std.specs.Prelude.{find}
use Rattle.std.specs.List.{range_with_len}
use Rattle.sha2.specs.Sha256.{sha256}
use Rattle.mb_usig.specs.Tags.{same_bytes}
use Rattle.mb_msg.specs.declared.transfer.StateMsg.{StateMsg}
use Rattle.std.specs.Prelude.{◌==◌, if◌then◌else◌}
use Rattle.std.proofs.lemmas.Bool.{ne_eqb}
use Rattle.mb_base.specs.Limits.{part_count}
use Rattle.mb_base.specs.Shapes.{Bytes}
use Rattle.mb_model.specs.PlainChecks.{string_at, wrong_part}
use Rattle.mb_fetch.specs.Checks.{HasParts, list_digest, found_at}

abbrev pub is_wrong : StateMsg → ℕ → Bool
is_wrong m i = not (same_bytes (sha256 (string_at m.parts (i - m.first))) (string_at m.digests i))

-- from the part at an index on
abbrev pub wrong_from : StateMsg → ℕ → Option ℕ
wrong_from m n = find (is_wrong m) (range_with_len (m.first + n) (length m.parts - n))

pub wrong_start : (m : StateMsg) → wrong_from m 0 ≡ wrong_part m.digests m.first m.parts
unfolding wrong_part
wrong_start m =
    let none : m.first + 0 ≡ m.first = omega arith in
    let all : length m.parts - 0 ≡ length m.parts = omega arith in
    rw (none, all) refl

pub wrong_step : (m : StateMsg) (n : ℕ) → n < length m.parts → is_wrong m (m.first + n) ≡ false → wrong_from m (n + 1) ≡ wrong_from m n
wrong_step m n lt right =
    let one : length m.parts - n ≡ suc (length m.parts - (n + 1)) = omega (arith, lt) in
    let next : m.first + (n + 1) ≡ (m.first + n) + 1 = omega arith in
    rw (one, next, right) refl

pub wrong_found : (m : StateMsg) (n : ℕ) → n < length m.parts → is_wrong m (m.first + n) ≡ true → wrong_from m n ≡ Some (m.first + n)
wrong_found m n lt wrong =
    let one : length m.parts - n ≡ suc (length m.parts - (n + 1)) = omega (arith, lt) in
    rw (one, wrong) refl

pub wrong_end : (m : StateMsg) (n : ℕ) → length m.parts ≡ n → wrong_from m n ≡ None
wrong_end m n same = let none : length m.parts - n ≡ 0 = omega (arith, same) in rw none refl

-- ---- what was read

pub string_in : (xs : List Bytes) (i : ℕ) (d : Bytes) → i < length xs → get_or xs i d ≡ string_at xs i
string_in [] i d lt = absurd (omega (arith, lt))
string_in (x ∷ xs) zero d lt = refl
string_in (x ∷ xs) (suc i) d lt = string_in xs i d (omega (arith, lt))

module _ (m : StateMsg) (has : HasParts m) (n place : ℕ) (part found : Bytes) (at : place ≡ m.first + n) (lt : n < length m.parts) (is : part ≡ get_or m.parts n part) (hash : found ≡ sha256 part) where
  found_is : found ≡ sha256 (string_at m.parts (place - m.first))
  found_is =
      let back : n ≡ place - m.first = omega (arith, at) in
      hash ∙ ap sha256 (is ∙ (string_in m.parts n part lt ∙ ap (string_at m.parts) back))

  within_list : place < part_count
  within_list = let within = has.within in omega (arith, at, lt, within)

  -- the test of one part
  pub test_is : (digests : List Bytes) (d : Bytes) (b : Bool) → digests ≡ m.digests → b ≡ not (same_bytes found (get_or digests place d)) → b ≡ is_wrong m (m.first + n)
  test_is digests d b are test =
      let count = has.digest_count in
      let below = within_list in
      test
      ∙ (ap (λ (l : List Bytes). not (same_bytes found (get_or l place d))) are
      ∙ (ap (λ (x : Bytes). not (same_bytes found x)) (string_in m.digests place d (omega (arith, below, count)))
      ∙ (ap (λ (x : Bytes). not (same_bytes x (string_at m.digests place))) found_is
      ∙ ap (is_wrong m) at)))

  -- A part has the SHA-256 that is found.
  pub found_part : found ≡ found_at m place
  found_part =
      let below = within_list in
      let other : (place == part_count) ≡ false = ne_eqb place part_count (λ e. omega (arith, below, e)) in
      found_is ∙ sym (ap (λ (b : Bool). if b then list_digest m else sha256 (string_at m.parts (place - m.first))) other)
