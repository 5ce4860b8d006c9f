-- The peers of a message, and the messages of a step, one after the other.
use Rattle.std.proofs.Common.{◌≡◌, ℕ, zero, suc, ◌+◌, ◌-◌, ◌<◌, ◌≤◌, true, false, List, [], ◌∷◌, ◌++◌, length, take, drop, get_or, refl, sym, ap, ◌∙◌, append_assoc, append-nil, arith}
use Rattle.std.specs.Prelude.{◌==◌, ◌%◌, ◌^◌, not, filter}
use Rattle.std.specs.List.{flat_map, range_with_len}
use Rattle.std.proofs.lemmas.List.{take_more, take-append-drop}
use Rattle.std.proofs.lemmas.List.Concat.{flat_map-append}
use Rattle.std.proofs.lemmas.List.Elements.{filter-append}
use Rattle.mb_base.specs.Shapes.{Bytes}
use Rattle.mb_msg.specs.declared.event.Sent.{Sent}
use Rattle.mb_node.specs.Sends.{Sends, to_peer, to_others, datagrams_of, numbered}

-- ---- numbers in a row

pub range_parts : (a m n : ℕ) → range_with_len a (m + n) ≡ range_with_len a m ++ range_with_len (a + m) n
range_parts a zero n = rw (zero_plus n, plus_zero a) refl where
  zero_plus : (k : ℕ) → 0 + k ≡ k
  zero_plus k = omega arith

  plus_zero : (k : ℕ) → k + 0 ≡ k
  plus_zero k = omega arith
range_parts a (suc m) n = rw (suc_plus, ← moved) (ap (λ (l : List ℕ). a ∷ l) (range_parts (a + 1) m n)) where
  suc_plus : suc m + n ≡ suc (m + n)
  suc_plus = omega arith

  moved : (a + 1) + m ≡ a + suc m
  moved = omega arith

module _ (host : ℕ) (pieces : List Bytes) where
  -- what goes to the others of these hosts
  abbrev pub others_in : List ℕ → Sends
  others_in hosts = flat_map (to_peer pieces) (filter (λ h. not (h == host)) hosts)

  others_both : (xs ys : List ℕ) → others_in (xs ++ ys) ≡ others_in xs ++ others_in ys
  others_both xs ys = rw (filter-append (λ h. not (h == host)) xs ys) (flat_map-append (to_peer pieces) (filter (λ h. not (h == host)) xs) (filter (λ h. not (h == host)) ys))

  -- one more host: another, or this one
  one_other : (h : ℕ) → (h == host) ≡ false → others_in (h ∷ []) ≡ to_peer pieces h
  one_other h no_host = rw no_host (append-nil (to_peer pieces h))

  this_one : (h : ℕ) → (h == host) ≡ true → others_in (h ∷ []) ≡ []
  this_one h same = rw same refl

  pub others_more : (h : ℕ) → (h == host) ≡ false → others_in (range_with_len 0 (h + 1)) ≡ others_in (range_with_len 0 h) ++ to_peer pieces h
  others_more h no_host = ap others_in (range_parts 0 h 1) ∙ others_both (range_with_len 0 h) ((0 + h) ∷ []) ∙ ap (λ (s : Sends). others_in (range_with_len 0 h) ++ s) (rw (zero_plus h) (one_other h no_host)) where
    zero_plus : (k : ℕ) → 0 + k ≡ k
    zero_plus k = omega arith

  pub others_same : (h : ℕ) → (h == host) ≡ true → others_in (range_with_len 0 (h + 1)) ≡ others_in (range_with_len 0 h)
  others_same h same = ap others_in (range_parts 0 h 1) ∙ others_both (range_with_len 0 h) ((0 + h) ∷ []) ∙ ap (λ (s : Sends). others_in (range_with_len 0 h) ++ s) (rw (zero_plus h) (this_one h same)) ∙ append-nil (others_in (range_with_len 0 h)) where
    zero_plus : (k : ℕ) → 0 + k ≡ k
    zero_plus k = omega arith

  -- all of them, parted at one that is another
  pub others_parted : (hosts h : ℕ) → h < hosts → (h == host) ≡ false → to_others hosts host pieces ≡ (others_in (range_with_len 0 h) ++ to_peer pieces h) ++ others_in (range_with_len (h + 1) (hosts - (h + 1)))
  others_parted hosts h lt no_host =
      let count : hosts ≡ (h + 1) + (hosts - (h + 1)) = omega arith in
      ap (λ (n : ℕ). others_in (range_with_len 0 n)) count ∙ ap others_in (range_parts 0 (h + 1) (hosts - (h + 1))) ∙ others_both (range_with_len 0 (h + 1)) (range_with_len (0 + (h + 1)) (hosts - (h + 1)))
      ∙ ap (λ (s : Sends). s ++ others_in (range_with_len (0 + (h + 1)) (hosts - (h + 1)))) (others_more h no_host)
      ∙ ap (λ (n : ℕ). (others_in (range_with_len 0 h) ++ to_peer pieces h) ++ others_in (range_with_len n (hosts - (h + 1)))) (zero_plus (h + 1)) where
        zero_plus : (k : ℕ) → 0 + k ≡ k
        zero_plus k = omega arith

-- ---- messages in a row

module _ (hosts host : ℕ) where
  pub numbered_both : (n : ℕ) (xs ys : List Sent) → numbered hosts host n (xs ++ ys) ≡ numbered hosts host n xs ++ numbered hosts host (n + length xs) ys
  unfolding numbered
  numbered_both n [] ys = ap (λ (m : ℕ). numbered hosts host m ys) (sym (plus_zero n)) where
    plus_zero : (k : ℕ) → k + 0 ≡ k
    plus_zero k = omega arith
  numbered_both n (x ∷ xs) ys =
      let later = numbered_both (n + 1) xs ys in
      let moved : (n + 1) + length xs ≡ n + suc (length xs) = omega arith in
      ap (λ (s : Sends). datagrams_of hosts host n x ++ s) (later ∙ ap (λ (m : ℕ). numbered hosts host (n + 1) xs ++ numbered hosts host m ys) moved)
      ∙ sym (append_assoc (datagrams_of hosts host n x) (numbered hosts host (n + 1) xs) (numbered hosts host (n + suc (length xs)) ys))

  pub numbered_none : (n : ℕ) → numbered hosts host n [] ≡ []
  unfolding numbered
  numbered_none n = refl

  numbered_one : (n : ℕ) (x : Sent) → numbered hosts host n (x ∷ []) ≡ datagrams_of hosts host n x
  unfolding numbered
  numbered_one n x = append-nil (datagrams_of hosts host n x)

  -- one more message of a list
  pub numbered_more : (n : ℕ) (xs : List Sent) (i : ℕ) (x : Sent) → i < length xs → x ≡ get_or xs i x → numbered hosts host n (take (i + 1) xs) ≡ numbered hosts host n (take i xs) ++ datagrams_of hosts host (n + i) x
  numbered_more n xs i x lt is =
      let len : length (take i xs) ≡ i = length_within xs i (omega (arith, lt)) in
      ap (numbered hosts host n) (take_more xs i x lt ∙ ap (λ (y : Sent). take i xs ++ y ∷ []) (sym is)) ∙ numbered_both n (take i xs) (x ∷ [])
      ∙ ap (λ (s : Sends). numbered hosts host n (take i xs) ++ s) (ap (λ (m : ℕ). numbered hosts host (n + m) (x ∷ [])) len ∙ numbered_one (n + i) x) where
        length_within : (l : List Sent) (k : ℕ) → k ≤ length l → length (take k l) ≡ k
        length_within l zero le = refl
        length_within [] (suc k) le = absurd (omega (arith, le))
        length_within (y ∷ l) (suc k) le = ap suc (length_within l k (omega (arith, le)))

  -- all of them, parted behind one
  pub numbered_parted : (n : ℕ) (xs : List Sent) (i : ℕ) (x : Sent) → i < length xs → x ≡ get_or xs i x
      → numbered hosts host n xs ≡ (numbered hosts host n (take i xs) ++ datagrams_of hosts host (n + i) x) ++ numbered hosts host (n + length (take (i + 1) xs)) (drop (i + 1) xs)
  numbered_parted n xs i x lt is =
      ap (numbered hosts host n) (sym (take-append-drop (i + 1) xs)) ∙ numbered_both n (take (i + 1) xs) (drop (i + 1) xs)
      ∙ ap (λ (s : Sends). s ++ numbered hosts host (n + length (take (i + 1) xs)) (drop (i + 1) xs)) (numbered_more n xs i x lt is)

-- the number behind a number, where numbers begin anew
pub one_further : (n i : ℕ) → ((n + i) % 2 ^ 32 + 1) % 2 ^ 32 ≡ (n + (i + 1)) % 2 ^ 32
one_further n i = omega arith
