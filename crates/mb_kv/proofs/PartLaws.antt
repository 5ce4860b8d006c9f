-- The loops over the pairs of a part.
use Rattle.std.proofs.Common.{◌≡◌, ℕ, suc, ◌+◌, ◌-◌, ◌*◌, ◌^◌, ◌<◌, ◌≤◌, Bool, true, false, cond, eqb, List, [], ◌∷◌, ◌++◌, length, slice_get, option_map, Option, Some, Result, Ok, Err, refl, sym, ap, subst, ◌∙◌, arith, length-append}
use Rattle.std.specs.Ordering.{is_lt, is_some_and, nat_cmp}
use Rattle.std.specs.Cmp.Lexicographic.{slice_partial_cmp, lists_agrees}
use Rattle.std.specs.Int.{w8, w16}
use Rattle.std.specs.List.{AllByRecursion, flat_map}
use Rattle.std.proofs.lemmas.List.{length-map, map-append}
use Rattle.std.proofs.lemmas.List.Concat.{flat_map-cons}
use Rattle.std.proofs.lemmas.Option.{slice_get-map}
use Rattle.mb_base.specs.Shapes.{Bytes}
use Rattle.mb_base.specs.Spelling.{number, text, text16}
use Rattle.mb_base.specs.Reading.{◌>>=◌, Cursor, cursor, number_at}
use Rattle.mb_base.proofs.Laws.{number_length, wide8, wide16}
use Rattle.mb_service.specs.declared.service.TheConstants.{MAX_PART}
use Rattle.mb_kv.specs.declared.unread.Unread.{Unread}
use Rattle.mb_kv.specs.declared.unread.Unread.TheVariants.{Fault, NoMemory}
use Rattle.mb_kv.specs.declared.limits.TheConstants.{MAX_KEYS}
use Rattle.mb_kv.specs.Pairs.{Pairs, compare}
use Rattle.mb_kv.specs.Snapshots.{bucket_of, in_bucket, pair_text, part_of, last, pairs_at, if_ended}
use Rattle.mb_kv.specs.Snapshots.{pairs_of}
use Rattle.mb_kv.specs.States.{PairFits}
use Rattle.mb_kv.specs.Seen.{pair_seen, pairs_seen, EntryFits, Faults, FaultsWhole}
use Rattle.mb_kv.specs.Laws.PairLaws.{pair_limit, next_pair_at, part_fault}
use Rattle.mb_kv.specs.Laws.TextLaws.{number_fails}
use Rattle.mb_kv.proofs.EntryLaws.{Entry}

-- ---- the last key

pub last_seen : (es : List Entry) (o : Option Entry) → slice_get es (length es - 1) ≡ o → last (pairs_seen es) ≡ option_map pair_seen o
last_seen es o e =
    ap (λ (n : ℕ). slice_get (pairs_seen es) (n - 1)) (length-map es pair_seen)
    ∙ slice_get-map pair_seen es (length es - 1)
    ∙ ap (option_map pair_seen) e

pub below_by_bytes : (x y : Bytes) → is_some_and is_lt (slice_partial_cmp (λ (a b : ℕ). Some (nat_cmp a b)) x y) ≡ is_lt (compare x y)
below_by_bytes x y = ap (is_some_and is_lt) (lists_agrees (λ a b. refl) x y)

-- ---- reading one after the other

pub entries_more : (es : List Entry) (e : Entry) → AllByRecursion EntryFits es → EntryFits e → AllByRecursion EntryFits (es ++ e ∷ [])
entries_more [] e all h = (h, tt)
entries_more (d ∷ es) e all h = (all.0, entries_more es e all.1 h)

module _ (bucket room : ℕ) (es : List Entry) (count i : ℕ) (s : Cursor) where
  pub pairs_go_on : (e : Entry) (t : Cursor) (total : Result (Pairs × Cursor) ℕ) → i < count → next_pair_at bucket room (pairs_seen es) s ≡ Ok (pair_seen e, t)
      → pairs_at bucket room (pairs_seen es) (count - i) s ≡ total → pairs_at bucket room (pairs_seen (es ++ e ∷ [])) (count - (i + 1)) t ≡ total
  unfolding pairs_at
  pairs_go_on e t total lt h so_far =
      let k : count - i ≡ suc (count - (i + 1)) = omega arith in
      let one : pairs_at bucket room (pairs_seen es) (count - i) s ≡ pairs_at bucket room (pairs_seen es ++ pair_seen e ∷ []) (count - (i + 1)) t = rw (k, h) refl in
      ap (λ (ps : Pairs). pairs_at bucket room ps (count - (i + 1)) t) (map-append pair_seen es (e ∷ [])) ∙ sym one ∙ so_far

  pub pairs_fault : (e : Unread) (total : Result (Pairs × Cursor) ℕ) → i < count → Faults e (next_pair_at bucket room (pairs_seen es) s)
      → pairs_at bucket room (pairs_seen es) (count - i) s ≡ total → Faults e total
  unfolding pairs_at
  pairs_fault NoMemory total lt h so_far = tt
  pairs_fault (Fault at) total lt h so_far =
      let k : count - i ≡ suc (count - (i + 1)) = omega arith in
      let one : pairs_at bucket room (pairs_seen es) (count - i) s ≡ Err at = rw (k, h) refl in
      sym so_far ∙ one

  pub pairs_done : (total : Result (Pairs × Cursor) ℕ) → count ≤ i → pairs_at bucket room (pairs_seen es) (count - i) s ≡ total → total ≡ Ok (pairs_seen es, s)
  unfolding pairs_at
  pairs_done total le so_far =
      let k : count - i ≡ 0 = omega arith in
      let one : pairs_at bucket room (pairs_seen es) (count - i) s ≡ Ok (pairs_seen es, s) = rw k refl in
      sym so_far ∙ one

-- ---- a whole part

module _ (bucket room : ℕ) (part : Bytes) (s : Cursor) (start : s ≡ cursor 0 part) where
  pub count_fault : (at : ℕ) → number_at w16 s ≡ Err at → (pairs_of bucket room part ≡ Err at) × (at < 2 ^ 32)
  unfolding pairs_of
  count_fault at e =
      let read : number_at w16 (cursor 0 part) ≡ Err at = subst (λ (u : Cursor). number_at w16 u ≡ Err at) start e in
      (rw read refl, omega (arith, number_fails w16 (cursor 0 part) at read))

  module _ (count : ℕ) (t : Cursor) (e : number_at w16 s ≡ Ok (count, t)) where
    behind_count : pairs_of bucket room part ≡ (pairs_at bucket room [] count t >>= λ pairs. if_ended pairs)
    unfolding pairs_of
    behind_count =
        let read : number_at w16 (cursor 0 part) ≡ Ok (count, t) = subst (λ (u : Cursor). number_at w16 u ≡ Ok (count, t)) start e in
        rw read refl

    pub entries_fault : (e : Unread) → room ≤ MAX_KEYS → Faults e (pairs_at bucket room [] count t) → FaultsWhole e (pairs_of bucket room part)
    entries_fault NoMemory le h = tt
    entries_fault (Fault at) le h =
        let is : pairs_of bucket room part ≡ Err at = behind_count ∙ rw h refl in
        (is, part_fault bucket room part at le is)

    module _ (ps : Pairs) (u : Cursor) (read : pairs_at bucket room [] count t ≡ Ok (ps, u)) where
      pub part_whole : eqb (length u.rest) 0 ≡ true → pairs_of bucket room part ≡ Ok ps
      part_whole end = behind_count ∙ rw (read, end) refl

      pub part_surplus : room ≤ MAX_KEYS → eqb (length u.rest) 0 ≡ false → (pairs_of bucket room part ≡ Err u.at) × (u.at < 2 ^ 32)
      part_surplus le more =
          let is : pairs_of bucket room part ≡ Err u.at = behind_count ∙ rw (read, more) refl in
          (is, part_fault bucket room part u.at le is)

-- ---- how long a part is

pair_is_short : (p : Bytes × Bytes) → PairFits p → length (pair_text p) ≤ pair_limit
pair_is_short p fits =
    omega (arith, length-append (text w8 p.0) (text16 p.1), length-append (number w8 (length p.0)) p.0, length-append (number w16 (length p.1)) p.1, number_length w8 _ (length p.0) wide8, number_length w16 _ (length p.1) wide16, fits.key_short, fits.value_short)

pairs_are_short : (bucket : ℕ) (ps : Pairs) → AllByRecursion PairFits ps → length (flat_map pair_text (in_bucket bucket ps)) ≤ pair_limit * length ps
pairs_are_short bucket [] fit = omega arith
pairs_are_short bucket (p ∷ ps) fit = one (eqb (bucket_of p.0) bucket) (pairs_are_short bucket ps fit.1)
  where
    one : (b : Bool) → length (flat_map pair_text (in_bucket bucket ps)) ≤ pair_limit * length ps → length (flat_map pair_text (cond b (p ∷ in_bucket bucket ps) (in_bucket bucket ps))) ≤ pair_limit * suc (length ps)
    one true le =
        let parts : length (flat_map pair_text (p ∷ in_bucket bucket ps)) ≡ length (pair_text p) + length (flat_map pair_text (in_bucket bucket ps)) = ap length (flat_map-cons pair_text p (in_bucket bucket ps)) ∙ length-append (pair_text p) (flat_map pair_text (in_bucket bucket ps)) in
        omega (arith, le, parts, pair_is_short p fit.0)
    one false le = omega (arith, le)

pub part_is_short : (bucket : ℕ) (ps : Pairs) → AllByRecursion PairFits ps → length ps ≤ MAX_KEYS → length (part_of ps bucket) ≤ MAX_PART
unfolding part_of
part_is_short bucket ps fit few =
    omega (arith, length-append (number w16 (length (in_bucket bucket ps))) (flat_map pair_text (in_bucket bucket ps)), number_length w16 _ (length (in_bucket bucket ps)) wide16, pairs_are_short bucket ps fit, few)
