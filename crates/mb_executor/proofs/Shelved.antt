-- The parts of a snapshot, one by one.
use Rattle.std.proofs.Common.{◌≡◌, ℕ, zero, suc, ◌+◌, ◌<◌, ◌≤◌, List, [], ◌∷◌, ◌++◌, length, map, take, drop, Option, Some, None, refl, sym, ap, ◌∙◌, arith, inl, inr, length-append, option_map, slice_get, unwrap_or, append_assoc, append-nil}
use Rattle.std.specs.Prelude.{◌==◌}
use Rattle.std.specs.List.{AllByRecursion, range_with_len}
use Rattle.std.proofs.lemmas.Bool.{cases_Bool, le-leb, lt-leb}
use Rattle.std.proofs.lemmas.List.FromFn.{length-map-range_with_len, map-range_with_len_more}
use Rattle.sha2.specs.Sha256.{sha256}
use Rattle.mb_base.specs.Limits.{part_count, service_parts, part_bytes_limit}
use Rattle.mb_base.specs.Shapes.{Bytes}
use Rattle.mb_model.specs.Service.{Served}
use Rattle.mb_model.specs.States.{Snapshots, table_bytes, parts_of}
use Rattle.mb_model.specs.Making.{fitting, first_fitting}
use Rattle.mb_fetch.specs.Snapshots.{Snapshot, part_in}
use Rattle.mb_executor.specs.Keeping.{AreShort}
use Rattle.mb_executor.specs.Sent.{kept_at}

-- A state has all parts.
pub as_many : {S : Type 0} (snapshots : Snapshots S) (x : Served S) → length (parts_of snapshots x) ≡ part_count
unfolding parts_of
as_many snapshots x = omega (arith, length-append (map (snapshots.part x.state) (range_with_len 0 service_parts)) (table_bytes x.table ∷ []), length-map-range_with_len (snapshots.part x.state) 0 service_parts)

pub kept_within : (shelf : List Snapshot) (pos : ℕ) → AllByRecursion (λ s. length s.parts ≡ part_count) shelf → length (kept_at shelf pos) ≤ part_count
kept_within [] pos all = omega arith
kept_within (s ∷ shelf) pos all = elim (cases_Bool (s.pos == pos)) [
  | inl so ↦ rw so (omega (arith, all.0))
  | inr not_so ↦ rw not_so (kept_within shelf pos all.1)
]

pub kept_short : (shelf : List Snapshot) (pos : ℕ) → AllByRecursion (λ s. AreShort s.parts) shelf → AreShort (kept_at shelf pos)
kept_short [] pos all = tt
kept_short (s ∷ shelf) pos all = elim (cases_Bool (s.pos == pos)) [
  | inl so ↦ rw so all.0
  | inr not_so ↦ rw not_so (kept_short shelf pos all.1)
]

pub in_kept : (o : Option (List Bytes)) (n : ℕ) → part_in o n ≡ slice_get (unwrap_or o []) n
in_kept None n = refl
in_kept (Some parts) n = refl

pub part_more : (f : ℕ → Bytes) (l : List Bytes) (n : ℕ) (x : Bytes) → l ≡ map f (range_with_len 0 n) → x ≡ f n → l ++ x ∷ [] ≡ map f (range_with_len 0 (n + 1))
part_more f l n x is x_is =
    let here : 0 + n ≡ n = omega arith in
    ap (λ (k : List Bytes). k ++ x ∷ []) is ∙ (ap (λ (y : Bytes). map f (range_with_len 0 n) ++ y ∷ []) x_is ∙ sym (map-range_with_len_more f 0 n n here))

pub with_table : {S : Type 0} (snapshots : Snapshots S) (x : Served S) (l : List Bytes) (n : ℕ) (table : Bytes) → l ≡ map (snapshots.part x.state) (range_with_len 0 n) → n ≡ service_parts → table ≡ table_bytes x.table → l ++ table ∷ [] ≡ parts_of snapshots x
unfolding parts_of
with_table snapshots x l n table is all table_is = rw (is, all, table_is) refl

-- ---- digests

pub digest_more : (parts : List Bytes) (n next : ℕ) (d : Bytes) → next ≡ suc n → Some d ≡ option_map sha256 (slice_get parts n) → map sha256 (take n parts) ++ d ∷ [] ≡ map sha256 (take next parts)
digest_more parts n next d up is = one parts n is ∙ ap (λ (i : ℕ). map sha256 (take i parts)) (sym up) where
  one : (parts : List Bytes) (n : ℕ) → Some d ≡ option_map sha256 (slice_get parts n) → map sha256 (take n parts) ++ d ∷ [] ≡ map sha256 (take (suc n) parts)
  one [] n is = absurd cc
  one (p ∷ parts) zero is = cc
  one (p ∷ parts) (suc n) is = ap (λ (l : List Bytes). sha256 p ∷ l) (one parts n is)

pub no_digest : (parts : List Bytes) (n : ℕ) → None ≡ option_map sha256 (slice_get parts n) → map sha256 (take n parts) ≡ map sha256 parts
no_digest [] zero is = refl
no_digest [] (suc n) is = refl
no_digest (p ∷ parts) zero is = absurd cc
no_digest (p ∷ parts) (suc n) is = ap (λ (l : List Bytes). sha256 p ∷ l) (no_digest parts n is)

pub take_all : {A : Type 0} (l : List A) (n : ℕ) → length l ≤ n → take n l ≡ l
take_all [] zero le = refl
take_all [] (suc n) le = refl
take_all (x ∷ l) zero le = absurd (omega (arith, le))
take_all (x ∷ l) (suc n) le = ap (λ (m : List _). x ∷ m) (take_all l n (omega (arith, le)))

-- ---- as many as fit

pub drop_here : (parts : List Bytes) (n : ℕ) (p : Bytes) → Some p ≡ slice_get parts n → drop n parts ≡ p ∷ drop (suc n) parts
drop_here [] n p is = absurd cc
drop_here (q ∷ parts) zero p is = cc
drop_here (q ∷ parts) (suc n) p is = drop_here parts n p is

pub drop_past : (parts : List Bytes) (n : ℕ) → None ≡ slice_get parts n → drop n parts ≡ []
drop_past [] zero is = refl
drop_past [] (suc n) is = refl
drop_past (q ∷ parts) zero is = absurd cc
drop_past (q ∷ parts) (suc n) is = drop_past parts n is

pub drop_whole : (parts : List Bytes) (n : ℕ) → length parts ≤ n → drop n parts ≡ []
drop_whole [] zero le = refl
drop_whole [] (suc n) le = refl
drop_whole (q ∷ parts) zero le = absurd (omega (arith, le))
drop_whole (q ∷ parts) (suc n) le = drop_whole parts n (omega (arith, le))

module _ (parts : List Bytes) (n used : ℕ) where
  pub fits_more : (next : ℕ) (p : Bytes) → next ≡ suc n → Some p ≡ slice_get parts n → used + length p ≤ part_bytes_limit → fitting used (drop n parts) ≡ p ∷ fitting (used + length p) (drop next parts)
  unfolding fitting
  fits_more next p up is fits = rw (drop_here parts n p is, le-leb (used + length p) part_bytes_limit fits, up) refl

  pub fits_none : None ≡ slice_get parts n → fitting used (drop n parts) ≡ []
  unfolding fitting
  fits_none is = rw (drop_past parts n is) refl

  pub fits_whole : length parts ≤ n → fitting used (drop n parts) ≡ []
  unfolding fitting
  fits_whole le = rw (drop_whole parts n le) refl

  pub fits_no_more : (p : Bytes) → Some p ≡ slice_get parts n → part_bytes_limit < used + length p → fitting used (drop n parts) ≡ []
  unfolding fitting
  fits_no_more p is over = rw (drop_here parts n p is, lt-leb (used + length p) part_bytes_limit over) refl

-- one part more at the end
pub pushed : (before after rest : List Bytes) (p x : Bytes) → after ≡ before ++ x ∷ [] → x ≡ p → after ++ rest ≡ before ++ p ∷ rest
pushed before after rest p x is x_is = rw (is, x_is) (append_assoc before (p ∷ []) rest)

-- nothing more
pub no_more : (before rest all : List Bytes) → rest ≡ [] → before ++ rest ≡ all → before ≡ all
no_more before rest all none is = sym (append-nil before) ∙ (ap (λ (l : List Bytes). before ++ l) (sym none) ∙ is)

pub first_fits : (parts : List Bytes) (n next : ℕ) (p : Bytes) → next ≡ suc n → Some p ≡ slice_get parts n → first_fitting (drop n parts) ≡ p ∷ fitting (length p) (drop next parts)
first_fits parts n next p up is = rw (drop_here parts n p is, up) refl

pub first_none : (parts : List Bytes) (n : ℕ) → None ≡ slice_get parts n → first_fitting (drop n parts) ≡ []
first_none parts n is = rw (drop_past parts n is) refl

pub some_within : (parts : List Bytes) (n : ℕ) (p : Bytes) → Some p ≡ slice_get parts n → n < length parts
some_within [] n p is = absurd cc
some_within (q ∷ parts) zero p is = omega arith
some_within (q ∷ parts) (suc n) p is = omega (arith, some_within parts n p is)
