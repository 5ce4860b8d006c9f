-- A field that is read is the field that was written, and what was written is read again.
use Rattle.std.proofs.Common.{◌≡◌, ℕ, zero, suc, ◌+◌, ◌-◌, ◌%◌, ◌^◌, ◌<◌, ◌≤◌, Bool, true, false, cond, ltb, leb, eqb, ◌&&◌, ◌⊎◌, List, [], ◌∷◌, ◌++◌, length, map, get_or, take, drop, Option, Some, None, Result, Ok, Err, refl, sym, ap, subst, ◌∙◌, append_assoc, arith, inl, inr, add-zero, lit<, lit≤}
use Rattle.std.specs.Prelude.{IfSome}
use Rattle.std.specs.Int.{Width, w8, w16, w32, w64, byte_len, from_be_bytes, to_be_bytes}
use Rattle.std.specs.List.{flat_map, AllByRecursion}
use Rattle.std.proofs.lemmas.Bool.{cases_lt, ltb-false, le-ltb, leb-true, le-leb, eqb-true, eq-eqb}
use Rattle.std.proofs.lemmas.List.{take_at, drop_at, take-append-drop, append-nil, length-append, length-take, get_or-drop, get_or-take, get_or_past}
use Rattle.std.proofs.lemmas.List.Concat.{flat_map-cons}
use Rattle.std.proofs.lemmas.Nat.{be_bytes_2, be_bytes_4, be_bytes_8, from_be_bytes-to_be_bytes_2, from_be_bytes-to_be_bytes_4, from_be_bytes-to_be_bytes_8}
use Rattle.mb_base.specs.Spelling.{number, text, text16, listed, optional, Rises}
pub use Rattle.mb_base.specs.Spelling.{IsBytes}
use Rattle.mb_base.specs.Reading.{◌>>=◌, Cursor, cursor, onward, Reads, bytes_at, number_at, number_in, checked_at, multiple_in, is_other, number_without, text_in, text16_at, pair_at, then_at, map_at, nothing_at, optional_at, repeat_at, list_in, rising_at, bounded_one, bounded_at}

pub IsBytes-drop : (n : ℕ) (bytes : List ℕ) → IsBytes bytes → IsBytes (drop n bytes)
IsBytes-drop n bytes h i = rw get_or-drop (h (n + i))

pub IsBytes-take : (n : ℕ) (bytes : List ℕ) → IsBytes bytes → IsBytes (take n bytes)
IsBytes-take n bytes h i =
    elim (cases_lt i n) [
      | inl lt ↦ rw (get_or-take n bytes i 0 lt) (h i)
      | inr le ↦ rw (get_or_past (take n bytes) i 0 (omega (arith, length-take n bytes))) (omega arith)
    ]

-- the value of a step that did not fail
pub bind_ok : {A B : Type 0} (r : Result A ℕ) (f : A → Result B ℕ) (y : B) → (r >>= f) ≡ Ok y → (x : A) × (r ≡ Ok x) × (f x ≡ Ok y)
bind_ok (Ok x) f y e = (x, refl, e)
bind_ok (Err d) f y e = absurd cc

-- the step that failed is the first or the second
pub bind_err : {A B : Type 0} (r : Result A ℕ) (f : A → Result B ℕ) (at : ℕ) → (r >>= f) ≡ Err at → (r ≡ Err at) ⊎ ((x : A) × (r ≡ Ok x) × (f x ≡ Err at))
bind_err (Ok x) f at e = inr (x, refl, e)
bind_err (Err d) f at e = let same : d ≡ at = cc in inl (ap Err same)

-- a test that did not fail
pub guard_ok : {A : Type 0} (b : Bool) (d : ℕ) (x y : A) → cond b (Err d) (Ok x) ≡ Ok y → (b ≡ false) × (x ≡ y)
guard_ok true d x y e = absurd cc
guard_ok false d x y e = (refl, cc)

pub allow_ok : {A : Type 0} (b : Bool) (d : ℕ) (x y : A) → cond b (Ok x) (Err d) ≡ Ok y → (b ≡ true) × (x ≡ y)
allow_ok true d x y e = (refl, cc)
allow_ok false d x y e = absurd cc

-- a test that failed
pub guard_err : {A : Type 0} (b : Bool) (d at : ℕ) (x : A) → cond b (Err d) (Ok x) ≡ Err at → d ≡ at
guard_err true d at x e = cc
guard_err false d at x e = absurd cc

pub allow_err : {A : Type 0} (b : Bool) (d at : ℕ) (x : A) → cond b (Ok x) (Err d) ≡ Err at → d ≡ at
allow_err true d at x e = absurd cc
allow_err false d at x e = cc

abbrev done : {A : Type 0} → A → Result A ℕ
done x = Ok x

pub ok_is : {A : Type 0} (x y : A) → done x ≡ done y → x ≡ y
ok_is x y e = cc

-- what was taken from the front
pub record Takes (s : Cursor) (text : List ℕ) (t : Cursor) : Type 0 where
  pub parts : s.rest ≡ text ++ t.rest
  pub place : t.at ≡ s.at + length text
  pub rest_fits : IsBytes t.rest

pub Takes-then : (a : Cursor) (x : List ℕ) (b : Cursor) (y : List ℕ) (c : Cursor) → Takes a x b → Takes b y c → Takes a (x ++ y) c
Takes-then a x b y c p q = record {
  parts = p.parts ∙ ap (λ (t : List ℕ). x ++ t) q.parts ∙ sym (append_assoc x y c.rest);
  place = omega (arith, p.place, q.place, length-append x y);
  rest_fits = q.rest_fits;
}

-- the two laws of a field
pub record IsField {A : Type 0} (f : Cursor → Reads A) (text : A → List ℕ) (P : A → Type 0) : Type 0 where
  pub takes : (s : Cursor) (x : A) (t : Cursor) → IsBytes s.rest → f s ≡ Ok (x, t) → Takes s (text x) t × P x
  pub again : (x : A) (at : ℕ) (rest : List ℕ) → P x → f (cursor at (text x ++ rest)) ≡ Ok (x, cursor (at + length (text x)) rest)

-- what fits, said another way
pub iff_field : {A : Type 0} (f : Cursor → Reads A) (tf : A → List ℕ) (P Q : A → Type 0) → ((x : A) → P x → Q x) → ((x : A) → Q x → P x) → IsField f tf P → IsField f tf Q
iff_field f tf P Q to from hf = record {
  takes = λ s x t fits e. let p = hf.takes s x t fits e in (p.0, to x p.1);
  again = λ x at rest h. hf.again x at rest (from x h);
}

-- what fits, and its bytes, said another way
pub like_field : {A : Type 0} (f : Cursor → Reads A) (tf tg : A → List ℕ) (P Q : A → Type 0) → ((x : A) → P x → Q x) → ((x : A) → Q x → P x) → ((x : A) → P x → tf x ≡ tg x) → IsField f tf P → IsField f tg Q
like_field f tf tg P Q to from same hf = record {
  takes = λ s x t fits e. let p = hf.takes s x t fits e in (subst (λ (u : List ℕ). Takes s u t) (same x p.1) p.0, to x p.1);
  again = λ x at rest h. subst (λ (u : List ℕ). f (cursor at (u ++ rest)) ≡ Ok (x, cursor (at + length u) rest)) (same x (from x h)) (hf.again x at rest (from x h));
}

-- one of two, by a test that was made
pub cond_field : {A : Type 0} (b : Bool) (f g : Cursor → Reads A) (tf : A → List ℕ) (P : A → Type 0) → (b ≡ true → IsField f tf P) → (b ≡ false → IsField g tf P) → IsField (cond b f g) tf P
cond_field true f g tf P first second = first refl
cond_field false f g tf P first second = second refl

-- different values that fit are spelled differently
pub field_injective : {A : Type 0} (f : Cursor → Reads A) (tf : A → List ℕ) (P : A → Type 0) → IsField f tf P → (x y : A) → P x → P y → tf x ≡ tf y → x ≡ y
field_injective {A} f tf P hf x y px py e =
    let first : f (cursor 0 (tf x ++ [])) ≡ Ok (x, cursor (0 + length (tf x)) []) = hf.again x 0 [] px in
    let second : f (cursor 0 (tf x ++ [])) ≡ Ok (y, cursor (0 + length (tf y)) []) = rw e (hf.again y 0 [] py) in
    ap (λ (v : A × Cursor). v.0) (ok_is (x, cursor (0 + length (tf x)) []) (y, cursor (0 + length (tf y)) []) (sym first ∙ second))

-- one after the other
pub pair_field : {A B : Type 0} (f : Cursor → Reads A) (tf : A → List ℕ) (P : A → Type 0) (g : Cursor → Reads B) (tg : B → List ℕ) (Q : B → Type 0)
    → IsField f tf P → IsField g tg Q → IsField (pair_at f g) (λ p. tf p.0 ++ tg p.1) (λ p. P p.0 × Q p.1)
pair_field {A} {B} f tf P g tg Q hf hg = record {
  takes = λ s x t fits e.
      let a = bind_ok (f s) (λ v. g v.1 >>= λ w. Ok ((v.0, w.0), w.1)) (x, t) e in
      let b = bind_ok (g a.0.1) (λ w. Ok ((a.0.0, w.0), w.1)) (x, t) a.2 in
      let p = hf.takes s a.0.0 a.0.1 fits a.1 in
      let q = hg.takes a.0.1 b.0.0 b.0.1 p.0.rest_fits b.1 in
      let both = Takes-then s (tf a.0.0) a.0.1 (tg b.0.0) b.0.1 p.0 q.0 in
      subst (λ (y : (A × B) × Cursor). Takes s (tf y.0.0 ++ tg y.0.1) y.1 × (P y.0.0 × Q y.0.1)) (ok_is ((a.0.0, b.0.0), b.0.1) (x, t) b.2) (both, (p.1, q.1));
  again = λ x at rest h.
      let regrouped : (tf x.0 ++ tg x.1) ++ rest ≡ tf x.0 ++ (tg x.1 ++ rest) = append_assoc (tf x.0) (tg x.1) rest in
      let place : (at + length (tf x.0)) + length (tg x.1) ≡ at + length (tf x.0 ++ tg x.1) = omega (arith, length-append (tf x.0) (tg x.1)) in
      ap (λ (r : List ℕ). pair_at f g (cursor at r)) regrouped
      ∙ rw (hf.again x.0 at (tg x.1 ++ rest) h.0, hg.again x.1 (at + length (tf x.0)) rest h.1) (ap (λ (k : ℕ). Ok (x, cursor k rest)) place);
}

-- one after the other, where the first says how the second is read
pub then_field : {A B : Type 0} (f : Cursor → Reads A) (tf : A → List ℕ) (P : A → Type 0) (g : A → Cursor → Reads B) (tg : A → B → List ℕ) (Q : A → B → Type 0)
    → IsField f tf P → ((a : A) → P a → IsField (g a) (tg a) (Q a)) → IsField (then_at f g) (λ p. tf p.0 ++ tg p.0 p.1) (λ p. P p.0 × Q p.0 p.1)
then_field {A} {B} f tf P g tg Q hf hg = record {
  takes = λ s x t fits e.
      let a = bind_ok (f s) (λ v. g v.0 v.1 >>= λ w. Ok ((v.0, w.0), w.1)) (x, t) e in
      let b = bind_ok (g a.0.0 a.0.1) (λ w. Ok ((a.0.0, w.0), w.1)) (x, t) a.2 in
      let p = hf.takes s a.0.0 a.0.1 fits a.1 in
      let q = (hg a.0.0 p.1).takes a.0.1 b.0.0 b.0.1 p.0.rest_fits b.1 in
      let both = Takes-then s (tf a.0.0) a.0.1 (tg a.0.0 b.0.0) b.0.1 p.0 q.0 in
      subst (λ (y : (A × B) × Cursor). Takes s (tf y.0.0 ++ tg y.0.0 y.0.1) y.1 × (P y.0.0 × Q y.0.0 y.0.1)) {x = ((a.0.0, b.0.0), b.0.1)} (ok_is ((a.0.0, b.0.0), b.0.1) (x, t) b.2) (both, (p.1, q.1));
  again = λ x at rest h.
      let regrouped : (tf x.0 ++ tg x.0 x.1) ++ rest ≡ tf x.0 ++ (tg x.0 x.1 ++ rest) = append_assoc (tf x.0) (tg x.0 x.1) rest in
      let place : (at + length (tf x.0)) + length (tg x.0 x.1) ≡ at + length (tf x.0 ++ tg x.0 x.1) = omega (arith, length-append (tf x.0) (tg x.0 x.1)) in
      ap (λ (r : List ℕ). then_at f g (cursor at r)) regrouped
      ∙ rw (hf.again x.0 at (tg x.0 x.1 ++ rest) h.0, (hg x.0 h.0).again x.1 (at + length (tf x.0)) rest h.1) (ap (λ (k : ℕ). Ok (x, cursor k rest)) place);
}

-- made into another type: each value that fits there is made of one that fits here, and is spelled as that one
pub made_field : {A B : Type 0} (make : A → B) (f : Cursor → Reads A) (tf : A → List ℕ) (P : A → Type 0) (text : B → List ℕ) (Q : B → Type 0)
    → ((x : A) → P x → text (make x) ≡ tf x) → ((x : A) → P x → Q (make x)) → ((y : B) → Q y → (x : A) × (make x ≡ y) × P x)
    → IsField f tf P → IsField (map_at make f) text Q
made_field {A} {B} make f tf P text Q spelled into from hf = record {
  takes = λ s y t fits e.
      let a = bind_ok (f s) (λ v. Ok (make v.0, v.1)) (y, t) e in
      let p = hf.takes s a.0.0 a.0.1 fits a.1 in
      let made : Takes s (text (make a.0.0)) a.0.1 = subst (λ (u : List ℕ). Takes s u a.0.1) (sym (spelled a.0.0 p.1)) p.0 in
      subst (λ (z : B × Cursor). Takes s (text z.0) z.1 × Q z.0) (ok_is (make a.0.0, a.0.1) (y, t) a.2) (made, into a.0.0 p.1);
  again = λ y at rest h.
      let x = from y h in
      let one : map_at make f (cursor at (tf x.0 ++ rest)) ≡ Ok (make x.0, cursor (at + length (tf x.0)) rest) = rw (hf.again x.0 at rest x.2) refl in
      let two : map_at make f (cursor at (text (make x.0) ++ rest)) ≡ Ok (make x.0, cursor (at + length (text (make x.0))) rest) = rw (spelled x.0 x.2) one in
      subst (λ (z : B). map_at make f (cursor at (text z ++ rest)) ≡ Ok (z, cursor (at + length (text z)) rest)) x.1 two;
}

-- seen another way, where what is seen is seen back only for values that fit
pub view_field : {A B : Type 0} (to : A → B) (from : B → A) (f : Cursor → Reads A) (tf : A → List ℕ) (P : A → Type 0)
    → ((x : A) → P x → from (to x) ≡ x) → ((y : B) → to (from y) ≡ y) → IsField f tf P → IsField (map_at to f) (λ y. tf (from y)) (λ y. P (from y))
view_field {A} {B} to from f tf P back forth hf =
    made_field to f tf P (λ y. tf (from y)) (λ y. P (from y)) (λ x h. ap tf (back x h)) (λ x h. subst P (sym (back x h)) h) (λ y h. (from y, forth y, h)) hf

-- seen another way
pub map_field : {A B : Type 0} (to : A → B) (from : B → A) → ((x : A) → from (to x) ≡ x) → ((y : B) → to (from y) ≡ y) → (f : Cursor → Reads A) (tf : A → List ℕ) (P : A → Type 0)
    → IsField f tf P → IsField (map_at to f) (λ y. tf (from y)) (λ y. P (from y))
map_field {A} {B} to from back forth f tf P hf = record {
  takes = λ s y t fits e.
      let a = bind_ok (f s) (λ v. Ok (to v.0, v.1)) (y, t) e in
      let p = hf.takes s a.0.0 a.0.1 fits a.1 in
      subst (λ (z : B × Cursor). Takes s (tf (from z.0)) z.1 × P (from z.0)) (ok_is (to a.0.0, a.0.1) (y, t) a.2)
      (subst (λ (x : A). Takes s (tf x) a.0.1 × P x) (sym (back a.0.0)) p);
  again = λ y at rest h. rw (hf.again (from y) at rest h, forth y) refl;
}

-- ---- numbers and bytes

pub record IsWide (w : Width) (limit : ℕ) : Type 0 where
  pub len : (n : ℕ) → length (to_be_bytes w n) ≡ byte_len w
  pub back : (bytes : List ℕ) → length bytes ≡ byte_len w → IsBytes bytes → to_be_bytes w (from_be_bytes w bytes) ≡ bytes
  pub again : (n : ℕ) → n < limit → from_be_bytes w (to_be_bytes w n) ≡ n
  pub below : (bytes : List ℕ) → IsBytes bytes → from_be_bytes w bytes < limit

pub wide64 : IsWide w64 (2 ^ 64)
wide64 = record {
  len = λ n. refl;
  back = λ bytes len fits. be_bytes_8 bytes _ len fits refl;
  again = λ n lt. from_be_bytes-to_be_bytes_8 n lt;
  below = λ bytes fits. omega (arith, fits 0, fits 1, fits 2, fits 3, fits 4, fits 5, fits 6, fits 7);
}

pub number_length : (w : Width) (limit n : ℕ) → IsWide w limit → length (number w n) ≡ byte_len w
unfolding number
number_length w limit n wide = wide.len n

pub bytes_field : (count : ℕ) → IsField (bytes_at count) (λ x. x) (λ x. length x ≡ count)
bytes_field count = record {
  takes = λ s x t fits e.
      let g = guard_ok (ltb (length s.rest) count) s.at (take count s.rest, onward count s) (x, t) e in
      let long : count ≤ length s.rest = ltb-false _ _ g.0 in
      let len : length (take count s.rest) ≡ count = omega (arith, length-take count s.rest) in
      subst (λ (y : List ℕ × Cursor). Takes s y.0 y.1 × (length y.0 ≡ count)) g.1
      (record { parts = sym (take-append-drop count s.rest); place = omega arith; rest_fits = IsBytes-drop count s.rest fits }, len);
  again = λ x at rest len.
      let long : ltb (length (x ++ rest)) count ≡ false = le-ltb _ _ (omega (arith, length-append x rest)) in
      rw (long, take_at x rest count len, drop_at x rest count len, len) refl;
}

pub number_field : (w : Width) (limit : ℕ) → IsWide w limit → IsField (number_at w) (number w) (λ n. n < limit)
unfolding number
number_field w limit wide = record {
  takes = λ s n t fits e.
      let g = guard_ok (ltb (length s.rest) (byte_len w)) s.at (from_be_bytes w (take (byte_len w) s.rest), onward (byte_len w) s) (n, t) e in
      let long : byte_len w ≤ length s.rest = ltb-false _ _ g.0 in
      let len : length (take (byte_len w) s.rest) ≡ byte_len w = omega (arith, length-take (byte_len w) s.rest) in
      let front = wide.back (take (byte_len w) s.rest) len (IsBytes-take (byte_len w) s.rest fits) in
      let m = from_be_bytes w (take (byte_len w) s.rest) in
      subst (λ (y : ℕ × Cursor). Takes s (to_be_bytes w y.0) y.1 × (y.0 < limit)) g.1
      (record { parts = rw front (sym (take-append-drop (byte_len w) s.rest)); place = rw (wide.len m) refl; rest_fits = IsBytes-drop (byte_len w) s.rest fits }, wide.below _ (IsBytes-take (byte_len w) s.rest fits));
  again = λ n at rest lt.
      let len = wide.len n in
      let long : ltb (length (to_be_bytes w n ++ rest)) (byte_len w) ≡ false = le-ltb _ _ (omega (arith, length-append (to_be_bytes w n) rest)) in
      rw (long, take_at (to_be_bytes w n) rest (byte_len w) len, drop_at (to_be_bytes w n) rest (byte_len w) len, wide.again n lt, len) refl;
}

both_true : (a b : Bool) → (a && b) ≡ true → (a ≡ true) × (b ≡ true)
both_true true b e = (refl, e)
both_true false b e = absurd cc

one_byte : (bytes : List ℕ) → length bytes ≡ 1 → get_or bytes 0 0 < 256 → to_be_bytes w8 (from_be_bytes w8 bytes) ≡ bytes
one_byte [] len lt = absurd cc
one_byte (b ∷ []) len lt = let e : b % 256 ≡ b = omega arith in rw e refl
one_byte (b ∷ c ∷ bs) len lt = absurd (omega arith)

below_256 : (n : ℕ) → n < 2 ^ 8 → from_be_bytes w8 (to_be_bytes w8 n) ≡ n
below_256 n lt = omega arith

pub wide16 : IsWide w16 (2 ^ 16)
wide16 = record {
  len = λ n. refl;
  back = λ bytes len fits. be_bytes_2 bytes _ len fits refl;
  again = λ n lt. from_be_bytes-to_be_bytes_2 n lt;
  below = λ bytes fits. omega (arith, fits 0, fits 1);
}

pub wide8 : IsWide w8 (2 ^ 8)
wide8 = record {
  len = λ n. refl;
  back = λ bytes len fits. one_byte bytes len (fits 0);
  again = λ n lt. below_256 n lt;
  below = λ bytes fits. omega (arith, fits 0);
}

pub wide32 : IsWide w32 (2 ^ 32)
wide32 = record {
  len = λ n. refl;
  back = λ bytes len fits. be_bytes_4 bytes _ len fits refl;
  again = λ n lt. from_be_bytes-to_be_bytes_4 n lt;
  below = λ bytes fits. omega (arith, fits 0, fits 1, fits 2, fits 3);
}

-- a number from low up to high
pub ranged_field : (w : Width) (limit low high : ℕ) → high < limit → IsWide w limit → IsField (number_in w low high) (number w) (λ n. (low ≤ n) × (n ≤ high))
unfolding number_in
ranged_field w limit low high lt wide =
    let field = number_field w limit wide in
    record {
      takes = λ s n t fits e.
          let a = bind_ok (number_at w s) (λ v. cond (leb low v.0 && leb v.0 high) (Ok v) (Err s.at)) (n, t) e in
          let g = allow_ok (leb low a.0.0 && leb a.0.0 high) s.at a.0 (n, t) a.2 in
          let both = both_true (leb low a.0.0) (leb a.0.0 high) g.0 in
          subst (λ (y : ℕ × Cursor). Takes s (number w y.0) y.1 × ((low ≤ y.0) × (y.0 ≤ high))) g.1 ((field.takes s a.0.0 a.0.1 fits a.1).0, (leb-true _ _ both.0, leb-true _ _ both.1));
      again = λ n at rest h.
          rw (field.again n at rest (omega arith), le-leb _ _ h.0, le-leb _ _ h.1) refl;
    }

-- a number from low up to below high
pub within_field : (w : Width) (limit low high : ℕ) → 1 ≤ high → high ≤ limit → IsWide w limit → IsField (number_in w low (high - 1)) (number w) (λ n. (low ≤ n) × (n < high))
within_field w limit low high some le wide =
    iff_field _ _ _ _ (λ n h. (h.0, omega (arith, h.1))) (λ n h. (h.0, omega (arith, h.1))) (ranged_field w limit low (high - 1) (omega arith) wide)

-- a number below high
pub below_field : (w : Width) (limit high : ℕ) → 1 ≤ high → high ≤ limit → IsWide w limit → IsField (number_in w 0 (high - 1)) (number w) (λ n. n < high)
below_field w limit high some le wide = iff_field _ _ _ _ (λ n h. h.1) (λ n h. (omega arith, h)) (within_field w limit 0 high some le wide)

-- what passes the test
pub checked_field : {A : Type 0} (test : A → Bool) (f : Cursor → Reads A) (tf : A → List ℕ) (P : A → Type 0) → IsField f tf P → IsField (checked_at test f) tf (λ x. P x × (test x ≡ true))
unfolding checked_at
checked_field {A} test f tf P hf = record {
  takes = λ s x t fits e.
      let a = bind_ok (f s) (λ v. cond (test v.0) (Ok v) (Err s.at)) (x, t) e in
      let g = allow_ok (test a.0.0) s.at a.0 (x, t) a.2 in
      let p = hf.takes s a.0.0 a.0.1 fits a.1 in
      subst (λ (y : A × Cursor). Takes s (tf y.0) y.1 × (P y.0 × (test y.0 ≡ true))) g.1 (p.0, (p.1, g.0));
  again = λ x at rest h. rw (hf.again x at rest h.0, h.1) refl;
}

-- a number from low up to below high that is a multiple of k
pub multiple_field : (k low high : ℕ) → 1 ≤ high → high ≤ 2 ^ 64 → IsField (multiple_in k low (high - 1)) (number w64) (λ n. ((low ≤ n) × (n < high)) × (n % k ≡ 0))
unfolding multiple_in
multiple_field k low high some le =
    iff_field _ _ _ _ (λ n h. (h.0, eqb-true (n % k) 0 h.1)) (λ n h. (h.0, eq-eqb (n % k) 0 h.1)) (
    checked_field (λ n. eqb (n % k) 0) _ _ _ (within_field w64 (2 ^ 64) low high some le wide64))

-- a number of one byte from low up to below high, and another than the one that is left out
pub without_field : (left_out : Option ℕ) (low high : ℕ) → 1 ≤ high → high ≤ 2 ^ 8 → IsField (number_without left_out low (high - 1)) (number w8) (λ n. ((low ≤ n) × (n < high)) × (is_other left_out n ≡ true))
unfolding number_without
without_field left_out low high some le = checked_field (is_other left_out) _ _ _ (within_field w8 (2 ^ 8) low high some le wide8)

-- nothing, which stands for one value
pub nothing_field : {A : Type 0} (x : A) → IsField (nothing_at x) (λ y. []) (λ y. x ≡ y)
nothing_field {A} x = record {
  takes = λ s y t fits e. subst (λ (v : A × Cursor). Takes s [] v.1 × (x ≡ v.0)) (ok_is (x, s) (y, t) e) (record { parts = refl; place = omega arith; rest_fits = fits }, refl);
  again = λ y at rest h. rw add-zero (ap (λ (v : A). Ok (v, cursor at rest)) h);
}

-- a length from low up to high, and that many bytes
pub text_field : (w : Width) (limit low high : ℕ) → high < limit → IsWide w limit → IsField (text_in w low high) (text w) (λ x. (low ≤ length x) × (length x ≤ high))
unfolding text_in
text_field w limit low high lt wide =
    let field = ranged_field w limit low high lt wide in
    record {
      takes = λ s x t fits e.
          let a = bind_ok (number_in w low high s) (λ len. bytes_at len.0 len.1) (x, t) e in
          let p = field.takes s a.0.0 a.0.1 fits a.1 in
          let q = (bytes_field a.0.0).takes a.0.1 x t p.0.rest_fits a.2 in
          let both = Takes-then s (number w a.0.0) a.0.1 x t p.0 q.0 in
          (subst (λ (k : ℕ). Takes s (number w k ++ x) t) (sym q.1) both, (omega (arith, q.1, p.1.0), omega (arith, q.1, p.1.1)));
      again = λ x at rest h.
          let regrouped : (number w (length x) ++ x) ++ rest ≡ number w (length x) ++ (x ++ rest) = append_assoc (number w (length x)) x rest in
          let place : (at + length (number w (length x))) + length x ≡ at + length (number w (length x) ++ x) = omega (arith, length-append (number w (length x)) x) in
          ap (λ (r : List ℕ). text_in w low high (cursor at r)) regrouped
          ∙ rw (field.again (length x) at (x ++ rest) h, (bytes_field (length x)).again x (at + length (number w (length x))) rest refl) (ap (λ (k : ℕ). Ok (x, cursor k rest)) place);
    }

-- a length of at most `most`, and that many bytes
pub text16_field : (most : ℕ) → most < 2 ^ 16 → IsField (text16_at most) text16 (λ x. length x ≤ most)
text16_field most lt = iff_field _ _ _ _ (λ x h. h.1) (λ x h. (omega arith, h)) (text_field w16 (2 ^ 16) 0 most lt wide16)

-- nothing, or a part
module _ {A : Type 0} (f : Cursor → Reads A) (tf : A → List ℕ) (P : A → Type 0) (hf : IsField f tf P) where
  abbrev flag_of : Option A → ℕ
  flag_of None = 0
  flag_of (Some x) = 1

  abbrev part : Option A → List ℕ
  part None = []
  part (Some x) = tf x

  abbrev Flagged : ℕ → Option A → Type 0
  Flagged k x = (flag_of x ≡ k) × IfSome x P

  abbrev behind_at : ℕ → Cursor → Reads (Option A)
  behind_at k c = cond (eqb k 0) (nothing_at None c) (map_at Some f c)

  small : (x : Option A) → (0 ≤ flag_of x) × (flag_of x ≤ 1)
  small None = (lit≤ tt, lit≤ tt)
  small (Some x) = (lit≤ tt, lit≤ tt)

  spelled : (x : Option A) → number w8 (flag_of x) ++ part x ≡ optional tf x
  spelled None = append-nil (number w8 0)
  spelled (Some x) = refl

  none_of : (x : Option A) → Flagged 0 x → None ≡ x
  none_of None h = refl
  none_of (Some x) h = absurd (omega (arith, h.0))

  some_of : (x : Option A) → Flagged 1 x → (y : A) × (Some y ≡ x) × P y
  some_of None h = absurd (omega (arith, h.0))
  some_of (Some y) h = (y, refl, h.1)

  behind_field : (k : ℕ) → k ≤ 1 → IsField (behind_at k) part (Flagged k)
  behind_field zero le = record {
    takes = λ s x t fits e. subst (λ (v : Option A × Cursor). Takes s (part v.0) v.1 × Flagged 0 v.0) (ok_is (None, s) (x, t) e) (record { parts = refl; place = omega arith; rest_fits = fits }, (refl, tt));
    again = λ x at rest h.
        let e = none_of x h in
        subst (λ (v : Option A). behind_at 0 (cursor at (part v ++ rest)) ≡ Ok (v, cursor (at + length (part v)) rest)) e (rw add-zero refl);
  }
  behind_field (suc zero) le = made_field Some f tf P part (Flagged 1) (λ x h. refl) (λ x h. (refl, h)) some_of hf
  behind_field (suc (suc k)) le = absurd (omega arith)

  pub optional_field : IsField (optional_at f) (optional tf) (λ x. IfSome x P)
  unfolding optional_at
  optional_field =
      let flag = ranged_field w8 (2 ^ 8) 0 1 (lit< tt) wide8 in
      record {
        takes = λ s x t fits e.
            let a = bind_ok (number_in w8 0 1 s) (λ v. behind_at v.0 v.1) (x, t) e in
            let p = flag.takes s a.0.0 a.0.1 fits a.1 in
            let q = (behind_field a.0.0 p.1.1).takes a.0.1 x t p.0.rest_fits a.2 in
            let both = Takes-then s (number w8 a.0.0) a.0.1 (part x) t p.0 q.0 in
            let text : number w8 a.0.0 ++ part x ≡ optional tf x = ap (λ (k : ℕ). number w8 k ++ part x) (sym q.1.0) ∙ spelled x in
            (subst (λ (v : List ℕ). Takes s v t) text both, q.1.1);
        again = λ x at rest h.
            let k = flag_of x in
            let regrouped : optional tf x ++ rest ≡ number w8 k ++ (part x ++ rest) = ap (λ (u : List ℕ). u ++ rest) (sym (spelled x)) ∙ append_assoc (number w8 k) (part x) rest in
            let place : (at + length (number w8 k)) + length (part x) ≡ at + length (optional tf x) = omega (arith, length-append (number w8 k) (part x), ap length (spelled x)) in
            ap (λ (r : List ℕ). optional_at f (cursor at r)) regrouped
            ∙ rw (flag.again k at (part x ++ rest) (small x), (behind_field k (small x).1).again x (at + length (number w8 k)) rest (refl, h)) (ap (λ (n : ℕ). Ok (x, cursor n rest)) place);
      }

-- n times the same
pub repeat_takes : {A : Type 0} (f : Cursor → Reads A) (tf : A → List ℕ) (P : A → Type 0) → IsField f tf P
    → (n : ℕ) (s : Cursor) (xs : List A) (t : Cursor) → IsBytes s.rest → repeat_at f n s ≡ Ok (xs, t) → Takes s (flat_map tf xs) t × (length xs ≡ n) × AllByRecursion P xs
unfolding repeat_at
repeat_takes {A} f tf P hf zero s xs t fits e =
    subst (λ (y : List A × Cursor). Takes s (flat_map tf y.0) y.1 × (length y.0 ≡ 0) × AllByRecursion P y.0) (ok_is ([], s) (xs, t) e) (record { parts = refl; place = omega arith; rest_fits = fits }, refl, tt)
repeat_takes {A} f tf P hf (suc n) s xs t fits e =
    let a = bind_ok (f s) (λ first. repeat_at f n first.1 >>= λ others. Ok (first.0 ∷ others.0, others.1)) (xs, t) e in
    let b = bind_ok (repeat_at f n a.0.1) (λ others. Ok (a.0.0 ∷ others.0, others.1)) (xs, t) a.2 in
    let first = hf.takes s a.0.0 a.0.1 fits a.1 in
    let second = repeat_takes f tf P hf n a.0.1 b.0.0 b.0.1 first.0.rest_fits b.1 in
    let both = Takes-then s (tf a.0.0) a.0.1 (flat_map tf b.0.0) b.0.1 first.0 second.0 in
    subst (λ (y : List A × Cursor). Takes s (flat_map tf y.0) y.1 × (length y.0 ≡ suc n) × AllByRecursion P y.0) (ok_is (a.0.0 ∷ b.0.0, b.0.1) (xs, t) b.2) (rw flat_map-cons both, ap suc second.1, (first.1, second.2))

pub repeat_again : {A : Type 0} (f : Cursor → Reads A) (tf : A → List ℕ) (P : A → Type 0) → IsField f tf P
    → (xs : List A) (at : ℕ) (rest : List ℕ) → AllByRecursion P xs → repeat_at f (length xs) (cursor at (flat_map tf xs ++ rest)) ≡ Ok (xs, cursor (at + length (flat_map tf xs)) rest)
unfolding repeat_at
repeat_again f tf P hf [] at rest fits = rw add-zero refl
repeat_again f tf P hf (x ∷ xs) at rest fits =
    let regrouped : flat_map tf (x ∷ xs) ++ rest ≡ tf x ++ (flat_map tf xs ++ rest) = ap (λ (r : List ℕ). r ++ rest) (flat_map-cons tf x xs) ∙ append_assoc (tf x) (flat_map tf xs) rest in
    let place : (at + length (tf x)) + length (flat_map tf xs) ≡ at + length (flat_map tf (x ∷ xs)) = omega (arith, length-append (tf x) (flat_map tf xs), ap length (flat_map-cons tf x xs)) in
    ap (λ (r : List ℕ). repeat_at f (suc (length xs)) (cursor at r)) regrouped
    ∙ rw (hf.again x at (flat_map tf xs ++ rest) fits.0, repeat_again f tf P hf xs (at + length (tf x)) rest fits.1) (ap (λ (k : ℕ). Ok (x ∷ xs, cursor k rest)) place)

-- n times the same
pub repeat_field : {A : Type 0} (n : ℕ) (f : Cursor → Reads A) (tf : A → List ℕ) (P : A → Type 0) → IsField f tf P → IsField (repeat_at f n) (flat_map tf) (λ xs. (length xs ≡ n) × AllByRecursion P xs)
repeat_field {A} n f tf P hf = record {
  takes = λ s xs t fits e. let q = repeat_takes f tf P hf n s xs t fits e in (q.0, (q.1, q.2));
  again = λ xs at rest h. subst (λ (k : ℕ). repeat_at f k (cursor at (flat_map tf xs ++ rest)) ≡ Ok (xs, cursor (at + length (flat_map tf xs)) rest)) h.0 (repeat_again f tf P hf xs at rest h.1);
}

-- a count from low up to high, and that many
pub list_field : {A : Type 0} (w : Width) (limit low high : ℕ) → high < limit → IsWide w limit → (f : Cursor → Reads A) (tf : A → List ℕ) (P : A → Type 0) → IsField f tf P
    → IsField (list_in w low high f) (listed w tf) (λ xs. ((low ≤ length xs) × (length xs ≤ high)) × AllByRecursion P xs)
unfolding list_in
list_field {A} w limit low high lt wide f tf P hf =
    let field = ranged_field w limit low high lt wide in
    record {
      takes = λ s xs t fits e.
          let a = bind_ok (number_in w low high s) (λ n. repeat_at f n.0 n.1) (xs, t) e in
          let p = field.takes s a.0.0 a.0.1 fits a.1 in
          let q = repeat_takes f tf P hf a.0.0 a.0.1 xs t p.0.rest_fits a.2 in
          let both = Takes-then s (number w a.0.0) a.0.1 (flat_map tf xs) t p.0 q.0 in
          (subst (λ (k : ℕ). Takes s (number w k ++ flat_map tf xs) t) (sym q.1) both, ((omega (arith, q.1, p.1.0), omega (arith, q.1, p.1.1)), q.2));
      again = λ xs at rest h.
          let count = number w (length xs) in
          let regrouped : (count ++ flat_map tf xs) ++ rest ≡ count ++ (flat_map tf xs ++ rest) = append_assoc count (flat_map tf xs) rest in
          let place : (at + length count) + length (flat_map tf xs) ≡ at + length (count ++ flat_map tf xs) = omega (arith, length-append count (flat_map tf xs)) in
          ap (λ (r : List ℕ). list_in w low high f (cursor at r)) regrouped
          ∙ rw (field.again (length xs) at (flat_map tf xs ++ rest) h.0, repeat_again f tf P hf xs (at + length count) rest h.1) (ap (λ (k : ℕ). Ok (xs, cursor k rest)) place);
    }

-- n times the same, each with a number above that of the one before
module _ {A : Type 0} (f : ℕ → Cursor → Reads A) (tf : A → List ℕ) (number_of : A → ℕ) (P : A → Type 0) (hf : (least : ℕ) → IsField (f least) tf (λ x. P x × (least ≤ number_of x))) where
  abbrev RisesHere : ℕ → ℕ → List A → Type 0
  RisesHere n least xs = (length xs ≡ n) × (Rises least (map number_of xs) × AllByRecursion P xs)

  rising_takes : (n least : ℕ) (s : Cursor) (xs : List A) (t : Cursor) → IsBytes s.rest → rising_at f number_of n least s ≡ Ok (xs, t) → Takes s (flat_map tf xs) t × RisesHere n least xs
  unfolding rising_at
  rising_takes zero least s xs t fits e =
      subst (λ (y : List A × Cursor). Takes s (flat_map tf y.0) y.1 × RisesHere 0 least y.0) (ok_is ([], s) (xs, t) e) (record { parts = refl; place = omega arith; rest_fits = fits }, (refl, (tt, tt)))
  rising_takes (suc n) least s xs t fits e =
      let a = bind_ok (f least s) (λ first. rising_at f number_of n (number_of first.0 + 1) first.1 >>= λ others. Ok (first.0 ∷ others.0, others.1)) (xs, t) e in
      let b = bind_ok (rising_at f number_of n (number_of a.0.0 + 1) a.0.1) (λ others. Ok (a.0.0 ∷ others.0, others.1)) (xs, t) a.2 in
      let first = (hf least).takes s a.0.0 a.0.1 fits a.1 in
      let second = rising_takes n (number_of a.0.0 + 1) a.0.1 b.0.0 b.0.1 first.0.rest_fits b.1 in
      let both = Takes-then s (tf a.0.0) a.0.1 (flat_map tf b.0.0) b.0.1 first.0 second.0 in
      subst (λ (y : List A × Cursor). Takes s (flat_map tf y.0) y.1 × RisesHere (suc n) least y.0) (ok_is (a.0.0 ∷ b.0.0, b.0.1) (xs, t) b.2)
      (rw flat_map-cons both, (ap suc second.1.0, ((first.1.1, second.1.1.0), (first.1.0, second.1.1.1))))

  rising_again : (least : ℕ) (xs : List A) (at : ℕ) (rest : List ℕ) → Rises least (map number_of xs) → AllByRecursion P xs
      → rising_at f number_of (length xs) least (cursor at (flat_map tf xs ++ rest)) ≡ Ok (xs, cursor (at + length (flat_map tf xs)) rest)
  unfolding rising_at
  rising_again least [] at rest rises fits = rw add-zero refl
  rising_again least (x ∷ xs) at rest rises fits =
      let regrouped : flat_map tf (x ∷ xs) ++ rest ≡ tf x ++ (flat_map tf xs ++ rest) = ap (λ (r : List ℕ). r ++ rest) (flat_map-cons tf x xs) ∙ append_assoc (tf x) (flat_map tf xs) rest in
      let place : (at + length (tf x)) + length (flat_map tf xs) ≡ at + length (flat_map tf (x ∷ xs)) = omega (arith, length-append (tf x) (flat_map tf xs), ap length (flat_map-cons tf x xs)) in
      ap (λ (r : List ℕ). rising_at f number_of (suc (length xs)) least (cursor at r)) regrouped
      ∙ rw ((hf least).again x at (flat_map tf xs ++ rest) (fits.0, rises.0), rising_again (number_of x + 1) xs (at + length (tf x)) rest rises.1 fits.1) (ap (λ (k : ℕ). Ok (x ∷ xs, cursor k rest)) place)

  pub rising_field : (n least : ℕ) → IsField (rising_at f number_of n least) (flat_map tf) (RisesHere n least)
  rising_field n least = record {
    takes = λ s xs t fits e. rising_takes n least s xs t fits e;
    again = λ xs at rest h. subst (λ (k : ℕ). rising_at f number_of k least (cursor at (flat_map tf xs ++ rest)) ≡ Ok (xs, cursor (at + length (flat_map tf xs)) rest)) h.0 (rising_again least xs at rest h.1.0 h.1.1);
  }

-- n times the same, with a bound on the bytes of all
module _ {A : Type 0} (f : Cursor → Reads A) (tf : A → List ℕ) (P : A → Type 0) (hf : IsField f tf P) (most : ℕ) where
  -- so many, each of which fits, and their bytes fit behind so many
  abbrev pub Bounded : ℕ → ℕ → List A → Type 0
  Bounded n used xs = (length xs ≡ n) × (AllByRecursion P xs × (used + length (flat_map tf xs) ≤ most))

  one_field : (used : ℕ) → IsField (bounded_one tf most f used) tf (λ x. P x × (used + length (tf x) ≤ most))
  one_field used =
      iff_field _ _ _ _ (λ x h. (h.0, leb-true _ _ h.1)) (λ x h. (h.0, le-leb _ _ h.1)) (
      checked_field (λ x. leb (used + length (tf x)) most) f tf P hf)

  bounded_takes : (n used : ℕ) (s : Cursor) (xs : List A) (t : Cursor) → used ≤ most → IsBytes s.rest → bounded_at tf most f n used s ≡ Ok (xs, t) → Takes s (flat_map tf xs) t × Bounded n used xs
  unfolding bounded_at
  bounded_takes zero used s xs t le fits e =
      subst (λ (y : List A × Cursor). Takes s (flat_map tf y.0) y.1 × Bounded 0 used y.0) (ok_is ([], s) (xs, t) e) (record { parts = refl; place = omega arith; rest_fits = fits }, (refl, (tt, omega (arith, le))))
  bounded_takes (suc n) used s xs t le fits e =
      let a = bind_ok (bounded_one tf most f used s) (λ first. bounded_at tf most f n (used + length (tf first.0)) first.1 >>= λ others. Ok (first.0 ∷ others.0, others.1)) (xs, t) e in
      let b = bind_ok (bounded_at tf most f n (used + length (tf a.0.0)) a.0.1) (λ others. Ok (a.0.0 ∷ others.0, others.1)) (xs, t) a.2 in
      let first = (one_field used).takes s a.0.0 a.0.1 fits a.1 in
      let second = bounded_takes n (used + length (tf a.0.0)) a.0.1 b.0.0 b.0.1 first.1.1 first.0.rest_fits b.1 in
      let both = Takes-then s (tf a.0.0) a.0.1 (flat_map tf b.0.0) b.0.1 first.0 second.0 in
      let sum : used + length (flat_map tf (a.0.0 ∷ b.0.0)) ≤ most = omega (arith, second.1.1.1, ap length (flat_map-cons tf a.0.0 b.0.0), length-append (tf a.0.0) (flat_map tf b.0.0)) in
      subst (λ (y : List A × Cursor). Takes s (flat_map tf y.0) y.1 × Bounded (suc n) used y.0) (ok_is (a.0.0 ∷ b.0.0, b.0.1) (xs, t) b.2)
      (rw flat_map-cons both, (ap suc second.1.0, ((first.1.0, second.1.1.0), sum)))

  bounded_again : (used : ℕ) (xs : List A) (at : ℕ) (rest : List ℕ) → AllByRecursion P xs → used + length (flat_map tf xs) ≤ most
      → bounded_at tf most f (length xs) used (cursor at (flat_map tf xs ++ rest)) ≡ Ok (xs, cursor (at + length (flat_map tf xs)) rest)
  unfolding bounded_at
  bounded_again used [] at rest fits le = rw add-zero refl
  bounded_again used (x ∷ xs) at rest fits le =
      let regrouped : flat_map tf (x ∷ xs) ++ rest ≡ tf x ++ (flat_map tf xs ++ rest) = ap (λ (r : List ℕ). r ++ rest) (flat_map-cons tf x xs) ∙ append_assoc (tf x) (flat_map tf xs) rest in
      let both : length (flat_map tf (x ∷ xs)) ≡ length (tf x) + length (flat_map tf xs) = ap length (flat_map-cons tf x xs) ∙ length-append (tf x) (flat_map tf xs) in
      let place : (at + length (tf x)) + length (flat_map tf xs) ≡ at + length (flat_map tf (x ∷ xs)) = omega (arith, both) in
      let here : used + length (tf x) ≤ most = omega (arith, le, both) in
      let behind : (used + length (tf x)) + length (flat_map tf xs) ≤ most = omega (arith, le, both) in
      ap (λ (r : List ℕ). bounded_at tf most f (suc (length xs)) used (cursor at r)) regrouped
      ∙ rw ((one_field used).again x at (flat_map tf xs ++ rest) (fits.0, here), bounded_again (used + length (tf x)) xs (at + length (tf x)) rest fits.1 behind) (ap (λ (k : ℕ). Ok (x ∷ xs, cursor k rest)) place)

  pub bounded_field : (n used : ℕ) → used ≤ most → IsField (bounded_at tf most f n used) (flat_map tf) (Bounded n used)
  bounded_field n used le = record {
    takes = λ s xs t fits e. bounded_takes n used s xs t le fits e;
    again = λ xs at rest h. subst (λ (k : ℕ). bounded_at tf most f k used (cursor at (flat_map tf xs ++ rest)) ≡ Ok (xs, cursor (at + length (flat_map tf xs)) rest)) h.0 (bounded_again used xs at rest h.1.0 h.1.1);
  }
