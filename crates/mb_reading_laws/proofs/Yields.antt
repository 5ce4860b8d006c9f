-- What reading yields, whatever list of numbers is read: each number lies within the limits with which it was read, each list has the length that was
-- asked for. Nothing is said of how the values are spelled, so nothing is asked of the list.
use Rattle.std.proofs.Common.{◌≡◌, ℕ, zero, suc, ◌+◌, ◌≤◌, Bool, true, false, ◌&&◌, cond, List, [], ◌∷◌, length, refl, ap, subst, inl, inr, eqb, arith, Option, Some, None, Ok, Err}
use Rattle.std.specs.Prelude.{◌==◌, ◌%◌, nat_lt, nat_le, map, take, if◌then◌else◌}
use Rattle.std.specs.Option.{IfSome}
use Rattle.std.specs.Int.{Width, w8, w64}
use Rattle.std.specs.List.{AllByRecursion, flat_map}
use Rattle.std.proofs.lemmas.Bool.{and_parts, cases_Bool, leb-true, ltb-false, eqb-true}
use Rattle.std.proofs.lemmas.List.{length-append, length-take-le}
use Rattle.mb_base.specs.Spelling.{Rises}
use Rattle.mb_base.specs.Reading.{Cursor, onward, Reads, ◌>>=◌, bytes_at, number_at, number_in, checked_at, multiple_in, is_other, number_without, text_in, pair_at, then_at, map_at, nothing_at, optional_at, repeat_at, list_in, rising_at, bounded_one, bounded_at}
use Rattle.mb_base.proofs.Laws.{bind_ok, guard_ok, allow_ok, ok_is}

-- Whatever is read here has this property.
abbrev pub IsYield : {A : Type 0} → (Cursor → Reads A) → (A → Type 0) → Type 0
IsYield {A} f P = (s : Cursor) (x : A) (t : Cursor) → f s ≡ Ok (x, t) → P x

pub more_yield : {A : Type 0} (f : Cursor → Reads A) (P Q : A → Type 0) → ((x : A) → P x → Q x) → IsYield f P → IsYield f Q
more_yield f P Q more y s x t e = more x (y s x t e)

pub in_yield : (w : Width) (low high : ℕ) → IsYield (number_in w low high) (λ n. (low ≤ n) × (n ≤ high))
unfolding number_in
in_yield w low high s x t e =
    let a = bind_ok (number_at w s) (λ n. if nat_le low n.0 && nat_le n.0 high then Ok n else Err s.at) (x, t) e in
    let b = allow_ok (nat_le low a.0.0 && nat_le a.0.0 high) s.at a.0 (x, t) a.2 in
    let c = and_parts (nat_le low a.0.0) (nat_le a.0.0 high) b.0 in
    subst (λ (v : ℕ × Cursor). (low ≤ v.0) × (v.0 ≤ high)) b.1 (leb-true low a.0.0 c.0, leb-true a.0.0 high c.1)

pub bytes_yield : (count : ℕ) → IsYield (bytes_at count) (λ x. length x ≡ count)
bytes_yield count s x t e =
    let b = guard_ok (nat_lt (length s.rest) count) s.at (take count s.rest, onward count s) (x, t) e in
    subst (λ (v : List ℕ × Cursor). length v.0 ≡ count) b.1 (length-take-le count s.rest (ltb-false (length s.rest) count b.0))

pub checked_yield : {A : Type 0} (test : A → Bool) (f : Cursor → Reads A) (P : A → Type 0) → IsYield f P → IsYield (checked_at test f) (λ x. P x × (test x ≡ true))
unfolding checked_at
checked_yield {A} test f P y s x t e =
    let a = bind_ok (f s) (λ v. if test v.0 then Ok v else Err s.at) (x, t) e in
    let b = allow_ok (test a.0.0) s.at a.0 (x, t) a.2 in
    subst (λ (v : A × Cursor). P v.0 × (test v.0 ≡ true)) b.1 (y s a.0.0 a.0.1 a.1, b.0)

pub pair_yield : {A B : Type 0} (f : Cursor → Reads A) (P : A → Type 0) (g : Cursor → Reads B) (Q : B → Type 0) → IsYield f P → IsYield g Q → IsYield (pair_at f g) (λ p. P p.0 × Q p.1)
pair_yield {A} {B} f P g Q y z s x t e =
    let a = bind_ok (f s) (λ v. g v.1 >>= λ w. Ok ((v.0, w.0), w.1)) (x, t) e in
    let b = bind_ok (g a.0.1) (λ w. Ok ((a.0.0, w.0), w.1)) (x, t) a.2 in
    subst (λ (v : (A × B) × Cursor). P v.0.0 × Q v.0.1) (ok_is ((a.0.0, b.0.0), b.0.1) (x, t) b.2) (y s a.0.0 a.0.1 a.1, z a.0.1 b.0.0 b.0.1 b.1)

pub then_yield : {A B : Type 0} (f : Cursor → Reads A) (P : A → Type 0) (g : A → Cursor → Reads B) (Q : A → B → Type 0) → IsYield f P → ((a : A) → P a → IsYield (g a) (Q a)) → IsYield (then_at f g) (λ p. P p.0 × Q p.0 p.1)
then_yield {A} {B} f P g Q y z s x t e =
    let a = bind_ok (f s) (λ v. g v.0 v.1 >>= λ w. Ok ((v.0, w.0), w.1)) (x, t) e in
    let b = bind_ok (g a.0.0 a.0.1) (λ w. Ok ((a.0.0, w.0), w.1)) (x, t) a.2 in
    let p = y s a.0.0 a.0.1 a.1 in
    subst (λ (v : (A × B) × Cursor). P v.0.0 × Q v.0.0 v.0.1) (ok_is ((a.0.0, b.0.0), b.0.1) (x, t) b.2) (p, z a.0.0 p a.0.1 b.0.0 b.0.1 b.1)

pub map_yield : {A B : Type 0} (make : A → B) (f : Cursor → Reads A) (P : A → Type 0) (Q : B → Type 0) → ((x : A) → P x → Q (make x)) → IsYield f P → IsYield (map_at make f) Q
map_yield {A} {B} make f P Q into y s x t e =
    let a = bind_ok (f s) (λ v. Ok (make v.0, v.1)) (x, t) e in
    subst (λ (v : B × Cursor). Q v.0) (ok_is (make a.0.0, a.0.1) (x, t) a.2) (into a.0.0 (y s a.0.0 a.0.1 a.1))

pub cond_yield : {A : Type 0} (b : Bool) (f g : Cursor → Reads A) (P : A → Type 0) → (b ≡ true → IsYield f P) → (b ≡ false → IsYield g P) → IsYield (cond b f g) P
cond_yield true f g P first second = first refl
cond_yield false f g P first second = second refl

pub nothing_yield : {A : Type 0} (x : A) (P : A → Type 0) → P x → IsYield (nothing_at x) P
nothing_yield {A} x P p s y t e = subst (λ (v : A × Cursor). P v.0) (ok_is (x, s) (y, t) e) p

pub optional_yield : {A : Type 0} (f : Cursor → Reads A) (P : A → Type 0) → IsYield f P → IsYield (optional_at f) (λ o. IfSome o P)
unfolding optional_at
optional_yield f P y s x t e =
    let a = bind_ok (number_in w8 0 1 s) (λ flag. (if flag.0 == 0 then nothing_at None flag.1 else map_at Some f flag.1)) (x, t) e in
    elim (cases_Bool (eqb a.0.0 0)) [
      | inl none ↦ nothing_yield None (λ o. IfSome o P) tt a.0.1 x t (rw none at a.2)
      | inr some ↦ map_yield Some f P (λ o. IfSome o P) (λ x p. p) y a.0.1 x t (rw some at a.2)
    ]

pub repeat_yield : {A : Type 0} (f : Cursor → Reads A) (P : A → Type 0) → IsYield f P → (n : ℕ) → IsYield (repeat_at f n) (λ xs. (length xs ≡ n) × AllByRecursion P xs)
unfolding repeat_at
repeat_yield {A} f P y zero s x t e = subst (λ (v : List A × Cursor). (length v.0 ≡ 0) × AllByRecursion P v.0) (ok_is ([], s) (x, t) e) (refl, tt)
repeat_yield {A} f P y (suc n) s x t e =
    let a = bind_ok (f s) (λ v. repeat_at f n v.1 >>= λ w. Ok (v.0 ∷ w.0, w.1)) (x, t) e in
    let b = bind_ok (repeat_at f n a.0.1) (λ w. Ok (a.0.0 ∷ w.0, w.1)) (x, t) a.2 in
    let p = repeat_yield f P y n a.0.1 b.0.0 b.0.1 b.1 in
    subst (λ (v : List A × Cursor). (length v.0 ≡ suc n) × AllByRecursion P v.0) (ok_is (a.0.0 ∷ b.0.0, b.0.1) (x, t) b.2) (ap suc p.0, (y s a.0.0 a.0.1 a.1, p.1))

pub list_yield : {A : Type 0} (w : Width) (low high : ℕ) (f : Cursor → Reads A) (P : A → Type 0) → IsYield f P → IsYield (list_in w low high f) (λ xs. ((low ≤ length xs) × (length xs ≤ high)) × AllByRecursion P xs)
unfolding list_in
list_yield w low high f P y s x t e =
    let a = bind_ok (number_in w low high s) (λ n. repeat_at f n.0 n.1) (x, t) e in
    let n = in_yield w low high s a.0.0 a.0.1 a.1 in
    let p = repeat_yield f P y a.0.0 a.0.1 x t a.2 in
    ((omega (arith, n.0, p.0), omega (arith, n.1, p.0)), p.1)

-- Where all have a bound on their bytes, also those that were read before, they have it.
pub bounded_yield : {A : Type 0} (text : A → List ℕ) (most : ℕ) (f : Cursor → Reads A) (P : A → Type 0) → IsYield f P → (n used : ℕ) → used ≤ most
    → IsYield (bounded_at text most f n used) (λ xs. (length xs ≡ n) × (AllByRecursion P xs × (used + length (flat_map text xs) ≤ most)))
unfolding bounded_at
bounded_yield {A} text most f P y zero used le s x t e =
    subst (λ (v : List A × Cursor). (length v.0 ≡ 0) × (AllByRecursion P v.0 × (used + length (flat_map text v.0) ≤ most))) (ok_is ([], s) (x, t) e) (refl, (tt, omega (arith, le)))
bounded_yield {A} text most f P y (suc n) used le s x t e =
    let a = bind_ok (bounded_one text most f used s) (λ v. bounded_at text most f n (used + length (text v.0)) v.1 >>= λ w. Ok (v.0 ∷ w.0, w.1)) (x, t) e in
    let b = bind_ok (bounded_at text most f n (used + length (text a.0.0)) a.0.1) (λ w. Ok (a.0.0 ∷ w.0, w.1)) (x, t) a.2 in
    let q = checked_yield (λ x. nat_le (used + length (text x)) most) f P y s a.0.0 a.0.1 a.1 in
    let p = bounded_yield text most f P y n (used + length (text a.0.0)) (leb-true (used + length (text a.0.0)) most q.1) a.0.1 b.0.0 b.0.1 b.1 in
    subst (λ (v : List A × Cursor). (length v.0 ≡ suc n) × (AllByRecursion P v.0 × (used + length (flat_map text v.0) ≤ most))) (ok_is (a.0.0 ∷ b.0.0, b.0.1) (x, t) b.2)
    (ap suc p.0, ((q.0, p.1.0), omega (arith, p.1.1, length-append (text a.0.0) (flat_map text b.0.0))))

pub text_yield : (w : Width) (low high : ℕ) → IsYield (text_in w low high) (λ x. (low ≤ length x) × (length x ≤ high))
unfolding text_in
text_yield w low high s x t e =
    let a = bind_ok (number_in w low high s) (λ n. bytes_at n.0 n.1) (x, t) e in
    let n = in_yield w low high s a.0.0 a.0.1 a.1 in
    let p = bytes_yield a.0.0 a.0.1 x t a.2 in
    (omega (arith, n.0, p), omega (arith, n.1, p))

pub rising_yield : {A : Type 0} (f : ℕ → Cursor → Reads A) (number_of : A → ℕ) (P : A → Type 0) → ((least : ℕ) → IsYield (f least) (λ x. P x × (least ≤ number_of x))) → (n least : ℕ)
    → IsYield (rising_at f number_of n least) (λ xs. (length xs ≡ n) × (Rises least (map number_of xs) × AllByRecursion P xs))
unfolding rising_at
rising_yield {A} f number_of P y zero least s x t e = subst (λ (v : List A × Cursor). (length v.0 ≡ 0) × (Rises least (map number_of v.0) × AllByRecursion P v.0)) (ok_is ([], s) (x, t) e) (refl, (tt, tt))
rising_yield {A} f number_of P y (suc n) least s x t e =
    let a = bind_ok (f least s) (λ v. rising_at f number_of n (number_of v.0 + 1) v.1 >>= λ w. Ok (v.0 ∷ w.0, w.1)) (x, t) e in
    let b = bind_ok (rising_at f number_of n (number_of a.0.0 + 1) a.0.1) (λ w. Ok (a.0.0 ∷ w.0, w.1)) (x, t) a.2 in
    let q = y least s a.0.0 a.0.1 a.1 in
    let p = rising_yield f number_of P y n (number_of a.0.0 + 1) a.0.1 b.0.0 b.0.1 b.1 in
    subst (λ (v : List A × Cursor). (length v.0 ≡ suc n) × (Rises least (map number_of v.0) × AllByRecursion P v.0)) (ok_is (a.0.0 ∷ b.0.0, b.0.1) (x, t) b.2) (ap suc p.0, ((q.1, p.1.0), (q.0, p.1.1)))

pub multiple_yield : (k low high : ℕ) → IsYield (multiple_in k low high) (λ n. ((low ≤ n) × (n ≤ high)) × (n % k ≡ 0))
unfolding multiple_in
multiple_yield k low high = more_yield _ _ _ (λ n p. (p.0, eqb-true (n % k) 0 p.1)) (checked_yield (λ n. n % k == 0) (number_in w64 low high) (λ n. (low ≤ n) × (n ≤ high)) (in_yield w64 low high))

pub without_yield : (left_out : Option ℕ) (low high : ℕ) → IsYield (number_without left_out low high) (λ n. ((low ≤ n) × (n ≤ high)) × (is_other left_out n ≡ true))
unfolding number_without
without_yield left_out low high = checked_yield (is_other left_out) (number_in w8 low high) (λ n. (low ≤ n) × (n ≤ high)) (in_yield w8 low high)
