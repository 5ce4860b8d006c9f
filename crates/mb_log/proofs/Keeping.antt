-- What the entries of a log keep, behind each call.
use Rattle.std.proofs.Common.{◌≡◌, ℕ, zero, suc, ◌+◌, ◌-◌, ◌<◌, ◌≤◌, Bool, true, false, cond, List, [], ◌∷◌, ◌++◌, length, map, take, drop, Some, None, refl, sym, ap, ◌∙◌, arith, add-one, set}
use Rattle.std.specs.Prelude.{count_by, not, nat_lt, slice_get}
use Rattle.std.proofs.lemmas.Bool.{ltb-true}
use Rattle.mb_model.specs.UsableLogs.{normal_limit}
use Rattle.std.specs.List.{AllByRecursion}
use Rattle.std.proofs.lemmas.List.Sums.{sum_by-cons, sum_by_push, sum_by-take-drop}
use Rattle.sha2.proofs.Facts256.{length-sha256}
use Rattle.mb_base.specs.Limits.{other_limit}
use Rattle.mb_base.specs.Shapes.{Bytes}
use Rattle.mb_base.specs.declared.shape.Shape.{Shape}
use Rattle.mb_msg.specs.declared.message.Body.{Body}
use Rattle.mb_msg.specs.declared.message.Body.TheVariants.{Whole, Bare as Short}
use Rattle.mb_msg.specs.declared.stamped.Stamped.{Stamped as StampedMessage}
use Rattle.mb_msg.specs.declared.stamped.Stamped.TheVariants as stamped
use Rattle.mb_msg.specs.Bodies.{body_digest, FitsBody}
use Rattle.mb_msg.specs.Fits.{FitsStamped}
use Rattle.mb_msg.specs.Spelling.{stamped_kind}
use Rattle.mb_parts.specs.Fits.{IsDigest}
use Rattle.mb_model.proofs.LogForms.{normal_behind}
use Rattle.mb_model.specs.OwnLog.{is_normal, behind, behind_opening, behind_change}
use Rattle.mb_log.specs.Logs.{is_normal_kind}
use Rattle.mb_log.specs.Takers.{takes_bodies}

-- ---- kinds

pub kind_is_normal : (m : StampedMessage) → is_normal_kind (stamped_kind m) ≡ is_normal m
kind_is_normal (stamped.Prepare m) = refl
kind_is_normal (stamped.Commit m) = refl
kind_is_normal (stamped.Checkpoint m) = refl
kind_is_normal (stamped.ViewChange m) = refl
kind_is_normal (stamped.NewView m) = refl
kind_is_normal (stamped.Enter m) = refl
kind_is_normal (stamped.Open m) = refl
kind_is_normal (stamped.Join m) = refl

-- ---- bodies

-- A body's digest is a digest.
digest_fits : {B : Type 0} (bytes : B → Bytes) (P : B → Type 0) (b : Body B) → FitsBody P b → IsDigest (body_digest bytes b)
digest_fits bytes P (Whole b) f = length-sha256 (bytes b)
digest_fits bytes P (Short d) f = f

opening_fits : (s : Shape) (x : StampedMessage) → FitsStamped s x → FitsStamped s (behind_opening x)
opening_fits s (stamped.Prepare m) f = record { view = f.view; pos = f.pos; body = digest_fits _ _ m.body f.body; ui = f.ui }
opening_fits s (stamped.Commit m) f = record { view = f.view; pos = f.pos; counter = f.counter; cert = f.cert; body = digest_fits _ _ m.body f.body; ui = f.ui }
opening_fits s (stamped.Open m) f = record { evidence = f.evidence; body = digest_fits _ _ m.body f.body; ui = f.ui }
opening_fits s (stamped.Checkpoint m) f = f
opening_fits s (stamped.ViewChange m) f = f
opening_fits s (stamped.NewView m) f = f
opening_fits s (stamped.Enter m) f = f
opening_fits s (stamped.Join m) f = f

change_fits : (s : Shape) (x : StampedMessage) → FitsStamped s x → FitsStamped s (behind_change x)
change_fits s (stamped.ViewChange m) f = record { view = f.view; body = digest_fits _ _ m.body f.body; ui = f.ui }
change_fits s (stamped.NewView m) f = record { view = f.view; base = f.base; end = f.end; plan = f.plan; body = digest_fits _ _ m.body f.body; ui = f.ui }
change_fits s (stamped.Prepare m) f = f
change_fits s (stamped.Commit m) f = f
change_fits s (stamped.Checkpoint m) f = f
change_fits s (stamped.Enter m) f = f
change_fits s (stamped.Open m) f = f
change_fits s (stamped.Join m) f = f

behind_fits : (s : Shape) (m x : StampedMessage) → FitsStamped s x → FitsStamped s (behind m x)
behind_fits s (stamped.Open m) x f = opening_fits s x f
behind_fits s (stamped.Join m) x f = opening_fits s x f
behind_fits s (stamped.ViewChange m) x f = change_fits s x f
behind_fits s (stamped.Prepare m) x f = f
behind_fits s (stamped.Commit m) x f = f
behind_fits s (stamped.Checkpoint m) x f = f
behind_fits s (stamped.NewView m) x f = f
behind_fits s (stamped.Enter m) x f = f

pub all_fit_behind : (s : Shape) (m : StampedMessage) (xs : List StampedMessage) → AllByRecursion (FitsStamped s) xs → FitsStamped s m → AllByRecursion (FitsStamped s) (map (behind m) xs ++ m ∷ [])
all_fit_behind s m [] f g = (g, tt)
all_fit_behind s m (x ∷ xs) f g = (behind_fits s m x f.0, all_fit_behind s m xs f.1 g)

pub all_fit_dropped : (s : Shape) (n : ℕ) (xs : List StampedMessage) → AllByRecursion (FitsStamped s) xs → AllByRecursion (FitsStamped s) (drop n xs)
all_fit_dropped s zero xs f = f
all_fit_dropped s (suc n) [] f = f
all_fit_dropped s (suc n) (x ∷ xs) f = all_fit_dropped s n xs f.1

-- A message that takes no bodies leaves what stands before it.
pub none_taken : (m : StampedMessage) (xs : List StampedMessage) → takes_bodies m ≡ false → map (behind m) xs ≡ xs
none_taken m [] e = refl
none_taken m (x ∷ xs) e = ap (λ y. y ∷ map (behind m) xs) (same m x e) ∙ ap (λ ys. x ∷ ys) (none_taken m xs e) where
  same : (m x : StampedMessage) → takes_bodies m ≡ false → behind m x ≡ x
  same (stamped.Open m) x e = absurd cc
  same (stamped.Join m) x e = absurd cc
  same (stamped.ViewChange m) x e = absurd cc
  same (stamped.Prepare m) x e = refl
  same (stamped.Commit m) x e = refl
  same (stamped.Checkpoint m) x e = refl
  same (stamped.NewView m) x e = refl
  same (stamped.Enter m) x e = refl

-- ---- counts

-- a test that asks for the kind alone
pub count_behind : (p : StampedMessage → Bool) (m : StampedMessage) → ((x : StampedMessage) → p (behind m x) ≡ p x) → (xs : List StampedMessage) → count_by p (map (behind m) xs) ≡ count_by p xs
count_behind p m same [] = refl
count_behind p m same (x ∷ xs) =
    sum_by-cons (λ y. cond (p y) 1 0) (behind m x) (map (behind m) xs)
    ∙ (ap (λ b. cond b 1 0 + count_by p (map (behind m) xs)) (same x) ∙ ap (λ n. cond (p x) 1 0 + n) (count_behind p m same xs))
    ∙ sym (sum_by-cons (λ y. cond (p y) 1 0) x xs)

-- one message more
pub count_more : (p : StampedMessage → Bool) (m : StampedMessage) → ((x : StampedMessage) → p (behind m x) ≡ p x) → (xs : List StampedMessage) → count_by p (map (behind m) xs ++ m ∷ []) ≡ count_by p xs + cond (p m) 1 0
count_more p m same xs = sum_by_push (λ y. cond (p y) 1 0) (map (behind m) xs) m ∙ ap (λ n. n + cond (p m) 1 0) (count_behind p m same xs)

pub normal_more : (m : StampedMessage) (xs : List StampedMessage) → count_by is_normal (map (behind m) xs ++ m ∷ []) ≡ count_by is_normal xs + cond (is_normal m) 1 0
normal_more m xs = count_more is_normal m (normal_behind m) xs

pub others_more : (m : StampedMessage) (xs : List StampedMessage) → count_by (λ y. not (is_normal y)) (map (behind m) xs ++ m ∷ []) ≡ count_by (λ y. not (is_normal y)) xs + cond (not (is_normal m)) 1 0
others_more m xs = count_more (λ y. not (is_normal y)) m (λ x. ap not (normal_behind m x)) xs

-- both sorts are all
one_sort : (b : Bool) → cond b 1 0 + cond (not b) 1 0 ≡ 1
one_sort true = refl
one_sort false = refl

pub both_sorts : (xs : List StampedMessage) → count_by is_normal xs + count_by (λ y. not (is_normal y)) xs ≡ length xs
both_sorts [] = refl
both_sorts (x ∷ xs) =
    let a = sum_by-cons (λ y. cond (is_normal y) 1 0) x xs in
    let b = sum_by-cons (λ y. cond (not (is_normal y)) 1 0) x xs in
    let one = one_sort (is_normal x) in
    let rest = both_sorts xs in
    omega (arith, a, b, one, rest)

-- some at the front, and the rest
pub count_split : (p : StampedMessage → Bool) (n : ℕ) (xs : List StampedMessage) → count_by p (take n xs) + count_by p (drop n xs) ≡ count_by p xs
count_split p n xs = sum_by-take-drop (λ y. cond (p y) 1 0) xs n

next_counted : (p : StampedMessage → Bool) (n : ℕ) (xs : List StampedMessage) → count_by p (take (suc n) xs) ≡ count_by p (take n xs) + count_by p (take 1 (drop n xs))
next_counted p zero xs = (let e : count_by p (take 1 xs) ≡ 0 + count_by p (take 1 xs) = omega arith in e)
next_counted p (suc n) [] = refl
next_counted p (suc n) (x ∷ xs) =
    let a = sum_by-cons (λ y. cond (p y) 1 0) x (take (suc n) xs) in
    let b = sum_by-cons (λ y. cond (p y) 1 0) x (take n xs) in
    let rest = next_counted p n xs in
    omega (arith, a, b, rest)

pub count_next : (p : StampedMessage → Bool) (n : ℕ) (xs : List StampedMessage) → count_by p (take (n + 1) xs) ≡ count_by p (take n xs) + count_by p (take 1 (drop n xs))
count_next p n xs = let e : n + 1 ≡ suc n = add-one n in rw (e) (next_counted p n xs)

pub first_counted : (xs : List StampedMessage) (x : StampedMessage) → Some x ≡ slice_get xs 0 → count_by is_normal (take 1 xs) ≡ cond (is_normal x) 1 0
first_counted [] x e = absurd cc
first_counted (y ∷ ys) x e =
    let same : y ≡ x = cc in
    sum_by-cons (λ m. cond (is_normal m) 1 0) y [] ∙ ap (λ m. cond (is_normal m) 1 0 + 0) same ∙ (let n : cond (is_normal x) 1 0 + 0 ≡ cond (is_normal x) 1 0 = omega arith in n)

pub none_counted : (xs : List StampedMessage) → None ≡ slice_get xs 0 → count_by is_normal (take 1 xs) ≡ 0
none_counted [] e = refl
none_counted (y ∷ ys) e = absurd cc

pub count_few : (p : StampedMessage → Bool) (n : ℕ) (xs : List StampedMessage) → count_by p (take n xs) ≤ length xs
count_few p zero xs = omega arith
count_few p (suc n) [] = omega arith
count_few p (suc n) (x ∷ xs) =
    let a = sum_by-cons (λ y. cond (p y) 1 0) x (take n xs) in
    let one = at_most (p x) in
    let rest = count_few p n xs in
    omega (arith, a, one, rest)
  where
    at_most : (b : Bool) → cond b 1 0 ≤ 1
    at_most true = omega arith
    at_most false = omega arith

-- ---- room

-- There is a place in the ring where there is room.
pub has_place : (s : Shape) (m : StampedMessage) (xs : List StampedMessage) → count_by is_normal xs ≤ normal_limit s → count_by (λ y. not (is_normal y)) xs ≤ other_limit
    → cond (is_normal_kind (stamped_kind m)) (nat_lt (count_by is_normal xs) (normal_limit s)) (nat_lt (count_by (λ y. not (is_normal y)) xs) other_limit) ≡ true
    → (length xs < normal_limit s + other_limit) × ((count_by is_normal xs + cond (is_normal m) 1 0 ≤ normal_limit s) × (count_by (λ y. not (is_normal y)) xs + cond (not (is_normal m)) 1 0 ≤ other_limit))
has_place s m xs within others room = by_sort (is_normal m) (rw (kind_is_normal m) at room) where
  by_sort : (b : Bool) → cond b (nat_lt (count_by is_normal xs) (normal_limit s)) (nat_lt (count_by (λ y. not (is_normal y)) xs) other_limit) ≡ true
      → (length xs < normal_limit s + other_limit) × ((count_by is_normal xs + cond b 1 0 ≤ normal_limit s) × (count_by (λ y. not (is_normal y)) xs + cond (not b) 1 0 ≤ other_limit))
  by_sort true e =
      let lt = ltb-true (count_by is_normal xs) (normal_limit s) e in
      let both = both_sorts xs in
      (omega (arith, lt, both, others), (omega (arith, lt), omega (arith, others)))
  by_sort false e =
      let lt = ltb-true (count_by (λ y. not (is_normal y)) xs) other_limit e in
      let both = both_sorts xs in
      (omega (arith, lt, both, within), (omega (arith, within), omega (arith, lt)))

dropped_next : (n : ℕ) (xs : List StampedMessage) → drop 1 (drop n xs) ≡ drop (suc n) xs
dropped_next zero xs = refl
dropped_next (suc n) [] = refl
dropped_next (suc n) (x ∷ xs) = dropped_next n xs

pub drop_next : (n : ℕ) (xs : List StampedMessage) → drop 1 (drop n xs) ≡ drop (n + 1) xs
drop_next n xs = let e : n + 1 ≡ suc n = add-one n in rw (e) (dropped_next n xs)

-- ---- one entry more

one_shown : {A B : Type 0} (f : A → B) (xs : List A) (i : ℕ) (x : A) → slice_get xs i ≡ Some x → map f (take (suc i) xs) ≡ map f (take i xs) ++ f x ∷ []
one_shown f [] i x e = absurd cc
one_shown f (y ∷ ys) zero x e = let same : y ≡ x = cc in ap (λ z. f z ∷ []) same
one_shown f (y ∷ ys) (suc i) x e = ap (λ l. f y ∷ l) (one_shown f ys i x e)

pub shown_more : {A B : Type 0} (f : A → B) (xs : List A) (i : ℕ) (x : A) → slice_get xs i ≡ Some x → map f (take (i + 1) xs) ≡ map f (take i xs) ++ f x ∷ []
shown_more f xs i x e = let n : i + 1 ≡ suc i = add-one i in rw (n) (one_shown f xs i x e)

module _ (f : StampedMessage → StampedMessage) where
  set_mapped : (xs : List StampedMessage) (i : ℕ) (x : StampedMessage) → slice_get xs i ≡ Some x → set (map f (take i xs) ++ drop i xs) i (f x) ≡ map f (take (suc i) xs) ++ drop (suc i) xs
  set_mapped [] i x e = absurd cc
  set_mapped (y ∷ ys) zero x e = let same : y ≡ x = cc in ap (λ z. f z ∷ ys) (sym same)
  set_mapped (y ∷ ys) (suc i) x e = ap (λ l. f y ∷ l) (set_mapped ys i x e)

  same_there : (xs : List StampedMessage) (i : ℕ) → slice_get (map f (take i xs) ++ drop i xs) i ≡ slice_get xs i
  same_there [] zero = refl
  same_there [] (suc i) = refl
  same_there (y ∷ ys) zero = refl
  same_there (y ∷ ys) (suc i) = same_there ys i

  found : (xs : List StampedMessage) (i : ℕ) → i < length xs → (x : StampedMessage) × (slice_get xs i ≡ Some x)
  found [] i lt = absurd (omega (arith, lt))
  found (y ∷ ys) zero lt = (y, refl)
  found (y ∷ ys) (suc i) lt = found ys i (omega (arith, lt))

  -- one entry more is changed
  pub map_step : (xs ys zs : List StampedMessage) (i : ℕ) → i < length xs → ys ≡ map f (take i xs) ++ drop i xs
      → ((x : StampedMessage) → slice_get ys i ≡ Some x → zs ≡ set ys i (f x)) → zs ≡ map f (take (i + 1) xs) ++ drop (i + 1) xs
  map_step xs ys zs i lt is step =
      let there = found xs i lt in
      let n : i + 1 ≡ suc i = add-one i in
      rw (n) (
      step there.0 (ap (λ l. slice_get l i) is ∙ (same_there xs i ∙ there.1))
      ∙ (ap (λ l. set l i (f there.0)) is ∙ set_mapped xs i there.0 there.1))
