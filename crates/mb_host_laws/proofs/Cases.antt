-- Small facts of Booleans, options, bodies and lists on which many files stand: what a case says (`not_true`, `some_is`, `then_some_of`, `whole_is`),
-- and what holds of all members of a list, of its parts and of lists made of it (`all_left`, `all_taken`, `all_reverse`, `each_in`, `flat_in`).
use Rattle.std.proofs.Common.{◌≡◌, ℕ, zero, suc, ◌<◌, Bool, true, false, not, ◌&&◌, ◌||◌, List, [], ◌∷◌, ◌++◌, length, take, refl, sym, ap, subst, inl, inr, arith, Option, Some, None}
use Rattle.std.specs.Prelude.{slice_get, map, nat_le, if◌then◌else◌, option_and_then, option_map, is_none}
use Rattle.std.specs.Option.{option_or, IfSome}
use Rattle.std.specs.Bool.{then_some}
use Rattle.std.specs.List.{AllByRecursion, list_all, flat_map}
use Rattle.std.proofs.lemmas.Bool.{and_parts, cases_Bool, leb-true}
use Rattle.mb_msg.specs.declared.message.Body.{Body}
use Rattle.mb_msg.specs.declared.message.Body.TheVariants.{Whole, Bare as Short}
use Rattle.mb_model.specs.UsableLogs.{is_whole}
use Rattle.mb_model.specs.Members.{In}
use Rattle.mb_model.proofs.Members.{in_left, in_right}
use Rattle.mb_msg.specs.Bodies.{whole_body}
use Rattle.mb_steps.proofs.StepPlanBases.{all_append}
pub use Rattle.mb_model.proofs.Lists.{all_map, all_reverse}

-- ---- Booleans

pub not_true : (b : Bool) → not b ≡ true → b ≡ false
not_true true e = absurd cc
not_true false e = refl

pub not_false : (b : Bool) → not b ≡ false → b ≡ true
not_false true e = refl
not_false false e = absurd cc

pub not_both : (b : Bool) → b ≡ true → b ≡ false → ⊥
not_both true t e = absurd cc
not_both false t e = absurd cc

pub or_false : (a b : Bool) → (a || b) ≡ false → (a ≡ false) × (b ≡ false)
or_false false b e = (refl, e)
or_false true b e = absurd cc

pub third_holds : (a b c : Bool) → (a && (not b && not c)) ≡ false → a ≡ true → b ≡ false → c ≡ true
third_holds true false true e p q = refl
third_holds true false false e p q = absurd cc
third_holds true true c e p q = absurd cc
third_holds false b c e p q = absurd cc

pub not_le : (n m : ℕ) → m < n → nat_le n m ≡ false
not_le n m lt = elim (cases_Bool (nat_le n m)) [
  | inl le ↦ let le2 = leb-true n m le in absurd (omega (arith, lt, le2))
  | inr no_more ↦ no_more
]

-- ---- options and bodies

pub some_is : {A : Type 0} (x y : A) → Some x ≡ Some y → x ≡ y
some_is x y e = cc

pub some_none : {A : Type 0} (x : A) → Some x ≡ None → ⊥
some_none x e = absurd cc

pub none_some : {A : Type 0} (x : A) → None ≡ Some x → ⊥
none_some x e = absurd cc

-- a property of what an option holds
pub some_has : {A : Type 0} (P : A → Type 0) (o : Option A) (x : A) → o ≡ Some x → IfSome o P → P x
some_has P o x e i = subst (λ y. IfSome y P) e i

pub none_is : {A : Type 0} (o : Option A) → is_none o ≡ true → o ≡ None
none_is None e = refl
none_is (Some x) e = absurd cc

pub some_or : {A : Type 0} (x y : Option A) (z : A) → x ≡ Some z → option_or x y ≡ Some z
some_or x y z e = rw e refl

pub then_some_of : {A B : Type 0} (f : A → Option B) (x : Option A) (z : B) → option_and_then f x ≡ Some z → (y : A) × (x ≡ Some y) × (f y ≡ Some z)
then_some_of f None z e = absurd cc
then_some_of f (Some y) z e = (y, refl, e)

-- a test that fails under `option_and_then` fails at the value
pub untrue : {A B : Type 0} (t : A → Bool) (z : B) (o : Option A) (x : A) → o ≡ Some x → option_and_then (λ y. then_some (t y) z) o ≡ None → t x ≡ false
untrue t z o x is e = go (t x) (subst (λ a. option_and_then (λ y. then_some (t y) z) a ≡ None) is e) where
  go : (b : Bool) → then_some b z ≡ None → b ≡ false
  go true e = absurd cc
  go false e = refl

-- a message that passes as a member has no fault
pub member : {A : Type 0} (t : Bool) (x : Option (A × ℕ)) → (if t then option_map (λ f. f.1) x else Some 10) ≡ None → x ≡ None
member true None e = refl
member true (Some y) e = absurd cc
member false x e = absurd cc

pub same_whole : {B : Type 0} (a b : B) → Whole a ≡ Whole b → a ≡ b
same_whole a b e = cc

pub whole_of : {B : Type 0} (x : Body B) → is_whole x ≡ true → (b : B) × (x ≡ Whole b)
whole_of (Whole b) e = (b, refl)
whole_of (Short d) e = absurd cc

pub whole_is : {B : Type 0} (x : Body B) (b : B) → whole_body x ≡ Some b → x ≡ Whole b
whole_is (Whole y) b e = cc
whole_is (Short d) b e = absurd cc

-- ---- lists

pub all_left : {A : Type 0} (P : A → Type 0) (a b : List A) → AllByRecursion P (a ++ b) → AllByRecursion P a
all_left P [] b all = tt
all_left P (x ∷ a) b all = (all.0, all_left P a b all.1)

pub all_right : {A : Type 0} (P : A → Type 0) (a b : List A) → AllByRecursion P (a ++ b) → AllByRecursion P b
all_right P [] b all = all
all_right P (x ∷ a) b all = all_right P a b all.1

pub all_taken : {A : Type 0} (P : A → Type 0) (n : ℕ) (l : List A) → AllByRecursion P l → AllByRecursion P (take n l)
all_taken P zero l a = tt
all_taken P (suc n) [] a = tt
all_taken P (suc n) (x ∷ l) a = (a.0, all_taken P n l a.1)

pub all_more : {A : Type 0} (P Q : A → Type 0) → ((x : A) → P x → Q x) → (l : List A) → AllByRecursion P l → AllByRecursion Q l
all_more P Q f [] a = tt
all_more P Q f (x ∷ l) a = (f x a.0, all_more P Q f l a.1)

pub each_in : {A : Type 0} (P : A → Type 0) (l : List A) → ((x : A) → In l x → P x) → AllByRecursion P l
each_in P [] f = tt
each_in P (x ∷ l) f = (f x (inl refl), each_in P l (λ y i. f y (inr i)))

pub all_at : {A : Type 0} (P : A → Type 0) (l : List A) → AllByRecursion P l → (x : A) → In l x → P x
all_at P [] a x i = absurd i
all_at P (y ∷ l) a x (inl is) = subst P is a.0
all_at P (y ∷ l) a x (inr i) = all_at P l a.1 x i

pub all_holds : {A : Type 0} (t : A → Bool) (l : List A) → list_all t l ≡ true → (x : A) → In l x → t x ≡ true
all_holds t [] e x i = absurd i
all_holds t (y ∷ l) e x (inl is) = subst (λ z. t z ≡ true) is (and_parts (t y) (list_all t l) e).0
all_holds t (y ∷ l) e x (inr i) = all_holds t l (and_parts (t y) (list_all t l) e).1 x i

pub flat_in : {A B : Type 0} (f : A → List B) (l : List A) (x : A) → In l x → (y : B) → In (f x) y → In (flat_map f l) y
flat_in f [] x i y j = absurd i
flat_in f (z ∷ l) x (inl is) y j = in_left (f z) (flat_map f l) y (subst (λ a. In (f a) y) (sym is) j)
flat_in f (z ∷ l) x (inr i) y j = in_right (f z) (flat_map f l) y (flat_in f l x i y j)

pub slice_bound : {A : Type 0} (l : List A) (i : ℕ) (x : A) → slice_get l i ≡ Some x → i < length l
slice_bound [] i x e = absurd cc
slice_bound (y ∷ l) zero x e = omega arith
slice_bound (y ∷ l) (suc i) x e = let t = slice_bound l i x e in omega (arith, t)

pub all_flat : {A B : Type 0} (P : A → Type 0) (Q : B → Type 0) (f : A → List B) → ((x : A) → P x → AllByRecursion Q (f x)) → (l : List A) → AllByRecursion P l → AllByRecursion Q (flat_map f l)
all_flat P Q f g [] a = tt
all_flat P Q f g (x ∷ l) a = all_append Q (f x) (flat_map f l) (g x a.0) (all_flat P Q f g l a.1)

pub map_append : {A B : Type 0} (g : A → B) (a b : List A) → map g (a ++ b) ≡ map g a ++ map g b
map_append g [] b = refl
map_append {B = B} g (x ∷ a) b = ap (λ (y : List B). g x ∷ y) (map_append g a b)
