-- Steps of reading that found no bad line.
use Rattle.std.proofs.Common.{◌≡◌, ℕ, Bool, true, false, cond, Option, Some, None, Result, Ok, Err, refl, ap}
use Rattle.std.specs.Prelude.{option_and_then}
use Rattle.mb_base.specs.Shapes.{Bytes}
use Rattle.mb_sched.specs.Lines.{◌>>=◌, numbered, read_line}

abbrev pub okay : {A E : Type 0} → A → Result A E
okay x = Ok x

pub bind_ok : {A B : Type 0} (r : Result A ℕ) (f : A → Result B ℕ) (y : B) → (r >>= f) ≡ Ok y → (x : A) × (r ≡ Ok x) × (f x ≡ Ok y)
bind_ok (Ok x) f y e = (x, refl, e)
bind_ok (Err n) f y e = absurd cc

pub ok_is : {A E : Type 0} (x y : A) → okay {E = E} x ≡ okay y → x ≡ y
ok_is x y e = cc

pub numbered_ok : {A : Type 0} (n : ℕ) (o : Option A) (x : A) → numbered n o ≡ Ok x → o ≡ Some x
numbered_ok n None x e = absurd cc
numbered_ok n (Some y) x e = ap Some (ok_is y x e)

pub line_ok : {A : Type 0} (n : ℕ) (read : Bytes → Option A) (line : Option Bytes) (x : A) → read_line n read line ≡ Ok x → option_and_then read line ≡ Some x
line_ok n read None x e = absurd cc
line_ok n read (Some line) x e = numbered_ok n (read line) x e

pub ok_line : {A : Type 0} (n : ℕ) (read : Bytes → Option A) (line : Option Bytes) (x : A) → option_and_then read line ≡ Some x → read_line n read line ≡ Ok x
ok_line n read None x e = absurd cc
ok_line n read (Some line) x e = rw e refl

pub allowed : {A : Type 0} (b : Bool) (o : Option A) (x : A) → cond b o None ≡ Some x → (b ≡ true) × (o ≡ Some x)
allowed true o x e = (refl, e)
allowed false o x e = absurd cc
