-- The first draw and the later ones, as the code tells them apart; the bytes of an operation; and a host that passes over its next message.
use Rattle.std.proofs.Common.{◌≡◌, ℕ, ◌+◌, ◌<◌, ◌≤◌, ◌%◌, ◌/◌, ◌^◌, Bool, true, false, List, ◌∷◌, refl, sym, ap, subst, ◌∙◌, eqb, arith, inl, inr, Result, Ok, Err}
use Rattle.std.specs.Prelude.{nat_lt, nat_le, IfOk, slice_index_or, slice_set}
use Rattle.std.specs.Int.{w8, w16, to_be_bytes}
use Rattle.std.proofs.lemmas.Bool.{ne_eqb, eq-eqb, ltb-true, cases_lt, lt-ltb, le-leb, lt-leb}
use Rattle.std.proofs.Math.Nat.{mod-eq_of_lt}
use Rattle.mb_base.specs.Shapes.{Bytes}
use Rattle.mb_base.specs.Spelling.{number}
use Rattle.mb_schedule.specs.declared.schedule.WorldEvent.{WorldEvent}
use Rattle.mb_schedule.specs.declared.schedule.WorldEvent.TheVariants.{Ask}
use Rattle.mb_make.specs.declared.maker.Maker.{Maker}
use Rattle.mb_make.specs.Draws.{Generator, Represents, HasDrawn, drawn, stepped, choice, detail, ask, put, cursor, passed, skips, chosen, draw}

pub if_ok : {A E : Type 0} (P Q : A → Type 0) → ((x : A) → P x → Q x) → (r : Result A E) → IfOk r P → IfOk r Q
if_ok P Q f (Ok x) p = f x p
if_ok P Q f (Err e) p = tt

none_below : (n : ℕ) → nat_lt 0 n ≡ false → n ≡ 0
none_below n none = elim (cases_lt 0 n) [
  | inl lt ↦ absurd (both (nat_lt 0 n) none (lt-ltb 0 n lt))
  | inr le ↦ omega (arith, le)
] where
  both : (b : Bool) → b ≡ false → b ≡ true → ⊥
  both true e f = absurd cc
  both false e f = absurd cc

pub first_drawn : (pool : ℕ) (g : Generator) → nat_lt 0 g.draws ≡ false → draw pool g ≡ drawn (ask (stepped g)) (stepped g)
unfolding draw
first_drawn pool g none =
    let one : eqb (g.draws + 1) 1 ≡ true = eq-eqb (g.draws + 1) 1 (omega (arith, none_below g.draws none)) in
    rw one refl

pub later_drawn : (pool : ℕ) (g : Generator) → nat_lt 0 g.draws ≡ true → draw pool g ≡ chosen pool (stepped g) (choice (stepped g)) (detail (stepped g))
unfolding draw
later_drawn pool g some =
    let above = ltb-true 0 g.draws some in
    let other : eqb (g.draws + 1) 1 ≡ false = ne_eqb (g.draws + 1) 1 (λ e. omega (arith, above, e)) in
    rw other refl

-- ---- what a client asks

put_is : (key value : ℕ) → key < 256 → put (number w8 key) (number w16 value) ≡ 1 ∷ 1 ∷ key ∷ 0 ∷ 2 ∷ to_be_bytes w16 value
unfolding number
put_is key value lt = ap (λ (k : ℕ). 1 ∷ 1 ∷ k ∷ 0 ∷ 2 ∷ to_be_bytes w16 value) (mod-eq_of_lt lt)

pub asked : (g : Generator) (m : Maker) (d : ℕ) (op : Bytes) → Represents m g → d ≡ m.x / 2 ^ 33 / 64 → op ≡ 1 ∷ 1 ∷ d % 256 ∷ 0 ∷ 2 ∷ to_be_bytes w16 m.number → Ask (d % 4) op ≡ ask g
asked g m d op r is bytes =
    let same : d ≡ detail g = is ∙ ap (λ (x : ℕ). x / 2 ^ 33 / 64) r.x in
    let spelled : op ≡ put (number w8 (d % 256)) (number w16 m.number) = bytes ∙ sym (put_is (d % 256) m.number (omega arith)) in
    ap (λ (y : Bytes). Ask (d % 4) y) spelled
    ∙ ap (λ (k : ℕ). Ask (k % 4) (put (number w8 (k % 256)) (number w16 m.number))) same
    ∙ ap (λ (v : ℕ). Ask (detail g % 4) (put (number w8 (detail g % 256)) (number w16 v))) r.number

-- ---- a host passes over its next message

module _ (pool : ℕ) (m n : Maker) (d : ℕ) (is : d ≡ m.x / 2 ^ 33 / 64) where
  abbrev Skips : WorldEvent → Type 0
  Skips e = HasDrawn (λ g. skips pool g (detail g % 2)) m n e

  abbrev Asks : WorldEvent → Type 0
  Asks e = HasDrawn (λ g. drawn (ask g) g) n n e

  host_is : (g : Generator) → Represents m g → d % 2 ≡ detail g % 2
  host_is g r = ap (λ (k : ℕ). k % 2) (is ∙ ap (λ (x : ℕ). x / 2 ^ 33 / 64) r.x)

  cursor_is : (g : Generator) → Represents m g → slice_index_or m.cursors (d % 2) 0 ≡ cursor g (detail g % 2)
  cursor_is g r = ap (λ (l : List ℕ). slice_index_or l (d % 2) 0) r.cursors ∙ ap (λ (i : ℕ). slice_index_or g.cursors i 0) (host_is g r)

  pub passes : slice_index_or m.cursors (d % 2) 0 ≤ pool → n ≡ record m { cursors = slice_set m.cursors (d % 2) (slice_index_or m.cursors (d % 2) 0 + 1) } → (e : WorldEvent) → Asks e → Skips e
  passes le moved e a = λ g r.
      let i : ℕ = detail g % 2 in
      let there : nat_le (cursor g i) pool ≡ true = le-leb (cursor g i) pool (omega (arith, le, cursor_is g r)) in
      let q = a (passed g i) (record {
        x = ap (λ (y : Maker). y.x) moved ∙ r.x;
        number = ap (λ (y : Maker). y.number) moved ∙ r.number;
        started = ap (λ (y : Maker). y.started) moved ∙ r.started;
        cursors = ap (λ (y : Maker). y.cursors) moved ∙ ap (λ (l : List ℕ). slice_set l (d % 2) (slice_index_or l (d % 2) 0 + 1)) r.cursors
            ∙ ap (λ (k : ℕ). slice_set g.cursors k (slice_index_or g.cursors k 0 + 1)) (host_is g r);
      }) in
      rw there (q.0, q.1)

  pub stays : pool < slice_index_or m.cursors (d % 2) 0 → n ≡ m → (e : WorldEvent) → Asks e → Skips e
  stays lt same e a = λ g r.
      let i : ℕ = detail g % 2 in
      let none : nat_le (cursor g i) pool ≡ false = lt-leb (cursor g i) pool (omega (arith, lt, cursor_is g r)) in
      let q = a g (subst (λ (y : Maker). Represents y g) (sym same) r) in
      rw none (q.0, q.1)
