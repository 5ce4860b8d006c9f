-- Bodies in two forms: what is read is spelled so and fits, and what fits and is spelled so is read.
use Rattle.std.proofs.Common.{◌≡◌, ℕ, ◌^◌, ◌<◌, eqb, length, refl, arith, lit<, lit≤}
use Rattle.std.proofs.lemmas.Bool.{eqb-true, eqb-false}
use Rattle.std.specs.Int.{w8}
use Rattle.mb_base.specs.Shapes.{Bytes}
use Rattle.mb_base.specs.Spelling.{number}
use Rattle.mb_base.specs.Reading.{Cursor, Reads}
use Rattle.mb_base.proofs.Laws.{IsField, iff_field, cond_field, made_field, below_field, ranged_field, wide8}
use Rattle.mb_parts.proofs.Fields.{digest_field}
use Rattle.mb_msg.specs.declared.message.Body.{Body}
use Rattle.mb_msg.specs.declared.message.Body.TheVariants.{Whole, Bare as Short}
use Rattle.mb_msg.specs.Bodies.{form_of, body_bytes, FitsBody, form_at, bare_form_at, body_at}

pub form_field : IsField form_at (number w8) (λ n. n < 2)
form_field = below_field w8 (2 ^ 8) 2 (lit≤ tt) (lit≤ tt) wide8

pub bare_form_field : IsField bare_form_at (number w8) (λ n. n ≡ 0)
bare_form_field = iff_field _ _ _ _ (λ n f. omega (arith, f.1)) (λ n f. (omega arith, omega (arith, f))) (ranged_field w8 (2 ^ 8) 0 0 (lit< tt) wide8)

-- a body that fits and has this form
abbrev pub FormFits : {B : Type 0} → (B → Type 0) → ℕ → Body B → Type 0
FormFits P form b = (form_of b ≡ form) × FitsBody P b

short_of : {B : Type 0} (P : B → Type 0) (form : ℕ) (b : Body B) → form ≡ 0 → FormFits P form b → (d : Bytes) × (Short d ≡ b) × (length d ≡ 32)
short_of P form (Whole b) e h = absurd (omega (arith, e, h.0))
short_of P form (Short d) e h = (d, refl, h.1)

whole_of : {B : Type 0} (P : B → Type 0) (form : ℕ) (b : Body B) → form ≡ 1 → FormFits P form b → (x : B) × (Whole x ≡ b) × P x
whole_of P form (Whole b) e h = (b, refl, h.1)
whole_of P form (Short d) e h = absurd (omega (arith, e, h.0))

pub body_field : {B : Type 0} (f : Cursor → Reads B) (tf : B → Bytes) (P : B → Type 0) → IsField f tf P → (form : ℕ) → form < 2 → IsField (body_at f form) (body_bytes tf) (FormFits P form)
unfolding body_at
body_field {B} f tf P hf form lt = cond_field (eqb form 0) _ _ (body_bytes tf) (FormFits P form)
    (λ e. let z : form ≡ 0 = eqb-true form 0 e in
    made_field Short _ _ _ (body_bytes tf) (FormFits P form) (λ x h. refl) (λ x h. (omega (arith, z), h)) (λ b h. short_of P form b z h) digest_field)
    (λ e. let ne = eqb-false form 0 e in
    let one : form ≡ 1 = omega (arith, ne, lt) in
    made_field Whole f tf P (body_bytes tf) (FormFits P form) (λ x h. refl) (λ x h. (omega (arith, one), h)) (λ b h. whole_of P form b one h) hf)

pub form_below : {B : Type 0} (b : Body B) → form_of b < 2
form_below (Whole b) = lit< tt
form_below (Short d) = lit< tt
