-- What a call that reads a part gives, in terms of the part's bytes.
use Rattle.std.proofs.Common.{◌≡◌, ℕ, ◌+◌, length, Result, Ok, Err, sym, ap, subst, ◌∙◌}
use Rattle.mb_base.specs.Shapes.{Bytes}
use Rattle.mb_base.specs.declared.fields.Fields.{Fields}
use Rattle.mb_base.specs.Fields.{place_of}
use Rattle.mb_base.specs.Reading.{Cursor, cursor, Reads}
use Rattle.mb_base.proofs.Laws.{IsBytes, IsField, ok_is}
use Rattle.mb_parts.specs.declared.fault.Undecoded.{Undecoded}
use Rattle.mb_parts.specs.declared.fault.Undecoded.TheVariants.{Malformed, NoMemory}
use Rattle.mb_parts.specs.Decoded.{Decodes, Spelled, Finds, ReadsAgain}

module _ {X : Type 0} (f : Cursor → Reads X) (text : X → Bytes) (P : X → Type 0) (hf : IsField f text P) where
  pub is_spelled : (r : Result X Undecoded) (old new : Fields) → IsBytes (place_of old).rest → Decodes r new (f (place_of old)) → Spelled text P r old new
  is_spelled (Ok x) old new fits given = let p = hf.takes (place_of old) x (place_of new) fits given in (p.1, p.0.parts)
  is_spelled (Err e) old new fits given = tt

  abbrev done : X × Cursor → Reads X
  done p = Ok p

  finds : (r : Result X Undecoded) (new : Fields) (x : X) (at : ℕ) (rest : Bytes) → Decodes r new (done (x, cursor at rest)) → Finds x rest r new
  finds (Ok y) new x at rest given =
      let here : X × Cursor = (x, cursor at rest) in
      let there : X × Cursor = (y, place_of new) in
      let same : there ≡ here = sym (ok_is here there given) in
      (ap (λ (p : X × Cursor). p.0) same, ap (λ (p : X × Cursor). p.1.rest) same)
  finds (Err NoMemory) new x at rest given = tt
  finds (Err (Malformed e)) new x at rest given = absurd cc

  pub reads_again : (r : Result X Undecoded) (old new : Fields) → Decodes r new (f (place_of old)) → ReadsAgain text P r old new
  reads_again r old new given x rest fits e =
      let at = (place_of old).at in
      let here : f (place_of old) ≡ Ok (x, cursor (at + length (text x)) rest) = ap (λ (u : Bytes). f (cursor at u)) e ∙ hf.again x at rest fits in
      finds r new x (at + length (text x)) rest (subst (Decodes r new) here given)
