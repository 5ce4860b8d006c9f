-- The forms in which a log keeps messages: what a message keeps where its body goes, all kept forms have (`forms_keep`), and so the values of the grammar.
use Rattle.std.proofs.Common.{ℕ, zero, suc, ◌+◌, ◌-◌, List, [], ◌∷◌, length, inl, inr}
use Rattle.std.specs.Prelude.{map, nat_le}
use Rattle.std.proofs.lemmas.Bool.{cases_Bool}
use Rattle.std.specs.List.{AllByRecursion}
use Rattle.mb_base.specs.Limits.{entry_bytes_limit, entry_limit}
use Rattle.mb_base.specs.declared.shape.Shape.{Shape}
use Rattle.mb_parts.specs.Spelling.{batch_bytes}
use Rattle.mb_msg.specs.declared.stamped.Stamped.{Stamped as StampedMessage}
use Rattle.mb_msg.specs.declared.stamped.Stamped.TheVariants as stamped
use Rattle.mb_msg.specs.Fits.{FitsShown, FitsStamped}
use Rattle.mb_msg.specs.Spelling.{floors_body_bytes, change_body_bytes, new_view_body_bytes, open_body_bytes, stamped_bytes}
use Rattle.mb_msg.proofs.Injective.{digest_fits}
use Rattle.mb_model.specs.OwnLog.{behind, behind_opening, behind_change, kept_forms, as_shown, packed, first_packed}

module _ (E : StampedMessage → Type 0) (opening : (x : StampedMessage) → E x → E (behind_opening x)) (change : (x : StampedMessage) → E x → E (behind_change x)) where
  pub behind_keeps : (m x : StampedMessage) → E x → E (behind m x)
  behind_keeps (stamped.Open m) x e = opening x e
  behind_keeps (stamped.Join m) x e = opening x e
  behind_keeps (stamped.ViewChange m) x e = change x e
  behind_keeps m x e = e

  pub mapped_keep : (m : StampedMessage) (l : List StampedMessage) → AllByRecursion E l → AllByRecursion E (map (behind m) l)
  mapped_keep m [] a = tt
  mapped_keep m (x ∷ l) a = (behind_keeps m x a.0, mapped_keep m l a.1)

  pub forms_keep : (l : List StampedMessage) → AllByRecursion E l → AllByRecursion E (kept_forms l)
  unfolding kept_forms
  forms_keep [] a = tt
  forms_keep (m ∷ l) a = (a.0, mapped_keep m (kept_forms l) (forms_keep l a.1))

-- ---- as many as go into a LOG

module _ (E : StampedMessage → Type 0) where
  packed_keep : (most used : ℕ) (l : List StampedMessage) → AllByRecursion E l → AllByRecursion E (packed most used l)
  unfolding packed
  packed_keep zero used l a = tt
  packed_keep (suc most) used [] a = tt
  packed_keep (suc most) used (m ∷ l) a = elim (cases_Bool (nat_le (used + length (stamped_bytes m)) entry_bytes_limit)) [
    | inl place ↦ rw place (a.0, packed_keep most (used + length (stamped_bytes m)) l a.1)
    | inr none ↦ rw none tt
  ]

  pub first_keep : (l : List StampedMessage) → AllByRecursion E l → AllByRecursion E (first_packed l)
  first_keep [] a = tt
  first_keep (m ∷ l) a = (a.0, packed_keep (entry_limit - 1) (length (stamped_bytes m)) l a.1)

-- ---- values of the grammar

module _ (s : Shape) where
  pub opening_fits : (x : StampedMessage) → FitsStamped s x → FitsStamped s (behind_opening x)
  opening_fits (stamped.Prepare m) f = record { view = f.view; pos = f.pos; body = digest_fits _ batch_bytes m.body f.body; ui = f.ui }
  opening_fits (stamped.Commit m) f = record { view = f.view; pos = f.pos; counter = f.counter; cert = f.cert; body = digest_fits _ batch_bytes m.body f.body; ui = f.ui }
  opening_fits (stamped.Open m) f = record { evidence = f.evidence; body = digest_fits _ open_body_bytes m.body f.body; ui = f.ui }
  opening_fits x f = f

  pub change_fits : (x : StampedMessage) → FitsStamped s x → FitsStamped s (behind_change x)
  change_fits (stamped.ViewChange m) f = record { view = f.view; body = digest_fits _ change_body_bytes m.body f.body; ui = f.ui }
  change_fits (stamped.NewView m) f = record { view = f.view; base = f.base; end = f.end; plan = f.plan; body = digest_fits _ new_view_body_bytes m.body f.body; ui = f.ui }
  change_fits x f = f

  pub shown_fits : (m : StampedMessage) → FitsStamped s m → FitsShown s (as_shown m)
  shown_fits (stamped.Checkpoint m) f = record { pos = f.pos; state = f.state; body = digest_fits _ floors_body_bytes m.body f.body; ui = f.ui }
  shown_fits (stamped.ViewChange m) f = record { view = f.view; body = digest_fits _ change_body_bytes m.body f.body; ui = f.ui }
  shown_fits (stamped.NewView m) f = record { view = f.view; base = f.base; end = f.end; plan = f.plan; body = digest_fits _ new_view_body_bytes m.body f.body; ui = f.ui }
  shown_fits m f = f
