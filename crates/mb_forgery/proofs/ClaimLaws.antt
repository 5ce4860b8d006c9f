-- When one certificate is forged, and that what is found in a message fits.
use Rattle.std.proofs.Common.{◌≡◌, Bool, true, false, ◌&&◌, not, cond, [], ◌∷◌, Option, Some, None, option_map, refl, ap, subst, ◌∙◌}
use Rattle.mb_base.specs.declared.names.Ui.{Ui}
use Rattle.mb_base.specs.Shapes.{Bytes}
use Rattle.mb_usig.specs.Tags.{is_certified}
use Rattle.mb_parts.specs.Bares.{Bare, bare_bytes}
use Rattle.mb_parts.specs.Claims.{Claim}
use Rattle.mb_model.specs.Verified.{verifies}
use Rattle.mb_schedule.specs.declared.schedule.Schedule.{Schedule}
use Rattle.mb_world_model.specs.World.{World}
use Rattle.mb_world_model.specs.WorldRecord.{issued}
use Rattle.mb_model.specs.Inside.{sender_claim}
use Rattle.mb_forgery.specs.declared.checker.ForgedClaim.{ForgedClaim}
use Rattle.mb_forgery.specs.Checks.{told, first_forged}

module _ (s : Schedule) (w : World) (c : Claim) where
  -- what is told where it verifies so, and is issued so
  abbrev told_of : Bool → Bool → Option ForgedClaim
  told_of v i = option_map told (cond (v && not i) (Some c) None)

  is_told : told_of (verifies s.secret c) (issued s w c) ≡ first_forged s w (c ∷ [])
  is_told = refl

  never : (v : Bool) → None ≡ told_of v true
  never true = refl
  never false = refl

  pub issued_clean : true ≡ issued s w c → None ≡ first_forged s w (c ∷ [])
  issued_clean e = subst (λ i. None ≡ told_of (verifies s.secret c) i) e (never (verifies s.secret c))

  pub unverified_clean : false ≡ verifies s.secret c → None ≡ first_forged s w (c ∷ [])
  unverified_clean e = subst (λ v. None ≡ told_of v (issued s w c)) e refl

  pub verified_forged : false ≡ issued s w c → true ≡ verifies s.secret c → Some (told c) ≡ first_forged s w (c ∷ [])
  verified_forged i v = subst (λ x. Some (told c) ≡ told_of x (issued s w c)) v (subst (λ x. Some (told c) ≡ told_of true x) i refl)

module _ (s : Schedule) where
  -- as the code asks of it
  pub verified_by : (u : Ui) (says : Bare) (secret bare : Bytes) (r : Bool) → r ≡ is_certified secret u.host u.counter bare u.cert → secret ≡ s.secret → bare ≡ bare_bytes says → r ≡ verifies s.secret (sender_claim u says)
  verified_by u says secret bare r is same text = is ∙ ap (λ t. is_certified t u.host u.counter bare u.cert) same ∙ ap (λ t. is_certified s.secret u.host u.counter t u.cert) text
