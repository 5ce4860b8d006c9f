-- The host or client to which an event comes is there.
use Rattle.std.proofs.Common.{◌≡◌, ℕ, ◌<◌, Some, subst}
use Rattle.std.proofs.lemmas.Option.{same_Some}
use Rattle.mb_base.specs.Shapes.{host_count, client_count}
use Rattle.mb_base.specs.declared.shape.Shape.{Shape}
use Rattle.mb_schedule.specs.declared.schedule.Name.{Name}
use Rattle.mb_schedule.specs.declared.schedule.Name.TheVariants as name
use Rattle.mb_schedule.specs.declared.schedule.WorldEvent.{WorldEvent}
use Rattle.mb_schedule.specs.declared.schedule.WorldEvent.TheVariants.{Ask, Give, Take, Raw, Patience, Nudge}
use Rattle.mb_schedule.specs.Limits.{NameFits, EventFits}
use Rattle.mb_story.specs.Arrivals.{host_named, client_named, host_of, client_of}

module _ (s : Shape) where
  host_fits_named : (who : Name) (h : ℕ) → NameFits s who → host_named who ≡ Some h → h < host_count s
  host_fits_named (name.Host g) h fits is = subst (λ (i : ℕ). i < host_count s) (same_Some g h is) fits
  host_fits_named (name.Client c) h fits is = absurd cc

  client_fits_named : (who : Name) (c : ℕ) → NameFits s who → client_named who ≡ Some c → c < client_count s
  client_fits_named (name.Host g) c fits is = absurd cc
  client_fits_named (name.Client b) c fits is = subst (λ (i : ℕ). i < client_count s) (same_Some b c is) fits

  pub host_fits : (e : WorldEvent) (h : ℕ) → EventFits s e → host_of e ≡ Some h → h < host_count s
  host_fits (Give m g) h fits is = subst (λ (i : ℕ). i < host_count s) (same_Some g h is) fits
  host_fits (Raw who bytes) h fits is = host_fits_named who h fits is
  host_fits (Patience g) h fits is = subst (λ (i : ℕ). i < host_count s) (same_Some g h is) fits
  host_fits (Nudge g) h fits is = subst (λ (i : ℕ). i < host_count s) (same_Some g h is) fits
  host_fits e h fits is = absurd cc

  pub client_fits : (e : WorldEvent) (c : ℕ) → EventFits s e → client_of e ≡ Some c → c < client_count s
  client_fits (Ask b op) c fits is = subst (λ (i : ℕ). i < client_count s) (same_Some b c is) fits.0
  client_fits (Take m b) c fits is = subst (λ (i : ℕ). i < client_count s) (same_Some b c is) fits
  client_fits (Raw who bytes) c fits is = client_fits_named who c fits is
  client_fits e c fits is = absurd cc
