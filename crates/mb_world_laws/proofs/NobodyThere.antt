-- There are no hosts but those of the shape: nothing happens at another, since each event speaks of a host that is there, and none is faulty.
use Rattle.std.proofs.Common.{◌≡◌, ℕ, ◌≤◌, ◌<◌, false, [], refl, ap, arith}
use Rattle.std.specs.Prelude.{map, unwrap_or}
use Rattle.std.proofs.lemmas.Option.{slice_get_past}
use Rattle.mb_base.specs.Shapes.{host_count}
use Rattle.mb_parts.specs.Bares.{bare_bytes}
use Rattle.mb_model.specs.Histories.{History, said, stamped}
use Rattle.mb_schedule.specs.declared.schedule.Name.TheVariants as name
use Rattle.mb_schedule.specs.declared.schedule.WorldEvent.{WorldEvent}
use Rattle.mb_schedule.specs.declared.schedule.WorldEvent.TheVariants.{Give, Raw, Patience, Nudge}
use Rattle.mb_schedule.specs.Limits.{EventFits, IsSchedule, is_faulty}
use Rattle.mb_world_model.specs.World.{System, stamps}
use Rattle.mb_world_model.specs.WorldSteps.{world}
use Rattle.mb_world_laws.proofs.KeptByWorlds.{ComesTo, world_keeps_of}

module _ {S : Type 0} (system : System S) where
  -- Where there is no such host, there is no history.
  abbrev IsQuiet : ℕ → History → Type 0
  IsQuiet h d = host_count system.schedule.shape ≤ h → d ≡ []

  comes : (e : WorldEvent) → EventFits system.schedule.shape e → ComesTo (λ (h : ℕ). h < host_count system.schedule.shape) e
  comes (Give m h) f = f
  comes (Raw (name.Host h) bytes) f = f
  comes (Raw (name.Client c) bytes) f = tt
  comes (Patience h) f = f
  comes (Nudge h) f = f
  comes e f = tt

  world_quiet : IsSchedule system.schedule → (k h : ℕ) → IsQuiet h ((world system k).histories h)
  world_quiet fits = world_keeps_of system IsQuiet (λ (h : ℕ). h < host_count system.schedule.shape) (λ h le. refl) (λ h d e lt q le. absurd (omega (arith, lt, le))) (λ k e is. comes e (fits.events k e is))

  -- No other host stamps anything.
  pub nobody_there : IsSchedule system.schedule → (k h : ℕ) → host_count system.schedule.shape ≤ h → stamps system.schedule (world system k) h ≡ []
  unfolding stamped
  nobody_there fits k h le =
      let correct : is_faulty system.schedule h ≡ false = ap (λ o. unwrap_or o false) (slice_get_past system.schedule.faulty_hosts h (omega (arith, fits.hosts, le))) in
      rw correct (ap (λ (d : History). map bare_bytes (said d)) (world_quiet fits k h le))
