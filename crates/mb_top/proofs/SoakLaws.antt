-- A soak in the code's world, one more drawn event at a time.
use Rattle.std.proofs.Common.{◌≡◌, ℕ, zero, suc, ◌+◌, ◌<◌, ◌≤◌, true, false, length, Option, Some, None, Err, add-one, refl, sym, ap, subst, ◌∙◌, arith}
use Rattle.std.specs.List.{slice_get}
use Rattle.mb_base.specs.Limits.{soak_limit}
use Rattle.mb_kv.specs.Pairs.{Pairs}
use Rattle.mb_schedule.specs.declared.schedule.WorldEvent.{WorldEvent}
use Rattle.mb_schedule.specs.Limits.{EventFits}
use Rattle.mb_world_model.specs.World.{World as State}
use Rattle.mb_world_model.specs.Stops.{stop_of}
use Rattle.mb_world_model.specs.Hashed.{HashesApart}
use Rattle.mb_promise.specs.Headline.{Promises}
use Rattle.mb_make.specs.Draws.{Generator, Represents, HasDrawn, draw}
use Rattle.mb_make.specs.declared.maker.Maker.{Maker}
use Rattle.mb_make.specs.Soaks.{generator_after, event_drawn, played, IsSoaked}
use Rattle.mb_unforged.specs.Reached.{IsReached}
use Rattle.mb_unforged.specs.Soaked.{IsSoak}
use Rattle.mb_unforged.proofs.Reached.{reached_at}
use Rattle.mb_unforged.proofs.Soaked.{soaks_are_unstopped}
use Rattle.mb_top.specs.declared.command.Command.{Command}
use Rattle.mb_top.specs.declared.command.Command.TheVariants.{Soak}
use Rattle.mb_top.specs.Systems.{system_of, world}
use Rattle.mb_top.specs.Soaks.{soak_hosts, soak_shape, soak_of}
use Rattle.mb_service.specs.declared.service.Service.{Ghosts}
use Rattle.mb_world.specs.declared.seen.Seen.{Seen}
use Rattle.mb_world.specs.declared.seen.WorldStop.{WorldStop}
use Rattle.mb_world.specs.declared.seen.WorldStop.TheVariants as stop
use Rattle.mb_world.specs.declared.world.World.{World}
use Rattle.mb_world.specs.Answers.{Tells}
use Rattle.mb_world.specs.Tables.{WorldHalts}
use Rattle.mb_top.specs.Runs.{AreUnstopped}
use Rattle.mb_top.proofs.Promised.{hold_throughout}

soaked_hosts : IsSoaked soak_hosts
soaked_hosts = record { faults = refl; every = refl; clients = refl; secret = refl; faulty = refl; correct = refl }

module _ (seed n : ℕ) (few : n ≤ soak_limit) where
  pub is_soak : IsSoak (system_of soak_hosts) seed n
  is_soak = soaks_are_unstopped Pairs (system_of soak_hosts) soaked_hosts seed n (omega (arith, few))

  -- the generator behind k events
  abbrev pub generator : ℕ → Generator
  generator k = generator_after (system_of (soak_of seed n)) seed k

  pub count : length (soak_of seed n).events ≡ n
  count = is_soak.count

  module _ (k : ℕ) (lt : k < n) where
    -- the event behind them
    abbrev pub event : WorldEvent
    event = event_drawn (system_of (soak_of seed n)) seed k

    pub at : slice_get (soak_of seed n).events k ≡ Some event
    at = is_soak.drawn k lt

    pub fits : EventFits soak_shape event
    fits = is_soak.schedule.events k event at

    pub unstopped : stop_of (soak_of seed n) (world (soak_of seed n) k) event ≡ None
    unstopped = is_soak.unstopped k event lt at

    -- the world before it
    pub reached : IsReached (system_of (soak_of seed n)) (world (soak_of seed n) k)
    reached = reached_at (system_of (soak_of seed n)) k (λ j e low there. is_soak.unstopped j e (omega (arith, low, lt)) there)

  -- where the generator stands behind one more, and the event that is played of what it drew
  pub drawn_next : (k pool : ℕ) (old new : Maker) (drawn e : WorldEvent) → pool ≡ length (world (soak_of seed n) k).pool → Represents old (generator k) → HasDrawn (draw pool) old new drawn
      → e ≡ played (soak_of seed n) (world (soak_of seed n) k) drawn → (e ≡ event_drawn (system_of (soak_of seed n)) seed k) × Represents new (generator (k + 1))
  unfolding generator_after
  drawn_next k pool old new drawn e made stands has is =
      let x : State = world (soak_of seed n) k in
      let Drew : ℕ → Type 0 = λ (m : ℕ). (drawn ≡ (draw m (generator k)).event) × Represents new (draw m (generator k)).left in
      let drew : Drew (length x.pool) = subst Drew made (has (generator k) stands) in
      let next : Represents new (generator (suc k)) = drew.1 in
      (is ∙ ap (λ (f : WorldEvent). played (soak_of seed n) x f) drew.0, subst (λ (m : ℕ). Represents new (generator m)) (sym (add-one k)) next)

  -- Behind the first draw there is a message.
  pub some_made : (k : ℕ) (m : Maker) → k ≤ n → Represents m (generator k) → m.started ≡ true → 1 ≤ length (world (soak_of seed n) k).pool
  unfolding generator_after
  some_made zero m le stands started = absurd (never (stands.started) started) where
    never : m.started ≡ false → m.started ≡ true → ⊥
    never e f = absurd cc
  some_made (suc k) m le stands started = is_soak.some (suc k) (omega arith) le

  pub all_hold : (k : ℕ) → k ≤ n → HashesApart (world (soak_of seed n) k).hashed → Promises (system_of (soak_of seed n)) (world (soak_of seed n) k)
  all_hold k le apart =
      let P : ℕ → Type 0 = λ (m : ℕ). AreUnstopped (soak_of seed n) m in
      hold_throughout (soak_of seed n) is_soak.schedule (subst P (sym count) is_soak.unstopped) k (subst (λ (m : ℕ). k ≤ m) (sym count) le) apart

-- Where nothing stands in the way of an event, only want of memory stops it.
pub only_memory : {g : Ghosts Pairs} (w v : World Pairs g) (found : WorldStop) → w.halted ≡ false → Tells {A = Seen} None (Err found) → WorldHalts {A = Seen} w (Err found) v → found ≡ stop.NoMemory
only_memory w v (stop.NotFaulty name) runs told halts = absurd cc
only_memory w v (stop.NoSuchMessage number) runs told halts = absurd cc
only_memory w v (stop.WrongKind number) runs told halts = absurd cc
only_memory w v (stop.Forged event host counter) runs told halts = absurd cc
only_memory w v (stop.ForgedTag event) runs told halts = absurd cc
only_memory w v stop.NoMemory runs told halts = refl
only_memory w v stop.Halted runs told halts = let both = halts.0 in absurd cc

-- ---- what is asked

seed_of : Option Command → ℕ
seed_of (Some (Soak seed n)) = seed
seed_of o = 0

events_of : Option Command → ℕ
events_of (Some (Soak seed n)) = n
events_of o = 0

-- One soak is asked at a time.
pub same_soak : (seed seed' n n' : ℕ) → Some (Soak seed n) ≡ Some (Soak seed' n') → (seed ≡ seed') × (n ≡ n')
unfolding seed_of events_of
same_soak seed seed' n n' e = (ap seed_of e, ap events_of e)
