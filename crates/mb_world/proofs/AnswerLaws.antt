-- How a stop is told, and what is told where one is looked for behind another.
use Rattle.std.proofs.Common.{◌≡◌, Option, None, Result, Ok, Err, IfOk, refl}
use Rattle.std.specs.Option.{option_or}
use Rattle.mb_msg.specs.declared.stamped.Stamped.{Stamped}
use Rattle.mb_schedule.specs.declared.schedule.Schedule.{Schedule}
use Rattle.mb_schedule.specs.declared.schedule.WorldEvent.{WorldEvent}
use Rattle.mb_world_model.specs.World.{World as WorldState}
use Rattle.mb_world_model.specs.Stops.{WorldStop as Stop, name_stop, missing_stop, stop_of}
use Rattle.mb_world.specs.declared.seen.WorldStop.{WorldStop}
use Rattle.mb_world.specs.declared.seen.WorldStop.TheVariants as stop
use Rattle.mb_world.specs.Answers.{as_stop, Tells}
use Rattle.mb_world.specs.Contents.{IsAllowed, Stamps, rest_stop}

-- It is the first that is looked for.
told_first : (A : Type 0) (o q : Option Stop) (e : WorldStop) → as_stop e ≡ o → Tells {A = A} (option_or o q) (Err e)
told_first A o q (stop.NotFaulty name) e = rw (← e) refl
told_first A o q (stop.NoSuchMessage number) e = rw (← e) refl
told_first A o q (stop.WrongKind number) e = rw (← e) refl
told_first A o q (stop.Forged event host counter) e = rw (← e) refl
told_first A o q (stop.ForgedTag event) e = rw (← e) refl
told_first A o q stop.NoMemory e = tt
told_first A o q stop.Halted e = tt

-- The first that is looked for is not there.
told_behind : {A : Type 0} (o q : Option Stop) (r : Result A WorldStop) → o ≡ None → Tells q r → Tells (option_or o q) r
told_behind o q r none t = rw none t

-- the same stop, told of another value
pub told_on : (A B : Type 0) (found : Option Stop) (e : WorldStop) → Tells {A = A} found (Err e) → Tells {A = B} found (Err e)
told_on A B found (stop.NotFaulty name) t = t
told_on A B found (stop.NoSuchMessage number) t = t
told_on A B found (stop.WrongKind number) t = t
told_on A B found (stop.Forged event host counter) t = t
told_on A B found (stop.ForgedTag event) t = t
told_on A B found stop.NoMemory t = tt
told_on A B found stop.Halted t = tt

-- ---- an event that can be

pub told_whole : {A : Type 0} (s : Schedule) (x : WorldState) (e : WorldEvent) (r : Result A WorldStop) → name_stop s x e ≡ None → missing_stop s x e ≡ None → Tells (rest_stop s x e) r → Tells (stop_of s x e) r
unfolding stop_of
told_whole s x e r name missing t = rw (name, missing) t

pub allowed_where : (s : Schedule) (x : WorldState) (e : WorldEvent) (r : Result (Option Stamped) WorldStop) → Tells (stop_of s x e) r → IfOk r (Stamps s x e) → IfOk r (IsAllowed s x e)
allowed_where s x e (Ok found) none content = record { stop = none; content = content }
allowed_where s x e (Err f) none content = tt

-- Where nothing stands in the way, nothing is told; else something is.
pub name_first : (A : Type 0) (s : Schedule) (x : WorldState) (e : WorldEvent) (f : WorldStop) → as_stop f ≡ name_stop s x e → Tells {A = A} (stop_of s x e) (Err f)
unfolding stop_of
name_first A s x e f is = told_first A (name_stop s x e) _ f is

pub missing_next : (A : Type 0) (s : Schedule) (x : WorldState) (e : WorldEvent) (f : WorldStop) → name_stop s x e ≡ None → as_stop f ≡ missing_stop s x e → Tells {A = A} (stop_of s x e) (Err f)
unfolding stop_of
missing_next A s x e f none is = told_behind {A = A} (name_stop s x e) _ (Err f) none (told_first A (missing_stop s x e) _ f is)
