-- A run of the program's own system past two checkpoints, which meets each premise of the promise about all hosts; so the promise is made of it. A client puts
-- 1 to 8 under one key, one after the other; h0 orders and h1 commits each, and both execute it. Behind the fourth and the eighth both stamp a CHECKPOINT, and are
-- given that of the other: so position 8 is stable, and both cut their logs behind the first CHECKPOINT. A ninth PUT is executed by h1 alone.
use Rattle.std.proofs.Common.{◌≡◌, ◌≤◌, ◌<◌, ℕ, zero, suc, false, List, [], ◌∷◌, map, refl, sym, ap, subst, ◌∙◌, arith}
use Rattle.mb_kv.specs.Pairs.{Pairs}
use Rattle.mb_kv.specs.Operations.{operation_at, operation_of}
use Rattle.mb_model.specs.Positions.{exec_of}
use Rattle.mb_model.specs.Stable.{low_of}
use Rattle.mb_model.specs.OwnLog.{log_start}
use Rattle.mb_model.specs.Execution.{state_of}
use Rattle.mb_schedule.specs.Limits.{is_faulty}
use Rattle.mb_world_model.specs.World.{World, self_of}
use Rattle.mb_world_model.specs.Hashed.{HashesApart}
use Rattle.mb_world_model.proofs.WorldsOnLiterals.{worlds_on_literals}
use Rattle.mb_promise.specs.Headline.{Promises}
use Rattle.mb_promise.specs.Safety.{after_line}
use Rattle.mb_top.specs.Systems.{system_of, world}
use Rattle.mb_top.proofs.Promised.{hold_at_each_event}
use Rattle.mb_examples_course.proofs.Messages.{slot}
use Rattle.mb_examples_course.proofs.Schedule.{is_schedule, past_checkpoint}
use Rattle.mb_examples_course.proofs.Worlds.{end}
use Rattle.mb_examples_course.proofs.Finds.{line_at_end}
use Rattle.mb_examples_course.proofs.Strings.{hashes_are_apart}
use Rattle.mb_examples_checkpoint.proofs.System.{system}
use Rattle.mb_examples_checkpoint.proofs.Reached.{reached}

-- ---- so the promise is made of it

pub is_of_program : system ≡ system_of past_checkpoint
is_of_program = refl

-- behind all events
abbrev last_world : World
last_world = world past_checkpoint 39

in_last : {A : Type 0} (f : World → A) → f last_world ≡ f end
in_last f = ap f reached.is

pub promised : Promises (system_of past_checkpoint) last_world
promised =
    let all : 39 ≤ 39 = omega arith in
    hold_at_each_event past_checkpoint is_schedule 39 all reached.free (subst (λ (w : World). HashesApart w.hashed) (sym reached.is) hashes_are_apart)

-- ---- what it says there

-- The one list has a slot for each PUT.
pub line_is : last_world.line ≡ slot 1 ∷ slot 2 ∷ slot 3 ∷ slot 4 ∷ slot 5 ∷ slot 6 ∷ slot 7 ∷ slot 8 ∷ slot 9 ∷ []
line_is = in_last (λ (w : World). w.line) ∙ line_at_end

-- how far a host executed, what is stable for it, the counter behind which its log begins, and the pairs of its state
pub record Place : Type 0 where
  pub executed : ℕ
  pub stable : ℕ
  pub log : ℕ
  pub pairs : Pairs

abbrev pub place : World → ℕ → Place
place w h = record {
  executed = exec_of (w.histories h);
  stable = low_of (self_of system h) (w.histories h);
  log = log_start (self_of system h) (w.histories h);
  pairs = (state_of (self_of system h) (w.histories h)).state;
}

abbrev pub hosts : List ℕ
hosts = 0 ∷ 1 ∷ 2 ∷ []

abbrev pub places : List Place
places =
    record { executed = 8; stable = 8; log = 5; pairs = (97 ∷ [], 56 ∷ []) ∷ [] } ∷
    record { executed = 9; stable = 8; log = 5; pairs = (97 ∷ [], 57 ∷ []) ∷ [] } ∷
    record { executed = 0; stable = 0; log = 0; pairs = [] } ∷
    []

there : map (place end) hosts ≡ places
unfolding worlds_on_literals operation_at operation_of
there = refl

-- h0 executed the first eight, h1 all nine, position 8 is stable for both, and their logs begin behind counter 5; h2 was given nothing.
pub hosts_are_there : map (place last_world) hosts ≡ places
hosts_are_there = in_last (λ (w : World). map (place w) hosts) ∙ there

none_is_faulty : (h : ℕ) → is_faulty past_checkpoint h ≡ false
none_is_faulty zero = refl
none_is_faulty (suc zero) = refl
none_is_faulty (suc (suc zero)) = refl
none_is_faulty (suc (suc (suc h))) = refl

-- Each is at the state of the service behind a beginning of the list.
pub each_is_behind_a_beginning : (h : ℕ) → h < 3 → state_of (self_of system h) (last_world.histories h) ≡ after_line system last_world (exec_of (last_world.histories h))
each_is_behind_a_beginning h lt = promised.safe.state h (lt, none_is_faulty h)
