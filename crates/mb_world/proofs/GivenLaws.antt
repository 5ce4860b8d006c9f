-- In a message that may be delivered to someone correct nothing is forged.
use Rattle.std.proofs.Common.{◌≡◌, ℕ, Bool, true, false, Option, Some, None, refl, subst}
use Rattle.std.specs.Prelude.{is_some, option_map, option_and_then}
use Rattle.std.specs.Bool.{then_some}
use Rattle.std.specs.Option.{option_or}
use Rattle.mb_base.specs.Shapes.{Bytes}
use Rattle.mb_msg.specs.declared.message.Message.{Message}
use Rattle.mb_schedule.specs.declared.schedule.Schedule.{Schedule}
use Rattle.mb_schedule.specs.declared.schedule.WorldEvent.{WorldEvent}
use Rattle.mb_schedule.specs.declared.schedule.WorldEvent.TheVariants.{Give, Take}
use Rattle.mb_schedule.specs.Limits.{is_faulty, is_faulty_client}
use Rattle.mb_world_model.specs.World.{World as WorldState, numbered, read}
use Rattle.mb_world_model.specs.Forged.{forged_claim, has_forged_tag, IsUnforged}
use Rattle.mb_world_model.specs.Stops.{WorldStop, Forged, ForgedTag, event_number, to_correct, name_stop, missing_stop, kind_stop, forged_stop, tag_stop, stop_of}
use Rattle.mb_members.specs.Marks.{IsCleanAt}
use Rattle.mb_members.proofs.ListLaws.{some_is}
use Rattle.mb_world.proofs.StopLaws.{or_none, given_there, taken_there}

module _ (s : Schedule) (x : WorldState) where
  no_forged : (e : WorldEvent) → stop_of s x e ≡ None → (forged_stop s x e ≡ None) × (tag_stop s x e ≡ None)
  unfolding stop_of
  no_forged e none =
      let forged : Option WorldStop = option_or (forged_stop s x e) (tag_stop s x e) in
      let kind : Option WorldStop = option_or (kind_stop s x e) forged in
      let missing : Option WorldStop = option_or (missing_stop s x e) kind in
      let there = or_none (name_stop s x e) missing none in
      let fitting = or_none (missing_stop s x e) kind there.1 in
      let genuine = or_none (kind_stop s x e) forged fitting.1 in
      or_none (forged_stop s x e) (tag_stop s x e) genuine.1

  unmapped : {A B : Type 0} (f : A → B) (o : Option A) → option_map f o ≡ None → o ≡ None
  unmapped f None e = refl
  unmapped f (Some a) e = absurd cc

  untold : (b : Bool) (stop : WorldStop) → then_some b stop ≡ None → b ≡ false
  untold true stop e = absurd cc
  untold false stop e = refl

  clean_message : (o : Option Message) (m : Message) → o ≡ Some m
      → option_map (λ c. Forged (event_number s x) c.host c.counter) (option_and_then (forged_claim s x) o) ≡ None
      → option_and_then (λ k. then_some (has_forged_tag s x k) (ForgedTag (event_number s x))) o ≡ None → IsUnforged s x m
  clean_message None m is claims tags = absurd cc
  clean_message (Some k) m is claims tags =
      let clean : IsUnforged s x k = record {
        claims = unmapped (λ c. Forged (event_number s x) c.host c.counter) (forged_claim s x k) claims;
        tags = untold (has_forged_tag s x k) (ForgedTag (event_number s x)) tags;
      } in
      subst (λ (q : Message). IsUnforged s x q) (some_is k m is) clean

  clean_delivered : (faulty : Bool) (o : Option Bytes) (n : ℕ) → faulty ≡ false → numbered x.pool n ≡ o → is_some o ≡ true
      → option_map (λ c. Forged (event_number s x) c.host c.counter) (option_and_then (forged_claim s x) (option_and_then (read s) (to_correct s x faulty o))) ≡ None
      → option_and_then (λ k. then_some (has_forged_tag s x k) (ForgedTag (event_number s x))) (option_and_then (read s) (to_correct s x faulty o)) ≡ None → IsCleanAt s x n
  clean_delivered true o n correct is there claims tags = absurd cc
  clean_delivered false None n correct is there claims tags = absurd cc
  clean_delivered false (Some bytes) n correct is there claims tags = record { bytes = bytes; made = is; clean = λ m reads. clean_message (read s bytes) m reads claims tags }

  pub given_clean : (n h : ℕ) → stop_of s x (Give n h) ≡ None → is_faulty s h ≡ false → IsCleanAt s x n
  given_clean n h none correct =
      let forged = no_forged (Give n h) none in
      clean_delivered (is_faulty s h) (numbered x.pool n) n correct refl (given_there s x n h none) forged.0 forged.1

  pub taken_clean : (n c : ℕ) → stop_of s x (Take n c) ≡ None → is_faulty_client s c ≡ false → IsCleanAt s x n
  taken_clean n c none correct =
      let forged = no_forged (Take n c) none in
      clean_delivered (is_faulty_client s c) (numbered x.pool n) n correct refl (taken_there s x n c none) forged.0 forged.1
