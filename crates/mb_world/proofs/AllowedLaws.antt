-- What is told of an event that cannot be, and what a faulty host is to stamp.
use Rattle.std.proofs.Common.{◌≡◌, ℕ, ◌+◌, ◌<◌, ◌≤◌, Bool, true, false, List, length, drop, get_or, Option, Some, None, Result, refl, sym, ap, ◌∙◌, inl, inr}
use Rattle.std.specs.Prelude.{is_none, find, option_map, option_and_then, option_copied, IfOk}
use Rattle.std.specs.Borrow.{Bor}
use Rattle.std.specs.Option.{option_or}
use Rattle.std.proofs.lemmas.List.{at_drop_more, at_drop_all}
use Rattle.std.proofs.lemmas.Option.{same_Some, none-some}
use Rattle.mb_base.specs.Shapes.{Bytes}
use Rattle.mb_msg.specs.declared.message.Message.{Message}
use Rattle.mb_model.proofs.Options.{option_cases}
use Rattle.mb_schedule.specs.declared.schedule.Schedule.{Schedule}
use Rattle.mb_world_model.specs.World.{World as WorldState, numbered, read, message_at}
use Rattle.mb_world_model.specs.Forged.{forged_claim, has_forged_tag}
use Rattle.mb_world_model.specs.Stops.{WorldStop as Stop, Forged, ForgedTag, to_correct}
use Rattle.mb_forgery.specs.declared.checker.ForgedClaim.{ForgedClaim}
use Rattle.mb_forgery.specs.Checks.{told}
use Rattle.mb_world.specs.declared.seen.WorldStop.{WorldStop}
use Rattle.mb_world.specs.Answers.{Tells}
use Rattle.mb_world.specs.Contents.{found_in}

-- ---- numbers

-- These messages are there, so the first that is missing is behind them.
pub missing_on : (P : ℕ → Bool) (l : List ℕ) (i : ℕ) → i < length l → P (get_or l i 0) ≡ false → find P (drop i l) ≡ find P l → find P (drop (i + 1) l) ≡ find P l
missing_on P l i lt there left = sym (at_drop_more (find P) l i 0 lt ∙ rw there refl) ∙ left

pub missing_here : (P : ℕ → Bool) (l : List ℕ) (i : ℕ) → i < length l → P (get_or l i 0) ≡ true → find P (drop i l) ≡ find P l → Some (get_or l i 0) ≡ find P l
missing_here P l i lt none left = sym (at_drop_more (find P) l i 0 lt ∙ rw none refl) ∙ left

pub missing_none : (P : ℕ → Bool) (l : List ℕ) (i : ℕ) → length l ≤ i → find P (drop i l) ≡ find P l → None ≡ find P l
missing_none P l i le left = sym (at_drop_all (find P) l i le) ∙ left

pub copied_none : {A : Type 0} (o : Option (Bor A)) → is_none (option_copied o) ≡ is_none o
copied_none None = refl
copied_none (Some x) = refl

-- The bytes of a number are read.
pub read_at : {E : Type 0} (s : Schedule) (x : WorldState) (n : ℕ) (pool : List Bytes) (bytes sliced : Bytes) (r : Result (Option Message) E) → pool ≡ x.pool → Some bytes ≡ numbered pool n → sliced ≡ bytes
    → IfOk r (λ o. o ≡ read s sliced) → IfOk r (λ o. o ≡ message_at s x n)
read_at s x n pool bytes sliced r same at cut t = rw (← same, ← at, ← cut) t

-- ---- what is forged

module _ (s : Schedule) (x : WorldState) where
  pub forged_told : (n : ℕ) (m : Message) (c : ForgedClaim) → n ≡ length x.seen → Some c ≡ option_map told (forged_claim s x m) → Some (Forged (n + 1) c.host c.counter) ≡ found_in s x (Some m)
  forged_told n m c count is = elim (option_cases (forged_claim s x m)) [
    | inl none ↦ absurd (none-some c (sym (is ∙ ap (option_map told) none)))
    | inr (k, some) ↦ rw (some, count, same_Some c (told k) (is ∙ ap (option_map told) some)) refl
  ]

  claimless : (m : Message) → None ≡ option_map told (forged_claim s x m) → forged_claim s x m ≡ None
  claimless m is = elim (option_cases (forged_claim s x m)) [
    | inl none ↦ none
    | inr (k, some) ↦ absurd (none-some (told k) (is ∙ ap (option_map told) some))
  ]

  pub tag_told : (n : ℕ) (m : Message) → n ≡ length x.seen → None ≡ option_map told (forged_claim s x m) → true ≡ has_forged_tag s x m → Some (ForgedTag (n + 1)) ≡ found_in s x (Some m)
  tag_told n m count none is = rw (claimless m none, ← is, count) refl

  pub nothing_found : (m : Message) → None ≡ option_map told (forged_claim s x m) → false ≡ has_forged_tag s x m → found_in s x (Some m) ≡ None
  nothing_found m none is = rw (claimless m none, ← is) refl

  -- It comes to someone faulty, or is no message.
  pub found_lost : (bytes : Option Bytes) → found_in s x (option_and_then (read s) (to_correct s x true bytes)) ≡ None
  found_lost bytes = refl

  pub found_unread : (bytes : Bytes) → None ≡ read s bytes → found_in s x (option_and_then (read s) (to_correct s x false (Some bytes))) ≡ None
  found_unread bytes none = rw (← none) refl

  pub found_read : {A : Type 0} (bytes : Bytes) (m : Message) (r : Result A WorldStop) → Some m ≡ read s bytes → Tells (found_in s x (Some m)) r → Tells (found_in s x (option_and_then (read s) (to_correct s x false (Some bytes)))) r
  found_read bytes m r some t = rw (← some) t

  found_missing : (faulty : Bool) → found_in s x (option_and_then (read s) (to_correct s x faulty None)) ≡ None
  found_missing true = refl
  found_missing false = refl

  -- of the message of a number
  pub found_at : {A : Type 0} (faulty : Bool) (n : ℕ) (pool : List Bytes) (bytes sliced : Bytes) (r : Result A WorldStop) → pool ≡ x.pool → Some bytes ≡ numbered pool n → sliced ≡ bytes
      → Tells (found_in s x (option_and_then (read s) (to_correct s x faulty (Some sliced)))) r → Tells (found_in s x (option_and_then (read s) (to_correct s x faulty (numbered x.pool n)))) r
  found_at faulty n pool bytes sliced r same at cut t = rw (ap (λ (p : List Bytes). numbered p n) (sym same) ∙ (sym at ∙ ap Some (sym cut))) t

  pub found_absent : (faulty : Bool) (n : ℕ) (pool : List Bytes) → pool ≡ x.pool → None ≡ numbered pool n → found_in s x (option_and_then (read s) (to_correct s x faulty (numbered x.pool n))) ≡ None
  found_absent faulty n pool same none = rw (ap (λ (p : List Bytes). numbered p n) (sym same) ∙ sym none) (found_missing faulty)

-- ---- what is told

-- Nothing else is looked for.
pub told_alone : {A : Type 0} (o : Option Stop) (r : Result A WorldStop) → Tells o r → Tells (option_or o None) r
told_alone None r t = t
told_alone (Some e) r t = t
