-- The key-value service can be replicated: wherever operations lead, results fit into replies, and the parts of a state give that state back.
use Rattle.std.proofs.Common.{◌≡◌, ℕ, zero, suc, List, [], ◌∷◌, replicate, Some, refl, sym, ap, ◌∙◌}
use Rattle.std.specs.List.{slice_get}
use Rattle.std.proofs.lemmas.Option.{same_Some}
use Rattle.mb_base.specs.Shapes.{Bytes}
use Rattle.mb_kv.specs.Pairs.{Pairs}
use Rattle.mb_kv.specs.Machine.{kv_machine}
use Rattle.mb_kv.specs.Operations.{after}
use Rattle.mb_kv.specs.States.{IsState}
use Rattle.mb_kv.specs.Laws.StateLaws.{no_keys_is_state, states_stay, answers_are_short}
use Rattle.mb_kv.specs.Laws.SnapshotLaws.{parts_give_the_state}
use Rattle.mb_cache.specs.Represents.{machine_of, snapshots_of}
use Rattle.mb_schedule.specs.declared.schedule.Schedule.{Schedule}
use Rattle.mb_promise.specs.Headline.{state_after, IsService}
use Rattle.mb_members.specs.Hosts.{IsSystem, AreServices}
use Rattle.mb_top.specs.Systems.{system_of}

abbrev after_all : List Bytes → Pairs
after_all ops = state_after (machine_of kv_machine) [] ops

-- a state stays a state
stays_state : (ops : List Bytes) (x : Pairs) → IsState x → IsState (state_after (machine_of kv_machine) x ops)
unfolding state_after
stays_state [] x is = is
stays_state (op ∷ ops) x is = stays_state ops (after x op) (states_stay x op is)

pub kv_is_service : IsService (machine_of kv_machine) (snapshots_of kv_machine) []
kv_is_service = record {
  short = λ ops op fit fits. answers_are_short (after_all ops) op (stays_state ops [] no_keys_is_state);
  whole = λ ops fit. parts_give_the_state (after_all ops) (stays_state ops [] no_keys_is_state);
}

-- Hosts are made with it.
pub is_system : (s : Schedule) → IsSystem kv_machine (system_of s)
is_system s = record { machine = refl; snapshots = refl; first = no_keys_is_state }

-- Some of them that are made alike are each made so.
each_alike : {X : Type 0} (x : X) (n h : ℕ) (v : X) → slice_get (replicate n x) h ≡ Some v → v ≡ x
each_alike x zero h v at = absurd cc
each_alike x (suc n) zero v at = sym (same_Some x v at)
each_alike x (suc n) (suc h) v at = each_alike x n h v at

pub are_services : {X : Type 0} (x : X) (n : ℕ) (xs : List X) → xs ≡ replicate n x → AreServices x xs
are_services x n xs same = λ h v at. each_alike x n h v (ap (λ (ys : List _). slice_get ys h) (sym same) ∙ at)
