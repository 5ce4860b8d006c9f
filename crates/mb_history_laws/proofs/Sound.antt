-- Each history to which a host's steps lead is sound: the first one is, and each entry that a step adds keeps it so.
use Rattle.std.proofs.Common.{◌≡◌, true, [], ◌∷◌, None}
use Rattle.mb_msg.specs.declared.stamped.Stamped.{Stamped as StampedMessage}
use Rattle.mb_msg.specs.declared.stamped.Stamped.TheVariants as stamped
use Rattle.mb_msg.specs.Stamps.{as_message}
use Rattle.mb_model.specs.Histories.{Entry, Accepted, Jumped, Closed, History, Identity}
use Rattle.mb_model.specs.KindChecks.{stamped_refusal}
use Rattle.mb_steps.specs.Arises.{Adds, Arises}
use Rattle.mb_steps.proofs.StepOwnStamped.{steady}
use Rattle.mb_steps.proofs.StepPassed.{passes_stamped}
use Rattle.mb_steps.proofs.StepPotential.{start_bounded}
use Rattle.mb_history_laws.specs.Gates.{GatesMove, MovesGate}
use Rattle.mb_history_laws.specs.Sound.{IsSound}
use Rattle.mb_history_laws.proofs.Positions.{slots_within, votes_within}
use Rattle.mb_history_laws.proofs.Certified.{checkpoints_within, exec_within}
use Rattle.mb_history_laws.proofs.Gates.{own_unclosed}
use Rattle.mb_history_laws.proofs.Executing.{parts_behind, no_part_above, pending_client}

module _ {S : Type 0} (self : Identity S) where
  pub sound : (d : History) → Arises self d → GatesMove self d → IsSound self d
  sound d a g = record {
    arises = a;
    gates = g;
    own = (steady self d a).list;
    unclosed = own_unclosed self d g;
    slots = slots_within self d a;
    votes = votes_within self d a;
    checkpoints = checkpoints_within self d a;
    executed = exec_within self d a;
    snapshots = parts_behind self d a;
    parts = no_part_above self d;
    requests = pending_client self d;
    log = start_bounded self d;
  }

  pub begins_sound : IsSound self []
  begins_sound = sound [] tt tt

  gates_more : (e : Entry) (d : History) → MovesGate self e d → GatesMove self d → GatesMove self (e ∷ d)
  gates_more (Jumped h f) d m g = (m, g)
  gates_more (Closed h c) d m g = (m, g)
  gates_more e d m g = g

  -- one entry more
  pub stays_sound : (e : Entry) (d : History) → Adds self d e → MovesGate self e d → IsSound self d → IsSound self (e ∷ d)
  stays_sound e d a m s = sound (e ∷ d) (a, s.arises) (gates_more e d m s.gates)

  -- A stamped message that isn't refused may be added.
  pub accepted_adds : (m : StampedMessage) (d : History) → stamped_refusal self d m ≡ None → Adds self d (Accepted (as_message m))
  accepted_adds (stamped.Prepare m) d e = passes_stamped self d (stamped.Prepare m) e
  accepted_adds (stamped.Commit m) d e = passes_stamped self d (stamped.Commit m) e
  accepted_adds (stamped.Checkpoint m) d e = passes_stamped self d (stamped.Checkpoint m) e
  accepted_adds (stamped.ViewChange m) d e = passes_stamped self d (stamped.ViewChange m) e
  accepted_adds (stamped.NewView m) d e = passes_stamped self d (stamped.NewView m) e
  accepted_adds (stamped.Enter m) d e = passes_stamped self d (stamped.Enter m) e
  accepted_adds (stamped.Open m) d e = passes_stamped self d (stamped.Open m) e
  accepted_adds (stamped.Join m) d e = passes_stamped self d (stamped.Join m) e

  -- and moves no gate but its sender's, by one
  pub accepted_moves : (m : StampedMessage) (d : History) → MovesGate self (Accepted (as_message m)) d
  accepted_moves m d = tt
