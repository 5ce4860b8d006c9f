-- The own gate takes what is published.
use Rattle.std.proofs.Common.{◌≡◌, ℕ, List, ◌∷◌, sym, subst}
use Rattle.mb_parts.specs.declared.floor.Mark.{Mark}
use Rattle.mb_msg.specs.declared.stamped.Stamped.{Stamped as StampedMessage}
use Rattle.mb_msg.specs.Stamps.{mark_of}
use Rattle.mb_model.specs.Histories.{Stamped, History, Identity}
use Rattle.mb_steps.specs.Arises.{Adds}
use Rattle.mb_gate.specs.declared.gate.Gate.{Gate}
use Rattle.mb_history_laws.specs.Sound.{IsSound}
use Rattle.mb_refinement.specs.GateCalls.{Marks}
use Rattle.mb_refinement.specs.Stands.{GatesStand}
use Rattle.mb_refinement.proofs.Gates.{mark_says, gate_stamped}
use Rattle.mb_replica.specs.declared.state.ReplicaState.{ReplicaState}
use Rattle.mb_replica.specs.Between.{GateFollows}
use Rattle.mb_replica.specs.Represents.{IsHost}

module _ {V : Type 0} where
  -- The own gate takes what is stamped.
  pub own_gate_follows : (old new : ReplicaState V) (m : StampedMessage) (mark : Mark) → mark ≡ mark_of m → GateFollows old.protocol.host mark old new → (me : Identity V) (d : History) → IsHost me old → IsSound me d → Adds me d (Stamped m)
      → GatesStand me old.protocol.gates.items d → GatesStand me new.protocol.gates.items (Stamped m ∷ d)
  own_gate_follows old new m mark same follows me d who sound adds g =
      let f : GateFollows me.host mark old new = subst (λ (h : ℕ). GateFollows h mark old new) (sym who.host) follows in
      let marks : Marks mark m = subst (λ (k : Mark). Marks k m) (sym same) (mark_says m) in
      subst (λ (l : List Gate). GatesStand me l (Stamped m ∷ d)) (sym f.now) (gate_stamped me old.protocol.gates.items d m mark f.before f.behind sound adds marks f.there f.law g)
