-- Gates of hosts from which nothing came, one after the other.
use Rattle.std.proofs.Common.{◌≡◌, ◌∙◌, ℕ, ◌+◌, List, [], ◌∷◌, ◌++◌, sym, subst, inl, inr, arith, length-append}
use Rattle.mb_base.specs.declared.shape.Shape.{Shape}
use Rattle.mb_parts.specs.Ordered.{initial_floor}
use Rattle.mb_gate.specs.declared.gate.Gate.{Gate}
use Rattle.mb_gate.specs.SenderLogs.{log_from}
use Rattle.mb_gate.specs.Represents.{Represents}
use Rattle.mb_model.proofs.Lists.{get_last}
use Rattle.mb_replica.specs.Beginning.{AreNewGates}

pub no_gates : (s : Shape) (gates : List Gate) → gates ≡ [] → AreNewGates s gates 0
no_gates s gates none = subst (λ (l : List Gate). AreNewGates s l 0) (sym none) (record { count = omega arith; each = λ h gate e. absurd cc })

pub one_gate_more : (s : Shape) (gates more : List Gate) (n : ℕ) (gate : Gate) → more ≡ gates ++ gate ∷ [] → AreNewGates s gates n → Represents gate (log_from s n initial_floor) → AreNewGates s more (n + 1)
one_gate_more s gates more n gate is a new = subst (λ (l : List Gate). AreNewGates s l (n + 1)) (sym is) (record {
  count = let so_far = a.count in omega (arith, length-append gates (gate ∷ []));
  each = λ h g e. elim (get_last gates gate h g e) [
    | inl before ↦ a.each h g before
    | inr (at, same) ↦ subst (λ (x : Gate). Represents x (log_from s h initial_floor)) same (subst (λ (k : ℕ). Represents gate (log_from s k initial_floor)) (sym (at ∙ a.count)) new)
  ];
})
