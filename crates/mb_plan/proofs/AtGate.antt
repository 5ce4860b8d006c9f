-- What a gate says of an entry whose counter is next and whose tag verifies.
use Rattle.std.proofs.Common.{◌≡◌, Bool, true, ◌&&◌, not, Some, None, refl, ◌∙◌}
use Rattle.std.specs.Prelude.{◌==◌, if◌then◌else◌}
use Rattle.mb_parts.specs.Claims.{Claim}
use Rattle.mb_parts.specs.Certificates.{inner_valid}
use Rattle.mb_parts.specs.Ordered.{permits}
use Rattle.mb_msg.specs.declared.stamped.Shown.{Shown}
use Rattle.mb_msg.specs.Stamps.{bare_of_shown, ui_of_shown}
use Rattle.mb_gate.specs.SenderLogs.{SenderLog, may_stand}
use Rattle.mb_gate.proofs.InnerAside.{same_test}
use Rattle.mb_model.specs.UsableLogs.{entry_claim}
use Rattle.mb_plan.specs.Behind.{is_next, gate_reason}

module _ (valid : Claim → Bool) (log : SenderLog) (e : Shown) (inner may : Bool) where
  pub at_gate : is_next log (ui_of_shown e).counter ≡ true → ((ui_of_shown e).host == log.sender && valid (entry_claim log.sender e)) ≡ true
      → inner ≡ inner_valid log.shape valid (bare_of_shown e) → may ≡ may_stand log inner (bare_of_shown e) → (if not may then Some 5 else None) ≡ gate_reason valid log e
  at_gate next claimed is says =
      let same : may ≡ permits log.from log.shape log.sender (inner_valid log.shape valid) log.taken (bare_of_shown e) =
      says ∙ same_test log.from log.shape log.sender (λ b. inner) (inner_valid log.shape valid) log.taken (bare_of_shown e) is in
      rw (next, claimed, same) refl
