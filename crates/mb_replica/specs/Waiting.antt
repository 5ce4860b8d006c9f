-- When a host waits for something, and whether it holds a plan.
use Rattle.std.specs.Prelude.{Bool, false, not, ◌||◌, Option, Some, None, is_some}
use Rattle.std.specs.List.{range_with_len, list_any}
use Rattle.mb_base.specs.Shapes.{Bytes, client_count}
use Rattle.mb_usig.specs.Tags.{same_bytes}
use Rattle.mb_msg.specs.declared.change.Plan.{Plan}
use Rattle.mb_msg.specs.Plans.{plan_digest}
use Rattle.mb_model.specs.Histories.{History, Identity, is_open}
use Rattle.mb_model.specs.Execution.{pending}

module _ {S : Type 0} (self : Identity S) where
  -- a request of some client
  abbrev pub has_pending : History → Bool
  has_pending d = list_any (λ c. is_some (pending self d c)) (range_with_len 0 (client_count self.shape))

  -- A request is pending, or the view is not open.
  abbrev pub wants : History → Bool
  wants d = not (is_open self d) || has_pending d

-- A plan is there, and has this digest.
abbrev pub is_of_plan : Bytes → Option Plan → Bool
is_of_plan digest None = false
is_of_plan digest (Some plan) = same_bytes (plan_digest plan) digest
