-- The order in which logs are given.
use Rattle.std.specs.Prelude.{◌≡◌, List, Contains}
use Rattle.mb_base.specs.declared.shape.Shape.{Shape}
use Rattle.mb_model.specs.Plans.{ShownLog, plan_of}

-- Of each host there is one log.
abbrev pub AreOfOneEach : List ShownLog → Type 0
AreOfOneEach logs = (x y : ShownLog) → Contains logs x → Contains logs y → x.host ≡ y.host → x ≡ y

-- The same logs in another order have the same plan.
abbrev pub PlansIgnoreOrder : Type 0
PlansIgnoreOrder = (s : Shape) (a b : List ShownLog) → AreOfOneEach a → ((x : ShownLog) → Contains a x → Contains b x) → ((x : ShownLog) → Contains b x → Contains a x)
    → plan_of s a ≡ plan_of s b
