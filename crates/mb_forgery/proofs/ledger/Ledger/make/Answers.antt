use Rattle.std.proofs.Common.{[], replicate, refl, ap, ◌∙◌}
use Rattle.mb_base.specs.Shapes.{Bytes}
use Rattle.std.specs.Prelude.{ℕ, List}
use Rattle.mb_forgery.proofs.Kept.{keeps_nothing}
use Rattle.mb_forgery.proofs.ledger.Ledger.make.Goals as goal

pub returns : goal.returns
returns c = keeps_nothing c.args.shape _ refl (c.in_ok-no_stamps.ensures ∙ ap (λ (n : ℕ). replicate {A = List Bytes} n []) c.n.ensures) c.make.ensures c.new.ensures.empty
