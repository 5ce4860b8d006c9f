use Rattle.std.proofs.Common.{◌≡◌, ◌∙◌, sym, ap, subst}
use Rattle.mb_msg.specs.declared.change.NewView.{NewView}
use Rattle.mb_msg.specs.declared.stamped.Stamped.TheVariants as stamped
use Rattle.mb_msg.specs.AsStamped.{stamped_digest}
use Rattle.mb_msg.specs.Bodies.{body_digest}
use Rattle.mb_msg.specs.Spelling.{new_view_body_bytes}
use Rattle.mb_change.specs.Searches.{with_new_view}
use Rattle.mb_change.specs.Represents.{Represents}
use Rattle.mb_core.proofs.new_views.hold_own.Goals as goal

same_message : (a b : NewView) → stamped.NewView a ≡ stamped.NewView b → a ≡ b
same_message a b e = cc

-- src/new_views.rt
pub hold_new_view-requires : goal.hold_new_view-requires
hold_new_view-requires g c = c.requires ∙ (ap stamped_digest c.in-NewView.is ∙ ap (λ (n : NewView). body_digest new_view_body_bytes n.body) (sym c.in_ok-copy.ensures))

pub returns-clause-holds : goal.returns-clause-holds
returns-clause-holds g c = λ m is s r.
    let same : c.in_ok-copy.copy ≡ m = c.in_ok-copy.ensures ∙ same_message c.in-NewView.own m (sym c.in-NewView.is ∙ is) in
    subst (λ (y : NewView). Represents c.hold_new_view.new.self (with_new_view y s)) same (c.hold_new_view.ensures.stands s r)
