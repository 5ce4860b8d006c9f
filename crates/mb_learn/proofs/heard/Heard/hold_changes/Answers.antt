use Rattle.std.proofs.Common.{◌≡◌, List, take_all, Some, slice_get, refl, sym, ap, subst, ◌∙◌}
use Rattle.std.proofs.lemmas.Option.{slice_get-get_or}
use Rattle.std.specs.List.{flat_map}
use Rattle.mb_learn.specs.Shown.{log_shown}
use Rattle.mb_base.specs.declared.shape.Shape.{Shape}
use Rattle.mb_msg.specs.Fits.{FitsViewChange}
use Rattle.mb_msg.specs.declared.change.ViewChange.{ViewChange as Item}
use Rattle.mb_learn.specs.Hearing.{Holds}
use Rattle.mb_learn.proofs.Going.{holds_none, holds_next}
use Rattle.mb_learn.proofs.Set.{all_at}
use Rattle.mb_learn.proofs.heard.Heard.hold_changes.Goals as goal

pub loop-change-init : goal.loop-change-init
loop-change-init c = holds_none c.args.self.now c.requires.ready

pub hold_change-requires : goal.hold_change-requires
hold_change-requires c =
    let there : slice_get c.args.changes.now c.loop-change.change-index ≡ Some c.change-item.result = slice_get-get_or _ _ c.change-item.result c.loop-change-test.true ∙ ap (λ x. Some x) (sym c.change-item.is) in
    record {
      fits = subst (λ (s : Shape). FitsViewChange s c.change-item.result) (sym c.loop-change.invariant.keeps.shape) (all_at (FitsViewChange c.args.self.now.shape) c.args.changes.now c.loop-change.change-index c.change-item.result c.requires.fits there);
      ready = c.loop-change.invariant.keeps.ready;
    }

pub loop-change-preserved : goal.loop-change-preserved
loop-change-preserved c =
    let there : slice_get c.args.changes.now c.loop-change.change-index ≡ Some c.change-item.result = slice_get-get_or _ _ c.change-item.result c.loop-change-test.true ∙ ap (λ x. Some x) (sym c.change-item.is) in
    holds_next (flat_map log_shown) log_shown (λ x l. refl) refl c.args.changes.now c.loop-change.change-index c.change-item.result c.args.self.now c.loop-change.self c.hold_change.new.self there c.loop-change.invariant c.in_ok-hold_change.ensures

pub returns : goal.returns
returns c = subst (λ (l : List Item). Holds (flat_map log_shown l) c.args.self.now c.loop-change.self) (take_all c.loop-change.change-index c.args.changes.now c.loop-change-test.false) c.loop-change.invariant
