use Rattle.std.proofs.Common.{◌≡◌, List, take_all, Some, slice_get, refl, sym, ap, subst, ◌∙◌}
use Rattle.std.proofs.lemmas.Option.{slice_get-get_or}
use Rattle.std.specs.List.{flat_map}
use Rattle.mb_learn.specs.Shown.{shown_by}
use Rattle.mb_base.specs.declared.shape.Shape.{Shape}
use Rattle.mb_msg.specs.Fits.{FitsStamped}
use Rattle.mb_msg.specs.declared.stamped.Stamped.{Stamped as Item}
use Rattle.mb_learn.specs.Hearing.{Holds}
use Rattle.mb_learn.proofs.Going.{holds_none, holds_next}
use Rattle.mb_learn.proofs.Set.{all_at}
use Rattle.mb_learn.proofs.heard.Heard.hold_all.Goals as goal

pub loop-entry-init : goal.loop-entry-init
loop-entry-init c = holds_none c.args.self.now c.requires.ready

pub hold_stamped-requires : goal.hold_stamped-requires
hold_stamped-requires c =
    let there : slice_get c.args.entries.now c.loop-entry.entry-index ≡ Some c.entry-item.result = slice_get-get_or _ _ c.entry-item.result c.loop-entry-test.true ∙ ap (λ x. Some x) (sym c.entry-item.is) in
    record {
      fits = subst (λ (s : Shape). FitsStamped s c.entry-item.result) (sym c.loop-entry.invariant.keeps.shape) (all_at (FitsStamped c.args.self.now.shape) c.args.entries.now c.loop-entry.entry-index c.entry-item.result c.requires.fits there);
      ready = c.loop-entry.invariant.keeps.ready;
    }

pub loop-entry-preserved : goal.loop-entry-preserved
loop-entry-preserved c =
    let there : slice_get c.args.entries.now c.loop-entry.entry-index ≡ Some c.entry-item.result = slice_get-get_or _ _ c.entry-item.result c.loop-entry-test.true ∙ ap (λ x. Some x) (sym c.entry-item.is) in
    holds_next (flat_map shown_by) shown_by (λ x l. refl) refl c.args.entries.now c.loop-entry.entry-index c.entry-item.result c.args.self.now c.loop-entry.self c.hold_stamped.new.self there c.loop-entry.invariant c.in_ok-hold_stamped.ensures

pub returns : goal.returns
returns c = subst (λ (l : List Item). Holds (flat_map shown_by l) c.args.self.now c.loop-entry.self) (take_all c.loop-entry.entry-index c.args.entries.now c.loop-entry-test.false) c.loop-entry.invariant
