use Rattle.std.proofs.Common.{◌≡◌, List, [], ◌∷◌, map, take_all, Some, slice_get, refl, sym, ap, subst, ◌∙◌}
use Rattle.std.proofs.lemmas.Option.{slice_get-get_or}
use Rattle.mb_base.specs.declared.shape.Shape.{Shape}
use Rattle.mb_msg.specs.declared.stamped.Stamped.{Stamped as Item}
use Rattle.mb_model.specs.GateChecks.{stamp_claim}
use Rattle.mb_certified.specs.Certified.{IsBareStamp}
use Rattle.mb_learn.specs.Hearing.{Takes}
use Rattle.mb_learn.proofs.Going.{takes_none, takes_next}
use Rattle.mb_learn.proofs.Set.{all_at}
use Rattle.mb_learn.proofs.heard.Heard.take_stamps.Goals as goal

pub loop-stamp-init : goal.loop-stamp-init
loop-stamp-init c = takes_none c.args.self.now c.requires.ready

pub take_stamp-requires : goal.take_stamp-requires
take_stamp-requires c =
    let there : slice_get c.args.stamps.now c.loop-stamp.stamp-index ≡ Some c.stamp-item.result = slice_get-get_or _ _ c.stamp-item.result c.loop-stamp-test.true ∙ ap (λ x. Some x) (sym c.stamp-item.is) in
    record {
      bare = subst (λ (s : Shape). IsBareStamp s c.stamp-item.result) (sym c.loop-stamp.invariant.keeps.shape) (all_at (IsBareStamp c.args.self.now.shape) c.args.stamps.now c.loop-stamp.stamp-index c.stamp-item.result c.requires.bare there);
      ready = c.loop-stamp.invariant.keeps.ready;
    }

pub loop-stamp-preserved : goal.loop-stamp-preserved
loop-stamp-preserved c =
    let there : slice_get c.args.stamps.now c.loop-stamp.stamp-index ≡ Some c.stamp-item.result = slice_get-get_or _ _ c.stamp-item.result c.loop-stamp-test.true ∙ ap (λ x. Some x) (sym c.stamp-item.is) in
    takes_next (map stamp_claim) (λ (m : Item). stamp_claim m ∷ []) (λ x l. refl) refl c.args.stamps.now c.loop-stamp.stamp-index c.stamp-item.result c.args.self.now c.loop-stamp.self c.take_stamp.new.self there c.loop-stamp.invariant c.in_ok-take_stamp.ensures

pub returns : goal.returns
returns c = subst (λ (l : List Item). Takes (map stamp_claim l) c.args.self.now c.loop-stamp.self) (take_all c.loop-stamp.stamp-index c.args.stamps.now c.loop-stamp-test.false) c.loop-stamp.invariant
