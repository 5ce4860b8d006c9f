use Rattle.std.proofs.Common.{ap, sym, subst, ◌∙◌}
use Rattle.mb_msg.specs.declared.change.ChangeBody.{ChangeBody}
use Rattle.mb_msg.specs.Fits.{FitsStamped}
use Rattle.mb_forgery.proofs.ShownForms.{showing, change_is, change_fits}
use Rattle.mb_forgery.proofs.contents.change_with.Goals as goal

pub returns : goal.returns
returns c =
    let entries = c.in_ok-entries_of.field-0 in
    let view = c.args.view in
    let shown = c.new-2.ensures in
    record {
      content = ap (showing view) shown ∙ change_is view c.new.result entries c.args.messages.items c.new.ensures c.in_ok-entries_of.ensures;
      fits = subst (λ (b : ChangeBody). FitsStamped c.args.shape.now (showing view b)) (sym shown)
          (change_fits c.args.shape.now view c.new.result entries c.args.messages.items c.requires.view c.requires.fits c.requires.count c.new.ensures c.in_ok-entries_of.ensures);
    }
