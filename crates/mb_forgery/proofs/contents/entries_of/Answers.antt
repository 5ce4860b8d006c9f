use Rattle.std.proofs.Common.{◌≡◌, [], ◌∷◌, ◌++◌, length, reverse, ap, subst, ◌∙◌, arith}
use Rattle.std.specs.List.{AllByRecursion}
use Rattle.mb_msg.specs.Fits.{FitsStamped}
use Rattle.mb_forgery.specs.Contents.{is_opening}
use Rattle.mb_forgery.proofs.ShownForms.{one_more, opened_before, opened_here, all_written, last_fits}
use Rattle.mb_forgery.proofs.contents.entries_of.Goals as goal

pub loop-message-preserved-then-behind_opening : goal.loop-message-preserved-then-behind_opening
loop-message-preserved-then-behind_opening c =
    let m = c.in-Some.message in
    let left = c.pop.new.self.items in
    let now = c.loop-message in
    let split : now.messages.items ≡ left ++ m ∷ [] = c.in-Some.ensures.items in
    record {
      fits = (last_fits c.args.shape.now left m (subst (AllByRecursion (FitsStamped c.args.shape.now)) split now.invariant.fits)).0;
      written = one_more now.behind_opening now.behind_opening m left now.messages.items now.entries.items c.push.new.self.items _ c.in_ok-entry_of.field-0 split c.in_ok-entry_of.ensures c.in_ok-push.ensures.items
          (opened_before now.behind_opening (is_opening m) c.if-behind_opening.true) now.invariant.written;
    }

pub loop-message-preserved : goal.loop-message-preserved
loop-message-preserved c =
    let m = c.in-Some.message in
    let left = c.pop.new.self.items in
    let now = c.loop-message in
    let split : now.messages.items ≡ left ++ m ∷ [] = c.in-Some.ensures.items in
    record {
      fits = (last_fits c.args.shape.now left m (subst (AllByRecursion (FitsStamped c.args.shape.now)) split now.invariant.fits)).0;
      written = one_more now.behind_opening c.is_opening-opens.result m left now.messages.items now.entries.items c.push.new.self.items _ c.in_ok-entry_of.field-0 split c.in_ok-entry_of.ensures c.in_ok-push.ensures.items
          (opened_here now.behind_opening (is_opening m) c.is_opening-opens.result c.is_opening-opens.ensures c.if-behind_opening.false) now.invariant.written;
    }

pub returns : goal.returns
returns c =
    let now = c.loop-message in
    let none : length now.messages.items ≡ 0 = omega (arith, c.in_default.ensures.cases, now.messages.ok.0) in
    c.from_vec.ensures ∙ c.reverse.ensures.items ∙ ap reverse (all_written now.behind_opening now.messages.items now.entries.items _ none now.invariant.written)
