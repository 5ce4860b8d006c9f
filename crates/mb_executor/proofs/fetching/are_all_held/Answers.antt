use Rattle.std.proofs.Common.{◌<◌, ◌≤◌, ◌∙◌, length, refl, sym, arith}
use Rattle.mb_executor.proofs.Held.{held_start, held_step, held_stop, held_end}
use Rattle.mb_executor.proofs.fetching.are_all_held.Goals as goal

pub loop-index-init : goal.loop-index-init
loop-index-init c = λ pos digest search st. held_start search c.args.m.now

pub returns-then-not-held : goal.returns-then-not-held
returns-then-not-held c = λ pos digest search st.
    let m = c.args.m.now in
    let n = c.loop-index.index in
    let counted = c.len-index-end.ensures in
    let test = c.loop-index-test.true in
    let lt : n < length m.parts = omega (arith, counted, test) in
    sym (held_stop search m n _ refl lt (sym (c.held.ensures.stands pos digest search st) ∙ c.if-not-held.true)) ∙ c.loop-index.invariant pos digest search st

pub loop-index-preserved : goal.loop-index-preserved
loop-index-preserved c = λ pos digest search st.
    let m = c.args.m.now in
    let n = c.loop-index.index in
    let counted = c.len-index-end.ensures in
    let test = c.loop-index-test.true in
    let lt : n < length m.parts = omega (arith, counted, test) in
    held_step search m n _ refl lt (sym (c.held.ensures.stands pos digest search st) ∙ c.if-not-held.false) ∙ c.loop-index.invariant pos digest search st

pub returns : goal.returns
returns c = λ pos digest search st.
    let m = c.args.m.now in
    let n = c.loop-index.index in
    let counted = c.len-index-end.ensures in
    let test = c.loop-index-test.false in
    let le : length m.parts ≤ n = omega (arith, counted, test) in
    sym (held_end search m n le) ∙ c.loop-index.invariant pos digest search st
