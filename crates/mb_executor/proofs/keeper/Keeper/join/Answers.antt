use Rattle.std.proofs.Common.{◌∙◌, Some, sym, ap}
use Rattle.mb_cache.specs.Represents.{snapshots_of}
use Rattle.mb_fetch.specs.Parts.{joined}
use Rattle.mb_executor.specs.Keeping.{Keeping, with_fetched}
use Rattle.mb_executor.proofs.Held.{joined_same}
use Rattle.mb_executor.proofs.Joining.{more_taken}
use Rattle.mb_executor.proofs.keeper.Keeper.join.Goals as goal

pub returns-in-Ok : goal.returns-in-Ok
returns-in-Ok g c = λ search st.
    let m = c.args.m.now in
    let all = sym (c.are_all_held-are_held.ensures _ _ search st) ∙ c.if-are_held.true in
    let with_more = c.in-Ok.ensures.stands _ _ search st in (
      c.in-Ok.ensures.answer,
      (
        all,
        record {
          rest_stays = ap (λ (k : Keeping _). with_fetched k (Some c.keep.new.self)) c.self.view_is;
          parts_of = (with_more.pos_is, with_more.digest_is);
          finds = λ i. with_more.finds i ∙ joined_same search m all i;
        },
      ),
    )

pub returns-in-Ok-2 : goal.returns-in-Ok-2
returns-in-Ok-2 g c = λ search st.
    let m = c.args.m.now in
    let snapshots = snapshots_of g.V.Service.machine in
    let more = sym (c.are_all_held-are_held.ensures _ _ search st) ∙ c.if-are_held.false in
    more_taken snapshots c.args.parts.digest search m c.args.self.now c.install_where_all.new.self c.in-Ok.ensures.answer more c.install_where_all.result
    (c.install_where_all.ensures _ _ (joined search m) (c.in-Ok.ensures.stands _ _ search st))
