use Rattle.std.proofs.Common.{Bool, sym, subst, OnOk}
use Rattle.std.specs.Prelude.{if◌then◌else◌}
use Rattle.mb_model.specs.Making.{wish}
use Rattle.mb_model.specs.Sending.{send, to_all}
use Rattle.mb_model.proofs.ShapesFit.{shape_fits}
use Rattle.mb_encodable.proofs.Answers.{wish_again_sent}
use Rattle.mb_replica.specs.Represents.{StandsAt}
use Rattle.mb_replica.proofs.Behind.{host_there}
use Rattle.mb_core.proofs.nudges.wish_again.Goals as goal

-- src/nudges.rt
pub send_wish-requires : goal.send_wish-requires
send_wish-requires g c =
    let h = c.requires in
    let r = h.represents in
    record {
      me = h.me;
      history = h.history;
      represents = r;
      fits = wish_again_sent h.me (shape_fits h.me.shape) (host_there h.me c.args.replica.now h.history r) h.history (sym (c.if-is_unfulfilled.ensures h.me h.history r)) r.tables.sound r.fit;
    }

pub returns-then-is_unfulfilled : goal.returns-then-is_unfulfilled
returns-then-is_unfulfilled g c = λ me x st.
    subst (λ (b : Bool). OnOk c.send_wish.result (StandsAt me c.args.replica.now c.send_wish.new.done (if b then send (to_all (wish me x.history)) x else x))) (c.if-is_unfulfilled.ensures me x.history st.represents) (c.send_wish.ensures me x st)

pub returns : goal.returns
returns g c = λ me x st.
    subst (λ (b : Bool). StandsAt me c.args.replica.now c.args.done.now (if b then send (to_all (wish me x.history)) x else x)) (c.if-is_unfulfilled.ensures me x.history st.represents) st
