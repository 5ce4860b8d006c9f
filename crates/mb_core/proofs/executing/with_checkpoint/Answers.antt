use Rattle.std.proofs.Common.{◌≡◌, sym, subst, true}
use Rattle.std.specs.Prelude.{OnOk}
use Rattle.mb_model.specs.OwnLog.{has_room}
use Rattle.mb_model.specs.Sending.{Progress}
use Rattle.mb_replica.specs.Represents.{StandsAt}
use Rattle.mb_core.proofs.Closing.{kept_same, multiple_is, checkpoint_is}
use Rattle.mb_core.proofs.executing.with_checkpoint.Goals as goal

-- src/executing.rt
pub checkpoint-requires : goal.checkpoint-requires
checkpoint-requires g c =
    let t = c.requires.standing in
    let r = c.args.replica.now in
    let d = t.left.history in
    let rep = t.stands.represents in
    record {
      me = t.me;
      left = t.left;
      awaits = record {
        stands = kept_same t.me r c.digest.new.self c.args.done.now t.left c.in_ok-state.ensures.kept t.stands;
        executed = t.executed;
        whole = multiple_is t.me r d c.args.pos true rep c.requires.interval;
        room = sym (c.if-not-has_room.ensures t.me d rep);
        digest = c.in_ok-state.ensures.stands t.me d t.serves.snapshots rep.tables.service;
      };
    }

pub returns : goal.returns
returns g c = λ me x serves s just.
    let r = c.args.replica.now in
    let d = x.history in
    let rep = s.represents in
    let room : has_room me d ≡ true = sym (c.if-not-has_room.ensures me d rep) in
    subst (λ (y : Progress). OnOk c.checkpoint.result (StandsAt me c.checkpoint.new.replica c.checkpoint.new.done y)) (checkpoint_is me c.args.pos x room)
    (c.checkpoint.ensures me x (kept_same me r c.digest.new.self c.args.done.now x c.in_ok-state.ensures.kept s) just (multiple_is me r d c.args.pos true rep c.requires.interval) room (c.in_ok-state.ensures.stands me d serves.snapshots rep.tables.service))
