use Rattle.std.proofs.Common.{refl, sym}
use Rattle.mb_msg.specs.declared.event.Outcome.TheVariants as outcome
use Rattle.mb_model.specs.Given.{answer, give_state}
use Rattle.mb_replica.proofs.Entries.{gives_as}
use Rattle.mb_replica.proofs.Fetching.{wanted_stable, wanted_behind, answers, not_wanted}
use Rattle.mb_replica.proofs.state.ReplicaState.give_state.Goals as goal

-- src/states.rt
pub answer_state-requires : goal.answer_state-requires
answer_state-requires g c =
    let t = c.requires.standing in
    let r = c.args.self.now in
    let rep = t.stands.represents in
    let wanted = sym (c.if-not-is_wanted.ensures t.me t.left.history rep) in
    record {
      fits = c.requires.fits;
      stable = wanted_stable t.me r t.left.history c.args.m.now.pos rep wanted;
      behind = wanted_behind t.me r t.left.history c.args.m.now.pos rep wanted;
      standing = t;
    }

pub returns-then-not-is_wanted : goal.returns-then-not-is_wanted
returns-then-not-is_wanted g c = λ me x serves s.
    let m = c.args.m.now in
    let idle = gives_as me c.args.self.now c.args.done.now outcome.Idle (answer outcome.Idle x) (give_state me m x) (not_wanted me m x (sym (c.if-not-is_wanted.ensures me x.history s.represents))) (refl, s) in
    (answers me m c.answered.result outcome.Idle (give_state me m x) c.answered.ensures idle.0, idle.1)

pub returns : goal.returns
returns g c = λ me x serves s.
    let m = c.args.m.now in
    let o = c.in_ok-answer_state.field-0 in
    let did = c.in_ok-answer_state.ensures me x serves s in
    (answers me m c.answered-2.result o (give_state me m x) c.answered-2.ensures did.0, did.1)
