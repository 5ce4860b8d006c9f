use Rattle.std.proofs.Common.{◌≡◌, true, arith}
use Rattle.std.specs.Prelude.{nat_le}
use Rattle.std.proofs.lemmas.Bool.{le-leb, lt-leb}
use Rattle.mb_msg.specs.declared.message.Message.TheVariants as message
use Rattle.mb_model.specs.Histories.{Accepted}
use Rattle.mb_model.specs.Stable.{low_of}
use Rattle.mb_replica.proofs.Keeping.{below_awaits, awaits_keeping, awaits_cut, kept_awaits_where}
use Rattle.mb_replica.proofs.state.ReplicaState.accept_checkpoint.Goals as goal

-- src/checkpoints.rt
pub returns-then-m-low : goal.returns-then-m-low
returns-then-m-low g c = λ me d r none.
    below_awaits me c.args.self.now c.args.m d r none (lt-leb (low_of me d) c.args.m.pos (omega (arith, c.if-m-low.true, c.low.ensures.reads me d r)))

pub keep_checkpoint-requires-clause-brings : goal.keep_checkpoint-requires-clause-brings
keep_checkpoint-requires-clause-brings g c =
    let p = c.requires.passes in
    let kept : nat_le (low_of p.me p.history) c.args.m.pos ≡ true = le-leb (low_of p.me p.history) c.args.m.pos (omega (arith, c.if-m-low.false, c.low.ensures.reads p.me p.history p.represents)) in
    record { me = p.me; entry = Accepted (message.Checkpoint c.args.m); history = p.history; awaits = awaits_keeping p.me c.args.self.now c.args.m p.history p.represents p.passes kept c.requires.fits }

pub cut_log-requires : goal.cut_log-requires
cut_log-requires g c =
    let p = c.requires.passes in
    let k = c.in_ok-keep_checkpoint.ensures in
    let kept : nat_le (low_of p.me p.history) c.args.m.pos ≡ true = le-leb (low_of p.me p.history) c.args.m.pos (omega (arith, c.if-m-low.false, c.low.ensures.reads p.me p.history p.represents)) in
    record {
      me = p.me;
      entry = Accepted (message.Checkpoint c.args.m);
      history = p.history;
      awaits = awaits_cut p.me c.args.self.now c.args.m p.history p.represents p.passes kept c.requires.fits c.keep_checkpoint.new.self k.writes
          (k.stands p.me (Accepted (message.Checkpoint c.args.m)) p.history (awaits_keeping p.me c.args.self.now c.args.m p.history p.represents p.passes kept c.requires.fits));
    }

pub returns : goal.returns
returns g c = λ me d r none.
    let e = Accepted (message.Checkpoint c.args.m) in
    let k = c.in_ok-keep_checkpoint.ensures in
    let kept : nat_le (low_of me d) c.args.m.pos ≡ true = le-leb (low_of me d) c.args.m.pos (omega (arith, c.if-m-low.false, c.low.ensures.reads me d r)) in
    let stands = k.stands me e d (awaits_keeping me c.args.self.now c.args.m d r none kept c.requires.fits) in
    kept_awaits_where me c.args.self.now c.args.m d r none kept c.requires.fits c.cut_log.result c.keep_checkpoint.new.self c.cut_log.new.self k.writes stands c.cut_log.ensures.writes
    (c.cut_log.ensures.stands me e d (awaits_cut me c.args.self.now c.args.m d r none kept c.requires.fits c.keep_checkpoint.new.self k.writes stands))
