use Rattle.std.proofs.Common.{◌∙◌, length, ap, sym, subst, arith}
use Rattle.std.proofs.lemmas.Iterator.Adapters.{YieldsList-from_vec}
use Rattle.std.proofs.lemmas.Iterator.Consumers.{YieldsList-turn, YieldsList-end}
use Rattle.std.proofs.lemmas.List.{length_push}
use Rattle.mb_base.specs.declared.shape.Shape.{Shape}
use Rattle.mb_msg.specs.Fits.{FitsStamped}
use Rattle.mb_replica.proofs.ShownEntries.{none_given, given_more, given_ends, given_all, one_fits, stepping_on, has_history, shape_on}
use Rattle.mb_replica.proofs.state.ReplicaState.give_entries.Goals as goal

-- src/logs.rt
pub loop-entry-init : goal.loop-entry-init
loop-entry-init g c = none_given c.args.self.now c.args.entries

pub give_stamped-requires : goal.give_stamped-requires
give_stamped-requires g c =
    let b = c.into_iter-entry-iterator.ensures.into_iter_gives in
    let are = c.into_vec-entry-items.ensures in
    let t = YieldsList-turn (YieldsList-from_vec {s = c.into_iter-entry-iterator.result} c.args.entries (b.0 ∙ are) (b.1 ∙ c.into_vec-entry-items.result.ok.0 ∙ ap length are)) c.loop-entry.yielded c.loop-entry.entry-iterator c.loop-entry.yielded_by c.next.result c.next.new.self c.in-Some.entry c.in-Some.is c.next.ensures.steps in
    record {
      fits = subst (λ (s : Shape). FitsStamped s c.in-Some.entry) (shape_on c.args.self.now c.loop-entry.self c.args.entries (length c.loop-entry.yielded) c.requires.stepping c.loop-entry.invariant)
          (one_fits (FitsStamped c.args.self.now.protocol.shape) c.args.entries (length c.loop-entry.yielded) c.in-Some.entry c.requires.fit t.0 t.1);
      stands = has_history c.loop-entry.self (stepping_on c.args.self.now c.loop-entry.self c.args.entries (length c.loop-entry.yielded) c.requires.stepping c.loop-entry.invariant);
      known = tt;
    }

pub loop-entry-preserved : goal.loop-entry-preserved
loop-entry-preserved g c =
    let b = c.into_iter-entry-iterator.ensures.into_iter_gives in
    let are = c.into_vec-entry-items.ensures in
    let t = YieldsList-turn (YieldsList-from_vec {s = c.into_iter-entry-iterator.result} c.args.entries (b.0 ∙ are) (b.1 ∙ c.into_vec-entry-items.result.ok.0 ∙ ap length are)) c.loop-entry.yielded c.loop-entry.entry-iterator c.loop-entry.yielded_by c.next.result c.next.new.self c.in-Some.entry c.in-Some.is c.next.ensures.steps in
    given_more c.args.self.now c.loop-entry.self c.give_stamped.new.self c.args.entries (length c.loop-entry.yielded) c.in-Some.entry c.in_ok-outcome.outcome t.0 t.1 c.loop-entry.invariant (λ me x done st. c.in_ok-outcome.ensures me x done st) _
    (length_push c.loop-entry.yielded c.in-Some.entry) (sym c.if-not-goes_on.ensures)

pub returns-then-not-goes_on : goal.returns-then-not-goes_on
returns-then-not-goes_on g c =
    let b = c.into_iter-entry-iterator.ensures.into_iter_gives in
    let are = c.into_vec-entry-items.ensures in
    let t = YieldsList-turn (YieldsList-from_vec {s = c.into_iter-entry-iterator.result} c.args.entries (b.0 ∙ are) (b.1 ∙ c.into_vec-entry-items.result.ok.0 ∙ ap length are)) c.loop-entry.yielded c.loop-entry.entry-iterator c.loop-entry.yielded_by c.next.result c.next.new.self c.in-Some.entry c.in-Some.is c.next.ensures.steps in
    given_ends c.args.self.now c.loop-entry.self c.give_stamped.new.self c.args.entries (length c.loop-entry.yielded) c.in-Some.entry c.in_ok-outcome.outcome t.0 t.1 c.loop-entry.invariant (λ me x done st. c.in_ok-outcome.ensures me x done st)
    (sym c.if-not-goes_on.ensures)

pub returns : goal.returns
returns g c =
    let b = c.into_iter-entry-iterator.ensures.into_iter_gives in
    let are = c.into_vec-entry-items.ensures in
    let t = YieldsList-end (YieldsList-from_vec {s = c.into_iter-entry-iterator.result} c.args.entries (b.0 ∙ are) (b.1 ∙ c.into_vec-entry-items.result.ok.0 ∙ ap length are)) c.loop-entry.yielded c.loop-entry.entry-iterator c.loop-entry.yielded_by c.next.result c.next.new.self c.in-None.is c.next.ensures.steps in
    given_all c.args.self.now c.loop-entry.self c.args.entries (length c.loop-entry.yielded) (omega (arith, t.1)) c.loop-entry.invariant
