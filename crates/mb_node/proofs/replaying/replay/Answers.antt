use Rattle.std.proofs.Common.{◌≡◌, List, [], ◌∷◌, reverse, ◌∙◌, sym, subst, rules}
use Rattle.std.proofs.lemmas.Iterator.Adapters.{YieldsList-from_vec}
use Rattle.std.proofs.lemmas.Iterator.Consumers.{YieldsList-end}
use Rattle.std.proofs.lemmas.List.{map-id, reverse-append}
use Rattle.mb_msg.specs.declared.event.Event.{Event}
use Rattle.mb_sched.specs.declared.records.Entry.{Entry}
use Rattle.mb_node.specs.Events.{left_by}
use Rattle.mb_node.specs.Replaying.{IsReplayed}
use Rattle.mb_node.proofs.Replayed.{replayed_none, replayed_more}
use Rattle.mb_node.proofs.replaying.replay.Goals as goal

pub loop-event-init : goal.loop-event-init
loop-event-init g c =
    let none : c.in_ok-entries.entries.items ≡ [] = search rules in
    record {
      so_far = λ me d serves rep whole. subst (λ (l : List Entry). IsReplayed me d [] l c.args.replica.now) (sym none) (replayed_none me d c.args.replica.now rep whole);
      runs = c.requires.runs;
      rests = c.requires.rests;
    }

pub loop-event-preserved : goal.loop-event-preserved
loop-event-preserved g c =
    let so_far = c.loop-event.invariant in
    let e = c.in-Some.event in
    let es = c.loop-event.yielded in
    let now = c.replay_one.new.replica in
    record {
      so_far = λ me d serves rep whole.
          let before = so_far.so_far me d serves rep whole in
          let one = c.in_ok-entry.ensures.replays me (left_by me d (reverse es)) serves before.represents before.whole in
          subst (λ (l : List Event). IsReplayed me d l c.push.new.self.items now) (sym (reverse-append es (e ∷ [])))
          (subst (λ (l : List Entry). IsReplayed me d (e ∷ reverse es) l now) (sym c.in_ok-push.ensures.items)
          (replayed_more me d (reverse es) e c.loop-event.entries.items c.in_ok-entry.entry c.loop-event.replica now before one));
      runs = c.in_ok-entry.ensures.runs;
      rests = c.in_ok-entry.ensures.rests;
    }

pub returns-clause-replays : goal.returns-clause-replays
returns-clause-replays g c = λ me d serves rep whole.
    let b = c.into_iter-event-iterator.ensures.into_iter_gives in
    let t = YieldsList-end (YieldsList-from_vec {s = c.into_iter-event-iterator.result} c.args.events.items b.0 (b.1 ∙ c.args.events.ok.0)) c.loop-event.yielded c.loop-event.event-iterator c.loop-event.yielded_by c.next.result c.next.new.self c.in-None.is c.next.ensures.steps in
    let all : c.loop-event.yielded ≡ c.args.events.items = sym (map-id c.loop-event.yielded) ∙ t.0 in
    subst (λ (l : List Event). IsReplayed me d (reverse l) c.loop-event.entries.items c.loop-event.replica) all (c.loop-event.invariant.so_far me d serves rep whole)
