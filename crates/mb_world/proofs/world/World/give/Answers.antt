use Rattle.std.proofs.Common.{◌≡◌, ◌<◌, ◌∙◌, List, Some, None, sym, ap, subst}
use Rattle.mb_base.specs.declared.shape.Shape.{Shape}
use Rattle.mb_base.specs.Shapes.{Bytes, host_count}
use Rattle.mb_world_model.specs.World.{give_host, numbered}
use Rattle.mb_members.specs.declared.marks.Mark.{Mark}
use Rattle.mb_world.proofs.StopLaws.{given_there}
use Rattle.mb_world.proofs.GivenLaws.{given_clean}
use Rattle.mb_world.proofs.SentLaws.{message_sends}
use Rattle.mb_world.proofs.WorldLaws.{known_at, message_there}
use Rattle.mb_world.proofs.world.World.give.Goals as goal

pub mark_clean-requires-clause-clean : goal.mark_clean-requires-clause-clean
mark_clean-requires-clause-clean g c = λ y x h correct. given_clean y.schedule x c.args.number c.args.host (c.requires.allowed y x h) correct

pub give_host-requires-clause-known : goal.give_host-requires-clause-known
give_host-requires-clause-known g c =
    let has = c.requires.has in
    let there : numbered c.args.self.now.pool.items c.args.number ≡ Some c.in_ok-bytes-in-Some.bytes = sym c.in-Some.ensures ∙ ap Some (sym c.in_ok-bytes-in-Some.ensures) in
    let said = known_at has.system c.args.self.now has.state has.represents c.args.number c.in_ok-bytes-in-Some.bytes there in
    rw (c.in_ok-mark_clean-in-Some.ensures.shape, ap (λ (k : Mark). k.body) c.mark_of-known.ensures, c.as_slice.ensures.value) said

pub give_host-requires-clause-has : goal.give_host-requires-clause-has
give_host-requires-clause-has g c =
    let has = c.requires.has in
    record { system = has.system; state = has.state; is = has.is; reached = has.reached; represents = c.in_ok-mark_clean-in-Some.ensures.stands has.system has.state has.represents }

pub returns-in_ok-mark_clean-in-Some-clause-stands : goal.returns-in_ok-mark_clean-in-Some-clause-stands
returns-in_ok-mark_clean-in-Some-clause-stands g c = λ y x is reached h.
    let n = c.args.number in
    let read = c.in-Some.ensures in
    let copied = c.in_ok-bytes-in-Some.ensures in
    let there : numbered x.pool n ≡ Some c.in_ok-bytes-in-Some.bytes =
    ap (λ (p : List Bytes). numbered p n) (sym h.rest.pool) ∙ (sym read ∙ ap Some (sym copied)) in
    message_there y c.give_host.new.self x (give_host y c.args.host) (numbered x.pool n) c.in_ok-bytes-in-Some.bytes c.give_host.result there (c.give_host.ensures.stands y x is (c.in_ok-mark_clean-in-Some.ensures.stands y x h)
    (message_sends y x reached c.args.host (subst (λ (z : Shape). c.args.host < host_count z) h.rest.shape c.requires.host) n c.in_ok-bytes-in-Some.bytes (c.requires.allowed y x h) there))

pub returns-in-None-clause-stands : goal.returns-in-None-clause-stands
returns-in-None-clause-stands g c = λ y x is reached h.
    let none : None ≡ numbered x.pool c.args.number = c.in-None.ensures ∙ ap (λ (p : List Bytes). numbered p c.args.number) h.rest.pool in
    let gone = rw (← none) at (given_there y.schedule x c.args.number c.args.host (c.requires.allowed y x h)) in
    absurd cc
