use Rattle.std.proofs.Common.{◌≡◌, ◌∙◌, List, Some, None, sym, ap}
use Rattle.mb_base.specs.Shapes.{Bytes}
use Rattle.mb_world_model.specs.World.{give_client, numbered}
use Rattle.mb_world.proofs.StopLaws.{taken_there}
use Rattle.mb_world.proofs.GivenLaws.{taken_clean}
use Rattle.mb_world.proofs.WorldLaws.{message_there}
use Rattle.mb_world.proofs.world.World.take.Goals as goal

pub mark_clean-requires-clause-clean : goal.mark_clean-requires-clause-clean
mark_clean-requires-clause-clean g c = λ y x h correct. taken_clean y.schedule x c.args.number c.args.client (c.requires.allowed y x h) correct

pub returns-in_ok-mark_clean-in-Some-clause-stands : goal.returns-in_ok-mark_clean-in-Some-clause-stands
returns-in_ok-mark_clean-in-Some-clause-stands g c = λ y x h.
    let n = c.args.number in
    let read = c.in-Some.ensures in
    let copied = c.in_ok-bytes-in-Some.ensures in
    let there : numbered x.pool n ≡ Some c.as_slice.result.now =
    ap (λ (p : List Bytes). numbered p n) (sym h.rest.pool) ∙ (sym read ∙ ap Some (sym (c.as_slice.ensures ∙ copied))) in
    message_there y c.give_client.new.self x (give_client y.schedule c.args.client) (numbered x.pool n) c.as_slice.result.now c.give_client.result there (c.give_client.ensures.stands y x (c.in_ok-mark_clean-in-Some.ensures.stands y x h))

pub returns-in-None-clause-stands : goal.returns-in-None-clause-stands
returns-in-None-clause-stands g c = λ y x h.
    let none : None ≡ numbered x.pool c.args.number = c.in-None.ensures ∙ ap (λ (p : List Bytes). numbered p c.args.number) h.rest.pool in
    let gone = rw (← none) at (taken_there y.schedule x c.args.number c.args.client (c.requires.allowed y x h)) in
    absurd cc
