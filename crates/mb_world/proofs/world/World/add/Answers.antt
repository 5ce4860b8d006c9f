use Rattle.std.proofs.Common.{◌∙◌, ◌++◌, ◌∷◌, [], refl, ap}
use Rattle.mb_msg.specs.Spelling.{spelling}
use Rattle.mb_members.proofs.MarkLaws.{goes_still}
use Rattle.mb_world.proofs.WorldLaws.{if_both, made_one}
use Rattle.mb_world.proofs.world.World.add.Goals as goal

pub returns-clause-stands : goal.returns-clause-stands
returns-clause-stands g c = λ y x h.
    let v = c.args.self.now in
    if_both c.add_message.result _ _ _ c.add_message.ensures.pool c.add_message.ensures.answer
    (λ a pool answer. made_one y v _ x x (spelling c.args.message.now) a h.rest (record { shape = refl; usig = refl; pens = refl; hosts = refl; clients = refl; marks = refl }) (goes_still y.schedule x).made h.members h.rest.askers h.rest.ledger refl refl refl
    (pool ∙ ap (λ b. v.pool.items ++ b ∷ []) c.in_ok-bytes.ensures.text) refl refl refl answer)
