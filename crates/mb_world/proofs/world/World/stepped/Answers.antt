use Rattle.std.proofs.Common.{◌∙◌, ◌++◌, sym, refl, subst}
use Rattle.std.specs.Prelude.{reverse, filter_map, fold}
use Rattle.mb_base.specs.declared.shape.Shape.{Shape}
use Rattle.mb_world_model.specs.World.{stamps, update, partway, with_tagged}
use Rattle.mb_world.specs.Answers.{as_answer}
use Rattle.mb_members.specs.Stamps.{FitsWhereStamped, bare_in}
use Rattle.mb_members.proofs.KeepLaws.{keeps_then}
use Rattle.mb_world.proofs.WorldLaws.{partway_stands, leaves_from, if_ok_more}
use Rattle.mb_world.proofs.world.World.stepped.Goals as goal

pub returns-clause-stands : goal.returns-clause-stands
returns-clause-stands g c = λ y x a members rest is fit correct longer clean.
    let v = c.args.self.now in
    let s = y.schedule in
    let h = c.args.host in
    let made = rw (c.len-count.ensures ∙ c.args.self.now.pool.ok.0, c.as_slice-2.ensures) at c.in_ok-note_sent.ensures in
    rw (← is.outcome)
    (if_ok_more c.note.result _ _
    (c.note.ensures.stands y (partway s h a.left x)
    (partway_stands y v _ x h c.args.told a members rest is (record { shape = refl; usig = refl; pens = refl; hosts = refl; clients = refl }) fit made refl refl
    (keeps_then s.shape v.ledger _ (stamps s x) (update (stamps s x) h (reverse (filter_map bare_in a.left.sent) ++ stamps s x h)) x.asked x.asked x.tagged (fold with_tagged x.tagged a.left.sent) rest.ledger
    (λ k. c.in_ok-note_step.ensures.keeps (stamps s x) x.asked x.tagged a.left.sent k
    (record { sent = c.as_slice.ensures ∙ is.sent; fit = subst (λ (z : Shape). FitsWhereStamped z a.left.sent) (sym rest.ledger.shape) fit })))
    c.in_ok-add_messages.ensures c.in_ok-extend_line.ensures refl refl correct longer clean))
    (λ r left. leaves_from y _ (as_answer r) x (partway s h a.left x) _ refl left))
