use Rattle.std.proofs.Common.{◌∙◌, ◌+◌, ap, arith, ℕ}
use Rattle.std.proofs.lemmas.List.{length_push}
use Rattle.mb_members.proofs.AskerLaws.{asker_made, asked_push, shape_push}
use Rattle.mb_members.proofs.clients.askers.Goals as goal

pub loop-client-preserved : goal.loop-client-preserved
loop-client-preserved c =
    let askers = c.loop-client.all.items in
    let k = c.in_ok-make.field-0 in
    let now = c.loop-client.invariant in
    rw c.in_ok-push.ensures.items (record {
      stands = λ s e f. asker_made s askers k (now.stands s e f) (rw (e, f, now.len) c.in_ok-make.ensures);
      within = asked_push 0 askers k now.within (let h = c.in_ok-make.ensures.number in omega arith);
      shapes = shape_push c.args.shape askers k now.shapes c.in_ok-make.ensures.shape;
      len = length_push askers k ∙ ap (λ (n : ℕ). n + 1) now.len;
    })
