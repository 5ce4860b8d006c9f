use Rattle.std.proofs.Common.{◌≡◌, true, false, sym, ap, ◌∙◌}
use Rattle.mb_model.specs.Clients.{Waiting, taken, takes, is_right, is_awaited, completes, counted}
use Rattle.mb_client.proofs.asker.Asker.take.Goals as goal

pub returns-then-completes-clause-stands : goal.returns-then-completes-clause-stands
unfolding taken takes
returns-then-completes-clause-stands c = λ s secret client a stands.
    let r = c.args.reply.now in
    let right : is_right s secret client r ≡ true = sym (c.is_right.ensures s secret client a stands) ∙ c.if-not-is_right.false in
    let awaited : is_awaited s secret client a r ≡ true = sym (c.is_awaited.ensures.awaited s secret client a stands) ∙ c.if-not-is_awaited.false in
    let complete : completes s secret client a r ≡ true = sym (c.completes.ensures s secret client a stands ∙ ap (completes s secret client a) c.of-kept.ensures) ∙ c.if-completes.true in
    rw (right, awaited, complete, ← c.of-kept.ensures) (c.accept.ensures.stands s secret client a stands)

pub returns-clause-stands : goal.returns-clause-stands
unfolding taken takes
returns-clause-stands c = λ s secret client a stands.
    let r = c.args.reply.now in
    let right : is_right s secret client r ≡ true = sym (c.is_right.ensures s secret client a stands) ∙ c.if-not-is_right.false in
    let awaited : is_awaited s secret client a r ≡ true = sym (c.is_awaited.ensures.awaited s secret client a stands) ∙ c.if-not-is_awaited.false in
    let waiting : completes s secret client a r ≡ false = sym (c.completes.ensures s secret client a stands ∙ ap (completes s secret client a) c.of-kept.ensures) ∙ c.if-completes.false in
    rw (right, awaited, waiting, ← c.of-kept.ensures) (record {
      shape = stands.shape;
      secret_is = stands.secret_is;
      client_is = stands.client_is;
      number = stands.number;
      waits = stands.waits;
      replies = c.count.ensures.stands a.replies stands.replies;
      count = stands.count;
      last = stands.last;
    })

pub returns-clause-answer : goal.returns-clause-answer
unfolding taken takes
returns-clause-answer c = λ s secret client a stands.
    let r = c.args.reply.now in
    let right : is_right s secret client r ≡ true = sym (c.is_right.ensures s secret client a stands) ∙ c.if-not-is_right.false in
    let awaited : is_awaited s secret client a r ≡ true = sym (c.is_awaited.ensures.awaited s secret client a stands) ∙ c.if-not-is_awaited.false in
    let waiting : completes s secret client a r ≡ false = sym (c.completes.ensures s secret client a stands ∙ ap (completes s secret client a) c.of-kept.ensures) ∙ c.if-completes.false in
    rw (right, awaited, waiting, ← c.of-kept.ensures) (ap Waiting (c.most_agreeing.ensures (counted a.replies c.of-kept.result) (c.count.ensures.stands a.replies stands.replies)))
