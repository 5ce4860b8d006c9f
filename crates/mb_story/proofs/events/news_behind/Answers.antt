use Rattle.std.proofs.Common.{◌≡◌, ◌∙◌, length, refl}
use Rattle.mb_story.proofs.events.news_behind.Goals as goal

pub returns : goal.returns
returns g c = λ y x h.
    let events : c.events.result ≡ length x.seen = c.events.ensures ∙ h.rest.events in
    let again : c.events-2.result ≡ length x.seen = c.events-2.ensures ∙ h.rest.events in
    rw (c.in_ok-line.ensures y x h, c.in_ok-refused.ensures, c.in_ok-hosts.ensures y x h, c.in_ok-clients.ensures y x h, events, again, c.pool.ensures.count y x h) refl
