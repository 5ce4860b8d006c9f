use Rattle.std.proofs.Common.{◌≡◌, ◌+◌, ◌≤◌, ◌<◌, ◌∷◌, [], sym, ap, ◌∙◌, arith}
use Rattle.std.proofs.lemmas.List.{length_push}
use Rattle.mb_base.specs.Limits.{batch_bytes_limit}
use Rattle.mb_parts.specs.Counted.{counted}
use Rattle.mb_parts.specs.Fits.{FitsRequest}
use Rattle.mb_parts.specs.Spelling.{request_bytes}
use Rattle.mb_steps.proofs.StepPlanBases.{all_append}
use Rattle.mb_members.proofs.BatchLaws.{kind_told, long_told, left_on, taken_on, all_fit, used_more}
use Rattle.mb_world.proofs.world.World.batch_of.Goals as goal

pub returns-in_default-clause-stops : goal.returns-in_default-clause-stops
returns-in_default-clause-stops g c = λ y x h.
    let l = c.loop-number in
    kind_told y.schedule x c.args.numbers.now l.number-index l.used c.loop-number-test.true (l.invariant.left y x h) (sym c.in_default.is ∙ c.in_ok-request.ensures.request y x h)

pub returns-then-used-gt-MAX_BATCH_BYTES-clause-stops : goal.returns-then-used-gt-MAX_BATCH_BYTES-clause-stops
returns-then-used-gt-MAX_BATCH_BYTES-clause-stops g c = λ y x h.
    let l = c.loop-number in
    let long : batch_bytes_limit < counted l.used (request_bytes c.in-Some.request) = omega (arith, c.count-used.ensures, c.if-used-gt-MAX_BATCH_BYTES.true) in
    long_told y.schedule x c.args.numbers.now l.number-index l.used c.loop-number-test.true (l.invariant.left y x h) c.in-Some.request (sym c.in-Some.is ∙ c.in_ok-request.ensures.request y x h) long

pub loop-number-preserved : goal.loop-number-preserved
loop-number-preserved g c =
    let l = c.loop-number in
    let numbers = c.args.numbers.now in
    let r = c.in-Some.request in
    let counts : c.count-used.result ≡ counted l.used (request_bytes r) = c.count-used.ensures in
    let short : counted l.used (request_bytes r) ≤ batch_bytes_limit = omega (arith, counts, c.if-used-gt-MAX_BATCH_BYTES.false) in
    rw (c.in_ok-push.ensures.ok, counts) (record {
      left = λ y x h. left_on y.schedule x numbers l.number-index l.used c.loop-number-test.true (l.invariant.left y x h) r (sym c.in-Some.is ∙ c.in_ok-request.ensures.request y x h) short;
      taken = λ y x h. taken_on y.schedule x numbers l.number-index l.used c.loop-number-test.true (l.invariant.left y x h) l.requests r (l.invariant.taken y x h) (sym c.in-Some.is ∙ c.in_ok-request.ensures.request y x h);
      fits = all_append (FitsRequest c.args.self.now.shape) l.requests (r ∷ []) l.invariant.fits (rw c.in-Some.is at c.in_ok-request.ensures.fits, tt);
      used = used_more l.used l.requests r l.invariant.used short;
      small = short;
      count = length_push l.requests r ∙ ap (λ n. n + 1) l.invariant.count;
    })

pub returns-clause-stops : goal.returns-clause-stops
returns-clause-stops g c = λ y x h.
    all_fit y.schedule x c.args.numbers.now c.loop-number.number-index c.loop-number.used c.loop-number-test.false (c.loop-number.invariant.left y x h)
