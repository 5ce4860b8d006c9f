use Rattle.std.proofs.Common.{◌≡◌, ◌∙◌, [], refl, sym, subst, Some, None}
use Rattle.std.specs.Prelude.{OnOk}
use Rattle.mb_parts.specs.declared.batch.Batch.{Batch}
use Rattle.mb_model.specs.Sending.{Progress}
use Rattle.mb_model.specs.CarriedOut.{serve_all, close_slot}
use Rattle.mb_replica.specs.Represents.{StandsAt}
use Rattle.mb_core.specs.Serving.{ServesOn}
use Rattle.mb_core.proofs.NextBatch.{in_batch, batch_is, begins, executed_is}
use Rattle.mb_core.proofs.executing.execute.Goals as goal

-- src/executing.rt
pub serve_all-requires : goal.serve_all-requires
serve_all-requires g c =
    in_batch g.V.Service.machine c.args.replica.now c.args.done.now c.args.pos c.requires c.in-Some.batch (λ me d rep. sym c.in-Some.is ∙ c.in_ok-batch.ensures me d rep)

pub close_slot-requires : goal.close_slot-requires
close_slot-requires g c =
    let t = in_batch g.V.Service.machine c.args.replica.now c.args.done.now c.args.pos c.requires c.in-Some.batch (λ me d rep. sym c.in-Some.is ∙ c.in_ok-batch.ensures me d rep) in
    record { me = t.me; left = serve_all t.me c.args.pos c.in-Some.batch.requests t.left; serves = t.serves; stands = c.in_ok-requests.ensures t.me t.left t.serves t.stands }

pub at_interval-requires : goal.at_interval-requires
at_interval-requires g c =
    let t = in_batch g.V.Service.machine c.args.replica.now c.args.done.now c.args.pos c.requires c.in-Some.batch (λ me d rep. sym c.in-Some.is ∙ c.in_ok-batch.ensures me d rep) in
    let y = serve_all t.me c.args.pos c.in-Some.batch.requests t.left in
    record { me = t.me; left = close_slot t.me c.args.pos y; serves = t.serves; stands = c.in_ok-close_slot.ensures t.me y t.serves (c.in_ok-requests.ensures t.me t.left t.serves t.stands); executed = refl }

pub returns-in_default : goal.returns-in_default
returns-in_default g c = λ me x b serves s next.
    let no : None ≡ Some b = batch_is me c.args.replica.now c.args.done.now x s c.args.pos b next None (sym c.in_default.is ∙ c.in_ok-batch.ensures me x.history s.represents) in
    absurd cc

pub returns : goal.returns
returns g c = λ me x b serves s next.
    let r = c.args.replica.now in
    let done = c.args.done.now in
    let pos = c.args.pos in
    let batch = c.in-Some.batch in
    let known : Some batch ≡ Some b = batch_is me r done x s pos b next (Some batch) (sym c.in-Some.is ∙ c.in_ok-batch.ensures me x.history s.represents) in
    let same : b ≡ batch = cc in
    let y = serve_all me pos batch.requests x in
    let on = subst (λ (e : Batch). ServesOn me r done pos e.requests [] x) same (begins me r done x s pos b next) in
    let closed = c.in_ok-close_slot.ensures me y serves (c.in_ok-requests.ensures me x serves on) in
    subst (λ (z : Progress). OnOk c.at_interval.result (StandsAt me c.at_interval.new.replica c.at_interval.new.done z)) (executed_is me pos b batch x same) (c.at_interval.ensures me (close_slot me pos y) serves closed refl)
