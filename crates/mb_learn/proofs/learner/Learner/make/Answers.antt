use Rattle.std.proofs.Common.{[], refl, sym, ap, ◌∙◌, length, List}
use Rattle.mb_base.specs.Shapes.{client_count}
use Rattle.mb_msg.specs.declared.event.Slot.{Slot}
use Rattle.mb_cache.specs.Represents.{machine_of, snapshots_of}
use Rattle.mb_learn.proofs.Finishing.{learns_nothing, agrees_nothing}
use Rattle.mb_learn.proofs.learner.Learner.make.Goals as goal

pub invariant_of-result : goal.invariant_of-result
invariant_of-result g c =
    let heard = c.in_ok-make.ensures in
    let line = c.in_ok-make-2.ensures.shape in
    record {
      runs = λ on. record {
        ready = heard.ready;
        shape = line.0 ∙ sym heard.shape;
        clients = line.1 ∙ ap client_count (sym line.0);
        place = heard.start ∙ sym (ap (λ (l : List Slot). length l) line.2);
      };
    }

pub returns : goal.returns
returns g c =
    let m = machine_of g.V.Service.machine in
    let snapshots = snapshots_of g.V.Service.machine in
    record {
      runs = refl;
      lists = λ h. [];
      hears = c.in_ok-make.ensures.nothing;
      executes = c.in_ok-make-2.ensures.executes;
      news = c.in_ok-make.ensures.news;
      learnt = learns_nothing c.args.shape m c.args.service c.args.secret.now;
      agrees = agrees_nothing c.args.shape c.args.secret.now m snapshots c.args.service;
    }
