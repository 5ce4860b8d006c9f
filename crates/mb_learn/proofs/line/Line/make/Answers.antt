use Rattle.std.proofs.Common.{refl, ap, ◌∙◌, length, List}
use Rattle.mb_model.specs.declared.known.LastReply.{LastReply}
use Rattle.std.proofs.lemmas.List.{length-replicate}
use Rattle.mb_base.specs.Shapes.{client_count}
use Rattle.mb_model.specs.Service.{no_reply}
use Rattle.mb_cache.specs.Represents.{machine_of, snapshots_of}
use Rattle.mb_learn.proofs.Beginning.{nothing_executed}
use Rattle.mb_learn.proofs.line.Line.make.Goals as goal

pub returns : goal.returns
returns g c = record {
  executes = nothing_executed c.args.shape (machine_of g.V.Service.machine) c.args.service (snapshots_of g.V.Service.machine) _ refl refl c.in_ok-make.ensures c.new.ensures.items c.new-2.ensures.items;
  shape = (refl, ap (λ (t : List LastReply). length t) c.in_ok-make.ensures ∙ length-replicate (client_count c.args.shape) no_reply, c.new.ensures.items);
}
