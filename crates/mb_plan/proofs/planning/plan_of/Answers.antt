use Rattle.std.proofs.Common.{[]}
use Rattle.mb_plan.proofs.planning.plan_of.Goals as goal

pub plan_beside-requires : goal.plan_beside-requires
plan_beside-requires c = record {
  fits = c.requires;
  places = record { shape = c.args.shape.now; secret = []; found = tt };
}
