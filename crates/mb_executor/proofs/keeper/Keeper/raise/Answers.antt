use Rattle.std.proofs.Common.{◌≡◌, length, sym, subst}
use Rattle.std.specs.List.{AllByRecursion}
use Rattle.std.specs.Prelude.{nat_le}
use Rattle.mb_base.specs.Limits.{part_count}
use Rattle.mb_steps.proofs.StepPlanBases.{all_filter}
use Rattle.mb_fetch.specs.Snapshots.{Snapshot}
use Rattle.mb_executor.specs.Keeping.{AreShort}
use Rattle.mb_executor.proofs.keeper.Keeper.raise.Goals as goal

pub invariant_of-self : goal.invariant_of-self
invariant_of-self g c = record {
  clients_are = c.self.invariant.clients_are;
  whole = subst (AllByRecursion (λ (s : Snapshot). length s.parts ≡ part_count)) (sym c.drop_below.ensures.kept) (all_filter (λ s. length s.parts ≡ part_count) (λ s. nat_le c.args.low s.pos) c.self.inside.shelf c.self.invariant.whole);
  short = subst (AllByRecursion (λ (s : Snapshot). AreShort s.parts)) (sym c.drop_below.ensures.kept) (all_filter (λ s. AreShort s.parts) (λ s. nat_le c.args.low s.pos) c.self.inside.shelf c.self.invariant.short);
}

pub returns-clause-stands : goal.returns-clause-stands
returns-clause-stands g c = rw (c.drop_parts_below.ensures, ← c.self.view_is) c.drop_below.ensures.stands
