use Rattle.std.proofs.Common.{◌≡◌, ◌∙◌, [], ◌∷◌, length, sym, ap, subst}
use Rattle.std.specs.List.{AllByRecursion}
use Rattle.mb_base.specs.Limits.{part_count}
use Rattle.mb_steps.proofs.StepPlanBases.{all_append}
use Rattle.mb_fetch.specs.Shelves.{bytes_of}
use Rattle.mb_fetch.specs.Snapshots.{Snapshot, snapshot}
use Rattle.mb_cache.specs.Represents.{joined, snapshots_of}
use Rattle.mb_executor.specs.Keeping.{AreShort}
use Rattle.mb_executor.proofs.Shelved.{as_many}
use Rattle.mb_executor.proofs.keeper.Keeper.keep_snapshot.Goals as goal

pub keep_hashed-requires-clause-whole : goal.keep_hashed-requires-clause-whole
keep_hashed-requires-clause-whole g c = ap length c.in_ok-parts.ensures.parts ∙ as_many (snapshots_of g.V.Service.machine) (joined c.self.inside.service c.self.inside.table)

pub invariant_of-self-2 : goal.invariant_of-self-2
invariant_of-self-2 g c =
    let one = snapshot c.args.pos (bytes_of c.in_ok-parts.parts.items) in
    record {
      clients_are = c.self.invariant.clients_are;
      whole = subst (AllByRecursion (λ (s : Snapshot). length s.parts ≡ part_count)) (sym c.in_ok-keep_hashed.ensures.ok) (all_append (λ s. length s.parts ≡ part_count) c.self.inside.shelf (one ∷ []) c.self.invariant.whole (ap length c.in_ok-parts.ensures.parts ∙ as_many (snapshots_of g.V.Service.machine) (joined c.self.inside.service c.self.inside.table), tt));
      short = subst (AllByRecursion (λ (s : Snapshot). AreShort s.parts)) (sym c.in_ok-keep_hashed.ensures.ok) (all_append (λ s. AreShort s.parts) c.self.inside.shelf (one ∷ []) c.self.invariant.short (c.in_ok-parts.ensures.short, tt));
    }

pub returns-clause-stands : goal.returns-clause-stands
returns-clause-stands g c = rw (← c.self.view_is, ← c.in_ok-parts.ensures.parts) c.in_ok-keep_hashed.ensures.stands
