use Rattle.std.proofs.Common.{◌≡◌, subst}
use Rattle.mb_executor.specs.Keeping.{Keeping, AreShort}
use Rattle.mb_executor.specs.Sent.{kept_at}
use Rattle.mb_executor.proofs.Shelved.{kept_within, kept_short}
use Rattle.mb_executor.proofs.keeper.Keeper.state_message.Goals as goal

pub digests_of-requires : goal.digests_of-requires
digests_of-requires g c = kept_within c.self.inside.shelf c.args.pos c.self.invariant.whole

pub fitting_parts-requires : goal.fitting_parts-requires
fitting_parts-requires g c = kept_within c.self.inside.shelf c.args.pos c.self.invariant.whole

pub returns-clause-short : goal.returns-clause-short
returns-clause-short g c = subst (λ (k : Keeping _). AreShort (kept_at k.snapshots c.args.pos)) c.self.view_is (kept_short c.self.inside.shelf c.args.pos c.self.invariant.short)
