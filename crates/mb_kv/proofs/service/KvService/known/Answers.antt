use Rattle.std.proofs.Common.{subst}
use Rattle.mb_kv.specs.States.{IsState}
use Rattle.mb_kv.proofs.KeptParts.{kept_is_state}
use Rattle.mb_kv.proofs.service.KvService.known.Goals as goal

pub returns : goal.returns
returns c = subst IsState c.self.view_is (kept_is_state c.self.inside.parts c.self.inside.count c.self.invariant)
