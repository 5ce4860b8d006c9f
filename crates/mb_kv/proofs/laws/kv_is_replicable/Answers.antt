use Rattle.std.proofs.Common.{[]}
use Rattle.mb_kv.specs.Laws.StateLaws.{no_keys_is_state}
use Rattle.mb_kv.proofs.laws.kv_is_replicable.Goals as goal

pub returns : goal.returns
returns c = c.services_are_replicable.ensures [] no_keys_is_state
