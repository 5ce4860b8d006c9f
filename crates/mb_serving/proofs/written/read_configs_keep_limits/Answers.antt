use Rattle.mb_serving.proofs.ReadConfigs.{settings_fit}
use Rattle.mb_serving.proofs.written.read_configs_keep_limits.Goals as goal

pub returns : goal.returns
returns c = settings_fit
