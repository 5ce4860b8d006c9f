use Rattle.mb_sched.proofs.PrintedConfigs.{config_again}
use Rattle.mb_sched.proofs.configs.printed_configs_are_read.Goals as goal

pub returns : goal.returns
returns c = config_again
