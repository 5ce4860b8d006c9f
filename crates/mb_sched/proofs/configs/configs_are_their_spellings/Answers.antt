use Rattle.mb_sched.proofs.ConfigSpellings.{config_spelled, config_read}
use Rattle.mb_sched.proofs.configs.configs_are_their_spellings.Goals as goal

pub returns-clause-spelled : goal.returns-clause-spelled
returns-clause-spelled c = config_spelled

pub returns-clause-read : goal.returns-clause-read
returns-clause-read c = config_read
