-- Each limit as its number. The names are those of `mb_base/specs/Limits.antt`, which definitions, proofs and clauses cite; each field has the name of its limit, so
-- who changes a limit at its one place makes a field false.
use Rattle.std.specs.Prelude.{◌≡◌}
use Rattle.mb_base.specs.Limits as limit

pub record LimitsAreThese : Type 0 where
  pub most_faults : limit.most_faults ≡ 3
  pub most_hosts : limit.most_hosts ≡ 7
  pub last_host : limit.last_host ≡ 6
  pub least_interval : limit.least_interval ≡ 4
  pub most_interval : limit.most_interval ≡ 32
  pub most_clients : limit.most_clients ≡ 64
  pub message_limit : limit.message_limit ≡ 4194304
  pub text_limit : limit.text_limit ≡ 1024
  pub batch_limit : limit.batch_limit ≡ 16
  pub batch_bytes_limit : limit.batch_bytes_limit ≡ 2048
  pub ahead_limit : limit.ahead_limit ≡ 4
  pub plan_limit : limit.plan_limit ≡ 64
  pub log_intervals : limit.log_intervals ≡ 6
  pub other_limit : limit.other_limit ≡ 768
  pub entry_limit : limit.entry_limit ≡ 64
  pub entry_bytes_limit : limit.entry_bytes_limit ≡ 800000
  pub service_parts : limit.service_parts ≡ 64
  pub part_count : limit.part_count ≡ 65
  pub table_part : limit.table_part ≡ 64
  pub part_limit : limit.part_limit ≡ 4000000
  pub snapshot_limit : limit.snapshot_limit ≡ 3
  pub part_bytes_limit : limit.part_bytes_limit ≡ 65536
  pub soak_limit : limit.soak_limit ≡ 100000
  pub receive_limit : limit.receive_limit ≡ 1000000
  pub stop_limit : limit.stop_limit ≡ 3
  pub rule_limit : limit.rule_limit ≡ 1000000
