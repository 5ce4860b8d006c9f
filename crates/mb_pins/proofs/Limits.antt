-- Each limit is its number: both sides compute to the same.
use Rattle.std.proofs.Common.{refl}
use Rattle.mb_pins.specs.Limits.{LimitsAreThese}

pub limits_are_these : LimitsAreThese
limits_are_these = record {
  most_faults = refl;
  most_hosts = refl;
  last_host = refl;
  least_interval = refl;
  most_interval = refl;
  most_clients = refl;
  message_limit = refl;
  text_limit = refl;
  batch_limit = refl;
  batch_bytes_limit = refl;
  ahead_limit = refl;
  plan_limit = refl;
  log_intervals = refl;
  other_limit = refl;
  entry_limit = refl;
  entry_bytes_limit = refl;
  service_parts = refl;
  part_count = refl;
  table_part = refl;
  part_limit = refl;
  snapshot_limit = refl;
  part_bytes_limit = refl;
  soak_limit = refl;
  receive_limit = refl;
  stop_limit = refl;
  rule_limit = refl;
}
