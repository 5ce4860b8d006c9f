use Rattle.mb_restart.proofs.Orders.{one_write_loses, no_sync_loses, no_second_sync_loses}
use Rattle.mb_restart.proofs.other_orders_lose_events.Goals as goal

pub returns : goal.returns
returns c = record { one_write = one_write_loses; no_sync = no_sync_loses; no_second_sync = no_second_sync_loses }
