-- What a log's fields are.
use Rattle.std.specs.Prelude.{◌≡◌, ◌+◌, ◌^◌, ◌<◌, ◌≤◌, not, count_by}
use Rattle.std.specs.List.{AllByRecursion}
use Rattle.mb_base.specs.Limits.{other_limit}
use Rattle.mb_msg.specs.Fits.{FitsStamped}
use Rattle.mb_model.specs.UsableLogs.{normal_limit}
use Rattle.mb_model.specs.OwnLog.{is_normal}
use Rattle.mb_log.specs.declared.log.OwnLog.TheInside.{Inside}
use Rattle.mb_log.specs.Logs.{Log, floor_counter}

abbrev pub seen : Inside → Log
seen l = record { shape = l.shape; host = l.host; floor = l.floor; entries = l.entries.items; longest = l.longest }

pub record IsLog (l : Inside) : Type 0 where
  pub capacity : l.entries.capacity ≡ normal_limit l.shape + other_limit
  pub small : l.entries.capacity < 2 ^ 32
  pub start : l.start ≡ floor_counter l.host l.floor
  pub normal : l.normal ≡ count_by is_normal l.entries.items
  pub within : count_by is_normal l.entries.items ≤ normal_limit l.shape
  pub others_within : count_by (λ m. not (is_normal m)) l.entries.items ≤ other_limit
  pub fit : AllByRecursion (FitsStamped l.shape) l.entries.items
