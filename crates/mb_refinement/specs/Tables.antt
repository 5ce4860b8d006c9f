-- All that a host keeps beside its keys: each a table that answers some searches in its history.
use Rattle.std.specs.Prelude.{ℕ, List, Option}
use Rattle.mb_parts.specs.declared.certificates.StableCert.{StableCert}
use Rattle.mb_model.specs.Service.{Served}
use Rattle.mb_gate.specs.declared.gate.Gate.{Gate}
use Rattle.mb_log.specs.Logs.{Log}
use Rattle.mb_normal.specs.declared.normal.Normal.{Normal}
use Rattle.mb_change.specs.Tables.{Table as ChangeTable}
use Rattle.mb_fetch.specs.Snapshots.{Snapshot}
use Rattle.mb_fetch.specs.Fetched.{Fetched}

pub record Tables (S : Type 0) : Type 0 where
  pub counter : ℕ  -- of the USIG
  pub gates : List Gate  -- by host; that of this host itself follows what it stamps
  pub log : Log  -- the own log
  pub normal : Normal  -- slots, votes, pending requests, kept CHECKPOINTs
  pub change : ChangeTable  -- all of view changes
  pub stable : StableCert  -- the certificate of the stable position
  pub exec : ℕ  -- the last executed position
  pub service : Served S  -- the service with its client table
  pub shelf : List Snapshot  -- the snapshots that are kept for others
  pub parts : Option Fetched  -- the parts of the stable state that were fetched, where any were
  pub asked : ℕ  -- the host that is asked for state
