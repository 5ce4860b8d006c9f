-- What comes of a run before its nodes are told to end.
use Rattle.std.specs.Prelude.{◌≡◌, Option, Result, Ok, Err}
use Rattle.mb_base.specs.Shapes.{Bytes}
use Rattle.mb_sched.specs.declared.configs.Config.{Config}
use Rattle.mb_cluster.specs.declared.stop.ClusterStop.{ClusterStop}
use Rattle.mb_cluster.specs.declared.stop.ClusterStop.TheVariants.{ChildEnded, Budget, LinkFault, SpawnFault, SinkFault, NoMemory}
use Rattle.mb_cluster.specs.declared.asking.Program.{Program}
use Rattle.mb_cluster.specs.Hearing.{no_hearing}
use Rattle.mb_cluster.specs.Runs.{Wire}
use Rattle.mb_cluster.specs.Steps.{AsksThese, SpendsOn, Breaks, CutsOff}

-- nothing was asked
pub record PlaysNone (before after : Program) (old new : Wire) (written written' : Option Bytes) : Type 0 where
  pub received : new.received ≡ old.received
  pub sent : new.sent ≡ old.sent
  pub number : after.post.number ≡ before.post.number
  pub kept : written' ≡ written

abbrev pub Plays : Config → Result (Unit {0}) ClusterStop → Program → Program → Wire → Wire → Option Bytes → Option Bytes → Type 0
Plays c (Ok done) before after old new written written' = AsksThese c.shape c.secret c.ops (no_hearing c.shape) before after old new written written'
Plays c (Err (Budget seq matching)) before after old new written written' = SpendsOn c.shape c.secret c.ops seq matching (no_hearing c.shape) before after old new written written'
Plays c (Err (ChildEnded host status)) before after old new written written' = ⊥
Plays c (Err LinkFault) before after old new written written' = Breaks c.shape c.secret c.ops (no_hearing c.shape) before after old new written written'
Plays c (Err SpawnFault) before after old new written written' = PlaysNone before after old new written written'
Plays c (Err SinkFault) before after old new written written' = CutsOff c.shape c.secret c.ops (no_hearing c.shape) before after old new written written'
Plays c (Err NoMemory) before after old new written written' = CutsOff c.shape c.secret c.ops (no_hearing c.shape) before after old new written written'
