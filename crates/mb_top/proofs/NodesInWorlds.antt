-- The hosts of a config's system in the worlds of schedules with its shape and secret.
use Rattle.std.proofs.Common.{◌≡◌, ℕ, List, [], ◌∷◌, subst}
use Rattle.mb_base.specs.Shapes.{Bytes}
use Rattle.mb_journal.specs.Headers.{header_text}
use Rattle.mb_kv.specs.Pairs.{Pairs}
use Rattle.mb_kv.specs.Machine.{kv_machine}
use Rattle.mb_cache.specs.Represents.{machine_of, snapshots_of}
use Rattle.mb_model.specs.Histories.{Identity}
use Rattle.mb_restart.specs.Runs.{Run, AreRuns}
use Rattle.mb_restart.proofs.InWorlds.{hosts_are_in_worlds}
use Rattle.mb_top.specs.Systems.{system_of}
use Rattle.mb_top.specs.Reruns.{HostsAreOne, NodesAreInWorlds}

pub hosts_are_one : HostsAreOne
hosts_are_one c s h shape secret =
    λ i. record { shape = shape i; host = h; secret = secret i; machine = machine_of kv_machine; snapshots = snapshots_of kv_machine; initial = [] }

pub nodes_are_in_worlds : NodesAreInWorlds
nodes_are_in_worlds c s h k made last runs shape secret correct are came_is =
    hosts_are_in_worlds Pairs (system_of s) h k (header_text c h) made last runs correct
    (subst (λ (me : Identity Pairs). AreRuns me (header_text c h) made (last ∷ runs)) (hosts_are_one c s h shape secret) are) came_is
