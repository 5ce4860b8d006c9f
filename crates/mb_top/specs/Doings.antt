-- What each command does at the devices.
use Rattle.std.specs.Prelude.{◌≡◌, ℕ, ◌+◌, ◌≤◌, ◌⊎◌, List, [], ◌∷◌, Option, Some, None, IfSome, Contains}
use Rattle.std.specs.Io.KnownBytes.{IsAtEnd}
use Rattle.mb_base.specs.Limits.{soak_limit}
use Rattle.mb_base.specs.Shapes.{Bytes}
use Rattle.mb_edge.specs.Faults.{Rose}
use Rattle.mb_schedule.specs.Limits.{max_text}
use Rattle.mb_sched.specs.Configs.{max_config}
use Rattle.mb_sched.specs.Records.{max_record}
use Rattle.mb_top.specs.declared.command.Command.{Command}
use Rattle.mb_top.specs.declared.command.Command.TheVariants.{Replay, Soak, Node, KeptNode, Journal, Retrace, Cluster, Audit, Learn}
use Rattle.mb_answer.specs.Clusters.{StayIdle, Clusters, cluster_statuses}
use Rattle.mb_edge.specs.Seen.{Device, LinkState, DiskState}
use Rattle.mb_answer.specs.Devices.{Devices, Says}
use Rattle.mb_top.specs.Responses.{Replays, Soaks}
use Rattle.mb_serving.specs.Records.{Retraces, retrace_statuses}
use Rattle.mb_serving.specs.Nodes.{Nodes, node_statuses}
use Rattle.mb_serving.specs.Journals.{KeptNodes, MakesBy, IsServedKept, kept_node_statuses, making_statuses}
use Rattle.mb_reviewing.specs.Audits.{Audits, audit_statuses, audit_findings}
use Rattle.mb_reviewing.specs.Learning.{LearnsFrom, learn_statuses, learn_findings}
use Rattle.mb_answer.specs.Texts.{usage_text}

-- the most bytes that are taken from the source: those of the longest text and one more
abbrev pub most_read : Option Command → ℕ
most_read None = 0
most_read (Some Replay) = max_text + 1
most_read (Some (Soak seed n)) = 0
most_read (Some (Node host n)) = max_config + 1
most_read (Some (KeptNode host n)) = max_config + 1
most_read (Some (Journal host)) = max_config + 1
most_read (Some Retrace) = max_record + 1
most_read (Some (Cluster n)) = max_config + 1
most_read (Some (Audit host)) = max_record + 1
most_read (Some Learn) = max_record + 1

-- the statuses of the word `replay`
abbrev pub replay_statuses : List ℕ
replay_statuses = 0 ∷ 2 ∷ 3 ∷ 4 ∷ 5 ∷ 6 ∷ []

-- The statuses of each command: 0 done, 1 no command or no such host, 2 a bad line or text, 3 something forged or two messages at one counter, 4 memory,
-- 5 the source, 6 the sink, 7 the link, 8 the spawner, 9 a budget, 10 another entry or another state, 12 a message against the rules, 13 a missing counter,
-- 14 the disk, 15 a full journal, 16 a file that is there, 17 a file that is no journal, 18 a bad end.
abbrev pub statuses : Option Command → List ℕ
statuses None = 1 ∷ 4 ∷ 6 ∷ []
statuses (Some Replay) = replay_statuses
statuses (Some (Soak seed n)) = 0 ∷ 4 ∷ 6 ∷ []
statuses (Some (Node host n)) = node_statuses
statuses (Some (KeptNode host n)) = kept_node_statuses
statuses (Some (Journal host)) = making_statuses
statuses (Some Retrace) = retrace_statuses
statuses (Some (Cluster n)) = cluster_statuses
statuses (Some (Audit host)) = audit_statuses
statuses (Some Learn) = learn_statuses

-- This is done with the text that the source tells. At status 0 the source was read to its end.
pub record DoesWith (does : Bytes → Type 0) (status : ℕ) (old new : Device) : Type 0 where
  pub told : IfSome old.bytes does
  pub ended : status ≡ 0 → IsAtEnd new.bytes

-- This is done with the text of a record. At a status that tells what was found in it, the source was read to its end.
pub record DoesWithRecord (does : Bytes → Type 0) (findings : List ℕ) (status : ℕ) (old new : Device) : Type 0 where
  pub told : IfSome old.bytes does
  pub ended : Contains findings status → IsAtEnd new.bytes

-- what the words of a command do, or words that are none
abbrev pub Does : Option Command → ℕ → Devices → Devices → Type 0
Does None status old new = Says 1 usage_text status old.sink new.sink × StayIdle old new
Does (Some Replay) status old new = DoesWith (λ text. Replays text status old.source new.source old.sink new.sink) status old.source new.source × StayIdle old new
Does (Some (Soak seed n)) status old new = Soaks seed n status old.sink new.sink × ((n ≤ soak_limit) × StayIdle old new)
Does (Some (Node host n)) status old new = DoesWith (λ text. Nodes text host n status old.source new.source old.sink new.sink old.link new.link) status old.source new.source × (old.spawner ≡ new.spawner)
Does (Some (KeptNode host n)) status old new = (status ≡ 0 → IsAtEnd new.source.bytes) × (old.spawner ≡ new.spawner)
Does (Some (Journal host)) status old new = (status ≡ 0 → IsAtEnd new.source.bytes) × StayIdle old new
Does (Some Retrace) status old new = DoesWith (λ text. Retraces text status old.source new.source old.sink new.sink) status old.source new.source × StayIdle old new
Does (Some (Cluster n)) status old new = DoesWith (λ text. Clusters text n status old new) status old.source new.source
Does (Some (Audit host)) status old new = DoesWithRecord (λ text. Audits text host status old.source new.source old.sink new.sink) audit_findings status old.source new.source × StayIdle old new
Does (Some Learn) status old new = DoesWithRecord (λ text. LearnsFrom text status old.source new.source old.sink new.sink) learn_findings status old.source new.source × StayIdle old new

-- What each command does at the disk, with the text that the source tells. Only a node with a journal and the making of one use it.
abbrev pub DoesAtDisk : Option Command → ℕ → Device → Device → Device → Device → LinkState → LinkState → DiskState → DiskState → Type 0
DoesAtDisk (Some (KeptNode host n)) status source source' sink sink' link link' disk disk' = IfSome source.bytes (λ text. KeptNodes text host n status source source' sink sink' link link' disk disk'
    × IsServedKept text host status disk (Rose source.faults source'.faults ⊎ (Rose sink.faults sink'.faults ⊎ (Rose link.faults link'.faults ⊎ Rose disk.faults disk'.faults))))
DoesAtDisk (Some (Journal host)) status source source' sink sink' link link' disk disk' = IfSome source.bytes (λ text. MakesBy text host status source source' sink sink' disk disk')
DoesAtDisk None status source source' sink sink' link link' disk disk' = disk ≡ disk'
DoesAtDisk (Some Replay) status source source' sink sink' link link' disk disk' = disk ≡ disk'
DoesAtDisk (Some (Soak seed n)) status source source' sink sink' link link' disk disk' = disk ≡ disk'
DoesAtDisk (Some (Node host n)) status source source' sink sink' link link' disk disk' = disk ≡ disk'
DoesAtDisk (Some Retrace) status source source' sink sink' link link' disk disk' = disk ≡ disk'
DoesAtDisk (Some (Cluster n)) status source source' sink sink' link link' disk disk' = disk ≡ disk'
DoesAtDisk (Some (Audit host)) status source source' sink sink' link link' disk disk' = disk ≡ disk'
DoesAtDisk (Some Learn) status source source' sink sink' link link' disk disk' = disk ≡ disk'
