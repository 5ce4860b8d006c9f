-- Which statuses come where no device fails that a command uses: one that is given what it asks for comes to one of its ends, unless memory runs out.
use Rattle.std.specs.Prelude.{◌≡◌, ℕ, ◌⊎◌, ◌≤◌, Option, Some, None, IfSome}
use Rattle.mb_edge.specs.Faults.{Rose}
use Rattle.mb_answer.specs.Devices.{Devices}
use Rattle.mb_answer.specs.Clusters.{IsRun}
use Rattle.mb_serving.specs.Records.{IsRetraced}
use Rattle.mb_serving.specs.Written.{RetracesLeft}
use Rattle.mb_serving.specs.Nodes.{IsServed}
use Rattle.mb_reviewing.specs.Audits.{IsAudited}
use Rattle.mb_reviewing.specs.Learning.{IsLearntFrom}
use Rattle.mb_top.specs.declared.command.Command.{Command}
use Rattle.mb_top.specs.declared.command.Command.TheVariants.{Replay, Soak, Node, KeptNode, Journal, Retrace, Cluster, Audit, Learn}
use Rattle.mb_top.specs.Outcomes.{IsComplete}

-- The source or the sink failed.
abbrev pub EndFails : Devices → Devices → Type 0
EndFails old new = Rose old.source.faults new.source.faults ⊎ Rose old.sink.faults new.sink.faults

-- With the text that the source tells. A record that was cut off anywhere behind its first lines is answered by `same` and how many whole pairs of lines are
-- in it. What a journal's node comes to, and the making of a journal, are said with what they do at the disk; a soak, and words that ask for nothing, read nothing.
abbrev pub Ends : Option Command → ℕ → Devices → Devices → Type 0
Ends (Some Replay) status old new = IfSome old.source.bytes (λ text. IsComplete text status (EndFails old new))
Ends (Some (Node host n)) status old new = IfSome old.source.bytes (λ text. IsServed text host status (Rose old.source.faults new.source.faults ⊎ (Rose old.sink.faults new.sink.faults ⊎ Rose old.link.faults new.link.faults)))
Ends (Some Retrace) status old new = IfSome old.source.bytes (λ text. IsRetraced text status (EndFails old new) × RetracesLeft text status (EndFails old new) old.sink new.sink)
Ends (Some (Cluster n)) status old new = IfSome old.source.bytes (λ text. IsRun text status (Rose old.source.faults new.source.faults ⊎ (Rose old.sink.faults new.sink.faults ⊎ (Rose old.link.faults new.link.faults
    ⊎ (Rose old.spawner.faults new.spawner.faults ⊎ Rose old.spawner.bad_ends new.spawner.bad_ends)))))
Ends (Some (Audit host)) status old new = IfSome old.source.bytes (λ text. IsAudited text host status (EndFails old new))
Ends (Some Learn) status old new = IfSome old.source.bytes (λ text. IsLearntFrom text status (EndFails old new))
Ends (Some (Soak seed n)) status old new = Unit {0}
Ends (Some (KeptNode host n)) status old new = Unit {0}
Ends (Some (Journal host)) status old new = Unit {0}
Ends None status old new = Unit {0}
