-- What a command does says which end it comes to where no device fails.
use Rattle.std.proofs.Common.{ℕ, Option, Some, None}
use Rattle.std.proofs.lemmas.Option.{IfSome_then}
use Rattle.mb_top.specs.declared.command.Command.{Command}
use Rattle.mb_top.specs.declared.command.Command.TheVariants.{Replay, Soak, Node, KeptNode, Journal, Retrace, Cluster, Audit, Learn}
use Rattle.mb_answer.specs.Devices.{Devices}
use Rattle.mb_answer.proofs.ConfigLaws.{cluster_completes}
use Rattle.mb_serving.proofs.RecordLaws.{retrace_completes}
use Rattle.mb_serving.proofs.WrittenLaws.{retraces_left}
use Rattle.mb_serving.proofs.NodeLaws.{node_completes}
use Rattle.mb_reviewing.proofs.AuditLaws.{audit_completes}
use Rattle.mb_reviewing.proofs.LearnLaws.{learn_completes}
use Rattle.mb_top.specs.Doings.{Does}
use Rattle.mb_top.specs.Ends.{Ends}
use Rattle.mb_top.proofs.Answered.{completes}

pub comes_to_an_end : (o : Option Command) (status : ℕ) (old new : Devices) → Does o status old new → Ends o status old new
comes_to_an_end None status old new does = tt
comes_to_an_end (Some Replay) status old new does = IfSome_then old.source.bytes does.0.told (λ text r. completes text _ _ _ _ _ r)
comes_to_an_end (Some (Soak seed n)) status old new does = tt
comes_to_an_end (Some (Node host n)) status old new does = IfSome_then old.source.bytes does.0.told (λ text r. node_completes text host n _ _ _ _ _ _ _ r)
comes_to_an_end (Some (KeptNode host n)) status old new does = tt
comes_to_an_end (Some (Journal host)) status old new does = tt
comes_to_an_end (Some Retrace) status old new does = IfSome_then old.source.bytes does.0.told (λ text r. (retrace_completes text _ _ _ _ _ r, retraces_left text _ _ _ _ _ r))
comes_to_an_end (Some (Cluster n)) status old new does = IfSome_then old.source.bytes does.told (λ text r. cluster_completes text n _ _ _ r)
comes_to_an_end (Some (Audit host)) status old new does = IfSome_then old.source.bytes does.0.told (λ text r. audit_completes host text _ _ _ _ _ r)
comes_to_an_end (Some Learn) status old new does = IfSome_then old.source.bytes does.0.told (λ text r. learn_completes text _ _ _ _ _ r)
