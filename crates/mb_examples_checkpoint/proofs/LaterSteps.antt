-- What is written of each step behind the first stable position is what the host answers, computed from the history before it.
use Rattle.std.proofs.Common.{◌≡◌, map, refl}
use Rattle.mb_model.specs.HostStep.{transition}
use Rattle.mb_model.proofs.StepOnLiterals.{host_on_literals}
use Rattle.mb_kv.specs.Operations.{operation_at, operation_of}
use Rattle.mb_kv.specs.Snapshots.{bucket_of, part_of}
use Rattle.mb_examples_course.proofs.Deeds.{begun, committed, executed, exchanged, round}
use Rattle.mb_examples_checkpoint.proofs.System.{answer, written}

pub answers_5 : map answer (round 5) ≡ map written (round 5)
unfolding host_on_literals transition operation_at operation_of bucket_of part_of
answers_5 = refl

pub answers_6 : map answer (round 6) ≡ map written (round 6)
unfolding host_on_literals transition operation_at operation_of bucket_of part_of
answers_6 = refl

pub answers_7 : map answer (round 7) ≡ map written (round 7)
unfolding host_on_literals transition operation_at operation_of bucket_of part_of
answers_7 = refl

pub begun_8 : map answer (begun 8) ≡ map written (begun 8)
unfolding host_on_literals transition operation_at operation_of bucket_of part_of
begun_8 = refl

pub committed_8 : map answer (committed 8) ≡ map written (committed 8)
unfolding host_on_literals transition operation_at operation_of bucket_of part_of
committed_8 = refl

pub executed_8 : map answer (executed 8) ≡ map written (executed 8)
unfolding host_on_literals transition operation_at operation_of bucket_of part_of
executed_8 = refl

pub exchanged_8 : map answer (exchanged 8) ≡ map written (exchanged 8)
unfolding host_on_literals transition operation_at operation_of bucket_of part_of
exchanged_8 = refl

pub answers_9 : map answer (round 9) ≡ map written (round 9)
unfolding host_on_literals transition operation_at operation_of bucket_of part_of
answers_9 = refl
