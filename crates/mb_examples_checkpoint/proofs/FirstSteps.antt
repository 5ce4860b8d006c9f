-- What is written of each step up to the first stable position is what the host answers, computed from the history before it.
use Rattle.std.proofs.Common.{◌≡◌, map, refl}
use Rattle.mb_model.specs.HostStep.{transition}
use Rattle.mb_model.proofs.StepOnLiterals.{host_on_literals}
use Rattle.mb_kv.specs.Operations.{operation_at, operation_of}
use Rattle.mb_kv.specs.Snapshots.{bucket_of, part_of}
use Rattle.mb_examples_course.proofs.Deeds.{begun, committed, executed, exchanged, round}
use Rattle.mb_examples_checkpoint.proofs.System.{answer, written}

pub answers_1 : map answer (round 1) ≡ map written (round 1)
unfolding host_on_literals transition operation_at operation_of bucket_of part_of
answers_1 = refl

pub answers_2 : map answer (round 2) ≡ map written (round 2)
unfolding host_on_literals transition operation_at operation_of bucket_of part_of
answers_2 = refl

pub answers_3 : map answer (round 3) ≡ map written (round 3)
unfolding host_on_literals transition operation_at operation_of bucket_of part_of
answers_3 = refl

pub begun_4 : map answer (begun 4) ≡ map written (begun 4)
unfolding host_on_literals transition operation_at operation_of bucket_of part_of
begun_4 = refl

pub committed_4 : map answer (committed 4) ≡ map written (committed 4)
unfolding host_on_literals transition operation_at operation_of bucket_of part_of
committed_4 = refl

pub executed_4 : map answer (executed 4) ≡ map written (executed 4)
unfolding host_on_literals transition operation_at operation_of bucket_of part_of
executed_4 = refl

pub exchanged_4 : map answer (exchanged 4) ≡ map written (exchanged 4)
unfolding host_on_literals transition operation_at operation_of bucket_of part_of
exchanged_4 = refl
