use Rattle.std.proofs.Common.{◌≡◌, length}
use Rattle.mb_model.specs.Clients.{no_asker}
use Rattle.mb_schedule.specs.declared.schedule.Schedule.{Schedule}
use Rattle.mb_members.specs.Askers.{AskedWithin, AreOfShape, RepresentsAskers}
use Rattle.mb_members.proofs.clients.askers.Given as goal

abbrev pub invariant-loop-client : goal.invariant-loop-client
invariant-loop-client l = record {
  stands : (s : Schedule) → s.shape ≡ l.shape → s.secret ≡ l.secret → RepresentsAskers s l.all.items (λ c. no_asker);
  within : AskedWithin 0 l.all.items;
  shapes : AreOfShape l.shape l.all.items;
  len : length l.all.items ≡ l.client;
}
