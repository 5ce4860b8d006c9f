use Rattle.std.proofs.Common.{◌≡◌, ◌+◌, [], length, drop}
use Rattle.std.specs.Vec.Iter.{into_iter_items, into_iter_len}
use Rattle.mb_world_model.specs.World.{System}
use Rattle.mb_members.specs.Hosts.{IsSystem, AreServices}
use Rattle.mb_members.specs.Members.{AllRun, AreOf, RepresentsMembers, StampedWithin}
use Rattle.mb_members.proofs.members.new_members.Given as goal

abbrev pub invariant-loop-service : goal.invariant-loop-service
invariant-loop-service g l = record {
  stands : (y : System _) → IsSystem g.V.Service.machine y → y.schedule.shape ≡ l.shape → y.schedule.secret ≡ l.secret
      → y.schedule.faulty_hosts ≡ l.faulty_hosts → AreServices y.initial l.fn.services.items → RepresentsMembers y l.all.items (λ h. []) (λ h. []);
  runs : AllRun l.all.items;
  within : StampedWithin 0 l.all.items;
  of : AreOf l.shape l.all.items;
  len : length l.all.items ≡ l.host;
  left : into_iter_items l.service-iterator ≡ drop l.host l.fn.services.items;
  count : l.host + length (into_iter_items l.service-iterator) ≡ length l.fn.services.items;
  turns : into_iter_len l.service-iterator ≡ length (into_iter_items l.service-iterator);
}
