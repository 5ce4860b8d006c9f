use Rattle.std.proofs.Common.{◌≡◌, ℕ, ◌<◌, length, Some}
use Rattle.std.specs.List.{slice_get}
use Rattle.mb_members.proofs.clients.pens.Given as goal

abbrev pub invariant-loop-client : goal.invariant-loop-client
invariant-loop-client l = record {
  pens : (c : ℕ) → c < l.client → slice_get l.all.items c ≡ Some (record { client = c; secret = l.secret });
  len : length l.all.items ≡ l.client;
}
