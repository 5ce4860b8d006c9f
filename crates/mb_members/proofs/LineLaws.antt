-- The line of a client: the last result that it accepted.
use Rattle.std.proofs.Common.{◌≡◌, ℕ, List, [], ◌∷◌, Option, Some, None, refl, ap}
use Rattle.std.specs.Option.{option_map}
use Rattle.mb_base.specs.Shapes.{Bytes}
use Rattle.mb_msg.specs.declared.normal.Reply.{Reply}
use Rattle.mb_client.specs.Represents.{newest, result_of}
use Rattle.mb_schedule.specs.declared.report.LastResult.{LastResult}
use Rattle.mb_members.specs.Lines.{last_result}
use Rattle.mb_members.proofs.ListLaws.{some_is}

pub none_accepted : (replies : List Reply) → None ≡ option_map result_of (newest replies) → None ≡ last_result replies
none_accepted [] e = refl
none_accepted (r ∷ replies) e = absurd cc

pub last_accepted : (replies : List Reply) (seq pos : ℕ) (answer : Bytes) → Some (seq, pos, answer) ≡ option_map result_of (newest replies) → Some (record { seq = seq; pos = pos; result = answer }) ≡ last_result replies
last_accepted [] seq pos answer e = absurd cc
last_accepted (r ∷ replies) seq pos answer e =
    let line : ℕ × ℕ × Bytes → Option LastResult = λ t. Some (record { seq = t.0; pos = t.1; result = t.2 }) in
    ap line (some_is (seq, pos, answer) (result_of r) e)
