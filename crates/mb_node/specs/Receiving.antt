-- What one receive gives behind others.
use Rattle.std.specs.Prelude.{◌≡◌, ◌≤◌, [], ◌∷◌, length, Option, Result, Ok, Err}
use Rattle.std.specs.List.{AllByRecursion}
use Rattle.mb_base.specs.Shapes.{Bytes}
use Rattle.mb_base.specs.declared.shape.Shape.{Shape}
use Rattle.mb_frag.specs.Stages.{IsSized}
use Rattle.mb_edge.specs.declared.outside.Failed.{Failed}
use Rattle.mb_edge.specs.Told.{with_more}
use Rattle.mb_node.specs.declared.receiving.Arrival.{Arrival}
use Rattle.mb_node.specs.declared.receiving.Arrival.TheVariants as arrival
use Rattle.mb_node.specs.declared.receiving.Receiver.{Receiver}
use Rattle.mb_node.specs.Receives.{Receives, ReceiveFits}
use Rattle.mb_node.specs.Inboxes.{HasReceived, arrival_at}

-- There was one receive more, and this is what it gives behind those before it.
pub record GivesOne (old now : Receiver) (arrival : Arrival) (told_before told_now : Option Receives) : Type 0 where
  pub one : Option Bytes
  pub told : told_now ≡ with_more told_before (one ∷ [])
  pub of_bytes : ReceiveFits one
  pub is : (s : Shape) (before : Receives) → HasReceived s before old.inbox → arrival ≡ arrival_at s before one
  pub has : (s : Shape) (before : Receives) → HasReceived s before old.inbox → HasReceived s (one ∷ before) now.inbox

-- There was one receive more, or none.
pub record LosesOne (told_before told_now : Option Receives) : Type 0 where
  pub more : Receives
  pub told : told_now ≡ with_more told_before more
  pub few : length more ≤ 1
  pub of_bytes : AllByRecursion ReceiveFits more

abbrev pub Gives : Receiver → Receiver → Result Arrival Failed → Option Receives → Option Receives → Type 0
Gives old now (Ok arrival) told_before told_now = GivesOne old now arrival told_before told_now
Gives old now (Err e) told_before told_now = LosesOne told_before told_now

-- a whole message has 1 to 4,194,304 bytes
abbrev pub ArrivalFits : Arrival → Type 0
ArrivalFits (arrival.Message message) = IsSized message
ArrivalFits a = Unit {0}
