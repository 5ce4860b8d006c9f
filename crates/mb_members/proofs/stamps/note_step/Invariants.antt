use Rattle.std.proofs.Common.{◌≡◌, ◌++◌, ℕ, List, take}
use Rattle.std.specs.Prelude.{fold, reverse, filter_map}
use Rattle.mb_base.specs.Shapes.{Bytes}
use Rattle.mb_parts.specs.declared.request.Request.{Request}
use Rattle.mb_msg.specs.declared.message.Message.{Message as MessageData}
use Rattle.mb_model.specs.Sending.{Letter}
use Rattle.mb_world_model.specs.World.{update, with_tagged}
use Rattle.mb_forgery.specs.Ledgers.{Keeps}
use Rattle.mb_members.specs.Stamps.{IsSent, bare_in}
use Rattle.mb_members.proofs.stamps.note_step.Given as goal

abbrev pub invariant-loop-message : goal.invariant-loop-message
invariant-loop-message l = record {
  keeps : (stamps : ℕ → List Bytes) (asked : List Request) (tagged : List MessageData) (letters : List Letter) → Keeps l.initial.ledger.shape l.initial.ledger stamps asked tagged → IsSent l.initial.ledger.shape letters l.sent
      → Keeps l.initial.ledger.shape l.ledger (update stamps l.host (reverse (filter_map bare_in (take l.message-index letters)) ++ stamps l.host)) asked (fold with_tagged tagged (take l.message-index letters));
  shape : l.ledger.shape ≡ l.initial.ledger.shape;
}
