-- The gate of a host stands behind the last message that was taken of it, or at the floor to which it jumped later; the gate for the host itself, behind the
-- last message that it stamped.
use Rattle.std.specs.Prelude.{◌≡◌, ℕ, ◌+◌, ◌==◌, ◌⊎◌, Bool, false, max, ◌∷◌, ◌++◌, Option, Some, None}
use Rattle.mb_parts.specs.declared.floor.Floor.{Floor}
use Rattle.mb_parts.specs.declared.floor.Phase.{Phase}
use Rattle.mb_parts.specs.declared.floor.Phase.TheVariants as phase
use Rattle.mb_parts.specs.Ordered.{initial_floor}
use Rattle.mb_msg.specs.declared.stamped.Stamped.{Stamped as StampedMessage}
use Rattle.mb_msg.specs.declared.stamped.Stamped.TheVariants as stamped
use Rattle.mb_msg.specs.Stamps.{ui_of, as_stamped, as_message}
use Rattle.mb_model.specs.Histories.{Entry, Accepted, Stamped, Jumped, History, gate}
use Rattle.mb_promise.specs.KeepsTables.{NoneIs}

-- It was accepted or stamped.
abbrev pub IsMessage : Entry → StampedMessage → Type 0
IsMessage e m = (e ≡ Accepted (as_message m)) ⊎ (e ≡ Stamped m)

abbrev pub is_of : ℕ → Option StampedMessage → Bool
is_of h None = false
is_of h (Some m) = (ui_of m).host == h

-- a stamped message of this host, or a jump of its gate
abbrev pub moves_gate : ℕ → Entry → Bool
moves_gate h (Accepted m) = is_of h (as_stamped m)
moves_gate h (Stamped m) = (ui_of m).host == h
moves_gate h (Jumped g floor) = g == h
moves_gate h e = false

-- The gate is in this view and phase, its last and its greatest position are these, and so is that of the last CHECKPOINT.
pub record StandsAt (g : Floor) (view : ℕ) (in_phase : Phase) (last top point : ℕ) : Type 0 where
  pub view_is : g.view ≡ view
  pub phase_is : g.phase ≡ in_phase
  pub last_is : g.last ≡ last
  pub top_is : g.top ≡ top
  pub point_is : g.point ≡ point

-- Where a gate stood at `f`, it stands here behind this message.
abbrev pub MovesTo : Floor → StampedMessage → Floor → Type 0
MovesTo f (stamped.Prepare m) g = StandsAt g m.view phase.Open m.pos (max f.top m.pos) f.point
MovesTo f (stamped.Commit m) g = StandsAt g m.view phase.Open m.pos (max f.top m.pos) f.point
MovesTo f (stamped.Checkpoint m) g = StandsAt g f.view f.phase f.last f.top m.pos
MovesTo f (stamped.ViewChange m) g = StandsAt g m.view phase.Changing 0 f.top f.point
MovesTo f (stamped.NewView m) g = StandsAt g m.view phase.Entered f.last f.top f.point
MovesTo f (stamped.Enter m) g = StandsAt g m.view phase.Entered f.last f.top f.point
MovesTo f (stamped.Open m) g = StandsAt g m.evidence.view phase.Open m.evidence.end (max f.top m.evidence.end) f.point
MovesTo f (stamped.Join m) g = StandsAt g m.view phase.Open m.stable.pos (max f.top m.stable.pos) f.point

-- Behind the last message of a host its gate has the counter of this message, and has moved with it.
abbrev pub KeepsGates : History → Type 0
KeepsGates d = (later before : History) (e : Entry) (m : StampedMessage) → d ≡ later ++ e ∷ before → IsMessage e m → NoneIs (moves_gate (ui_of m).host) later
    → ((gate d (ui_of m).host).counter ≡ (ui_of m).counter) × MovesTo (gate before (ui_of m).host) m (gate d (ui_of m).host)

-- Each message of a host was the next one, as its gate stood: none was taken twice, and none was passed over.
abbrev pub TakesInTurn : History → Type 0
TakesInTurn d = (later before : History) (e : Entry) (m : StampedMessage) → d ≡ later ++ e ∷ before → IsMessage e m
    → (ui_of m).counter ≡ (gate before (ui_of m).host).counter + 1

-- Behind a jump it stands at the floor of the jump.
abbrev pub KeepsJumps : History → Type 0
KeepsJumps d = (later before : History) (h : ℕ) (floor : Floor) → d ≡ later ++ Jumped h floor ∷ before → NoneIs (moves_gate h) later → gate d h ≡ floor

-- Before any message of the host and any jump, it stands at the start.
abbrev pub StartsGates : History → Type 0
StartsGates d = (h : ℕ) → NoneIs (moves_gate h) d → gate d h ≡ initial_floor

pub record GatesStand (d : History) : Type 0 where
  pub turns : TakesInTurn d
  pub keeps : KeepsGates d
  pub jumps : KeepsJumps d
  pub starts : StartsGates d
