-- Which floors a CHECKPOINT tells: for each host, where its gate stood behind its last CHECKPOINT under the position, or behind its last jump.
use Rattle.std.specs.Prelude.{◌≡◌, ℕ, ◌≤◌, ◌<◌, Bool, true, false, ◌∷◌, ◌++◌, ◌==◌, Some, slice_get}
use Rattle.mb_base.specs.Shapes.{host_count}
use Rattle.mb_parts.specs.declared.floor.Floor.{Floor}
use Rattle.mb_msg.specs.declared.message.Message.TheVariants as message
use Rattle.mb_msg.specs.declared.message.Body.TheVariants.{Whole}
use Rattle.mb_msg.specs.declared.normal.Checkpoint.{Checkpoint}
use Rattle.mb_msg.specs.declared.normal.Floors.{Floors}
use Rattle.mb_msg.specs.declared.stamped.Stamped.TheVariants as stamped
use Rattle.mb_model.specs.Histories.{Entry, Accepted, Stamped, Jumped, History, Identity, gate}
use Rattle.mb_promise.specs.KeepsTables.{NoneIs}

-- a CHECKPOINT of this host, or a jump of its gate
abbrev pub marks_gate : ℕ → Entry → Bool
marks_gate h (Accepted (message.Checkpoint m)) = m.ui.host == h
marks_gate h (Stamped (stamped.Checkpoint m)) = m.ui.host == h
marks_gate h (Jumped g floor) = g == h
marks_gate h e = false

abbrev pub IsNoJump : Entry → Type 0
IsNoJump (Jumped h floor) = ⊥
IsNoJump e = Unit {0}

module _ {S : Type 0} (self : Identity S) where
  -- A CHECKPOINT tells this floor for this host.
  abbrev pub Tells : Checkpoint → ℕ → Floor → Type 0
  Tells m h floor = (b : Floors) × (m.body ≡ Whole b) × (slice_get b.floors h ≡ Some (Some floor))

  -- Where the gate of a host stood behind its last mark is told, where that is under the position and the host voted for nothing above it;
  abbrev pub TellsLast : History → Checkpoint → Type 0
  TellsLast d m = (later before : History) (e : Entry) (h : ℕ) → h < host_count self.shape → d ≡ later ++ e ∷ before → marks_gate h e ≡ true → NoneIs (marks_gate h) later
      → (gate (e ∷ before) h).point < m.pos → (gate (e ∷ before) h).top ≤ m.pos → Tells m h (gate (e ∷ before) h)

  -- and where the last mark is a CHECKPOINT that is not under the position, so it is of the one before it.
  abbrev pub TellsLastButOne : History → Checkpoint → Type 0
  TellsLastButOne d m = (later middle before : History) (c e : Entry) (h : ℕ) → h < host_count self.shape → d ≡ later ++ c ∷ middle ++ e ∷ before
      → marks_gate h c ≡ true → IsNoJump c → marks_gate h e ≡ true → NoneIs (marks_gate h) later → NoneIs (marks_gate h) middle
      → m.pos ≤ (gate (c ∷ middle ++ e ∷ before) h).point → (gate (e ∷ before) h).point < m.pos → (gate (e ∷ before) h).top ≤ m.pos → Tells m h (gate (e ∷ before) h)

  -- So it is of each CHECKPOINT, as it was stamped.
  pub record TellsFloors (d : History) : Type 0 where
    pub last : (later before : History) (m : Checkpoint) → d ≡ later ++ Stamped (stamped.Checkpoint m) ∷ before → TellsLast before m
    pub last_but_one : (later before : History) (m : Checkpoint) → d ≡ later ++ Stamped (stamped.Checkpoint m) ∷ before → TellsLastButOne before m
