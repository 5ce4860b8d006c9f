-- What each entry of a history rests on, beside what the host saw as it was added: the given message that it comes from, the strings that were
-- noted, and that what was stamped was sent.
--
-- `given` says which messages were delivered to the host, `hashed` which strings are hashed, `sent` which messages were sent.
use Rattle.std.specs.Prelude.{◌≡◌, ℕ, ◌+◌, ◌⊎◌, ◌==◌, true, false, List, [], ◌∷◌, Some, None}
use Rattle.std.specs.List.{AllByRecursion}
use Rattle.mb_base.specs.Shapes.{Bytes}
use Rattle.mb_parts.specs.declared.certificates.FloorCert.{FloorCert}
use Rattle.mb_parts.specs.Certificates.{certified_floor}
use Rattle.mb_msg.specs.declared.message.Message.{Message}
use Rattle.mb_msg.specs.declared.message.Message.TheVariants as message
use Rattle.mb_msg.specs.declared.normal.Commit.{Commit}
use Rattle.mb_msg.specs.declared.transfer.Log.{Log}
use Rattle.mb_msg.specs.declared.stamped.Stamped.{Stamped as StampedMessage}
use Rattle.mb_msg.specs.declared.stamped.Stamped.TheVariants as stamped
use Rattle.mb_msg.specs.Stamps.{as_stamped, as_message, ui_of}
use Rattle.mb_msg.specs.Plans.{plan_text}
use Rattle.mb_model.specs.Histories.{Entry, Accepted, Stamped, Jumped, Closed, Served, Executed, Installed, DroppedParts, LostPatience, Nudged, History, Identity, gate, view_of}
use Rattle.mb_model.specs.Held.{plan_from, view_limit}
use Rattle.mb_model.specs.Execution.{missing, parts_held}
use Rattle.mb_model.specs.CarriedOut.{state_strings}
use Rattle.mb_model.specs.GateChecks.{valid, stamp_claim, is_permitted}
use Rattle.mb_model.specs.PlainChecks.{bad_state}
use Rattle.mb_model.specs.Compared.{compared_in, compared_in_change, inside_some}
use Rattle.mb_model.specs.Given.{named_prepare}
use Rattle.mb_model.specs.Members.{In}
use Rattle.mb_msg.specs.Bodies.{inside_whole}

-- ---- histories, entry by entry

-- Each entry has the property over the entries before it.
abbrev pub Each : (Entry → History → Type 0) → History → Type 0
Each P [] = Unit {0}
Each P (e ∷ d) = P e d × Each P d

-- ---- parts of a given message

-- the stamped messages that a given one brings: the entries of a LOG, or itself
abbrev pub stamped_parts : Message → List StampedMessage
stamped_parts (message.Log m) = m.entries
stamped_parts m = inside_some (λ x. x ∷ []) (as_stamped m)

module _ {S : Type 0} (self : Identity S) where
  -- what is accepted of a given message: itself, a stamped message that it brings, or the PREPARE that a COMMIT among those names
  abbrev pub IsPart : Message → Message → Type 0
  IsPart given m = (given ≡ m) ⊎ (((x : StampedMessage) × In (stamped_parts given) x × (as_message x ≡ m)) ⊎ ((c : Commit) × In (stamped_parts given) (stamped.Commit c) × (message.Prepare (named_prepare self c) ≡ m)))

  -- ---- what was noted

  -- the strings that the check of an accepted message compares
  abbrev pub compared_by : History → Message → List Bytes
  compared_by d m = inside_some (compared_in self d) (as_stamped m)

  -- the strings that a stamp compares or stands for
  abbrev pub noted_by : History → StampedMessage → List Bytes
  noted_by d (stamped.ViewChange m) = compared_in_change self m
  noted_by d (stamped.NewView m) = inside_whole (λ b. plan_text (plan_from self b.changes) ∷ []) m.body
  noted_by d (stamped.Open m) = inside_whole (λ b. plan_text (record { base = b.stable; batches = b.batches }) ∷ []) m.body
  noted_by d (stamped.Checkpoint m) = state_strings self d m.pos
  noted_by d _ = []

  -- ---- a closed gate

  -- A stamped message was the next of its sender, and might not stand there.
  pub record IsConvicting (d : History) (h counter : ℕ) (m : StampedMessage) : Type 0 where
    pub sender : (ui_of m).host ≡ h
    pub place : (ui_of m).counter ≡ counter
    pub certified : valid self (stamp_claim m) ≡ true
    pub next : (ui_of m).counter ≡ (gate d (ui_of m).host).counter + 1
    pub refused : is_permitted self d m ≡ false

  -- ---- each entry

  module _ (given : Message → Type 0) (hashed : Bytes → Type 0) (sent : Message → Type 0) where
    abbrev pub Rests : Entry → History → Type 0
    Rests (Accepted m) d = ((from : Message) × given from × IsPart from m) × AllByRecursion hashed (compared_by d m)
    Rests (Stamped m) d = sent (as_message m) × AllByRecursion hashed (noted_by d m)
    Rests (Jumped h f) d = (l : Log) × (c : FloorCert) × given (message.Log l) × (l.host ≡ h) × (l.floor ≡ Some c) × (certified_floor self.shape (valid self) h c ≡ Some f)
    Rests (Closed h counter) d = (from : Message) × (m : StampedMessage) × given from × IsPart from (as_message m) × IsConvicting d h counter m
    Rests (Served pos placed) d = Unit {0}
    Rests (Executed slot) d = Unit {0}
    Rests (Installed pos parts) d = (parts ≡ parts_held self d) × (missing self d ≡ None) × (bad_state self d ≡ None)
    Rests DroppedParts d = Unit {0}
    Rests LostPatience d = (view_of self d == view_limit) ≡ false
    Rests Nudged d = Unit {0}
