-- What the events of a host keep: a property of its history that is kept by each stamp for which there is room, by each execution, by each
-- STATE that is given, and by each other entry.
use Rattle.std.proofs.Common.{◌≡◌, ℕ, Bool, true, false, List, ◌∷◌, refl}
use Rattle.mb_parts.specs.declared.request.Request.{Request}
use Rattle.mb_parts.specs.declared.batch.Batch.{Batch}
use Rattle.mb_msg.specs.declared.event.Placed.{Placed}
use Rattle.mb_msg.specs.declared.event.Slot.{Slot}
use Rattle.mb_msg.specs.declared.message.Message.{Message}
use Rattle.mb_msg.specs.declared.message.Message.TheVariants as message
use Rattle.mb_msg.specs.declared.transfer.StateMsg.{StateMsg}
use Rattle.mb_msg.specs.declared.stamped.Stamped.{Stamped as StampedMessage}
use Rattle.mb_msg.specs.declared.event.Event.{Event}
use Rattle.mb_model.specs.Histories.{Entry, Accepted, Stamped, Jumped, Closed, Served, Executed, Installed, DroppedParts, LostPatience, Nudged, History, Identity}
use Rattle.mb_model.specs.Stable.{low_of}
use Rattle.mb_model.specs.OwnLog.{is_normal, has_room, has_other_room}
use Rattle.mb_model.specs.Execution.{parts_held}
use Rattle.mb_model.specs.Sending.{Progress, signed}
use Rattle.mb_model.specs.Making.{view_change, new_view, enter, opening, join, commit, prepare, checkpoint}
use Rattle.mb_model.specs.EnabledRules.{Rule}
use Rattle.mb_model.specs.EnabledRules as rule
use Rattle.mb_model.specs.CarriedOut.{serve_all, slot_for, execute, carry_out}
use Rattle.mb_model.specs.Given.{give_state}
use Rattle.mb_model.specs.HostStep.{transition}
use Rattle.mb_host_laws.proofs.RoomForRules.{HasRoomFor, room_for}
use Rattle.mb_host_laws.proofs.Walks.{is_state, KeepsGiven, KeepsEvents, serves_keep, execute_keeps, state_keeps as given_state, event_keeps as walked}

-- Nothing is stamped, nothing executed, and no parts of a state came.
abbrev pub is_plain : Entry → Bool
is_plain (Accepted (message.State m)) = false
is_plain (Stamped m) = false
is_plain (Executed slot) = false
is_plain e = true

module _ {S : Type 0} (self : Identity S) (P : History → Type 0) where
  pub record IsKept : Type 0 where
    pub plain : (e : Entry) (d : History) → is_plain e ≡ true → P d → P (e ∷ d)
    pub normal : (m : StampedMessage) (d : History) → is_normal m ≡ true → has_room self d ≡ true → P d → P (Stamped m ∷ d)
    pub change : (m : StampedMessage) (d : History) → is_normal m ≡ false → has_other_room self d ≡ true → P d → P (Stamped m ∷ d)
    pub executed : (pos : ℕ) (b : Batch) (x : Progress) → P x.history → P (execute self pos b x).history
    pub state : (m : StateMsg) (x : Progress) → P x.history → P (give_state self m x).left.history

  abbrev Has : Progress → Type 0
  Has x = P x.history

  module _ (kept : IsKept) where
    plain_accepted : (m : Message) → is_state m ≡ false → is_plain (Accepted m) ≡ true
    plain_accepted (message.State m) other = absurd cc
    plain_accepted m other = refl

    given : KeepsGiven self Has
    given = record {
      accepted = λ m x other p. kept.plain (Accepted m) x.history (plain_accepted m other) p;
      closed = λ h c x p. kept.plain (Closed h c) x.history refl p;
      jumped = λ h f x free above p. kept.plain (Jumped h f) x.history refl p;
      noted = λ strings x p. p;
      sent = λ l x plain p. p;
      replied = λ c x p. p;
      state = kept.state;
    }

    carried_keeps : (rule : Rule) (x : Progress) → HasRoomFor self x.history rule → Has x → Has (carry_out self rule x)
    unfolding carry_out
    carried_keeps (rule.ChangeView view) x room p = kept.change (signed self x.history (view_change self x.history view)) x.history refl room p
    carried_keeps (rule.Announce changes) x room p = kept.change (signed self x.history (new_view self x.history changes)) x.history refl room p
    carried_keeps (rule.Enter n) x room p = kept.change (signed self x.history (enter n)) x.history refl room p
    carried_keeps (rule.Open e plan) x room p = kept.change (signed self x.history (opening e plan)) x.history refl room p
    carried_keeps rule.Join x room p = kept.change (signed self x.history (join self x.history)) x.history refl room p
    carried_keeps (rule.Commit pos k b) x room p = kept.normal (signed self x.history (commit self x.history pos k b)) x.history refl room p
    carried_keeps (rule.Execute pos b) x room p = kept.executed pos b x p
    carried_keeps (rule.Prepare pos b) x room p = kept.normal (signed self x.history (prepare self x.history pos b)) x.history refl room p

    moves : KeepsEvents self Has
    moves = record {
      given = given;
      lost = λ x p. kept.plain LostPatience x.history refl p;
      nudged = λ x p. kept.plain Nudged x.history refl p;
      carried = λ rule x next p. carried_keeps rule x (room_for self x.history rule next) p;
    }

    pub event_keeps : (d : History) (e : Event) → P d → P (transition self d e).left.history
    event_keeps d e p = walked self Has moves d e (λ m q. kept.plain (Accepted (message.Resend m)) d refl q) p

-- ---- an execution, by its requests, the slot and the CHECKPOINT that it may bring

module _ {S : Type 0} (self : Identity S) (P : History → Type 0) where
  module _ (serves : (pos : ℕ) (p : Placed) (d : History) → P d → P (Served pos p ∷ d)) where
    pub served_keep : (pos : ℕ) (requests : List Request) (x : Progress) → P x.history → P (serve_all self pos requests x).history
    served_keep pos requests x h = serves_keep self (λ (y : Progress). P y.history) (λ q p y r. serves q p y.history r) (λ c y r. r) pos requests x h

  module _ (stamps : (m : StampedMessage) (d : History) → is_normal m ≡ true → has_room self d ≡ true → P d → P (Stamped m ∷ d))
      (serves : (pos : ℕ) (p : Placed) (d : History) → P d → P (Served pos p ∷ d)) (executes : (slot : Slot) (d : History) → P d → P (Executed slot ∷ d)) where
    pub execution_keeps : (pos : ℕ) (b : Batch) (x : Progress) → P x.history → P (execute self pos b x).history
    execution_keeps pos b x h = execute_keeps self (λ (y : Progress). P y.history) (λ strings y p. p)
        (λ q y room p. stamps (signed self y.history (checkpoint self y.history q)) y.history refl room p)
        (λ q c y p. let z : Progress = serve_all self q c.requests y in executes (slot_for self z.history q) z.history (served_keep serves q c.requests y p)) pos b x h

-- ---- a STATE, by the entries that it may bring

module _ {S : Type 0} (self : Identity S) (P : History → Type 0) where
  module _ (accepts : (m : StateMsg) (d : History) → P d → P (Accepted (message.State m) ∷ d)) (plain : (e : Entry) (d : History) → is_plain e ≡ true → P d → P (e ∷ d)) where
    pub state_keeps : (m : StateMsg) (x : Progress) → P x.history → P (give_state self m x).left.history
    state_keeps m x p = given_state self (λ (y : Progress). P y.history) (λ n y q. accepts n y.history q) (λ y q. plain DroppedParts y.history refl q)
        (λ y q. plain (Installed (low_of self y.history) (parts_held self y.history)) y.history refl q) m x p
