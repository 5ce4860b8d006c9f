-- What a step adds to the history came with its event, or the host did it. Nothing is accepted that was not given, patience is lost by Patience alone, a
-- gate jumps to a floor that a LOG shows, and closes at a message that may not stand there, and the parts of a state are dropped where they are none.
use Rattle.std.specs.Prelude.{◌≡◌, ℕ, ◌+◌, ◌<◌, ◌⊎◌, false, [], ◌∷◌, ◌++◌, slice_get, Some, None, Ok, Err, Contains}
use Rattle.sha2.specs.Sha256.{sha256}
use Rattle.mb_base.specs.Shapes.{Bytes}
use Rattle.mb_parts.specs.declared.floor.Floor.{Floor}
use Rattle.mb_parts.specs.declared.certificates.FloorCert.{FloorCert}
use Rattle.mb_parts.specs.Certificates.{certified_floor, inner_valid}
use Rattle.mb_parts.specs.Ordered.{permits}
use Rattle.mb_msg.specs.declared.message.Message.{Message}
use Rattle.mb_msg.specs.declared.message.Message.TheVariants as message
use Rattle.mb_msg.specs.declared.normal.Commit.{Commit}
use Rattle.mb_msg.specs.declared.transfer.Log.{Log}
use Rattle.mb_msg.specs.declared.transfer.StateMsg.{StateMsg}
use Rattle.mb_msg.specs.declared.stamped.Stamped.{Stamped as StampedMessage}
use Rattle.mb_msg.specs.declared.stamped.Stamped.TheVariants as stamped
use Rattle.mb_msg.specs.declared.event.Event.{Event}
use Rattle.mb_msg.specs.declared.event.Event.TheVariants as event
use Rattle.mb_msg.specs.Stamps.{bare_of, ui_of, as_message}
use Rattle.mb_msg.specs.Reading.{message_of}
use Rattle.mb_model.specs.States.{digest_string}
use Rattle.mb_model.specs.Verified.{verifies}
use Rattle.mb_model.specs.Histories.{Entry, Accepted, Stamped, Jumped, Closed, Served, Executed, Installed, DroppedParts, LostPatience, Nudged, History, Identity, gate, origin, taken_of, closed_at}
use Rattle.mb_model.specs.Stable.{stable_of, low_of}
use Rattle.mb_model.specs.Positions.{exec_of}
use Rattle.mb_model.specs.Execution.{state_from, parts_held, missing}
use Rattle.mb_model.specs.Given.{named_prepare}
use Rattle.mb_model.specs.HostStep.{transition}
use Rattle.mb_promise.specs.TakesValid.{IsCertified}

-- A given message brings this stamped one: it is it, or a LOG that has it among its entries.
abbrev pub IsBroughtBy : Message → StampedMessage → Type 0
IsBroughtBy given x = (given ≡ as_message x) ⊎ ((l : Log) × (given ≡ message.Log l) × Contains l.entries x)

-- What the host does itself: it stamps, serves, executes and installs.
abbrev pub IsDone : Entry → Type 0
IsDone (Stamped m) = Unit {0}
IsDone (Served pos placed) = Unit {0}
IsDone (Executed slot) = Unit {0}
IsDone (Installed pos parts) = Unit {0}
IsDone e = ⊥

module _ {S : Type 0} (self : Identity S) where
  -- Of a given message this is taken or refused: itself, a stamped message that it brings, or the PREPARE that a COMMIT among those names.
  abbrev pub IsPartOf : Message → Message → Type 0
  IsPartOf given m = (given ≡ m) ⊎ (((x : StampedMessage) × IsBroughtBy given x × (m ≡ as_message x)) ⊎ ((c : Commit) × IsBroughtBy given (stamped.Commit c) × (m ≡ message.Prepare (named_prepare self c))))

  -- The LOG of a host shows a certified floor ahead of where its gate stands, which is not closed.
  pub record ShowsFloor (before : History) (h : ℕ) (floor : Floor) (m : Log) : Type 0 where
    pub host : m.host ≡ h
    pub cert : FloorCert
    pub shows : m.floor ≡ Some cert
    pub certified : certified_floor self.shape (verifies self.secret) h cert ≡ Some floor
    pub ahead : (gate before h).counter < floor.counter
    pub free : closed_at before h ≡ None

  -- The message is rightly certified, stands right behind the last one of its host, and may not stand there.
  pub record IsOutOfOrder (before : History) (h counter : ℕ) (x : StampedMessage) : Type 0 where
    pub certified : IsCertified self x
    pub sender : (ui_of x).host ≡ h
    pub place : (ui_of x).counter ≡ counter
    pub next : counter ≡ (gate before h).counter + 1
    pub refused : permits (origin before h) self.shape h (inner_valid self.shape (verifies self.secret)) (taken_of before h) (bare_of x) ≡ false

  -- With the certified parts of this STATE all parts of the stable state are held, and they are no state.
  pub record BringsNoState (before : History) (m : StateMsg) : Type 0 where
    pub position : m.pos ≡ low_of self before
    pub behind : exec_of before < low_of self before
    pub list : sha256 (digest_string m.digests m.pos) ≡ (stable_of self before).state
    pub parts : (i : ℕ) (part : Bytes) → slice_get m.parts i ≡ Some part → slice_get m.digests (m.first + i) ≡ Some (sha256 part)
    pub all : missing self (Accepted (message.State m) ∷ before) ≡ None
    pub fault : ℕ × ℕ
    pub none : state_from self (parts_held self (Accepted (message.State m) ∷ before)) ≡ Err fault

  -- what comes of a given message, behind what stood there before
  abbrev pub ComesOf : Message → History → Entry → Type 0
  ComesOf given before (Accepted m) = IsPartOf given m
  ComesOf given before (Closed h counter) = (x : StampedMessage) × IsPartOf given (as_message x) × IsOutOfOrder before h counter x
  ComesOf given before (Jumped h floor) = (m : Log) × (given ≡ message.Log m) × ShowsFloor before h floor m
  ComesOf given before DroppedParts = (m : StateMsg) × (given ≡ message.State m) × BringsNoState before m
  ComesOf given before e = ⊥

  -- what comes with an event
  abbrev pub ComesWith : Event → History → Entry → Type 0
  ComesWith (event.Given bytes) before e = (m : Message) × (message_of self.shape bytes ≡ Ok m) × ComesOf m before e
  ComesWith event.Patience before e = e ≡ LostPatience
  ComesWith event.Nudge before e = e ≡ Nudged

  -- Each of these entries, put before a history, came with the event or was done.
  abbrev pub AllCome : Event → History → History → Type 0
  AllCome event d [] = Unit {0}
  AllCome event d (e ∷ l) = (IsDone e ⊎ ComesWith event (l ++ d) e) × AllCome event d l

  -- What is left has something before the history, and all of that came so.
  pub record AddsWhatCame (event : Event) (d left : History) : Type 0 where
    pub added : History
    pub is : left ≡ added ++ d
    pub come : AllCome event d added

  -- So it is of each event.
  abbrev pub AddsGiven : History → Type 0
  AddsGiven d = (e : Event) → AddsWhatCame e d (transition self d e).left.history
