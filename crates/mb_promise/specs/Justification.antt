-- What a correct host executes and installs rests on what it was given and what it stamped: votes of f+1 hosts, CHECKPOINTs of f+1 hosts.
use Rattle.std.specs.Prelude.{◌≡◌, ℕ, ◌+◌, ◌<◌, ◌⊎◌, Bool, true, List, [], ◌∷◌, ◌++◌, length, Some, Contains, IsTrue}
use Rattle.mb_base.specs.Shapes.{Bytes, quorum, host_count}
use Rattle.mb_parts.specs.declared.floor.Floor.{Floor}
use Rattle.mb_parts.specs.declared.certificates.FloorCert.{FloorCert}
use Rattle.mb_parts.specs.Bares.{Bare, batch_digest}
use Rattle.mb_parts.specs.Bares as bare
use Rattle.mb_parts.specs.Counters.{at_counter}
use Rattle.mb_parts.specs.Claims.{Claim, are_rising}
use Rattle.mb_parts.specs.Certificates.{certified_floor, inner_checked}
use Rattle.mb_parts.specs.Ordered.{initial_floor, is_ordered, is_opened}
use Rattle.mb_msg.specs.declared.event.Slot.{Slot}
use Rattle.mb_msg.specs.declared.message.Message.{Message}
use Rattle.mb_model.specs.declared.known.Vote.{Vote}
use Rattle.mb_model.specs.Service.{batch_of}
use Rattle.mb_model.specs.Verified.{verifies}
use Rattle.mb_model.specs.Committed.{vote_by, vote_in}
use Rattle.mb_model.specs.States.{state_digest}
use Rattle.mb_model.specs.Histories.{History, Executed, Installed, said}
use Rattle.mb_model.specs.Inside.{claims_in, floors_in}
use Rattle.mb_schedule.specs.declared.schedule.Schedule.{Schedule}
use Rattle.mb_world_model.specs.WorldEvents.{IsCorrect}
use Rattle.mb_world_model.specs.World.{World, read}
use Rattle.mb_world_model.specs.WorldRecord.{issued, plans}

module _ (s : Schedule) (w : World) where
  -- The certificates in it were checked and issued.
  abbrev pub is_sound : Bare → Bool
  is_sound = inner_checked s.shape (verifies s.secret) (issued s w)

  -- ---- what a host was given

  -- A message that was delivered to the host holds this certificate, and it verifies.
  pub record IsGiven (h : ℕ) (c : Claim) : Type 0 where
    pub bytes : Bytes
    pub message : Message
    pub delivered : Contains (w.given h) bytes
    pub reads : read s bytes ≡ Some message
    pub holds : Contains (claims_in s.shape message) c
    pub verifies : IsTrue (verifies s.secret c)

  -- The host itself stamped this at this counter.
  abbrev pub IsOwn : ℕ → ℕ → Bare → Type 0
  IsOwn h counter says = at_counter (said (w.histories h)) counter ≡ Some says

  -- The host stamped this at this counter, or was shown that another did.
  abbrev pub IsKnown : ℕ → ℕ → ℕ → Bare → Type 0
  IsKnown h g counter says = ((g ≡ h) × IsOwn h counter says) ⊎ ((cert : Bytes) × IsGiven h (record { host = g; counter = counter; says = says; cert = cert }))

  -- A message that was delivered to the host certifies this floor for another.
  pub record IsGivenFloor (h g : ℕ) (o : Floor) : Type 0 where
    pub bytes : Bytes
    pub message : Message
    pub cert : FloorCert
    pub delivered : Contains (w.given h) bytes
    pub reads : read s bytes ≡ Some message
    pub holds : Contains (floors_in message) cert
    pub certifies : certified_floor s.shape (verifies s.secret) g cert ≡ Some o

  -- Each of these, newest first, is known to stand at its counter; the first of all stands behind this one.
  abbrev pub AreKnown : ℕ → ℕ → ℕ → List Bare → Type 0
  AreKnown h g counter [] = Unit {0}
  AreKnown h g counter (m ∷ l) = IsKnown h g (counter + length l + 1) m × AreKnown h g counter l

  -- ---- votes

  -- The host was given another's vote, with all that this one stamped before, from its start or from a certified floor on, in order.
  pub record IsVoteGiven (h g view pos : ℕ) (vote : Vote) : Type 0 where
    pub begins : Floor
    pub before : List Bare
    pub says : Bare
    pub from : (begins ≡ initial_floor) ⊎ IsGivenFloor h g begins
    pub all : AreKnown h g begins.counter (says ∷ before)
    pub ordered : is_ordered begins s.shape g is_sound (says ∷ before) ≡ true
    pub votes : vote_by (plans s w) (begins.counter + length before + 1) says view pos ≡ Some vote

  -- the host's own vote, or one that it was given
  abbrev pub IsVoted : ℕ → ℕ → ℕ → ℕ → Vote → Type 0
  IsVoted h g view pos vote = ((g ≡ h) × (vote_in (plans s w) (said (w.histories h)) view pos ≡ Some vote)) ⊎ IsVoteGiven h g view pos vote

  -- f+1 different hosts, each with this property
  pub record EachOfQuorum (P : ℕ → Type 0) : Type 0 where
    pub hosts : List ℕ
    pub many : length hosts ≡ quorum s.shape
    pub rising : are_rising hosts ≡ true
    pub each : (g : ℕ) → Contains hosts g → (g < host_count s.shape) × P g

  -- ---- executions, and states that are installed

  -- f+1 hosts voted for the batch at this position, in one view that the host had opened, at one counter of the primary.
  pub record IsJustifiedSlot (h : ℕ) (before : History) (slot : Slot) : Type 0 where
    pub view : ℕ
    pub counter : ℕ
    pub opened : is_opened initial_floor (said before) view ≡ true
    pub voted : EachOfQuorum (λ g. IsVoted h g view slot.pos (record { counter = counter; request = batch_digest (batch_of slot) }))

  -- f+1 hosts stamped CHECKPOINTs of the position with the digest of this state.
  abbrev pub IsJustifiedState : ℕ → ℕ → List Bytes → Type 0
  IsJustifiedState h pos parts = EachOfQuorum (λ g. (counter : ℕ) × (floors : Bytes) × IsKnown h g counter (bare.Checkpoint pos (state_digest parts pos) floors))

  -- All that correct hosts executed and installed is justified.
  pub record IsJustified : Type 0 where
    pub executed : (h : ℕ) (later before : History) (slot : Slot) → IsCorrect s h → w.histories h ≡ later ++ Executed slot ∷ before → IsJustifiedSlot h before slot
    pub installed : (h pos : ℕ) (parts : List Bytes) → IsCorrect s h → Contains (w.histories h) (Installed pos parts) → IsJustifiedState h pos parts
