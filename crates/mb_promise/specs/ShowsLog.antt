-- What a LOG and a STATE show to who asked for them: what this one lacks, from the first message or part on.
use Rattle.std.specs.Prelude.{◌≡◌, ℕ, ◌+◌, ◌-◌, ◌≤◌, ◌<◌, Bool, true, false, List, ◌∷◌, length, take, max, Some, None, slice_get}
use Rattle.std.specs.List.{AllByRecursion}
use Rattle.mb_base.specs.Limits.{entry_limit}
use Rattle.mb_base.specs.Shapes.{Bytes}
use Rattle.mb_parts.specs.declared.certificates.Evidence.{Evidence}
use Rattle.mb_parts.specs.Counters.{at_counter}
use Rattle.mb_msg.specs.declared.transfer.Resend.{Resend}
use Rattle.mb_msg.specs.declared.transfer.Log.{Log}
use Rattle.mb_msg.specs.declared.transfer.Fetch.{Fetch}
use Rattle.mb_msg.specs.declared.transfer.StateMsg.{StateMsg}
use Rattle.mb_msg.specs.declared.stamped.Stamped.{Stamped as StampedMessage}
use Rattle.mb_msg.specs.declared.stamped.Stamped.TheVariants as stamped
use Rattle.mb_msg.specs.Stamps.{bare_of, ui_of}
use Rattle.mb_model.specs.States.{part_digests}
use Rattle.mb_model.specs.Histories.{History, Identity, stamped as all_stamped, counter_of, view_of}
use Rattle.mb_model.specs.Held.{evidence_of}
use Rattle.mb_model.specs.Stable.{stable_of, log_floor}
use Rattle.mb_model.specs.OwnLog.{log_start}
use Rattle.mb_model.specs.Making.{expected}

-- PREPARE, COMMIT or OPEN
abbrev pub votes_or_opens : StampedMessage → Bool
votes_or_opens (stamped.Prepare m) = true
votes_or_opens (stamped.Commit m) = true
votes_or_opens (stamped.Open m) = true
votes_or_opens m = false

-- VIEW_CHANGE or NEW_VIEW
abbrev pub changes_view : StampedMessage → Bool
changes_view (stamped.ViewChange m) = true
changes_view (stamped.NewView m) = true
changes_view m = false

-- Once the first is stamped, the second is kept without its body: an opening shortens votes and OPENs, a VIEW_CHANGE shortens VIEW_CHANGEs and NEW_VIEWs.
abbrev pub shortens : StampedMessage → StampedMessage → Bool
shortens (stamped.Open x) m = votes_or_opens m
shortens (stamped.Join x) m = votes_or_opens m
shortens (stamped.ViewChange x) m = changes_view m
shortens x m = false

module _ {S : Type 0} (self : Identity S) (d : History) where
  -- the counter of the first message that is expected and not cut away
  abbrev pub next_shown : Resend → ℕ
  next_shown m = max (expected self m) (log_start self d + 1)

  -- what was stamped behind the message of a counter
  abbrev pub stamped_since : ℕ → List StampedMessage
  stamped_since counter = take (counter_of d - counter) (all_stamped d)

  -- This message is the one that the host stamped at this counter: it says the same, under the same identifier, and it is whole where nothing that was stamped
  -- since shortens it.
  pub record IsShownOf (counter : ℕ) (shown : StampedMessage) : Type 0 where
    pub stamped : StampedMessage
    pub there : at_counter (all_stamped d) counter ≡ Some stamped
    pub says : bare_of shown ≡ bare_of stamped
    pub ui : ui_of shown ≡ ui_of stamped
    pub whole : AllByRecursion (λ x. shortens x stamped ≡ false) (stamped_since counter) → shown ≡ stamped

  -- There is a first of these messages, the one of this counter.
  pub record BeginsAt (counter : ℕ) (l : List StampedMessage) : Type 0 where
    pub first : StampedMessage
    pub more : List StampedMessage
    pub is : l ≡ first ∷ more
    pub shown : IsShownOf counter first

  -- Where messages that are expected are cut away, and only there, the floor is shown; then the stable certificate, the evidence of the view, and the messages,
  -- at most `entry_limit`, one for each counter from the first one on.
  pub record ShowsLog (m : Resend) (l : Log) : Type 0 where
    pub host : l.host ≡ self.host
    pub floor : expected self m ≤ log_start self d → l.floor ≡ log_floor self d
    pub no_floor : log_start self d < expected self m → l.floor ≡ None
    pub stable : l.stable ≡ stable_of self d
    pub evidence : (e : Evidence) → evidence_of self d ≡ Some e → e.view ≡ view_of self d → l.evidence ≡ Some e
    pub evidence_held : (e : Evidence) → l.evidence ≡ Some e → (evidence_of self d ≡ Some e) × (e.view ≡ view_of self d)
    pub few : length l.entries ≤ entry_limit
    pub entries : next_shown m ≤ counter_of d → BeginsAt (next_shown m) l.entries
    pub each : (i : ℕ) (x : StampedMessage) → slice_get l.entries i ≡ Some x → IsShownOf (next_shown m + i) x

  -- the digests of all parts, and parts from the first one on that is asked for, in their order
  pub record ShowsState (m : Fetch) (parts : List Bytes) (s : StateMsg) : Type 0 where
    pub host : s.host ≡ self.host
    pub position : s.pos ≡ m.pos
    pub digests : s.digests ≡ part_digests parts
    pub from : s.first ≡ m.first
    pub first : (part : Bytes) → slice_get parts m.first ≡ Some part → slice_get s.parts 0 ≡ Some part
    pub in_order : (i : ℕ) (part : Bytes) → slice_get s.parts i ≡ Some part → slice_get parts (m.first + i) ≡ Some part
