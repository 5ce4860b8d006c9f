-- What the events of a host keep of what a step has done so far, by fewer moves.
--
-- A quiet entry is written, a message is stamped and sent, a gate jumps forward, strings are noted, a message that is no REPLY is sent, the stored reply of
-- a client is sent, a batch is executed, a state is installed. What each of these keeps (`IsWalked`) is kept by each given message (`entries_keep`,
-- `offer_keeps`) and by each event (`walked`). The rules need less (`IsRuled`): they stamp, note, send and execute. What entries and letters keep, a stamp
-- keeps (`stamp_keeps`); a property of the history that each entry keeps is kept by all (`each_entry`).
use Rattle.std.proofs.Common.{◌≡◌, ℕ, ◌<◌, Bool, true, false, List, ◌∷◌, refl, None}
use Rattle.mb_base.specs.Shapes.{Bytes}
use Rattle.mb_parts.specs.declared.floor.Floor.{Floor}
use Rattle.mb_parts.specs.declared.batch.Batch.{Batch}
use Rattle.mb_msg.specs.declared.normal.Prepare.{Prepare}
use Rattle.mb_msg.specs.declared.message.Message.{Message}
use Rattle.mb_msg.specs.declared.message.Message.TheVariants as message
use Rattle.mb_msg.specs.declared.stamped.Stamped.{Stamped as StampedMessage}
use Rattle.mb_msg.specs.declared.stamped.Stamped.TheVariants as stamped
use Rattle.mb_msg.specs.Stamps.{as_message}
use Rattle.mb_msg.specs.declared.event.Event.{Event}
use Rattle.mb_model.specs.Histories.{Entry, Accepted, Stamped, Jumped, Served, History, Identity, gate, closed_at}
use Rattle.mb_model.specs.Sending.{Letter, Progress, begin, write, send, note, stamp, signed, to_all, to_client}
use Rattle.mb_model.specs.CarriedOut.{serve_all, close_slot}
use Rattle.mb_model.specs.Given.{Answer, offer_prepare, give_entries, install, stored_reply}
use Rattle.mb_model.specs.HostStep.{wish_again, finished_where, transition}
use Rattle.mb_host_laws.proofs.KeptByEvents.{served_keep}
use Rattle.mb_host_laws.proofs.Walks.{is_plain, is_quiet, KeepsRules, KeepsMoves, carried_keeps, given_by, events_by, offer_keeps as offered, entries_keep as entered, finished_keeps as finished, again_keeps as wished, event_keeps}

abbrev pub is_reply : Message → Bool
is_reply (message.Reply m) = true
is_reply m = false

plain_no_reply : (m : Message) → is_plain m ≡ true → is_reply m ≡ false
plain_no_reply (message.Reply m) plain = absurd cc
plain_no_reply m plain = refl

no_reply_stamped : (m : StampedMessage) → is_reply (as_message m) ≡ false
no_reply_stamped (stamped.Prepare m) = refl
no_reply_stamped (stamped.Commit m) = refl
no_reply_stamped (stamped.Checkpoint m) = refl
no_reply_stamped (stamped.ViewChange m) = refl
no_reply_stamped (stamped.NewView m) = refl
no_reply_stamped (stamped.Enter m) = refl
no_reply_stamped (stamped.Open m) = refl
no_reply_stamped (stamped.Join m) = refl

module _ {S : Type 0} (self : Identity S) (Q : Progress → Type 0) where
  -- A stamp is an entry and a letter that is no REPLY.
  pub stamp_keeps : ((m : StampedMessage) (x : Progress) → Q x → Q (write (Stamped m) x)) → ((l : Letter) (x : Progress) → is_reply l.says ≡ false → Q x → Q (send l x)) → (m : StampedMessage) (x : Progress) → Q x → Q (stamp self m x)
  stamp_keeps written sent m x q =
      let made : StampedMessage = signed self x.history m in
      sent (to_all (as_message made)) (write (Stamped made) x) (no_reply_stamped made) (written made x q)

  pub record IsWalked : Type 0 where
    pub quiet : (e : Entry) (x : Progress) → is_quiet e ≡ true → Q x → Q (write e x)
    pub stamped : (m : StampedMessage) (x : Progress) → Q x → Q (stamp self m x)
    pub jumped : (h : ℕ) (f : Floor) (x : Progress) → closed_at x.history h ≡ None → (gate x.history h).counter < f.counter → Q x → Q (write (Jumped h f) x)
    pub noted : (strings : List Bytes) (x : Progress) → Q x → Q (note strings x)
    pub sent : (l : Letter) (x : Progress) → is_reply l.says ≡ false → Q x → Q (send l x)
    pub replied : (c : ℕ) (x : Progress) → Q x → Q (send (to_client c (stored_reply self x.history c)) x)
    pub executed : (pos : ℕ) (b : Batch) (x : Progress) → Q x → Q (close_slot self pos (serve_all self pos b.requests x))
    pub installed : (x : Progress) → Q x → Q (install self x)

  -- the moves of the rules alone
  pub record IsRuled : Type 0 where
    pub stamped : (m : StampedMessage) (x : Progress) → Q x → Q (stamp self m x)
    pub noted : (strings : List Bytes) (x : Progress) → Q x → Q (note strings x)
    pub sent : (l : Letter) (x : Progress) → is_reply l.says ≡ false → Q x → Q (send l x)
    pub executed : (pos : ℕ) (b : Batch) (x : Progress) → Q x → Q (close_slot self pos (serve_all self pos b.requests x))

  pub ruled : IsWalked → IsRuled
  ruled kept = record { stamped = kept.stamped; noted = kept.noted; sent = kept.sent; executed = kept.executed }

  -- ---- these are moves of any event

  rules : IsRuled → KeepsRules self Q
  rules kept = record {
    sent = λ l x plain q. kept.sent l x (plain_no_reply l.says plain) q;
    carried = λ rule x next q. carried_keeps self Q kept.noted kept.stamped kept.executed rule x q;
  }

  moves : IsWalked → KeepsMoves self Q
  moves kept = record {
    quiet = kept.quiet;
    jumped = kept.jumped;
    noted = kept.noted;
    sent = λ l x plain q. kept.sent l x (plain_no_reply l.says plain) q;
    replied = kept.replied;
    stamped = kept.stamped;
    executed = kept.executed;
    installed = kept.installed;
  }

  pub ruled_keeps : (kept : IsRuled) (runs asks : Bool) (d : History) (a : Answer) → Q a.left → Q (finished_where self runs asks d a).left
  ruled_keeps kept runs asks d a q = finished self Q (rules kept) runs asks d a q

  module _ (kept : IsWalked) where
    pub offer_keeps : (m : Prepare) (x : Progress) → Q x → Q (offer_prepare self m x)
    offer_keeps m x q = offered self Q (given_by self Q (moves kept)) m x q

    pub entries_keep : (ms : List StampedMessage) (x : Progress) → Q x → Q (give_entries self ms x).left
    entries_keep ms x q = entered self Q (given_by self Q (moves kept)) ms x q

    pub finished_keeps : (runs asks : Bool) (d : History) (a : Answer) → Q a.left → Q (finished_where self runs asks d a).left
    finished_keeps runs asks d a q = ruled_keeps (ruled kept) runs asks d a q

    pub again_keeps : (x : Progress) → Q x → Q (wish_again self x)
    again_keeps x q = wished self Q (events_by self Q (moves kept)) x q

    pub walked : (d : History) (e : Event) → Q (begin d) → Q (transition self d e).left
    walked d e q = event_keeps self Q (events_by self Q (moves kept)) d e (λ m r. kept.sent _ (write (Accepted (message.Resend m)) (begin d)) refl (kept.quiet (Accepted (message.Resend m)) (begin d) refl r)) q

-- ---- what each entry keeps of a history

module _ {S : Type 0} (self : Identity S) (P : History → Type 0) (more : (e : Entry) (d : History) → P d → P (e ∷ d)) where
  pub each_entry : IsWalked self (λ (x : Progress). P x.history)
  each_entry = record {
    quiet = λ e x q p. more e x.history p;
    stamped = λ m x p. more (Stamped (signed self x.history m)) x.history p;
    jumped = λ h f x free lower p. more (Jumped h f) x.history p;
    noted = λ strings x p. p;
    sent = λ l x r p. p;
    replied = λ c x p. p;
    executed = λ pos b x p. more _ (serve_all self pos b.requests x).history (served_keep self P (λ q placed d r. more (Served q placed) d r) pos b.requests x p);
    installed = λ x p. more _ x.history p;
  }
