-- What a step of a host leaves: a history that goes on, the slots that it executed since, and REPLYs that are stored replies of a moment.
use Rattle.std.proofs.Common.{◌≡◌, ℕ, ◌⊎◌, true, false, List, [], ◌∷◌, ◌++◌, refl, sym, ap, ◌∙◌, inl, inr}
use Rattle.std.specs.List.{AllByRecursion}
use Rattle.mb_parts.specs.declared.request.Request.{Request}
use Rattle.mb_msg.specs.declared.event.Slot.{Slot}
use Rattle.mb_msg.specs.declared.message.Message.{Message}
use Rattle.mb_msg.specs.declared.event.Event.{Event}
use Rattle.mb_model.specs.Histories.{Entry, Accepted, Stamped, Jumped, Closed, Served, Executed, Installed, DroppedParts, LostPatience, Nudged, History, Identity}
use Rattle.mb_model.specs.Stable.{low_of}
use Rattle.mb_model.specs.Execution.{parts_held}
use Rattle.mb_model.specs.Sending.{Letter, Progress, begin, write, send, to_client}
use Rattle.mb_model.specs.CarriedOut.{serve_all, slot_for, with_slot}
use Rattle.mb_model.specs.Given.{stored_reply}
use Rattle.mb_model.specs.HostStep.{transition}
use Rattle.mb_model.proofs.Lists.{all_append}
use Rattle.mb_host_laws.proofs.Cases.{all_more}
use Rattle.mb_host_laws.proofs.Moments.{IsPast}
use Rattle.mb_host_laws.proofs.Walks.{is_quiet, serves_keep}
use Rattle.mb_one_log.proofs.Walks.{is_reply, stamp_keeps, IsWalked, walked}

-- the executed slots of a piece of a history, oldest first
unfoldable pub slots_in : History → List Slot
slots_in [] = []
slots_in (Executed slot ∷ d) = slots_in d ++ slot ∷ []
slots_in (_ ∷ d) = slots_in d

quiet_slots : (e : Entry) → is_quiet e ≡ true → slots_in (e ∷ []) ≡ []
unfolding slots_in
quiet_slots (Served pos placed) q = refl
quiet_slots (Executed slot) q = absurd cc
quiet_slots (Installed pos parts) q = refl
quiet_slots (Accepted m) q = refl
quiet_slots (Stamped m) q = absurd cc
quiet_slots (Jumped h f) q = absurd cc
quiet_slots (Closed h c) q = refl
quiet_slots DroppedParts q = refl
quiet_slots LostPatience q = refl
quiet_slots Nudged q = refl

silent_slots : (e : Entry) (d : History) → slots_in (e ∷ []) ≡ [] → slots_in (e ∷ d) ≡ slots_in d
unfolding slots_in
silent_slots (Executed slot) d none = absurd cc
silent_slots (Served pos placed) d none = refl
silent_slots (Installed pos parts) d none = refl
silent_slots (Accepted m) d none = refl
silent_slots (Stamped m) d none = refl
silent_slots (Jumped h f) d none = refl
silent_slots (Closed h c) d none = refl
silent_slots DroppedParts d none = refl
silent_slots LostPatience d none = refl
silent_slots Nudged d none = refl

pub past_whole : (d : History) → IsPast d d
past_whole d = record { later = []; is = refl }

pub past_more : (e : Entry) (d whole : History) → IsPast d whole → IsPast d (e ∷ whole)
past_more e d whole p = record { later = e ∷ p.later; is = ap (λ (y : History). e ∷ y) p.is }

module _ {S : Type 0} (self : Identity S) where
  -- A REPLY is a stored reply of a moment of this history.
  abbrev pub IsStored : History → Message → Type 0
  IsStored whole m = (is_reply m ≡ false) ⊎ ((c : ℕ) × (d : History) × IsPast d whole × (stored_reply self d c ≡ m))

  stored_more : (e : Entry) (whole : History) (m : Message) → IsStored whole m → IsStored (e ∷ whole) m
  stored_more e whole m (inl other) = inl other
  stored_more e whole m (inr (c, d, p, is)) = inr (c, d, past_more e d whole p, is)

  module _ (d : History) where
    pub record IsDone (x : Progress) : Type 0 where
      pub new : History
      pub is : new ++ d ≡ x.history
      pub slots : x.executed ≡ slots_in new
      pub replies : AllByRecursion (λ (l : Letter). IsStored x.history l.says) x.sent

    letters_more : (e : Entry) (whole : History) (l : List Letter) → AllByRecursion (λ (k : Letter). IsStored whole k.says) l → AllByRecursion (λ (k : Letter). IsStored (e ∷ whole) k.says) l
    letters_more e whole l a = all_more (λ (k : Letter). IsStored whole k.says) (λ (k : Letter). IsStored (e ∷ whole) k.says) (λ k i. stored_more e whole k.says i) l a

    one_letter : (whole : History) (l : List Letter) (k : Letter) → AllByRecursion (λ (j : Letter). IsStored whole j.says) l → IsStored whole k.says → AllByRecursion (λ (j : Letter). IsStored whole j.says) (l ++ k ∷ [])
    one_letter whole l k a i = all_append (λ (j : Letter). IsStored whole j.says) l (k ∷ []) a (i, tt)

    written : (e : Entry) (x : Progress) → slots_in (e ∷ []) ≡ [] → IsDone x → IsDone (write e x)
    unfolding slots_in
    written e x none a = record {
      new = e ∷ a.new;
      is = ap (λ (y : History). e ∷ y) a.is;
      slots = a.slots ∙ sym (silent_slots e a.new none);
      replies = letters_more e x.history x.sent a.replies;
    }

    letter_done : (l : Letter) (x : Progress) → is_reply l.says ≡ false → IsDone x → IsDone (send l x)
    letter_done l x q a = record { new = a.new; is = a.is; slots = a.slots; replies = one_letter x.history x.sent l a.replies (inl q) }

    replies_done : (c : ℕ) (x : Progress) → IsDone x → IsDone (send (to_client c (stored_reply self x.history c)) x)
    replies_done c x a = record {
      new = a.new;
      is = a.is;
      slots = a.slots;
      replies = one_letter x.history x.sent (to_client c (stored_reply self x.history c)) a.replies (inr (c, x.history, past_whole x.history, refl));
    }

    serves_done : (pos : ℕ) (rs : List Request) (x : Progress) → IsDone x → IsDone (serve_all self pos rs x)
    unfolding slots_in
    serves_done pos rs x a = serves_keep self IsDone (λ q p y b. written (Served q p) y refl b) replies_done pos rs x a

    slot_done : (slot : Slot) (x : Progress) → IsDone x → IsDone (with_slot self slot x)
    unfolding slots_in
    slot_done slot x a = record {
      new = Executed slot ∷ a.new;
      is = ap (λ (y : History). Executed slot ∷ y) a.is;
      slots = ap (λ (l : List Slot). l ++ slot ∷ []) a.slots;
      replies = letters_more (Executed slot) x.history x.sent a.replies;
    }

    done_kept : IsWalked self IsDone
    unfolding slots_in
    done_kept = record {
      quiet = λ e x q a. written e x (quiet_slots e q) a;
      stamped = stamp_keeps self IsDone (λ m x a. written (Stamped m) x refl a) letter_done;
      jumped = λ h f x free lower a. written (Jumped h f) x refl a;
      noted = λ strings x a. record { new = a.new; is = a.is; slots = a.slots; replies = a.replies };
      sent = letter_done;
      replied = replies_done;
      executed = λ pos b x a. let y : Progress = serve_all self pos b.requests x in slot_done (slot_for self y.history pos) y (serves_done pos b.requests x a);
      installed = λ x a.
          let b : IsDone (write (Installed (low_of self x.history) (parts_held self x.history)) x) = written (Installed (low_of self x.history) (parts_held self x.history)) x refl a in
          record { new = b.new; is = b.is; slots = b.slots; replies = b.replies };
    }

    begins_done : IsDone (begin d)
    unfolding slots_in
    begins_done = record { new = []; is = refl; slots = refl; replies = tt }

    pub step_done : (e : Event) → IsDone (transition self d e).left
    step_done e = walked self IsDone done_kept d e begins_done
