-- What a host sends in a step: what it stamped, the LOG of its history before the step, and what has neither certificates nor requests.
use Rattle.std.proofs.Common.{◌≡◌, ℕ, ◌⊎◌, Bool, true, List, [], ◌∷◌, ◌++◌, refl, inl, inr}
use Rattle.std.specs.List.{AllByRecursion}
use Rattle.mb_parts.specs.declared.request.Request.{Request}
use Rattle.mb_msg.specs.declared.event.Event.{Event}
use Rattle.mb_msg.specs.declared.message.Message.{Message}
use Rattle.mb_msg.specs.declared.message.Message.TheVariants as message
use Rattle.mb_msg.specs.declared.transfer.Resend.{Resend}
use Rattle.mb_msg.specs.declared.stamped.Stamped.{Stamped as StampedMessage}
use Rattle.mb_msg.specs.Stamps.{as_message}
use Rattle.mb_model.specs.Histories.{Entry, Accepted, Stamped, Jumped, Closed, Served, Executed, Installed, DroppedParts, LostPatience, Nudged, History, Identity, stamped as all_stamped}
use Rattle.mb_model.specs.Sending.{Letter, Progress, write, send, signed, stamp, to_all, to_host, to_client}
use Rattle.mb_model.specs.Making.{log_for}
use Rattle.mb_model.specs.CarriedOut.{serve_all, slot_for}
use Rattle.mb_model.specs.Given.{stored_reply}
use Rattle.mb_model.specs.HostStep.{transition}
use Rattle.mb_model.specs.Members.{In}
use Rattle.mb_steps.proofs.StepPlanBases.{all_append}
use Rattle.mb_host_laws.proofs.Cases.{all_more}
use Rattle.mb_host_laws.proofs.Walks.{is_plain, KeepsMoves, serves_keep, events_by, event_keeps}

-- It is plain, or a reply.
abbrev pub is_bare : Message → Bool
is_bare (message.Reply m) = true
is_bare m = is_plain m

module _ {S : Type 0} (self : Identity S) (d : History) where
  -- What is sent where the history is so far: what is stamped in it, the LOG of the history before the step, or a bare message.
  abbrev pub IsLetter : History → Message → Type 0
  IsLetter now m = ((x : StampedMessage) × In (all_stamped now) x × (as_message x ≡ m)) ⊎ (((r : Resend) × (log_for self d r ≡ m)) ⊎ (is_bare m ≡ true))

  abbrev pub AreLetters : History → List Letter → Type 0
  AreLetters now l = AllByRecursion (λ (k : Letter). IsLetter now k.says) l

  stamped_more : (e : Entry) (now : History) (x : StampedMessage) → In (all_stamped now) x → In (all_stamped (e ∷ now)) x
  unfolding all_stamped
  stamped_more (Stamped m) now x i = inr i
  stamped_more (Accepted m) now x i = i
  stamped_more (Jumped h f) now x i = i
  stamped_more (Closed h c) now x i = i
  stamped_more (Served pos p) now x i = i
  stamped_more (Executed slot) now x i = i
  stamped_more (Installed pos parts) now x i = i
  stamped_more DroppedParts now x i = i
  stamped_more LostPatience now x i = i
  stamped_more Nudged now x i = i

  letter_more : (e : Entry) (now : History) (m : Message) → IsLetter now m → IsLetter (e ∷ now) m
  letter_more e now m (inl (x, i, is)) = inl (x, stamped_more e now x i, is)
  letter_more e now m (inr other) = inr other

  letters_more : (e : Entry) (now : History) (l : List Letter) → AreLetters now l → AreLetters (e ∷ now) l
  letters_more e now l a = all_more (λ (k : Letter). IsLetter now k.says) (λ (k : Letter). IsLetter (e ∷ now) k.says) (λ k i. letter_more e now k.says i) l a

  one_more : (now : History) (l : List Letter) (k : Letter) → AreLetters now l → IsLetter now k.says → AreLetters now (l ++ k ∷ [])
  one_more now l k a i = all_append (λ (j : Letter). IsLetter now j.says) l (k ∷ []) a (i, tt)

  -- ---- so far in a step

  abbrev SentSo : Progress → Type 0
  SentSo x = AreLetters x.history x.sent

  written : (e : Entry) (x : Progress) → SentSo x → SentSo (write e x)
  written e x a = letters_more e x.history x.sent a

  plain_bare : (m : Message) → is_plain m ≡ true → is_bare m ≡ true
  plain_bare (message.Reply m) e = refl
  plain_bare (message.ReqViewChange m) e = refl
  plain_bare (message.Resend m) e = refl
  plain_bare (message.Fetch m) e = refl
  plain_bare (message.State m) e = refl
  plain_bare (message.Request m) e = absurd cc
  plain_bare (message.Prepare m) e = absurd cc
  plain_bare (message.Commit m) e = absurd cc
  plain_bare (message.Checkpoint m) e = absurd cc
  plain_bare (message.ViewChange m) e = absurd cc
  plain_bare (message.NewView m) e = absurd cc
  plain_bare (message.Enter m) e = absurd cc
  plain_bare (message.Open m) e = absurd cc
  plain_bare (message.Join m) e = absurd cc
  plain_bare (message.Log m) e = absurd cc
  plain_bare (message.Stop m) e = absurd cc

  plain_sent : (l : Letter) (x : Progress) → is_plain l.says ≡ true → SentSo x → SentSo (send l x)
  plain_sent l x plain a = one_more x.history x.sent l a (inr (inr (plain_bare l.says plain)))

  reply_sent : (c : ℕ) (x : Progress) → SentSo x → SentSo (send (to_client c (stored_reply self x.history c)) x)
  reply_sent c x a = one_more x.history x.sent (to_client c (stored_reply self x.history c)) a (inr (inr refl))

  stamp_sent : (m : StampedMessage) (x : Progress) → SentSo x → SentSo (stamp self m x)
  unfolding all_stamped
  stamp_sent m x a =
      let made : StampedMessage = signed self x.history m in
      one_more (Stamped made ∷ x.history) x.sent (to_all (as_message made)) (written (Stamped made) x a) (inl (made, inl refl, refl))

  all_served : (pos : ℕ) (rs : List Request) (x : Progress) → SentSo x → SentSo (serve_all self pos rs x)
  all_served pos rs x a = serves_keep self SentSo (λ q p y b. written (Served q p) y b) reply_sent pos rs x a

  moves : KeepsMoves self SentSo
  moves = record {
    quiet = λ e x q a. written e x a;
    jumped = λ h f x free above a. written (Jumped h f) x a;
    noted = λ strings x a. a;
    sent = plain_sent;
    replied = reply_sent;
    stamped = stamp_sent;
    executed = λ pos b x a. let y : Progress = serve_all self pos b.requests x in written (Executed (slot_for self y.history pos)) y (all_served pos b.requests x a);
    installed = λ x a. written (Installed _ _) x a;
  }

  -- What the step of an event sends.
  pub step_letters : (e : Event) → AreLetters (transition self d e).left.history (transition self d e).left.sent
  step_letters e = event_keeps self SentSo (events_by self SentSo moves) d e (λ m a. one_more (Accepted (message.Resend m) ∷ d) [] (to_host m.host (log_for self d m)) tt (inr (inl (m, refl)))) tt
