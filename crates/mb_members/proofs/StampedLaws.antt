-- What a host stamps in a step is, in the same order, what is stamped among the messages that it sends.
use Rattle.std.proofs.Common.{◌≡◌, ℕ, ◌<◌, true, false, List, [], ◌∷◌, refl, Some, None, ◌++◌, ap, ◌∙◌}
use Rattle.mb_base.specs.Shapes.{Bytes}
use Rattle.mb_parts.specs.declared.request.Request.{Request}
use Rattle.mb_msg.specs.declared.message.Message.{Message}
use Rattle.mb_msg.specs.declared.stamped.Stamped.{Stamped as StampedMessage}
use Rattle.mb_msg.specs.Stamps.{as_message, bare_of}
use Rattle.mb_model.specs.Histories.{Entry, Accepted, Stamped, Jumped, Served, Executed, Installed, Identity, History, stamped as all_stamped}
use Rattle.mb_model.specs.Sending.{Letter, Progress, write, send, stamp, signed, to_all, to_host, to_client, begin}
use Rattle.mb_model.specs.Making.{log_for}
use Rattle.mb_model.specs.CarriedOut.{serve_all}
use Rattle.mb_model.specs.Given.{stored_reply}
use Rattle.mb_msg.specs.declared.event.Event.{Event}
use Rattle.mb_model.specs.HostStep.{transition}
use Rattle.std.specs.Prelude.{reverse, filter_map}
use Rattle.std.proofs.lemmas.List.{append-nil, reverse-append}
use Rattle.std.proofs.lemmas.List.Elements.{filter_map-append}
use Rattle.mb_parts.specs.Bares.{bare_bytes}
use Rattle.mb_msg.specs.Signed.{covered}
use Rattle.mb_base.specs.Shapes.{IsShape, host_count}
use Rattle.mb_base.specs.declared.shape.Shape.{Shape}
use Rattle.std.specs.List.{AllByRecursion}
use Rattle.mb_msg.specs.Fits.{Fits}
use Rattle.mb_steps.specs.Arises.{IsWhole}
use Rattle.mb_steps.proofs.StepPlanBases.{all_append}
use Rattle.mb_host_laws.proofs.Walks.{is_plain, is_quiet, KeepsMoves, serves_keep, events_by, event_keeps}
use Rattle.mb_history_laws.specs.Speaks.{is_stamp}
use Rattle.mb_history_laws.specs.Sound.{IsSound}
use Rattle.mb_history_laws.proofs.SoundRules.{transition_sound}
use Rattle.mb_encodable.specs.Fitting.{AreFit}
use Rattle.mb_encodable.proofs.Letters.{stamps_sent}
use Rattle.mb_encodable.proofs.Fit.{transition_fit}
use Rattle.mb_members.specs.Stamps.{IsReadable, FitsWhereStamped, bare_in, bares_of}
use Rattle.mb_msg.specs.declared.message.Message.TheVariants as message
use Rattle.mb_msg.specs.declared.stamped.Stamped.TheVariants as stamped

plain_uncovered : (m : Message) → is_plain m ≡ true → covered m ≡ None
plain_uncovered (message.ReqViewChange m) plain = refl
plain_uncovered (message.Resend m) plain = refl
plain_uncovered (message.Fetch m) plain = refl
plain_uncovered (message.State m) plain = refl
plain_uncovered m plain = absurd cc

-- ---- what is stamped is sent

rev_push : {A : Type 0} (xs : List A) (y : A) → reverse (xs ++ y ∷ []) ≡ y ∷ reverse xs
rev_push xs y = reverse-append xs (y ∷ [])

covered_stamped : (m : StampedMessage) → covered (as_message m) ≡ Some (bare_bytes (bare_of m))
covered_stamped (stamped.Prepare m) = refl
covered_stamped (stamped.Commit m) = refl
covered_stamped (stamped.Checkpoint m) = refl
covered_stamped (stamped.ViewChange m) = refl
covered_stamped (stamped.NewView m) = refl
covered_stamped (stamped.Enter m) = refl
covered_stamped (stamped.Open m) = refl
covered_stamped (stamped.Join m) = refl

quiet_stamps : (e : Entry) (d : History) → is_stamp e ≡ false → all_stamped (e ∷ d) ≡ all_stamped d
unfolding all_stamped
quiet_stamps (Stamped m) d other = absurd cc
quiet_stamps e d other = refl

quiet_unstamped : (e : Entry) → is_quiet e ≡ true → is_stamp e ≡ false
quiet_unstamped (Stamped m) quiet = absurd cc
quiet_unstamped e quiet = refl

stamped_more : (m : StampedMessage) (d : History) → all_stamped (Stamped m ∷ d) ≡ m ∷ all_stamped d
unfolding all_stamped
stamped_more m d = refl

one_sent : (letters : List Letter) (l : Letter) → filter_map bare_in (letters ++ l ∷ []) ≡ filter_map bare_in letters ++ filter_map bare_in (l ∷ [])
one_sent letters l = filter_map-append bare_in letters (l ∷ [])

none_sent : (letters : List Letter) (l : Letter) → covered l.says ≡ None → filter_map bare_in (letters ++ l ∷ []) ≡ filter_map bare_in letters
none_sent letters l none = one_sent letters l ∙ rw none (append-nil (filter_map bare_in letters))

some_sent : (letters : List Letter) (l : Letter) (b : Bytes) → covered l.says ≡ Some b → filter_map bare_in (letters ++ l ∷ []) ≡ filter_map bare_in letters ++ b ∷ []
some_sent letters l b some = one_sent letters l ∙ rw some refl

module _ {S : Type 0} (self : Identity S) (d : History) where
  -- so far in a step
  abbrev SentSo : Progress → Type 0
  SentSo x = bares_of x.history ≡ reverse (filter_map bare_in x.sent) ++ bares_of d

  quiet_so : (e : Entry) (x : Progress) → is_stamp e ≡ false → SentSo x → SentSo (write e x)
  quiet_so e x quiet q = rw (quiet_stamps e x.history quiet) q

  sent_so : (l : Letter) (x : Progress) → covered l.says ≡ None → SentSo x → SentSo (send l x)
  sent_so l x none q = rw (none_sent x.sent l none) q

  stamps_so : (m : StampedMessage) (x : Progress) → SentSo x → SentSo (stamp self m x)
  stamps_so m x q =
      let sm : StampedMessage = signed self x.history m in
      rw (stamped_more sm x.history, some_sent x.sent (to_all (as_message sm)) (bare_bytes (bare_of sm)) (covered_stamped sm), rev_push (filter_map bare_in x.sent) (bare_bytes (bare_of sm)))
      (ap (λ (bs : List Bytes). bare_bytes (bare_of sm) ∷ bs) q)

  serve_so : (pos : ℕ) (rs : List Request) (x : Progress) → SentSo x → SentSo (serve_all self pos rs x)
  serve_so pos rs x q = serves_keep self SentSo (λ at p y r. quiet_so (Served at p) y refl r) (λ c y r. sent_so (to_client c (stored_reply self y.history c)) y refl r) pos rs x q

  moves : KeepsMoves self SentSo
  moves = record {
    quiet = λ e x quiet q. quiet_so e x (quiet_unstamped e quiet) q;
    jumped = λ h f x free above q. quiet_so (Jumped h f) x refl q;
    noted = λ strings x q. q;
    sent = λ l x plain q. sent_so l x (plain_uncovered l.says plain) q;
    stamped = stamps_so;
    replied = λ c x q. sent_so (to_client c (stored_reply self x.history c)) x refl q;
    executed = λ pos b x q. rw (quiet_stamps (Executed _) (serve_all self pos b.requests x).history refl) (serve_so pos b.requests x q);
    installed = λ x q. rw (quiet_stamps (Installed _ _) x.history refl) q;
  }

-- what the step of an event adds
pub stamped_is_sent : {S : Type 0} (self : Identity S) (d : History) (e : Event) → bares_of (transition self d e).left.history ≡ reverse (filter_map bare_in (transition self d e).left.sent) ++ bares_of d
stamped_is_sent self d e = event_keeps self (SentSo self d) (events_by self (SentSo self d) (moves self d)) d e
    (λ m q. sent_so self d (to_host m.host (log_for self d m)) (write (Accepted (message.Resend m)) (begin d)) refl (quiet_so self d (Accepted (message.Resend m)) (begin d) refl q)) refl

-- ---- what is stamped can be read again

module _ (s : Shape) where
  -- What a host stamped can be written.
  abbrev CanBeWritten : History → Type 0
  CanBeWritten d = AllByRecursion (λ (m : StampedMessage). Fits s (as_message m)) (all_stamped d)

  readable_none : (l : Letter) → covered l.says ≡ None → IsReadable s l
  readable_none l none = rw none tt

  readable_stamped : (m : StampedMessage) → Fits s (as_message m) → IsReadable s (to_all (as_message m))
  readable_stamped m f = rw (covered_stamped m) f

  one_more : (letters : List Letter) (l : Letter) → FitsWhereStamped s letters → IsReadable s l → FitsWhereStamped s (letters ++ l ∷ [])
  one_more letters l all one = all_append (IsReadable s) letters (l ∷ []) all (one, tt)

  module _ {S : Type 0} (self : Identity S) where
    -- so far in a step, where all that is stamped by then can be written
    abbrev ReadSo : Progress → Type 0
    ReadSo x = CanBeWritten x.history → FitsWhereStamped s x.sent

    quiet_read : (e : Entry) (x : Progress) → is_stamp e ≡ false → ReadSo x → ReadSo (write e x)
    quiet_read e x quiet q can = q (rw (quiet_stamps e x.history quiet) at can)

    sent_read : (l : Letter) (x : Progress) → covered l.says ≡ None → ReadSo x → ReadSo (send l x)
    sent_read l x none q can = one_more x.sent l (q can) (readable_none l none)

    stamps_read : (m : StampedMessage) (x : Progress) → ReadSo x → ReadSo (stamp self m x)
    stamps_read m x q can =
        let sm : StampedMessage = signed self x.history m in
        let both = rw (stamped_more sm x.history) at can in
        one_more x.sent (to_all (as_message sm)) (q both.1) (readable_stamped sm both.0)

    serve_read : (pos : ℕ) (rs : List Request) (x : Progress) → ReadSo x → ReadSo (serve_all self pos rs x)
    serve_read pos rs x q = serves_keep self ReadSo (λ at p y r. quiet_read (Served at p) y refl r) (λ c y r. sent_read (to_client c (stored_reply self y.history c)) y refl r) pos rs x q

    reads : KeepsMoves self ReadSo
    reads = record {
      quiet = λ e x quiet q. quiet_read e x (quiet_unstamped e quiet) q;
      jumped = λ h f x free above q. quiet_read (Jumped h f) x refl q;
      noted = λ strings x q. q;
      sent = λ l x plain q. sent_read l x (plain_uncovered l.says plain) q;
      stamped = stamps_read;
      replied = λ c x q. sent_read (to_client c (stored_reply self x.history c)) x refl q;
      executed = λ pos b x q. quiet_read (Executed _) (serve_all self pos b.requests x) refl (serve_read pos b.requests x q);
      installed = λ x q. quiet_read (Installed _ _) x refl q;
    }

-- what the step of an event sends
pub sent_is_readable : {S : Type 0} (self : Identity S) (d : History) (e : Event) → IsShape self.shape → self.host < host_count self.shape → IsSound self d → IsWhole d → AreFit self d
    → FitsWhereStamped self.shape (transition self d e).left.sent
sent_is_readable self d e shape there sound whole fit =
    event_keeps self (ReadSo self.shape self) (events_by self (ReadSo self.shape self) (reads self.shape self)) d e
    (λ m q. sent_read self.shape self (to_host m.host (log_for self d m)) (write (Accepted (message.Resend m)) (begin d)) refl (quiet_read self.shape self (Accepted (message.Resend m)) (begin d) refl q)) (λ can. tt)
    (stamps_sent self shape there (transition self d e).left.history (transition_sound self d e sound whole).0 (transition_fit self there d e sound whole fit))
