-- Whatever a correct host sends, nothing in it is forged.
use Rattle.std.proofs.Common.{◌≡◌, ℕ, true, List, [], ◌∷◌, refl, sym, subst, inl, inr, Some, Ok}
use Rattle.std.specs.Prelude.{fold}
use Rattle.std.proofs.lemmas.Bool.{cases_Bool}
use Rattle.mb_base.specs.Shapes.{Bytes}
use Rattle.mb_usig.specs.Tags.{same_bytes}
use Rattle.mb_usig.proofs.Laws.{true-same_bytes}
use Rattle.mb_parts.specs.declared.request.Request.{Request}
use Rattle.mb_parts.specs.Claims.{Claim}
use Rattle.mb_msg.specs.declared.event.Event.{Event}
use Rattle.mb_msg.specs.declared.message.Message.{Message}
use Rattle.mb_msg.specs.declared.message.Message.TheVariants as message
use Rattle.mb_msg.specs.declared.transfer.Resend.{Resend}
use Rattle.mb_msg.specs.declared.stamped.Stamped.{Stamped as StampedMessage}
use Rattle.mb_msg.specs.Fits.{Fits}
use Rattle.mb_msg.specs.Reading.{message_of}
use Rattle.mb_msg.specs.Spelling.{spelling}
use Rattle.mb_msg.specs.Stamps.{as_message}
use Rattle.mb_model.specs.Histories.{Accepted, Stamped, Jumped, Closed, Served, Executed, Installed, DroppedParts, LostPatience, Nudged, History, Identity, stamped as all_stamped}
use Rattle.mb_model.specs.HostStep.{transition}
use Rattle.mb_model.specs.Making.{log_for}
use Rattle.mb_model.specs.Sending.{Letter}
use Rattle.mb_model.specs.Members.{In}
use Rattle.mb_model.proofs.Members.{all_in}
use Rattle.mb_schedule.specs.declared.schedule.Schedule.{Schedule}
use Rattle.mb_model.specs.Inside.{claims_in, requests_in}
use Rattle.mb_world_model.specs.World.{World, System, self_of, read, with_tagged, is_tagged_message}
use Rattle.mb_world_model.specs.WorldEvents.{IsCorrect}
use Rattle.mb_world_model.specs.Forged.{was_tagged}
use Rattle.mb_world_laws.proofs.AllKnown.{all_known}
use Rattle.mb_host_laws.proofs.Cases.{each_in}
use Rattle.mb_world_laws.proofs.Grown.{Grows, IsGivenTo, IsHashed, HasStrings, RestsIn}
use Rattle.mb_world_laws.proofs.Knows.{accepted_issued}
use Rattle.mb_host_laws.proofs.OwnKnown.{Known}
use Rattle.mb_host_laws.proofs.Parts.{part_requests}
use Rattle.mb_host_laws.specs.Rests.{Each, Rests}
use Rattle.mb_encodable.proofs.Letters.{stamps_sent, log_sent}
use Rattle.mb_unforged.proofs.Forms.{OfMessage, OfStamped, as_whole}
use Rattle.mb_unforged.proofs.Searches.{AllCarried}
use Rattle.mb_unforged.proofs.Stamps.{IsTaken, all_carried, stamped_carried, log_carried}
use Rattle.mb_unforged.proofs.ReadAgain.{reply_again, wish_again, resend_again, fetch_again, state_again, read_fields}
use Rattle.mb_unforged.proofs.Letters.{is_bare, IsLetter, step_letters}
use Rattle.mb_unforged.proofs.Ready.{IsReady, given_fits, read_is}
use Rattle.mb_unforged.proofs.Genuine.{any_of, IsIssued, IsAskedFor, IsGenuine, parts_grow, stamp_made}

-- ---- what is in a host's history

module _ {S : Type 0} (system : System S) (w : World) (r : IsReady system w) (h : ℕ) (correct : IsCorrect system.schedule h) where
  abbrev self : Identity S
  self = self_of system h

  abbrev P : Claim → Type 0
  P c = IsIssued system.schedule w c

  abbrev Q : Request → Type 0
  Q q = IsAskedFor system.schedule w q

  abbrev Text : Bytes → Type 0
  Text b = IsHashed system.schedule w b

  abbrev Of : Message → Type 0
  Of m = OfMessage system.schedule.shape P Q m

  known : Each (Known self P Text) (w.histories h)
  known = all_known system w r.shape r.standing r.numbered (given_fits system w) r.low h correct (w.histories h) (record { later = []; is = refl }) (r.arises h) (r.standing.rests h)

  accepted : (m : Message) (d : History) → Rests self (IsGivenTo system.schedule w h) (IsHashed system.schedule w) (HasStrings system.schedule w) (Accepted m) d → Of m
  accepted m d a = record {
    claims = each_in P (claims_in system.schedule.shape m) (λ c i. accepted_issued system w r.standing h m d a c i);
    requests = each_in Q (requests_in m) (λ q i t f. (r.standing.clean h a.0.0 a.0.1).asked q (part_requests self a.0.0 m a.0.2 q i) t f);
  }

  taken : (d : History) → RestsIn system w h d → Each (IsTaken self P Text Q) d
  taken [] a = tt
  taken (Accepted m ∷ d) a = (accepted m d a.0, taken d a.1)
  taken (Stamped m ∷ d) a = (tt, taken d a.1)
  taken (Jumped g f ∷ d) a = (tt, taken d a.1)
  taken (Closed g c ∷ d) a = (tt, taken d a.1)
  taken (Served pos p ∷ d) a = (tt, taken d a.1)
  taken (Executed slot ∷ d) a = (tt, taken d a.1)
  taken (Installed pos parts ∷ d) a = (tt, taken d a.1)
  taken (DroppedParts ∷ d) a = (tt, taken d a.1)
  taken (LostPatience ∷ d) a = (tt, taken d a.1)
  taken (Nudged ∷ d) a = (tt, taken d a.1)

  carried : AllCarried self P Q (w.histories h)
  carried = all_carried self P Text Q (w.histories h) (r.arises h) known (taken (w.histories h) (r.standing.rests h))

  -- what it stamped, and that it can be read
  pub of_stamp : (x : StampedMessage) → In (all_stamped (w.histories h)) x → Of (as_message x) × Fits system.schedule.shape (as_message x)
  of_stamp x i = (
    as_whole system.schedule.shape P Q x (all_in (OfStamped system.schedule.shape P Q) (all_stamped (w.histories h)) x (stamped_carried self P Text Q (w.histories h) carried) i),
    all_in (λ (y : StampedMessage). Fits system.schedule.shape (as_message y)) (all_stamped (w.histories h)) x
        (stamps_sent self r.shape correct.0 (w.histories h) (r.kept h correct).sound (r.kept h correct).fit) i,
  )

  -- a LOG of it
  pub of_log : (m : Resend) → Of (log_for self (w.histories h) m) × Fits system.schedule.shape (log_for self (w.histories h) m)
  of_log m = (log_carried self P Text Q (w.histories h) m known carried, log_sent self r.shape correct.0 (w.histories h) (r.kept h correct).sound (r.kept h correct).fit m)

-- ---- what it sends

with_before : (t : List Message) (l : Letter) (m : Message) → In t m → In (with_tagged t l) m
with_before t l m i = elim (cases_Bool (is_tagged_message l.says)) [
  | inl yes_so ↦ rw yes_so (inr i)
  | inr not_so ↦ rw not_so i
]

tagged_before : (l : List Letter) (t : List Message) (m : Message) → In t m → In (fold with_tagged t l) m
tagged_before [] t m i = i
tagged_before (x ∷ l) t m i = tagged_before l (with_tagged t x) m (with_before t x m i)

-- A reply or a wish that is sent is noted.
tagged_in : (l : List Letter) (t : List Message) (k : Letter) → In l k → is_tagged_message k.says ≡ true → In (fold with_tagged t l) k.says
tagged_in [] t k i e = absurd i
tagged_in (x ∷ l) t k (inl is) e = subst (λ (y : Letter). In (fold with_tagged (with_tagged t x) l) y.says) is (tagged_before l (with_tagged t x) x.says (now (subst (λ (y : Letter). is_tagged_message y.says ≡ true) (sym is) e))) where
  now : is_tagged_message x.says ≡ true → In (with_tagged t x) x.says
  now f = rw f (inl refl)
tagged_in (x ∷ l) t k (inr i) e = tagged_in l (with_tagged t x) k i e

module _ {S : Type 0} (system : System S) (w v : World) (before : IsReady system w) (behind : IsReady system v) (grows : Grows system.schedule w v) (h : ℕ) (correct : IsCorrect system.schedule h) (seen : Event)
    (left : v.histories h ≡ (transition (self_of system h) (w.histories h) seen).left.history) (tags : v.tagged ≡ fold with_tagged w.tagged (transition (self_of system h) (w.histories h) seen).left.sent) where
  abbrev s : Schedule
  s = system.schedule

  abbrev sent : List Letter
  sent = (transition (self_of system h) (w.histories h) seen).left.sent

  abbrev Genuine : Message → Type 0
  Genuine m = IsGenuine s v m

  read_back : (m x : Message) → Fits s.shape m → read s (spelling m) ≡ Some x → m ≡ x
  read_back m x f e = read_fields s.shape behind.shape m x f.fields (read_is (message_of s.shape (spelling m)) x e)

  -- stamped ones, and LOGs
  stamp_genuine : (x : StampedMessage) → In (all_stamped (v.histories h)) x → (m : Message) → read s (spelling (as_message x)) ≡ Some m → Genuine m
  stamp_genuine x i m e =
      let g = of_stamp system v behind h correct x i in
      subst Genuine (read_back (as_message x) m g.1 e) (record { parts = g.0; made = stamp_made s v x })

  log_genuine : (q : Resend) (m : Message) → read s (spelling (log_for (self_of system h) (w.histories h) q)) ≡ Some m → Genuine m
  log_genuine q m e =
      let g = of_log system w before h correct q in
      subst Genuine (read_back (log_for (self_of system h) (w.histories h) q) m g.1 e) (record { parts = parts_grow s w v grows (log_for (self_of system h) (w.histories h) q) g.0; made = tt })

  -- the others
  noted : (l : Letter) → In sent l → is_tagged_message l.says ≡ true → (x : Message) → spelling x ≡ spelling l.says → was_tagged s v x ≡ true
  noted l i k x same = any_of (λ y. same_bytes (spelling y) (spelling x)) v.tagged l.says (subst (λ (t : List Message). In t l.says) (sym tags) (tagged_in sent w.tagged l i k)) (true-same_bytes (spelling l.says) (spelling x) (sym same))

  bare_genuine : (l : Letter) → In sent l → (y : Message) → l.says ≡ y → is_bare y ≡ true → (m : Message) → message_of s.shape (spelling y) ≡ Ok m → Genuine m
  unfolding claims_in requests_in
  bare_genuine l i (message.Reply y) is b m e =
      let a = reply_again s.shape y m e in
      subst Genuine a.1 (record { parts = record { claims = tt; requests = tt }; made = λ c. noted l i (rw is refl) (message.Reply a.0) (rw is a.2) })
  bare_genuine l i (message.ReqViewChange y) is b m e =
      let a = wish_again s.shape y m e in
      subst Genuine a.1 (record { parts = record { claims = tt; requests = tt }; made = λ c. noted l i (rw is refl) (message.ReqViewChange a.0) (rw is a.2) })
  bare_genuine l i (message.Resend y) is b m e = let a = resend_again s.shape y m e in subst Genuine a.1 (record { parts = record { claims = tt; requests = tt }; made = tt })
  bare_genuine l i (message.Fetch y) is b m e = let a = fetch_again s.shape y m e in subst Genuine a.1 (record { parts = record { claims = tt; requests = tt }; made = tt })
  bare_genuine l i (message.State y) is b m e = let a = state_again s.shape y m e in subst Genuine a.1 (record { parts = record { claims = tt; requests = tt }; made = tt })
  bare_genuine l i (message.Request y) is b m e = absurd cc
  bare_genuine l i (message.Prepare y) is b m e = absurd cc
  bare_genuine l i (message.Commit y) is b m e = absurd cc
  bare_genuine l i (message.Checkpoint y) is b m e = absurd cc
  bare_genuine l i (message.ViewChange y) is b m e = absurd cc
  bare_genuine l i (message.NewView y) is b m e = absurd cc
  bare_genuine l i (message.Enter y) is b m e = absurd cc
  bare_genuine l i (message.Open y) is b m e = absurd cc
  bare_genuine l i (message.Join y) is b m e = absurd cc
  bare_genuine l i (message.Log y) is b m e = absurd cc
  bare_genuine l i (message.Stop y) is b m e = absurd cc

  -- Whatever is read of what it sends, nothing in it is forged.
  pub letter_genuine : (l : Letter) → In sent l → (m : Message) → read s (spelling l.says) ≡ Some m → Genuine m
  letter_genuine l i m e = go (all_in (λ (k : Letter). IsLetter (self_of system h) (w.histories h) (transition (self_of system h) (w.histories h) seen).left.history k.says) sent l (step_letters (self_of system h) (w.histories h) seen) i) where
    go : IsLetter (self_of system h) (w.histories h) (transition (self_of system h) (w.histories h) seen).left.history l.says → Genuine m
    go (inl (x, j, is)) = stamp_genuine x (subst (λ (d : History). In (all_stamped d) x) (sym left) j) m (subst (λ (y : Message). read s (spelling y) ≡ Some m) (sym is) e)
    go (inr (inl (q, is))) = log_genuine q m (subst (λ (y : Message). read s (spelling y) ≡ Some m) (sym is) e)
    go (inr (inr bare)) = bare_genuine l i l.says refl bare m (read_is (message_of s.shape (spelling l.says)) m e)
