-- What a step adds to the history is sent where it has to be: each move of the step keeps that.
use Rattle.std.proofs.Common.{◌≡◌, ℕ, Bool, true, false, List, [], ◌∷◌, ◌++◌, refl, sym, ap, subst, ◌∙◌, inl, inr, arith}
use Rattle.std.specs.Prelude.{if◌then◌else◌, Contains}
use Rattle.std.proofs.lemmas.Bool.{cases_Bool}
use Rattle.std.proofs.lemmas.List.Elements.{Contains-append_left, Contains-append_right}
use Rattle.mb_parts.specs.declared.request.Request.{Request}
use Rattle.mb_msg.specs.declared.event.Placed.{Placed}
use Rattle.mb_msg.specs.declared.stamped.Stamped.{Stamped as StampedMessage}
use Rattle.mb_msg.specs.Stamps.{as_message}
use Rattle.mb_model.specs.Histories.{Entry, Accepted, Stamped, Jumped, Closed, Served, Executed, Installed, DroppedParts, LostPatience, Nudged, History, Identity}
use Rattle.mb_model.specs.Sending.{Letter, Progress, write, send, stamp, signed, to_all, to_client}
use Rattle.mb_model.specs.CarriedOut.{placed_in, with_reply, serve, serve_all, slot_for, close_slot}
use Rattle.mb_model.specs.Given.{stored_reply, install}
use Rattle.mb_world_model.specs.World.{System, self_of}
use Rattle.mb_world_model.specs.WorldSteps.{world}
use Rattle.mb_promise.specs.Sends.{AreSent, SendsAdded, SendsAll}
use Rattle.mb_host_laws.proofs.Walks.{is_quiet}
use Rattle.mb_one_log.proofs.Walks.{IsWalked, walked}

module _ {S : Type 0} (self : Identity S) where
  module _ (d : History) where
    abbrev Q : Progress → Type 0
    Q x = SendsAdded self d x.sent x.history

    sent_more : (sent more : List Letter) (l : History) → AreSent self sent d l → AreSent self (sent ++ more) d l
    sent_more sent more [] a = tt
    sent_more sent more (Stamped m ∷ l) a = (Contains-append_left sent more (to_all (as_message m)) a.0, sent_more sent more l a.1)
    sent_more sent more (Served pos p ∷ l) a =
        (λ fresh. Contains-append_left sent more (to_client p.request.client (stored_reply self (Served pos p ∷ l ++ d) p.request.client)) (a.0 fresh), sent_more sent more l a.1)
    sent_more sent more (Accepted m ∷ l) a = sent_more sent more l a
    sent_more sent more (Jumped h f ∷ l) a = sent_more sent more l a
    sent_more sent more (Closed h n ∷ l) a = sent_more sent more l a
    sent_more sent more (Executed slot ∷ l) a = sent_more sent more l a
    sent_more sent more (Installed pos parts ∷ l) a = sent_more sent more l a
    sent_more sent more (DroppedParts ∷ l) a = sent_more sent more l a
    sent_more sent more (LostPatience ∷ l) a = sent_more sent more l a
    sent_more sent more (Nudged ∷ l) a = sent_more sent more l a

    quiet_sent : (sent : List Letter) (e : Entry) (l : History) → is_quiet e ≡ true → AreSent self sent d l → AreSent self sent d (e ∷ l)
    quiet_sent sent (Accepted m) l q a = a
    quiet_sent sent (Jumped h f) l q a = absurd cc
    quiet_sent sent (Closed h n) l q a = a
    quiet_sent sent DroppedParts l q a = a
    quiet_sent sent LostPatience l q a = a
    quiet_sent sent Nudged l q a = a
    quiet_sent sent (Stamped m) l q a = absurd cc
    quiet_sent sent (Served pos p) l q a = absurd cc
    quiet_sent sent (Executed slot) l q a = absurd cc
    quiet_sent sent (Installed pos parts) l q a = absurd cc

    onto_added : (e : Entry) (h l : History) → h ≡ l ++ d → e ∷ h ≡ (e ∷ l) ++ d
    onto_added e h l is = ap (λ (y : History). e ∷ y) is

    quiet_keeps : (e : Entry) (x : Progress) → is_quiet e ≡ true → Q x → Q (write e x)
    quiet_keeps e x q s = record { added = e ∷ s.added; is = onto_added e x.history s.added s.is; are_sent = quiet_sent x.sent e s.added q s.are_sent }

    send_keeps : (l : Letter) (x : Progress) → Q x → Q (send l x)
    send_keeps l x s = record { added = s.added; is = s.is; are_sent = sent_more x.sent (l ∷ []) s.added s.are_sent }

    last_of : (sent : List Letter) (l : Letter) → Contains (sent ++ l ∷ []) l
    last_of sent l = Contains-append_right sent (l ∷ []) l (0, omega arith, refl)

    stamp_keeps : (m : StampedMessage) (x : Progress) → Q x → Q (stamp self m x)
    stamp_keeps m x s =
        let y : StampedMessage = signed self x.history m in
        record {
          added = Stamped y ∷ s.added;
          is = onto_added (Stamped y) x.history s.added s.is;
          are_sent = (last_of x.sent (to_all (as_message y)), sent_more x.sent (to_all (as_message y) ∷ []) s.added s.are_sent);
        }

    serve_fresh : (pos : ℕ) (p : Placed) (x : Progress) → p.fresh ≡ true → Q x → Q (with_reply self p (write (Served pos p) x))
    serve_fresh pos p x fresh s =
        let c : ℕ = p.request.client in
        let l : Letter = to_client c (stored_reply self (Served pos p ∷ x.history) c) in
        let there : Contains (x.sent ++ l ∷ []) (to_client c (stored_reply self (Served pos p ∷ s.added ++ d) c)) =
        subst (λ (h : History). Contains (x.sent ++ l ∷ []) (to_client c (stored_reply self (Served pos p ∷ h) c))) s.is (last_of x.sent l) in
        subst (λ (t : Bool). Q (if t then send l (write (Served pos p) x) else write (Served pos p) x)) (sym fresh) (record {
          added = Served pos p ∷ s.added;
          is = onto_added (Served pos p) x.history s.added s.is;
          are_sent = (λ f. there, sent_more x.sent (l ∷ []) s.added s.are_sent);
        })

    serve_again : (pos : ℕ) (p : Placed) (x : Progress) → p.fresh ≡ false → Q x → Q (with_reply self p (write (Served pos p) x))
    serve_again pos p x again s =
        let l : Letter = to_client p.request.client (stored_reply self (Served pos p ∷ x.history) p.request.client) in
        subst (λ (t : Bool). Q (if t then send l (write (Served pos p) x) else write (Served pos p) x)) (sym again) (record {
          added = Served pos p ∷ s.added;
          is = onto_added (Served pos p) x.history s.added s.is;
          are_sent = (λ f. let c : false ≡ true = sym again ∙ f in absurd cc, s.are_sent);
        })

    serve_keeps : (pos : ℕ) (r : Request) (x : Progress) → Q x → Q (serve self pos r x)
    serve_keeps pos r x s =
        let p : Placed = placed_in self x.history r in
        elim (cases_Bool p.fresh) [
          | inl fresh ↦ serve_fresh pos p x fresh s
          | inr again ↦ serve_again pos p x again s
        ]

    all_keep : (pos : ℕ) (rs : List Request) (x : Progress) → Q x → Q (serve_all self pos rs x)
    unfolding serve_all
    all_keep pos [] x s = s
    all_keep pos (r ∷ rs) x s = all_keep pos rs (serve self pos r x) (serve_keeps pos r x s)

    slot_keeps : (pos : ℕ) (x : Progress) → Q x → Q (close_slot self pos x)
    slot_keeps pos x s = record { added = Executed (slot_for self x.history pos) ∷ s.added; is = onto_added (Executed (slot_for self x.history pos)) x.history s.added s.is; are_sent = s.are_sent }

    install_keeps : (x : Progress) → Q x → Q (install self x)
    install_keeps x s = record { added = _ ∷ s.added; is = onto_added _ x.history s.added s.is; are_sent = s.are_sent }

    sends_walked : IsWalked self Q
    sends_walked = record {
      quiet = quiet_keeps;
      stamped = stamp_keeps;
      jumped = λ h f x free lower s. record { added = Jumped h f ∷ s.added; is = onto_added (Jumped h f) x.history s.added s.is; are_sent = s.are_sent };
      noted = λ strings x s. record { added = s.added; is = s.is; are_sent = s.are_sent };
      sent = λ l x r s. send_keeps l x s;
      replied = λ c x s. send_keeps (to_client c (stored_reply self x.history c)) x s;
      executed = λ pos b x s. slot_keeps pos (serve_all self pos b.requests x) (all_keep pos b.requests x s);
      installed = install_keeps;
    }

  pub sends_all : (d : History) → SendsAll self d
  sends_all d e = walked self (Q d) (sends_walked d) d e (record { added = []; is = refl; are_sent = tt })

pub hosts_send_all : {S : Type 0} (system : System S) (k h : ℕ) → SendsAll (self_of system h) ((world system k).histories h)
hosts_send_all system k h = sends_all (self_of system h) ((world system k).histories h)
