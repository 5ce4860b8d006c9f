-- What an event brings is written before all else of its step, and stays so.
use Rattle.std.proofs.Common.{◌≡◌, ℕ, true, [], ◌∷◌, ◌++◌, refl, sym, ap, subst, inl, inr}
use Rattle.std.specs.Prelude.{Result, is_none}
use Rattle.std.proofs.lemmas.Bool.{cases_Bool, ne_eqb}
use Rattle.mb_parts.specs.declared.request.Request.{Request}
use Rattle.mb_msg.specs.declared.normal.Commit.{Commit}
use Rattle.mb_msg.specs.declared.message.Message.{Message}
use Rattle.mb_msg.specs.declared.message.Message.TheVariants as message
use Rattle.mb_msg.specs.declared.change.ReqViewChange.{ReqViewChange}
use Rattle.mb_msg.specs.declared.transfer.Resend.{Resend}
use Rattle.mb_msg.specs.declared.transfer.Fetch.{Fetch}
use Rattle.mb_msg.specs.declared.transfer.StateMsg.{StateMsg}
use Rattle.mb_msg.specs.declared.stamped.Stamped.{Stamped as StampedMessage}
use Rattle.mb_msg.specs.declared.stamped.Stamped.TheVariants as stamped
use Rattle.mb_msg.specs.Stamps.{as_message}
use Rattle.mb_model.specs.Histories.{Entry, Accepted, LostPatience, Nudged, History, Identity, view_of}
use Rattle.mb_model.specs.Held.{view_limit}
use Rattle.mb_model.specs.Execution.{missing}
use Rattle.mb_model.specs.Compared.{compared_in}
use Rattle.mb_model.specs.Sending.{Progress, begin, write, send, note, to_all}
use Rattle.mb_model.specs.Making.{resend}
use Rattle.mb_model.specs.Passed.{PassesStamped, Passes}
use Rattle.mb_model.specs.Given.{named_prepare, casts_vote, accept, give_stamped, give_request, give_wish, give_resend, give_fetch, give_state, give}
use Rattle.mb_model.specs.HostStep.{on_bytes, on_patience, on_nudge, transition}
use Rattle.mb_one_log.proofs.Walks.{IsWalked, each_entry, offer_keeps, finished_keeps, again_keeps}
use Rattle.mb_world_model.specs.World.{System, self_of}
use Rattle.mb_world_model.specs.WorldSteps.{world}
use Rattle.mb_promise.specs.NothingLeft.{IsNoLog}
use Rattle.mb_promise.specs.Writes.{WritesTaken, WritesPatience, WritesNudge, Writes}
use Rattle.mb_obligations.proofs.Taken.{stamped_passed, request_passed, wish_passed, resend_passed, fetch_passed, state_passed, takes_what_passes}

module _ {S : Type 0} (self : Identity S) where
  -- ---- a step only adds

  module _ (base : History) where
    abbrev pub Follows : Progress → Type 0
    Follows x = (later : History) × (x.history ≡ later ++ base)

    more : (e : Entry) (h : History) → (later : History) × (h ≡ later ++ base) → (later : History) × (e ∷ h ≡ later ++ base)
    more e h s = (e ∷ s.0, ap (λ (y : History). e ∷ y) s.1)

    pub follows_walked : IsWalked self Follows
    follows_walked = each_entry self (λ (h : History). (later : History) × (h ≡ later ++ base)) more

  -- ---- what is taken

  module _ (d : History) where
    commit_first : (m : Commit) (x : Progress) → x.history ≡ d → Follows (Accepted (message.Commit m) ∷ d) (accept self (stamped.Commit m) x)
    commit_first m x is =
        let e : Entry = Accepted (message.Commit m) in
        let first : Follows (e ∷ d) (write e x) = ([], ap (λ (y : History). e ∷ y) is) in
        elim (cases_Bool (casts_vote self x.history m)) [
          | inl votes ↦ rw votes (offer_keeps self (Follows (e ∷ d)) (follows_walked (e ∷ d)) (named_prepare self m) (write e x) first)
          | inr not_so ↦ rw not_so first
        ]

    accepted_first : (m : StampedMessage) (x : Progress) → x.history ≡ d → Follows (Accepted (as_message m) ∷ d) (accept self m x)
    accepted_first (stamped.Commit m) x is = commit_first m x is
    accepted_first (stamped.Prepare m) x is = ([], ap (λ (y : History). Accepted (message.Prepare m) ∷ y) is)
    accepted_first (stamped.Checkpoint m) x is = ([], ap (λ (y : History). Accepted (message.Checkpoint m) ∷ y) is)
    accepted_first (stamped.ViewChange m) x is = ([], ap (λ (y : History). Accepted (message.ViewChange m) ∷ y) is)
    accepted_first (stamped.NewView m) x is = ([], ap (λ (y : History). Accepted (message.NewView m) ∷ y) is)
    accepted_first (stamped.Enter m) x is = ([], ap (λ (y : History). Accepted (message.Enter m) ∷ y) is)
    accepted_first (stamped.Open m) x is = ([], ap (λ (y : History). Accepted (message.Open m) ∷ y) is)
    accepted_first (stamped.Join m) x is = ([], ap (λ (y : History). Accepted (message.Join m) ∷ y) is)

    stamped_first : (m : StampedMessage) → PassesStamped self d m → Follows (Accepted (as_message m) ∷ d) (give_stamped self m (begin d)).left
    unfolding give_stamped
    stamped_first m p = rw (stamped_passed self d m p) (accepted_first m (note (compared_in self d m) (begin d)) refl)

    request_first : (m : Request) → Passes self d (message.Request m) → Follows (Accepted (message.Request m) ∷ d) (give_request self m (begin d)).left
    unfolding give_request
    request_first m p = rw (request_passed self d m p) ([], refl)

    wish_first : (m : ReqViewChange) → Passes self d (message.ReqViewChange m) → Follows (Accepted (message.ReqViewChange m) ∷ d) (give_wish self m (begin d)).left
    unfolding give_wish
    wish_first m p = rw (wish_passed self d m p) ([], refl)

    resend_first : (m : Resend) → Passes self d (message.Resend m) → Follows (Accepted (message.Resend m) ∷ d) (give_resend self m (begin d)).left
    unfolding give_resend
    resend_first m p = rw (resend_passed self d m p) ([], refl)

    fetch_first : (m : Fetch) → Passes self d (message.Fetch m) → Follows (Accepted (message.Fetch m) ∷ d) (give_fetch self m (begin d)).left
    unfolding give_fetch
    fetch_first m p = rw (fetch_passed self d m p) ([], refl)

    state_first : (m : StateMsg) → Passes self d (message.State m) → Follows (Accepted (message.State m) ∷ d) (give_state self m (begin d)).left
    unfolding give_state
    state_first m p = rw (state_passed self d m p) (elim (cases_Bool (is_none (missing self (Accepted (message.State m) ∷ d)))) [
      | inl all ↦ rw all (more (Accepted (message.State m) ∷ d) _ (Accepted (message.State m) ∷ d) ([], refl))
      | inr not_so ↦ rw not_so ([], refl)
    ])

    given_first : (m : Message) → IsNoLog self d m → Passes self d m → Follows (Accepted m ∷ d) (give self m (begin d)).left
    given_first (message.Request m) n p = request_first m p
    given_first (message.Prepare m) n p = stamped_first (stamped.Prepare m) p
    given_first (message.Commit m) n p = stamped_first (stamped.Commit m) p
    given_first (message.Reply m) n p = absurd p
    given_first (message.Checkpoint m) n p = stamped_first (stamped.Checkpoint m) p
    given_first (message.ReqViewChange m) n p = wish_first m p
    given_first (message.ViewChange m) n p = stamped_first (stamped.ViewChange m) p
    given_first (message.NewView m) n p = stamped_first (stamped.NewView m) p
    given_first (message.Enter m) n p = stamped_first (stamped.Enter m) p
    given_first (message.Open m) n p = stamped_first (stamped.Open m) p
    given_first (message.Join m) n p = stamped_first (stamped.Join m) p
    given_first (message.Resend m) n p = resend_first m p
    given_first (message.Log m) n p = absurd n
    given_first (message.Fetch m) n p = fetch_first m p
    given_first (message.State m) n p = state_first m p
    given_first (message.Stop m) n p = absurd p

    writes_taken : WritesTaken self d
    unfolding transition
    writes_taken bytes m reads no_log took =
        let base : History = Accepted m ∷ d in
        let p : Passes self d m = (takes_what_passes self d bytes m reads no_log).0 took in
        subst (λ (r : Result Message ℕ). Follows base (on_bytes self r d).left) (sym reads)
        (finished_keeps self (Follows base) (follows_walked base) _ _ d (give self m (begin d)) (given_first m no_log p))

    -- ---- Patience and Nudge

    patience_first : (view_of self d ≡ view_limit → ⊥) → Follows (LostPatience ∷ d) (on_patience self (begin d)).left
    unfolding on_patience
    patience_first below = rw (ne_eqb (view_of self d) view_limit below) ([], refl)

    writes_patience : WritesPatience self d
    unfolding transition
    writes_patience below = finished_keeps self (Follows (LostPatience ∷ d)) (follows_walked (LostPatience ∷ d)) _ _ d (on_patience self (begin d)) (patience_first below)

    nudge_first : Follows (Nudged ∷ d) (on_nudge self (begin d)).left
    unfolding on_nudge
    nudge_first = again_keeps self (Follows (Nudged ∷ d)) (follows_walked (Nudged ∷ d)) (send (to_all (resend self d)) (write Nudged (begin d))) ([], refl)

    writes_nudge : WritesNudge self d
    unfolding transition
    writes_nudge = finished_keeps self (Follows (Nudged ∷ d)) (follows_walked (Nudged ∷ d)) true true d (on_nudge self (begin d)) nudge_first

    writes : Writes self d
    writes = record { taken = writes_taken; patience = writes_patience; nudge = writes_nudge }

pub hosts_write : {S : Type 0} (system : System S) (k h : ℕ) → Writes (self_of system h) ((world system k).histories h)
hosts_write system k h = writes (self_of system h) ((world system k).histories h)
