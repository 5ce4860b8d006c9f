-- Who asks is answered: what is sent at once stays among what is sent, whatever the rest of the step does.
use Rattle.std.proofs.Common.{◌≡◌, ℕ, ◌<◌, Bool, true, false, List, [], ◌∷◌, ◌++◌, refl, sym, ap, subst, ◌∙◌, inl, inr, arith, Option, Some, Ok}
use Rattle.std.specs.Prelude.{Contains, unwrap_or, Result}
use Rattle.std.specs.Bool.{then_some}
use Rattle.std.specs.Option.{option_or}
use Rattle.std.proofs.lemmas.Bool.{cases_Bool, eq-eqb, ne_eqb, lt-ltb, le-ltb, ltb-false}
use Rattle.std.proofs.lemmas.List.Elements.{Contains-append_left, Contains-append_right}
use Rattle.mb_usig.specs.Tags.{request_tag}
use Rattle.mb_usig.proofs.Laws.{true-same_bytes}
use Rattle.mb_base.specs.Shapes.{Bytes}
use Rattle.mb_parts.specs.declared.request.Request.{Request}
use Rattle.mb_msg.specs.declared.event.Event.TheVariants as event
use Rattle.mb_msg.specs.declared.event.Outcome.{Outcome}
use Rattle.mb_msg.specs.declared.event.Outcome.TheVariants as outcome
use Rattle.mb_msg.specs.declared.message.Message.{Message}
use Rattle.mb_msg.specs.declared.message.Message.TheVariants as message
use Rattle.mb_msg.specs.declared.transfer.Resend.{Resend}
use Rattle.mb_msg.specs.declared.transfer.Fetch.{Fetch}
use Rattle.mb_msg.specs.Stamps.{as_message}
use Rattle.mb_msg.specs.Reading.{message_of}
use Rattle.mb_model.specs.Histories.{LostPatience, Nudged, History, Identity, view_of, origin, taken_of}
use Rattle.mb_model.specs.Held.{view_limit, wish_of}
use Rattle.mb_model.specs.Service.{reply_of}
use Rattle.mb_model.specs.Stable.{low_of}
use Rattle.mb_model.specs.Positions.{exec_of, is_behind}
use Rattle.mb_model.specs.Execution.{state_of, snapshot_of, asked_host}
use Rattle.mb_model.specs.Sending.{Letter, Progress, begin, write, send, signed, to_all, to_host, to_client}
use Rattle.mb_model.specs.Making.{wish_for, wish, resend, log_for, fetch, state_message}
use Rattle.mb_model.specs.PlainChecks.{number_refusal, request_refusal, resend_refusal, fetch_refusal}
use Rattle.mb_model.specs.CarriedOut.{serve_all, run_rules, enough}
use Rattle.mb_model.specs.Given.{Answer, stored_reply, give_request, give_resend, give_fetch, give_state}
use Rattle.mb_model.specs.HostStep.{with_fetch, is_taken, finished_where, on_bytes, on_patience, on_nudge, wish_again, transition}
use Rattle.mb_model.proofs.Options.{option_cases}
use Rattle.mb_world_model.specs.World.{System, self_of}
use Rattle.mb_world_model.specs.WorldSteps.{world}
use Rattle.mb_promise.specs.TakesValid.{IsTagged}
use Rattle.mb_promise.specs.Answers.{AnswersResend, AnswersFetch, AnswersAgain, WishesOnward, AsksAll, TellsWishAgain, AsksWhereBehind, FetchesOnNudge, FetchesOn, AnswersAll}
use Rattle.mb_host_laws.proofs.Walks.{serves_keep}
use Rattle.mb_one_log.proofs.Walks.{IsWalked, finished_keeps, again_keeps}
use Rattle.mb_obligations.proofs.ShowsLog.{log_shown, shows_log, state_shown, shows_state}

module _ {S : Type 0} (self : Identity S) (d : History) where
  -- ---- a letter that is sent stays so

  module _ (l : Letter) where
    abbrev pub Q : Progress → Type 0
    Q x = Contains x.sent l

    more : (m : Letter) (x : Progress) → Q x → Q (send m x)
    more m x s = Contains-append_left x.sent (m ∷ []) l s

    serves : (pos : ℕ) (rs : List Request) (x : Progress) → Q x → Q (serve_all self pos rs x)
    serves pos rs x s = serves_keep self Q (λ q p y t. t) (λ c y t. more (to_client c (stored_reply self y.history c)) y t) pos rs x s

    pub letter_walked : IsWalked self Q
    letter_walked = record {
      quiet = λ e x q s. s;
      stamped = λ m x s. Contains-append_left x.sent (to_all (as_message (signed self x.history m)) ∷ []) l s;
      jumped = λ h f x free lower s. s;
      noted = λ strings x s. s;
      sent = λ m x r s. more m x s;
      replied = λ c x s. more (to_client c (stored_reply self x.history c)) x s;
      executed = λ pos b x s. serves pos b.requests x s;
      installed = λ x s. s;
    }

    finished_has : (runs asks : Bool) (a : Answer) → Contains a.left.sent l → Contains (finished_where self runs asks d a).left.sent l
    finished_has runs asks a s = finished_keeps self Q letter_walked runs asks d a s

  pub last_of : (sent : List Letter) (l : Letter) → Contains (sent ++ l ∷ []) l
  last_of sent l = Contains-append_right sent (l ∷ []) l (0, omega arith, refl)

  -- ---- RESEND and FETCH

  not_took : (t : Bool) → then_some t outcome.Idle ≡ Some outcome.Took → ⊥
  not_took true e = absurd cc
  not_took false e = absurd cc

  neither_took : (t u : Bool) → option_or (then_some t outcome.Idle) (then_some u outcome.Idle) ≡ Some outcome.Took → ⊥
  neither_took true u e = absurd cc
  neither_took false u e = not_took u e

  some_took : (x : Option Outcome) (o : Outcome) → x ≡ Some o → o ≡ outcome.Took → x ≡ Some outcome.Took
  some_took x o e is = e ∙ ap (λ (y : Outcome). Some y) is

  resend_refuses : (m : Resend) → resend_refusal self d m ≡ Some outcome.Took → ⊥
  unfolding resend_refusal
  resend_refuses m e = neither_took _ _ e

  fetch_refuses : (m : Fetch) → fetch_refusal self d m ≡ Some outcome.Took → ⊥
  fetch_refuses m e = not_took _ e

  resend_sent : (m : Resend) → (give_resend self m (begin d)).outcome ≡ outcome.Took → Contains (give_resend self m (begin d)).left.sent (to_host m.host (log_for self d m))
  unfolding give_resend
  resend_sent m = elim (option_cases (resend_refusal self d m)) [
    | inl none ↦ rw none (λ e. last_of [] (to_host m.host (log_for self d m)))
    | inr (o, some) ↦ rw some (λ e. absurd (resend_refuses m (some_took (resend_refusal self d m) o some e)))
  ]

  fetch_sent : (m : Fetch) → (give_fetch self m (begin d)).outcome ≡ outcome.Took
      → Contains (give_fetch self m (begin d)).left.sent (to_host m.host (state_message self m.pos m.first (unwrap_or (snapshot_of self d m.pos) [])))
  unfolding give_fetch
  fetch_sent m = elim (option_cases (fetch_refusal self d m)) [
    | inl none ↦ rw none (λ e. last_of [] (to_host m.host (state_message self m.pos m.first (unwrap_or (snapshot_of self d m.pos) []))))
    | inr (o, some) ↦ rw some (λ e. absurd (fetch_refuses m (some_took (fetch_refusal self d m) o some e)))
  ]

  -- ---- a request that was served

  again_is : (r : Request) → IsTagged self r → r.seq ≡ (reply_of (state_of self d) r.client).seq → request_refusal self d r ≡ Some outcome.Again
  unfolding request_refusal number_refusal
  again_is r tagged last =
      let n : ℕ = (reply_of (state_of self d) r.client).seq in
      rw (true-same_bytes r.tag (request_tag self.secret r.client r.seq r.op) tagged, le-ltb r.seq n (omega (arith, last)), eq-eqb r.seq n last) refl

  stored_sent : (r : Request) → request_refusal self d r ≡ Some outcome.Again → Contains (give_request self r (begin d)).left.sent (to_client r.client (stored_reply self d r.client))
  unfolding give_request
  stored_sent r is = rw is (last_of [] (to_client r.client (stored_reply self d r.client)))

  answers_again : AnswersAgain self d
  unfolding transition
  answers_again bytes r reads tagged last =
      let l : Letter = to_client r.client (stored_reply self d r.client) in
      subst (λ (x : Result Message ℕ). Contains (on_bytes self x d).left.sent l) (sym reads)
      (finished_has l _ _ (give_request self r (begin d)) (stored_sent r (again_is r tagged last)))

  -- ---- what was taken

  outcome_stays : (runs asks : Bool) (a : Answer) → (finished_where self runs asks d a).outcome ≡ outcome.Took → a.outcome ≡ outcome.Took
  outcome_stays true asks a e = e
  outcome_stays false asks a e = e

  resend_has : (m : Resend) (r : Result Message ℕ) → Ok (message.Resend m) ≡ r → (on_bytes self r d).outcome ≡ outcome.Took → Contains (on_bytes self r d).left.sent (to_host m.host (log_for self d m))
  resend_has m r is =
      subst (λ (r : Result Message ℕ). (on_bytes self r d).outcome ≡ outcome.Took → Contains (on_bytes self r d).left.sent (to_host m.host (log_for self d m))) is
      (λ e. finished_has (to_host m.host (log_for self d m)) _ _ (give_resend self m (begin d)) (resend_sent m (outcome_stays _ _ (give_resend self m (begin d)) e)))

  answers_resend : AnswersResend self d
  unfolding transition
  answers_resend bytes m reads took = (log_shown self d m, resend_has m (message_of self.shape bytes) (sym reads) took, shows_log self d m)

  fetch_has : (m : Fetch) (r : Result Message ℕ) → Ok (message.Fetch m) ≡ r → (on_bytes self r d).outcome ≡ outcome.Took
      → Contains (on_bytes self r d).left.sent (to_host m.host (state_message self m.pos m.first (unwrap_or (snapshot_of self d m.pos) [])))
  fetch_has m r is =
      let l : Letter = to_host m.host (state_message self m.pos m.first (unwrap_or (snapshot_of self d m.pos) [])) in
      subst (λ (r : Result Message ℕ). (on_bytes self r d).outcome ≡ outcome.Took → Contains (on_bytes self r d).left.sent l) is
      (λ e. finished_has l _ _ (give_fetch self m (begin d)) (fetch_sent m (outcome_stays _ _ (give_fetch self m (begin d)) e)))

  answers_fetch : AnswersFetch self d
  unfolding transition
  answers_fetch bytes m parts reads took there = (
    state_shown self d m parts,
    subst (λ (o : Option (List Bytes)). Contains (transition self d (event.Given bytes)).left.sent (to_host m.host (state_message self m.pos m.first (unwrap_or o [])))) there (fetch_has m (message_of self.shape bytes) (sym reads) took),
    shows_state self d m parts,
  )

  -- ---- Patience and Nudge

  wished_above : view_of self d < wish_of self (LostPatience ∷ d) self.host
  unfolding wish_of
  wished_above = rw (eq-eqb self.host self.host refl) (omega arith)

  pub patience_sent : (view_of self d ≡ view_limit → ⊥) → Contains (on_patience self (begin d)).left.sent (to_all (wish self (LostPatience ∷ d)))
  unfolding on_patience
  patience_sent more = rw (ne_eqb (view_of self d) view_limit more) (last_of [] (to_all (wish self (LostPatience ∷ d))))

  wishes_onward : WishesOnward self d
  unfolding transition
  wishes_onward more = record {
    view = wish_of self (LostPatience ∷ d) self.host;
    above = wished_above;
    told = finished_has (to_all (wish self (LostPatience ∷ d))) _ _ (on_patience self (begin d)) (patience_sent more);
  }

  nudge_sent : Contains (on_nudge self (begin d)).left.sent (to_all (resend self d))
  unfolding on_nudge
  nudge_sent = again_keeps self (Q (to_all (resend self d))) (letter_walked (to_all (resend self d))) (send (to_all (resend self d)) (write Nudged (begin d))) (last_of [] (to_all (resend self d)))

  asks_all : AsksAll self d
  unfolding transition
  asks_all = finished_has (to_all (resend self d)) true true (on_nudge self (begin d)) nudge_sent

  nudged_view : view_of self (Nudged ∷ d) ≡ view_of self d
  unfolding origin taken_of
  nudged_view = refl

  nudged_wish : wish_of self (Nudged ∷ d) self.host ≡ wish_of self d self.host
  unfolding wish_of
  nudged_wish = omega arith

  again_sent : (x : Progress) → view_of self x.history < wish_of self x.history self.host → Contains (wish_again self x).sent (to_all (wish self x.history))
  again_sent x lower = rw (lt-ltb (view_of self x.history) (wish_of self x.history self.host) lower) (last_of x.sent (to_all (wish self x.history)))

  nudge_tells : view_of self d < wish_of self d self.host → Contains (on_nudge self (begin d)).left.sent (to_all (wish self d))
  unfolding on_nudge
  nudge_tells lower =
      let x : Progress = send (to_all (resend self d)) (write Nudged (begin d)) in
      subst (λ (v : ℕ). Contains (wish_again self x).sent (to_all (wish_for self v))) nudged_wish (again_sent x (omega (arith, lower, nudged_view, nudged_wish)))

  tells_wish_again : TellsWishAgain self d
  unfolding transition
  tells_wish_again lower = finished_has (to_all (wish self d)) true true (on_nudge self (begin d)) (nudge_tells lower)

  -- ---- while it lacks state

  asks_where_behind : (x : Progress) → AsksWhereBehind self d (with_fetch self true d x)
  asks_where_behind x = elim (cases_Bool (is_behind self x.history)) [
    | inl behind ↦ rw behind (λ lt. last_of x.sent (to_host (asked_host self x.history) (fetch self x.history)))
    | inr not_so ↦ rw not_so (λ lt. absurd (omega (arith, lt, ltb-false (exec_of x.history) (low_of self x.history) not_so)))
  ]

  fetches_on_nudge : FetchesOnNudge self d
  unfolding transition
  fetches_on_nudge = asks_where_behind (run_rules self enough (on_nudge self (begin d)).left)

  finished_asks : (a : Answer) → a.outcome ≡ outcome.Took → AsksWhereBehind self d (finished_where self (is_taken self a.outcome) true d a).left
  finished_asks a took = rw took (asks_where_behind (run_rules self enough a.left))

  fetches_on : FetchesOn self d
  unfolding transition
  fetches_on bytes m reads =
      subst (λ (r : Result Message ℕ). (on_bytes self r d).outcome ≡ outcome.Took → AsksWhereBehind self d (on_bytes self r d).left) (sym reads)
      (λ e. finished_asks (give_state self m (begin d)) (outcome_stays _ _ (give_state self m (begin d)) e))

  -- ---- all of it

  answers_all : AnswersAll self d
  answers_all = record {
    resend = answers_resend;
    fetch = answers_fetch;
    again = answers_again;
    patience = wishes_onward;
    nudge = asks_all;
    wishes_again = tells_wish_again;
    fetches_on_nudge = fetches_on_nudge;
    fetches_on = fetches_on;
  }

pub hosts_answer : {S : Type 0} (system : System S) (k h : ℕ) → AnswersAll (self_of system h) ((world system k).histories h)
hosts_answer system k h = answers_all (self_of system h) ((world system k).histories h)
