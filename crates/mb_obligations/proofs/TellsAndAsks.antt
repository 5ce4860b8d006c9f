-- Lost patience is told; and a FETCH is sent where the stable position rose: the rules run in each such step, and it is sent behind them.
use Rattle.std.proofs.Common.{◌≡◌, ℕ, ◌+◌, ◌<◌, ◌≤◌, Bool, true, false, ◌&&◌, ◌||◌, ◌∷◌, refl, ap, subst, inl, inr, arith, Option, Some, None, Result, Ok, Err}
use Rattle.std.specs.Prelude.{◌==◌, Contains, max, is_none}
use Rattle.std.proofs.lemmas.Bool.{cases_Bool, eq-eqb, lt-ltb}
use Rattle.mb_usig.specs.Tags.{wish_tag}
use Rattle.mb_msg.specs.declared.message.Message.{Message}
use Rattle.mb_msg.specs.declared.message.Message.TheVariants as message
use Rattle.mb_msg.specs.declared.transfer.Log.{Log}
use Rattle.mb_msg.specs.declared.stamped.Stamped.{Stamped as StampedMessage}
use Rattle.mb_msg.specs.declared.event.Event.TheVariants as event
use Rattle.mb_msg.specs.declared.event.Outcome.{Outcome}
use Rattle.mb_msg.specs.declared.event.Outcome.TheVariants as outcome
use Rattle.mb_msg.specs.Stamps.{as_stamped}
use Rattle.mb_msg.specs.Reading.{message_of}
use Rattle.mb_model.specs.Histories.{Closed, DroppedParts, LostPatience, History, Identity, view_of}
use Rattle.mb_model.specs.Held.{view_limit, wish_of}
use Rattle.mb_model.specs.Stable.{stable_of, low_of}
use Rattle.mb_model.specs.Positions.{exec_of, is_behind}
use Rattle.mb_model.specs.Execution.{asked_host}
use Rattle.mb_model.specs.Sending.{Letter, Progress, begin, to_all, to_host}
use Rattle.mb_model.specs.Making.{wish_for, fetch}
use Rattle.mb_model.specs.PlainChecks.{log_refusal}
use Rattle.mb_model.specs.CarriedOut.{run_rules, enough}
use Rattle.mb_model.specs.Given.{Answer, give_log, give}
use Rattle.mb_model.specs.HostStep.{is_taken, rules_follow, low_rose, with_fetch, finished_where, on_bytes, on_patience, on_nudge, transition}
use Rattle.mb_model.proofs.Options.{option_cases}
use Rattle.mb_world_model.specs.World.{System, self_of}
use Rattle.mb_world_model.specs.WorldSteps.{world}
use Rattle.mb_promise.specs.NothingLeft.{IsNoLog}
use Rattle.mb_promise.specs.Answers.{AsksWhereBehind}
use Rattle.mb_promise.specs.TellsAndAsks.{TellsPatience, FetchesWhereRisen, TellsAndAsks}
use Rattle.mb_one_log.proofs.Walks.{finished_keeps}
use Rattle.mb_obligations.proofs.Answers.{Q, letter_walked, patience_sent, last_of}
use Rattle.mb_promise.specs.LeavesAlone.{LeavesOfStamped, LeavesOf, LeavesOfState, LeavesOfRefused}
use Rattle.mb_obligations.proofs.LeftAlone.{given_left}

module _ {S : Type 0} (self : Identity S) (d : History) where
  -- ---- lost patience

  lost_wish : wish_of self (LostPatience ∷ d) self.host ≡ max (wish_of self d self.host) (view_of self d + 1)
  unfolding wish_of
  lost_wish = rw (eq-eqb self.host self.host refl) refl

  tells_patience : TellsPatience self d
  unfolding transition
  tells_patience below =
      let view : ℕ = max (wish_of self d self.host) (view_of self d + 1) in
      let l : Letter = to_all (wish_for self view) in
      let sent : Contains (on_patience self (begin d)).left.sent l = subst (λ (v : ℕ). Contains (on_patience self (begin d)).left.sent (to_all (wish_for self v))) lost_wish (patience_sent self d below) in
      record {
        wish = record { host = self.host; view = view; tag = wish_tag self.secret self.host view };
        host = refl;
        view_is = refl;
        tag = refl;
        told = finished_keeps self (Q self d l) (letter_walked self d l) _ _ d (on_patience self (begin d)) sent;
      }

  -- ---- where the stable position rose

  neither : (behind asks rose : Bool) → (behind && (asks || rose)) ≡ false → behind ≡ true → rose ≡ true → ⊥
  neither true true true e b r = absurd cc
  neither true false true e b r = absurd cc
  neither true asks false e b r = absurd cc
  neither false asks rose e b r = absurd cc

  asks_where_risen : (asks : Bool) (x : Progress) → low_of self d < low_of self (with_fetch self asks d x).history → AsksWhereBehind self d (with_fetch self asks d x)
  asks_where_risen asks x = elim (cases_Bool (is_behind self x.history && (asks || low_rose self d x.history))) [
    | inl does ↦ rw does (λ rose lt. last_of self d x.sent (to_host (asked_host self x.history) (fetch self x.history)))
    | inr not_so ↦ rw not_so (λ rose lt.
        absurd (neither (is_behind self x.history) asks (low_rose self d x.history) not_so (lt-ltb (exec_of x.history) (low_of self x.history) lt) (lt-ltb (low_of self d) (low_of self x.history) rose)))
  ]

  risen_where : (runs asks : Bool) (a : Answer) → (runs ≡ false → low_of self a.left.history ≤ low_of self d)
      → low_of self d < low_of self (finished_where self runs asks d a).left.history → AsksWhereBehind self d (finished_where self runs asks d a).left
  risen_where true asks a still rose = asks_where_risen asks (run_rules self enough a.left) rose
  risen_where false asks a still rose = let s = still refl in absurd (omega (arith, s, rose))

  same_low : (left : History) → left ≡ d → low_of self left ≤ low_of self d
  same_low left is = let e = ap (λ (y : History). low_of self y) is in omega (arith, e)

  closed_low : (left : History) (h n : ℕ) → left ≡ Closed h n ∷ d → low_of self left ≤ low_of self d
  unfolding stable_of
  closed_low left h n is = let e = ap (λ (y : History). low_of self y) is in omega (arith, e)

  dropped_low : (left : History) → left ≡ DroppedParts ∷ d → low_of self left ≤ low_of self d
  unfolding stable_of
  dropped_low left is = let e = ap (λ (y : History). low_of self y) is in omega (arith, e)

  stamped_low : (o : Outcome) (left : History) → LeavesOfStamped d o left → low_of self left ≤ low_of self d
  stamped_low (outcome.Illegal r) left (h, n, is) = closed_low left h n is
  stamped_low o left is = same_low left is

  some_low : (m : Option StampedMessage) (o : Outcome) (left : History) → LeavesOf d m o left → low_of self left ≤ low_of self d
  some_low (Some m) o left l = stamped_low o left l
  some_low None o left l = same_low left l

  state_low : (o : Outcome) (left : History) → LeavesOfState d o left → low_of self left ≤ low_of self d
  state_low (outcome.BadState part at) left is = dropped_low left is
  state_low o left is = same_low left is

  refused_low : (m : Message) (o : Outcome) (left : History) → LeavesOfRefused d m o left → low_of self left ≤ low_of self d
  refused_low (message.State m) o left l = state_low o left l
  refused_low m o left l = some_low (as_stamped m) o left l

  refused : (o : Outcome) → is_taken self o ≡ false → o ≡ outcome.Took → ⊥
  refused o e is = let t : is_taken self outcome.Took ≡ false = subst (λ (y : Outcome). is_taken self y ≡ false) is e in absurd cc

  log_low : (m : Log) → is_none (log_refusal self m) ≡ false → low_of self (give_log self m (begin d)).left.history ≤ low_of self d
  unfolding give_log
  log_low m = elim (option_cases (log_refusal self m)) [
    | inl none ↦ rw none (λ e. absurd cc)
    | inr (o, some) ↦ rw some (λ e. omega arith)
  ]

  plain_low : (m : Message) → IsNoLog self d m → is_taken self (give self m (begin d)).outcome ≡ false → low_of self (give self m (begin d)).left.history ≤ low_of self d
  plain_low m n e = refused_low m (give self m (begin d)).outcome (give self m (begin d)).left.history (given_left self d m n (refused (give self m (begin d)).outcome e))

  given_low : (m : Message) → rules_follow self (give self m (begin d)).outcome m ≡ false → low_of self (give self m (begin d)).left.history ≤ low_of self d
  given_low (message.Log m) e = log_low m e
  given_low (message.Request m) e = plain_low (message.Request m) tt e
  given_low (message.Prepare m) e = plain_low (message.Prepare m) tt e
  given_low (message.Commit m) e = plain_low (message.Commit m) tt e
  given_low (message.Reply m) e = plain_low (message.Reply m) tt e
  given_low (message.Checkpoint m) e = plain_low (message.Checkpoint m) tt e
  given_low (message.ReqViewChange m) e = plain_low (message.ReqViewChange m) tt e
  given_low (message.ViewChange m) e = plain_low (message.ViewChange m) tt e
  given_low (message.NewView m) e = plain_low (message.NewView m) tt e
  given_low (message.Enter m) e = plain_low (message.Enter m) tt e
  given_low (message.Open m) e = plain_low (message.Open m) tt e
  given_low (message.Join m) e = plain_low (message.Join m) tt e
  given_low (message.Resend m) e = plain_low (message.Resend m) tt e
  given_low (message.Fetch m) e = plain_low (message.Fetch m) tt e
  given_low (message.State m) e = plain_low (message.State m) tt e
  given_low (message.Stop m) e = plain_low (message.Stop m) tt e

  bytes_ask : (r : Result Message ℕ) → low_of self d < low_of self (on_bytes self r d).left.history → AsksWhereBehind self d (on_bytes self r d).left
  bytes_ask (Ok m) rose = risen_where _ _ (give self m (begin d)) (given_low m) rose
  bytes_ask (Err at) rose = absurd (omega (arith, rose))

  patience_low : is_taken self (on_patience self (begin d)).outcome ≡ false → low_of self (on_patience self (begin d)).left.history ≤ low_of self d
  unfolding on_patience
  patience_low = elim (cases_Bool (view_of self d == view_limit)) [
    | inl last ↦ rw last (λ e. omega arith)
    | inr below ↦ rw below (λ e. absurd cc)
  ]

  fetches_where_risen : FetchesWhereRisen self d
  unfolding transition
  fetches_where_risen (event.Given bytes) rose = bytes_ask (message_of self.shape bytes) rose
  fetches_where_risen event.Patience rose = risen_where _ false (on_patience self (begin d)) patience_low rose
  fetches_where_risen event.Nudge rose = asks_where_risen true (run_rules self enough (on_nudge self (begin d)).left) rose

pub hosts_tell_and_ask : {S : Type 0} (system : System S) (k h : ℕ) → TellsAndAsks (self_of system h) ((world system k).histories h)
hosts_tell_and_ask system k h =
    record { patience = tells_patience (self_of system h) ((world system k).histories h); fetches = fetches_where_risen (self_of system h) ((world system k).histories h) }
