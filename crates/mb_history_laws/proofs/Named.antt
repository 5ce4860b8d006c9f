-- The PREPARE that a COMMIT names, behind the COMMIT: its certificate verifies, and its view, position and batch passed with the COMMIT. So nothing
-- but its counter and its sender's gate can refuse it.
use Rattle.std.proofs.Common.{◌≡◌, ℕ, ◌+◌, Bool, true, false, not, List, ◌∷◌, refl, ap, ◌∙◌, Option, None}
use Rattle.std.specs.Prelude.{◌==◌, nat_lt}
use Rattle.std.specs.Bool.{then_some}
use Rattle.std.specs.Option.{option_or}
use Rattle.std.proofs.lemmas.Bool.{and_parts}
use Rattle.mb_base.specs.Shapes.{Bytes, primary, span}
use Rattle.mb_base.specs.declared.shape.Shape.{Shape}
use Rattle.mb_parts.specs.declared.batch.Batch.{Batch}
use Rattle.mb_parts.specs.declared.floor.Floor.{Floor}
use Rattle.mb_parts.specs.Bares.{Bare}
use Rattle.mb_parts.specs.Bares as bare
use Rattle.mb_parts.specs.Certificates.{inner_valid}
use Rattle.mb_parts.specs.Ordered.{current_view, is_opened, last_position, permits}
use Rattle.mb_parts.specs.Spelling.{batch_bytes}
use Rattle.mb_msg.specs.declared.message.Body.{Body}
use Rattle.mb_msg.specs.declared.message.Body.TheVariants.{Whole, Bare as Short}
use Rattle.mb_msg.specs.declared.message.Message.TheVariants as message
use Rattle.mb_msg.specs.declared.normal.Commit.{Commit}
use Rattle.mb_msg.specs.declared.stamped.Stamped.TheVariants as stamped
use Rattle.mb_msg.specs.declared.event.Outcome.{Outcome}
use Rattle.mb_msg.specs.declared.event.Outcome.TheVariants as outcome
use Rattle.mb_msg.specs.Bodies.{body_digest}
use Rattle.mb_model.specs.Histories.{Accepted, History, Identity, origin, taken_of, view_of}
use Rattle.mb_model.specs.Stable.{low_of}
use Rattle.mb_model.specs.Positions.{exec_of, in_window}
use Rattle.mb_model.specs.GateChecks.{valid, is_bad_ui, is_own_future, gate_refusal, identifier_refusal}
use Rattle.mb_model.specs.KindChecks.{is_beyond, is_of_later_view, is_of_view, body_refusal, only_where, vote_refusal, stamped_refusal}
use Rattle.mb_model.specs.Passed.{PassesBody, PassesStamped}
use Rattle.mb_model.specs.Given.{named_prepare, casts_vote}
use Rattle.mb_model.proofs.Options.{or_nothing}
use Rattle.mb_steps.specs.Arises.{Arises}
use Rattle.mb_history_laws.proofs.Framing.{low_stays, exec_stays}
use Rattle.mb_history_laws.proofs.Standing.{view_stays}

-- a permitted COMMIT names a PREPARE whose certificate is valid
commit_inside : (o : Floor) (s : Shape) (host : ℕ) (inner : Bare → Bool) (l : List Bare) (v p n : ℕ) (c x : Bytes) → permits o s host inner l (bare.Commit v p n c x) ≡ true → inner (bare.Commit v p n c x) ≡ true
unfolding permits
commit_inside o s host inner l v p n c x may =
    let b = and_parts (v == current_view o l) _ may in
    let d = and_parts (not (host == primary s v)) _ b.1 in
    let e = and_parts (is_opened o l v) _ d.1 in
    (and_parts (p == last_position o l v + 1) (inner (bare.Commit v p n c x)) e.1).1

module _ {S : Type 0} (self : Identity S) where
  certified : (m : Commit) (d : History) → PassesStamped self d (stamped.Commit m) → is_bad_ui self (stamped.Prepare (named_prepare self m)) ≡ false
  unfolding inner_valid
  certified m d p =
      let inside = commit_inside (origin d m.ui.host) self.shape m.ui.host (inner_valid self.shape (valid self)) (taken_of d m.ui.host) m.view m.pos m.counter m.cert (body_digest batch_bytes m.body) p.gate.permitted in
      ap not inside

  vote_passes : (m : Commit) (d : History) → Arises self (Accepted (message.Commit m) ∷ d) → casts_vote self d m ≡ true → PassesStamped self d (stamped.Commit m)
      → vote_refusal self (Accepted (message.Commit m) ∷ d) m.view m.pos m.body ≡ None
  unfolding vote_refusal
  vote_passes m d a casts p =
      let view : view_of self (Accepted (message.Commit m) ∷ d) ≡ view_of self d = view_stays self (Accepted (message.Commit m)) d a refl in
      let low : low_of self (Accepted (message.Commit m) ∷ d) ≡ low_of self d = low_stays self (Accepted (message.Commit m)) d refl in
      let here : is_of_view self d m.view ≡ true = (and_parts (view_of self d == m.view) (in_window self d m.pos) casts).0 in
      chain (is_of_later_view self (Accepted (message.Commit m) ∷ d) m.view) (is_of_view self (Accepted (message.Commit m) ∷ d) m.view) (is_beyond self (Accepted (message.Commit m) ∷ d) m.pos) _ _ _
      (ap (λ v. nat_lt v m.view) view ∙ p.kind.not_later) (ap (λ n. nat_lt (n + span self.shape) m.pos) low ∙ p.kind.within here)
      (body_same m.body (exec_stays self (Accepted (message.Commit m)) d refl) (p.kind.shown here)) where
        body_same : (b : Body Batch) → exec_of (Accepted (message.Commit m) ∷ d) ≡ exec_of d → PassesBody self d m.pos b → body_refusal self (Accepted (message.Commit m) ∷ d) m.pos b ≡ None
        body_same (Whole b) exec e = rw e refl
        body_same (Short x) exec e = let late : nat_lt (exec_of (Accepted (message.Commit m) ∷ d)) m.pos ≡ false = ap (λ n. nat_lt n m.pos) exec ∙ e in rw late refl

        chain : (later here beyond : Bool) (a b : Outcome) (body : Option Outcome) → later ≡ false → beyond ≡ false → body ≡ None → option_or (then_some later a) (only_where here (option_or (then_some beyond b) body)) ≡ None
        chain later true beyond a b body l e x = rw (l, e, x) refl
        chain later false beyond a b body l e x = rw l refl

  pub named_refusal : (m : Commit) (d : History) → Arises self (Accepted (message.Commit m) ∷ d) → casts_vote self d m ≡ true → PassesStamped self d (stamped.Commit m)
      → stamped_refusal self (Accepted (message.Commit m) ∷ d) (stamped.Prepare (named_prepare self m))
      ≡ option_or (then_some (is_own_future self (Accepted (message.Commit m) ∷ d) (named_prepare self m).ui) outcome.Idle) (gate_refusal self (Accepted (message.Commit m) ∷ d) (stamped.Prepare (named_prepare self m)))
  unfolding stamped_refusal identifier_refusal
  named_refusal m d a casts p = rw (certified m d p, vote_passes m d a casts p) (or_nothing _)
