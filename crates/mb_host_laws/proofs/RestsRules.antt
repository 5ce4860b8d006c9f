-- What the rules leave rests on what was noted and sent: what a rule stamps is sent to all, and the strings of the plans and states that it stands
-- for are noted. A batch that is served and executed takes nothing away.
use Rattle.std.proofs.Common.{◌≡◌, ℕ, zero, suc, ◌+◌, List, [], ◌∷◌, refl, inl, inr, Some}
use Rattle.std.specs.Prelude.{◌==◌, ◌%◌}
use Rattle.std.specs.List.{AllByRecursion}
use Rattle.std.proofs.lemmas.Bool.{cases_Bool}
use Rattle.mb_base.specs.Shapes.{Bytes, interval}
use Rattle.mb_parts.specs.declared.request.Request.{Request}
use Rattle.mb_parts.specs.declared.batch.Batch.{Batch}
use Rattle.mb_msg.specs.declared.event.Placed.{Placed}
use Rattle.mb_msg.specs.declared.message.Message.{Message}
use Rattle.mb_msg.specs.declared.stamped.Stamped.{Stamped as StampedMessage}
use Rattle.mb_msg.specs.Stamps.{as_message}
use Rattle.mb_msg.specs.Plans.{plan_text}
use Rattle.mb_model.specs.Histories.{History, Served, Identity}
use Rattle.mb_model.specs.Held.{plan_from}
use Rattle.mb_model.specs.OwnLog.{has_room}
use Rattle.mb_model.specs.Positions.{exec_of}
use Rattle.mb_model.specs.Sending.{Letter, Progress, write, note, stamp, signed, to_all}
use Rattle.mb_model.specs.Making.{prepare, commit, view_change, new_view, enter, opening, join, checkpoint}
use Rattle.mb_model.specs.EnabledRules.{Rule, next_rule, target, next_position}
use Rattle.mb_model.specs.CarriedOut.{placed_in, serve, serve_all, close_slot, with_reply, state_strings, at_interval, execute, compared_in_own, carry_out, run_rules}
use Rattle.mb_model.proofs.Members.{in_left, in_right}
use Rattle.mb_model.proofs.Options.{option_cases}
use Rattle.mb_steps.proofs.EachRule.{of_next}
use Rattle.mb_host_laws.specs.Rests.{noted_by}
use Rattle.mb_host_laws.proofs.RestsGiven.{HashedIn, Rested, goes_on, notes_rest, sends_rest, just_noted}

module _ {S : Type 0} (self : Identity S) (given : Message → Type 0) (old : Bytes → Type 0) (done : Message → Type 0) where
  abbrev R : Progress → Type 0
  R x = Rested self given old done x

  -- Stamped, with strings that are noted behind it.
  stamps_rest : (m : StampedMessage) (strings : List Bytes) (x : Progress) → AllByRecursion (HashedIn self given old done (note strings x)) (noted_by self x.history (signed self x.history m)) → R x → R (note strings (stamp self m x))
  stamps_rest m strings x noted a =
      let letter : Letter = to_all (as_message (signed self x.history m)) in (
        (inr (letter, in_right x.sent (letter ∷ []) letter (inl refl), refl), noted),
        goes_on self given old done x (note strings (stamp self m x)) (λ s i. in_left x.hashed strings s i) (λ l i. in_left x.sent (letter ∷ []) l i) a,
      )

  -- without strings
  plainly : (m : StampedMessage) (x : Progress) → AllByRecursion (HashedIn self given old done x) (noted_by self x.history (signed self x.history m)) → R x → R (stamp self m x)
  plainly m x noted a =
      let letter : Letter = to_all (as_message (signed self x.history m)) in (
        (inr (letter, in_right x.sent (letter ∷ []) letter (inl refl), refl), noted),
        goes_on self given old done x (stamp self m x) (λ s i. i) (λ l i. in_left x.sent (letter ∷ []) l i) a,
      )

  -- ---- executing

  interval_rests : (p : ℕ) (x : Progress) → R x → R (at_interval self p x)
  interval_rests p x a = elim (cases_Bool (p % interval self.shape == 0)) [
    | inr between ↦ rw between a
    | inl whole ↦
        let strings : List Bytes = state_strings self x.history p in
        let y : Progress = note strings x in
        let noted : R y = notes_rest self given old done strings x a in
        rw whole (elim (cases_Bool (has_room self x.history)) [
          | inl room ↦ rw room (plainly (checkpoint self x.history p) y (just_noted self given old done strings x.hashed) noted)
          | inr full ↦ rw full noted
        ])
  ]

  reply_rests : (p : Placed) (x : Progress) → R x → R (with_reply self p x)
  reply_rests p x a = elim (cases_Bool p.fresh) [
    | inl fresh ↦ rw fresh (sends_rest self given old done _ x a)
    | inr again ↦ rw again a
  ]

  serve_rests : (pos : ℕ) (rs : List Request) (x : Progress) → R x → R (serve_all self pos rs x)
  unfolding serve_all
  serve_rests pos [] x a = a
  serve_rests pos (r ∷ rs) x a =
      let p : Placed = placed_in self x.history r in
      serve_rests pos rs (serve self pos r x) (reply_rests p (write (Served pos p) x) (tt, a))

  execute_rests : (p : ℕ) (b : Batch) (x : Progress) → R x → R (execute self p b x)
  unfolding execute
  execute_rests p b x a = interval_rests p (close_slot self p (serve_all self p b.requests x)) (tt, serve_rests p b.requests x a)

  -- ---- the rules

  abbrev own_strings : Progress → List Bytes
  own_strings x = compared_in_own self (signed self x.history (view_change self x.history (target self x.history)))

  carries : (x : Progress) (rule : Rule) → next_rule self x.history ≡ Some rule → R x → R (carry_out self rule x)
  unfolding carry_out
  carries x rule e a =
      let d : History = x.history in
      of_next self d (λ (r : Rule). R (carry_out self r x)) (record {
        changes = λ e more room. stamps_rest (view_change self d (target self d)) (own_strings x) x (just_noted self given old done (own_strings x) x.hashed) a;
        announces = λ changes e leads changing room. stamps_rest (new_view self d changes) (plan_text (plan_from self changes) ∷ []) x (just_noted self given old done (plan_text (plan_from self changes) ∷ []) x.hashed) a;
        enters = λ n e room. plainly (enter n) x tt a;
        opens = λ f plan e held room. stamps_rest (opening f plan) (plan_text plan ∷ []) x (just_noted self given old done (plan_text plan ∷ []) x.hashed) a;
        joins = λ e room. plainly (join self d) x tt a;
        commits = λ k b e room. plainly (commit self d (next_position self d) k b) x tt a;
        executes = λ b e. execute_rests (exec_of d + 1) b x a;
        prepares = λ b e room. plainly (prepare self d (next_position self d) b) x tt a;
      }) rule e

  pub run_rests : (n : ℕ) (x : Progress) → R x → R (run_rules self n x)
  unfolding run_rules
  run_rests zero x a = a
  run_rests (suc n) x a = elim (option_cases (next_rule self x.history)) [
    | inl none ↦ rw none a
    | inr (rule, some) ↦ rw some (run_rests n (carry_out self rule x) (carries x rule some a))
  ]
