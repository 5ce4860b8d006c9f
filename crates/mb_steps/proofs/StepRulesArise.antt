-- What the rules leave arises: each stamped message is the one that an enabled rule makes, and each execution is at the next position.
use Rattle.std.proofs.Common.{◌≡◌, ℕ, zero, suc, ◌+◌, List, [], ◌∷◌, ◌++◌, map, refl, sym, ap, subst, ◌∙◌, inl, inr, Some}
use Rattle.std.specs.Prelude.{◌==◌, ◌%◌}
use Rattle.std.proofs.lemmas.List.{map-append, append_assoc, append-nil}
use Rattle.std.proofs.lemmas.Bool.{cases_Bool}
use Rattle.mb_base.specs.Shapes.{interval}
use Rattle.mb_parts.specs.declared.request.Request.{Request}
use Rattle.mb_parts.specs.declared.batch.Batch.{Batch}
use Rattle.mb_msg.specs.declared.event.Placed.{Placed}
use Rattle.mb_model.specs.Histories.{Served, History, Identity}
use Rattle.mb_model.specs.OwnLog.{has_room}
use Rattle.mb_model.specs.Positions.{exec_of}
use Rattle.mb_model.specs.Service.{batch_of}
use Rattle.mb_model.specs.Sending.{Progress}
use Rattle.mb_model.specs.EnabledRules.{Rule, Execute, next_rule, target, execute_enabled, next_position}
use Rattle.mb_model.specs.CarriedOut.{just_served, placed_in, slot_for, serve, serve_all, close_slot, at_interval, execute, carry_out, run_rules}
use Rattle.mb_model.proofs.Options.{option_cases}
use Rattle.mb_steps.proofs.StepPotential.{served_history}
use Rattle.mb_steps.proofs.StepUnchanged.{served_enabled}
use Rattle.mb_steps.proofs.EachRule.{of_next}
use Rattle.mb_steps.specs.Arises.{JustExecuted, Executes, Arises}
use Rattle.mb_steps.proofs.StepArises.{none_served, Arisen}

module _ {S : Type 0} (self : Identity S) where
  -- ---- executing: a CHECKPOINT follows at once, or never

  interval_arises : (p : ℕ) (x : Progress) → JustExecuted self x.history p → Arisen self x → Arisen self (at_interval self p x)
  interval_arises p x just a = elim (cases_Bool (p % interval self.shape == 0)) [
    | inr between ↦ rw between a
    | inl whole ↦ rw whole (elim (cases_Bool (has_room self x.history)) [
      | inl room ↦ rw room (((p, just, whole, refl), a.0), tt)
      | inr full ↦ rw full a
    ])
  ]

  served_exec : (d : History) (pos : ℕ) (placed : Placed) → exec_of (Served pos placed ∷ d) ≡ exec_of d
  unfolding exec_of
  served_exec d pos placed = refl

  -- within a batch at a position: some of its requests were served, and these are left
  record IsServing (p : ℕ) (b : Batch) (more : List Request) (d : History) : Type 0 where
    pub arises : Arises self d
    pub enabled : execute_enabled self d ≡ Some (Execute p b)
    pub place : p ≡ exec_of d + 1
    pub requests : map (λ x. x.request) (just_served d) ++ more ≡ b.requests

  serving_next : (p : ℕ) (b : Batch) (r : Request) (more : List Request) (d : History) → IsServing p b (r ∷ more) d → IsServing p b more (Served p (placed_in self d r) ∷ d)
  unfolding just_served
  serving_next p b r more d s =
      let placed : Placed = placed_in self d r in
      let split : map (λ x. x.request) (just_served d ++ placed ∷ []) ≡ map (λ x. x.request) (just_served d) ++ r ∷ [] = map-append (λ (x : Placed). x.request) (just_served d) (placed ∷ []) in
      record {
        arises = (record { batch = b; more = more; enabled = s.enabled; place = s.place; next = s.requests; fresh = refl }, s.arises);
        enabled = served_enabled self d p placed ∙ s.enabled;
        place = s.place ∙ sym (ap (λ n. n + 1) (served_exec d p placed));
        requests = ap (λ (l : List Request). l ++ more) split ∙ append_assoc (map (λ x. x.request) (just_served d)) (r ∷ []) more ∙ s.requests;
      }

  serve_arises : (p : ℕ) (b : Batch) (rs : List Request) (x : Progress) → IsServing p b rs x.history → IsServing p b [] (serve_all self p rs x).history
  unfolding serve_all
  serve_arises p b [] x s = s
  serve_arises p b (r ∷ rs) x s =
      serve_arises p b rs (serve self p r x) (subst (λ (d : History). IsServing p b rs d) (sym (served_history self p r x)) (serving_next p b r rs x.history s))

  execute_arises : (p : ℕ) (b : Batch) (x : Progress) → execute_enabled self x.history ≡ Some (Execute p b) → p ≡ exec_of x.history + 1 → Arisen self x → Arisen self (execute self p b x)
  unfolding execute
  execute_arises p b x e next a =
      let first : IsServing p b b.requests x.history = record {
        arises = a.0;
        enabled = e;
        place = next;
        requests = ap (λ (l : List Placed). map (λ x. x.request) l ++ b.requests) (none_served x.history a.1);
      } in
      let s = serve_arises p b b.requests x first in
      let d : History = (serve_all self p b.requests x).history in
      let requests : map (λ x. x.request) (just_served d) ≡ b.requests = sym (append-nil (map (λ x. x.request) (just_served d))) ∙ s.requests in
      let batch : b ≡ batch_of (slot_for self d p) = ap (λ (l : List Request). record { requests = l }) (sym requests) in
      let executes : Executes self d (slot_for self d p) = record { enabled = s.enabled ∙ ap (λ (c : Batch). Some (Execute p c)) batch; place = s.place; served = refl } in
      interval_arises p (close_slot self p (serve_all self p b.requests x)) refl ((executes, s.arises), tt)

  -- ---- the rules

  carries : (x : Progress) (rule : Rule) → next_rule self x.history ≡ Some rule → Arisen self x → Arisen self (carry_out self rule x)
  unfolding carry_out
  carries x rule e a =
      let d : History = x.history in
      of_next self d (λ (r : Rule). Arisen self (carry_out self r x)) (record {
        changes = λ e more room. (((target self d, e, refl), a.0), tt);
        announces = λ changes e leads changing room. (((changes, e, refl), a.0), tt);
        enters = λ n e room. (((n, e, refl), a.0), tt);
        opens = λ f plan e held room. (((f, plan, e, refl), a.0), tt);
        joins = λ e room. (((e, refl), a.0), tt);
        commits = λ k b e room. (((next_position self d, k, b, e, refl), a.0), tt);
        executes = λ b e. execute_arises (exec_of d + 1) b x e refl a;
        prepares = λ b e room. (((next_position self d, b, e, refl), a.0), tt);
      }) rule e

  pub run_arises : (n : ℕ) (x : Progress) → Arisen self x → Arisen self (run_rules self n x)
  unfolding run_rules
  run_arises zero x a = a
  run_arises (suc n) x a = elim (option_cases (next_rule self x.history)) [
    | inl none ↦ rw none a
    | inr (rule, some) ↦ rw some (run_arises n (carry_out self rule x) (carries x rule some a))
  ]
