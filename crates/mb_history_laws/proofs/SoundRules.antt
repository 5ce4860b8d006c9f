-- The rules of a host, and its whole step, leave a sound history. Within a batch each request that is served does, too.
use Rattle.std.proofs.Common.{◌≡◌, ℕ, zero, suc, ◌+◌, Bool, true, false, ◌&&◌, ◌||◌, List, [], ◌∷◌, ◌++◌, map, refl, sym, ap, subst, ◌∙◌, inl, inr, append_assoc, Option, Some, None, Result, Ok, Err}
use Rattle.std.specs.Prelude.{◌==◌, ◌%◌, nat_lt, nat_le, option_map}
use Rattle.std.proofs.lemmas.Bool.{cases_Bool}
use Rattle.std.proofs.lemmas.List.{map-append, append-nil}
use Rattle.mb_base.specs.Shapes.{interval}
use Rattle.mb_parts.specs.declared.request.Request.{Request}
use Rattle.mb_parts.specs.declared.batch.Batch.{Batch}
use Rattle.mb_msg.specs.declared.message.Message.{Message}
use Rattle.mb_msg.specs.declared.event.Event.{Event}
use Rattle.mb_msg.specs.declared.event.Event.TheVariants as event
use Rattle.mb_msg.specs.declared.event.Placed.{Placed}
use Rattle.mb_msg.specs.Spelling.{kind_of}
use Rattle.mb_msg.specs.Reading.{message_of}
use Rattle.mb_model.specs.declared.known.KnownSlot.{KnownSlot}
use Rattle.mb_model.specs.Service.{batch_of}
use Rattle.mb_model.specs.Histories.{Served, Executed, Nudged, History, Identity, view_of, is_open}
use Rattle.mb_model.specs.Held.{wish_of, view_limit}
use Rattle.mb_model.specs.OwnLog.{has_room}
use Rattle.mb_model.specs.Positions.{exec_of, slot_at, is_behind}
use Rattle.mb_model.specs.Stable.{low_of}
use Rattle.mb_model.specs.Sending.{Progress, begin}
use Rattle.mb_model.specs.EnabledRules.{Rule, ChangeView, Announce, Enter, Open, Join, Commit, Execute, Prepare, is_committed, if_committed, execute_enabled, next_rule}
use Rattle.mb_model.specs.CarriedOut.{just_served, placed_in, serve, serve_all, slot_for, close_slot, at_interval, execute, carry_out, run_rules, enough}
use Rattle.mb_model.specs.Given.{Answer, give}
use Rattle.mb_model.specs.HostStep.{on_patience, on_nudge, on_message, on_bytes, low_rose, with_fetch, finished_where, transition}
use Rattle.mb_model.proofs.Options.{option_cases, map_some, if_some}
use Rattle.mb_steps.specs.Arises.{IsWhole}
use Rattle.mb_steps.proofs.StepArises.{ArisesWhole, none_served}
use Rattle.mb_steps.proofs.StepEventsArise.{transition_arises}
use Rattle.mb_steps.proofs.StepPotential.{served_history}
use Rattle.mb_steps.proofs.StepRulesArise.{run_arises}
use Rattle.mb_steps.proofs.StepUnchanged.{served_enabled}
use Rattle.mb_history_laws.specs.Gates.{GatesMove}
use Rattle.mb_history_laws.specs.Sound.{IsSound, IsServing}
use Rattle.mb_history_laws.proofs.Framing.{exec_stays}
use Rattle.mb_history_laws.proofs.Sound.{sound, stays_sound}
use Rattle.mb_history_laws.proofs.SoundSteps.{give_sound}

module _ {S : Type 0} (self : Identity S) where
  abbrev Moves : Progress → Type 0
  Moves x = GatesMove self x.history

  -- ---- no rule moves a gate but the own one

  serve_all_moves : (p : ℕ) (rs : List Request) (x : Progress) → Moves x → Moves (serve_all self p rs x)
  unfolding serve_all
  serve_all_moves p [] x g = g
  serve_all_moves p (r ∷ rs) x g = serve_all_moves p rs (serve self p r x) (subst (GatesMove self) (sym (served_history self p r x)) g)

  interval_moves : (p : ℕ) (x : Progress) → Moves x → Moves (at_interval self p x)
  interval_moves p x g = elim (cases_Bool (p % interval self.shape == 0)) [
    | inr between ↦ rw between g
    | inl whole ↦ rw whole (elim (cases_Bool (has_room self x.history)) [
      | inl room ↦ rw room g
      | inr full ↦ rw full g
    ])
  ]

  execute_moves : (p : ℕ) (b : Batch) (x : Progress) → Moves x → Moves (execute self p b x)
  unfolding execute
  execute_moves p b x g = interval_moves p (close_slot self p (serve_all self p b.requests x)) (serve_all_moves p b.requests x g)

  rule_moves : (rule : Rule) (x : Progress) → Moves x → Moves (carry_out self rule x)
  unfolding carry_out
  rule_moves (ChangeView view) x g = g
  rule_moves (Announce changes) x g = g
  rule_moves (Enter n) x g = g
  rule_moves (Open e plan) x g = g
  rule_moves Join x g = g
  rule_moves (Commit p k b) x g = g
  rule_moves (Execute p b) x g = execute_moves p b x g
  rule_moves (Prepare p b) x g = g

  rules_move : (n : ℕ) (x : Progress) → Moves x → Moves (run_rules self n x)
  unfolding run_rules
  rules_move zero x g = g
  rules_move (suc n) x g = elim (option_cases (next_rule self x.history)) [
    | inl none ↦ rw none g
    | inr (rule, some) ↦ rw some (rules_move n (carry_out self rule x) (rule_moves rule x g))
  ]

  -- ---- one rule, and all

  one_rule : (rule : Rule) (x : Progress) → next_rule self x.history ≡ Some rule → ArisesWhole self x.history → ArisesWhole self (carry_out self rule x).history
  unfolding run_rules
  one_rule rule x some a = let arises : ArisesWhole self (run_rules self 1 x).history = run_arises self 1 x a in rw some at arises

  -- behind the next rule the history is sound, and whole
  pub rule_sound : (rule : Rule) (x : Progress) → next_rule self x.history ≡ Some rule → IsSound self x.history → IsWhole x.history → IsSound self (carry_out self rule x).history × IsWhole (carry_out self rule x).history
  rule_sound rule x some s w =
      let a = one_rule rule x some (s.arises, w) in
      (sound self (carry_out self rule x).history a.0 (rule_moves rule x s.gates), a.1)

  pub rules_sound : (n : ℕ) (x : Progress) → IsSound self x.history → IsWhole x.history → IsSound self (run_rules self n x).history × IsWhole (run_rules self n x).history
  rules_sound n x s w =
      let a = run_arises self n x (s.arises, w) in
      (sound self (run_rules self n x).history a.0 (rules_move n x s.gates), a.1)

  -- ---- within a batch: these requests of it are left

  abbrev place_of : Rule → ℕ
  place_of (Execute q c) = q
  place_of r = 0

  execute_place : (d : History) (p : ℕ) (b : Batch) → execute_enabled self d ≡ Some (Execute p b) → p ≡ exec_of d + 1
  unfolding execute_enabled
  execute_place d p b e = let t = if_some (is_open self d && nat_le (low_of self d) (exec_of d)) (if_committed self d (exec_of d + 1) (slot_at self d (exec_of d + 1))) (Execute p b) e in of_slot (slot_at self d (exec_of d + 1)) t.1 where
    of_slot : (k : Option KnownSlot) → if_committed self d (exec_of d + 1) k ≡ Some (Execute p b) → p ≡ exec_of d + 1
    of_slot None e = absurd cc
    of_slot (Some k) e =
        let t = if_some (is_committed self d (exec_of d + 1) k) (option_map (Execute (exec_of d + 1)) k.batch) (Execute p b) e in
        let m = map_some (Execute (exec_of d + 1)) k.batch (Execute p b) t.1 in
        sym (ap place_of m.2)

  pub serving_begins : (p : ℕ) (b : Batch) (d : History) → execute_enabled self d ≡ Some (Execute p b) → IsSound self d → IsWhole d → IsServing self p b b.requests d
  serving_begins p b d e s w = record {
    sound = s;
    enabled = e;
    place = execute_place d p b e;
    requests = ap (λ (l : List Placed). map (λ x. x.request) l ++ b.requests) (none_served d w);
  }

  -- the next request is served
  pub serving_goes_on : (p : ℕ) (b : Batch) (r : Request) (more : List Request) (d : History) → IsServing self p b (r ∷ more) d → IsServing self p b more (Served p (placed_in self d r) ∷ d)
  unfolding just_served
  serving_goes_on p b r more d s =
      let placed : Placed = placed_in self d r in
      let split : map (λ x. x.request) (just_served d ++ placed ∷ []) ≡ map (λ x. x.request) (just_served d) ++ r ∷ [] = map-append (λ (x : Placed). x.request) (just_served d) (placed ∷ []) in
      record {
        sound = stays_sound self (Served p placed) d (record { batch = b; more = more; enabled = s.enabled; place = s.place; next = s.requests; fresh = refl }) tt s.sound;
        enabled = served_enabled self d p placed ∙ s.enabled;
        place = s.place ∙ sym (ap (λ n. n + 1) (exec_stays self (Served p placed) d refl));
        requests = ap (λ (l : List Request). l ++ more) split ∙ append_assoc (map (λ x. x.request) (just_served d)) (r ∷ []) more ∙ s.requests;
      }

  -- the batch is executed
  pub serving_ends : (p : ℕ) (b : Batch) (d : History) → IsServing self p b [] d → IsSound self (Executed (slot_for self d p) ∷ d)
  serving_ends p b d s =
      let requests : map (λ x. x.request) (just_served d) ≡ b.requests = sym (append-nil (map (λ x. x.request) (just_served d))) ∙ s.requests in
      let batch : b ≡ batch_of (slot_for self d p) = ap (λ (l : List Request). record { requests = l }) (sym requests) in
      stays_sound self (Executed (slot_for self d p)) d (record { enabled = s.enabled ∙ ap (λ (c : Batch). Some (Execute p c)) batch; place = s.place; served = refl }) tt s.sound

  -- ---- the whole step

  finish_moves : (runs asks : Bool) (before : History) (o : Answer) → Moves o.left → Moves (finished_where self runs asks before o).left
  finish_moves true asks before o g = fetched (run_rules self enough o.left) (rules_move enough o.left g) where
    fetched : (x : Progress) → Moves x → Moves (with_fetch self asks before x)
    fetched x g = elim (cases_Bool (is_behind self x.history && (asks || low_rose self before x.history))) [
      | inl does ↦ rw does g
      | inr not_so ↦ rw not_so g
    ]
  finish_moves false asks before o g = g

  patience_moves : (x : Progress) → Moves x → Moves (on_patience self x).left
  unfolding on_patience
  patience_moves x g = elim (cases_Bool (view_of self x.history == view_limit)) [
    | inl last ↦ rw last g
    | inr more ↦ rw more g
  ]

  nudge_moves : (x : Progress) → Moves x → Moves (on_nudge self x).left
  unfolding on_nudge
  nudge_moves x g = elim (cases_Bool (nat_lt (view_of self (Nudged ∷ x.history)) (wish_of self (Nudged ∷ x.history) self.host))) [
    | inl wishes ↦ rw wishes g
    | inr none ↦ rw none g
  ]

  message_moves : (d : History) (m : Message) → IsSound self d → IsWhole d → GatesMove self (on_message self d m).left.history
  message_moves d m s w = finish_moves _ _ d (give self m (begin d)) (give_sound self m (begin d) s w).gates

  bytes_move : (d : History) (r : Result Message ℕ) → IsSound self d → IsWhole d → GatesMove self (on_bytes self r d).left.history
  bytes_move d (Ok m) s w = message_moves d m s w
  bytes_move d (Err at) s w = s.gates

  transition_moves : (d : History) (e : Event) → IsSound self d → IsWhole d → GatesMove self (transition self d e).left.history
  unfolding transition
  transition_moves d (event.Given bytes) s w = bytes_move d (message_of self.shape bytes) s w
  transition_moves d event.Patience s w = finish_moves _ false d (on_patience self (begin d)) (patience_moves (begin d) s.gates)
  transition_moves d event.Nudge s w = finish_moves true true d (on_nudge self (begin d)) (nudge_moves (begin d) s.gates)

  -- Behind any event the history is sound, and no batch is partly served.
  pub transition_sound : (d : History) (e : Event) → IsSound self d → IsWhole d → IsSound self (transition self d e).left.history × IsWhole (transition self d e).left.history
  transition_sound d e s w =
      let a = transition_arises self d e (s.arises, w) in
      (sound self (transition self d e).left.history a.0 (transition_moves d e s w), a.1)
