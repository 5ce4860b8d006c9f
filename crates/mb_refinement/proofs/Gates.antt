-- The gates stay true: one of them moves behind a message of its host, as it is closed, and as it jumps. What they answer is what the history says.
use Rattle.std.proofs.Common.{◌≡◌, ◌≢◌, ℕ, ◌+◌, ◌-◌, ◌^◌, min, Bool, true, false, ◌&&◌, List, ◌∷◌, set, refl, sym, ap, subst, ◌∙◌, inl, inr, arith, Option, Some, None}
use Rattle.std.specs.Prelude.{nat_lt, nat_le, slice_get, is_none, if◌then◌else◌}
use Rattle.std.proofs.lemmas.Bool.{cases_Bool, ne_eqb, ltb-true, lt-ltb, leb-true, le-leb}
use Rattle.std.proofs.lemmas.Bool.Decides.{eqb_tells}
use Rattle.std.proofs.lemmas.List.{length-set}
use Rattle.std.proofs.lemmas.Option.{same_Some, slice_get_within}
use Rattle.mb_parts.specs.declared.floor.Floor.{Floor}
use Rattle.mb_parts.specs.declared.floor.Mark.{Mark}
use Rattle.mb_parts.specs.Certificates.{inner_valid}
use Rattle.mb_parts.specs.Rules.{rule_of, shut_before}
use Rattle.mb_msg.specs.declared.stamped.Stamped.{Stamped as StampedMessage}
use Rattle.mb_msg.specs.declared.stamped.Stamped.TheVariants as stamped
use Rattle.mb_msg.specs.Stamps.{bare_of, ui_of, as_message, as_stamped, mark_of}
use Rattle.mb_gate.specs.declared.gate.Gate.{Gate}
use Rattle.mb_gate.specs.declared.offer.Offer.{Offer}
use Rattle.mb_gate.specs.declared.offer.Offer.TheVariants as offer
use Rattle.mb_gate.specs.SenderLogs.{SenderLog, standing, may_stand}
use Rattle.mb_gate.specs.Answers.{next_of, convicted_or, answer, may_jump}
use Rattle.mb_gate.proofs.InnerAside.{permitted_whatever}
use Rattle.mb_gate.specs.Marks.{is_stamped_kind}
use Rattle.mb_gate.specs.Represents.{Represents}
use Rattle.mb_model.specs.Histories.{Entry, Accepted, Stamped, Jumped, Closed, History, Identity, gate as gate_of, here, closed_at, floor_below}
use Rattle.mb_model.specs.Sending.{Progress, begin, write, next_of as next_in}
use Rattle.mb_model.specs.GateChecks.{valid, gate_refusal}
use Rattle.mb_model.specs.KindChecks.{stamped_refusal}
use Rattle.mb_model.specs.Given.{jump}
use Rattle.mb_steps.specs.Arises.{Adds}
use Rattle.mb_steps.proofs.StepPassed.{passes_stamped}
use Rattle.mb_fetch.proofs.Places.{get-set_same, get-set_other}
use Rattle.mb_history_laws.specs.Speaks.{is_by, speaks_of_gate}
use Rattle.mb_history_laws.specs.Gates.{log_of, refusal_of}
use Rattle.mb_history_laws.specs.Sound.{IsSound}
use Rattle.mb_history_laws.proofs.Gates.{log_follows, log_closes, jumps_as, taken_next, own_next, refuses_as, floor_found_is}
use Rattle.mb_history_laws.proofs.Standing.{own_sender}
use Rattle.mb_history_laws.proofs.Tables.{gate_left}
use Rattle.mb_refinement.specs.GateCalls.{Marks, Follows, Closes, Jumps, Judges, StandsAt, HasFloor}
use Rattle.mb_refinement.specs.Stands.{GatesStand}

-- ---- messages of a host

again_stamped : (m : StampedMessage) → as_stamped (as_message m) ≡ Some m
again_stamped (stamped.Prepare m) = refl
again_stamped (stamped.Commit m) = refl
again_stamped (stamped.Checkpoint m) = refl
again_stamped (stamped.ViewChange m) = refl
again_stamped (stamped.NewView m) = refl
again_stamped (stamped.Enter m) = refl
again_stamped (stamped.Open m) = refl
again_stamped (stamped.Join m) = refl

-- The mark of a stamped message says what a gate reads of it.
pub mark_says : (m : StampedMessage) → Marks (mark_of m) m
mark_says (stamped.Prepare m) = record { says = (refl, refl, refl); counter = refl }
mark_says (stamped.Commit m) = record { says = (refl, refl, refl); counter = refl }
mark_says (stamped.Checkpoint m) = record { says = (refl, refl); counter = refl }
mark_says (stamped.ViewChange m) = record { says = (refl, refl); counter = refl }
mark_says (stamped.NewView m) = record { says = (refl, refl); counter = refl }
mark_says (stamped.Enter m) = record { says = (refl, refl); counter = refl }
mark_says (stamped.Open m) = record { says = (refl, refl, refl); counter = refl }
mark_says (stamped.Join m) = record { says = (refl, refl, refl, refl); counter = refl }

pub mark_is_stamped : (m : StampedMessage) → is_stamped_kind (mark_of m).kind ≡ true
mark_is_stamped (stamped.Prepare m) = refl
mark_is_stamped (stamped.Commit m) = refl
mark_is_stamped (stamped.Checkpoint m) = refl
mark_is_stamped (stamped.ViewChange m) = refl
mark_is_stamped (stamped.NewView m) = refl
mark_is_stamped (stamped.Enter m) = refl
mark_is_stamped (stamped.Open m) = refl
mark_is_stamped (stamped.Join m) = refl

module _ {S : Type 0} (self : Identity S) where
  -- ---- what an entry leaves

  -- an entry that speaks of no gate
  pub gates_stay : (gates : List Gate) (e : Entry) (d : History) → ((h : ℕ) → speaks_of_gate h e ≡ false) → GatesStand self gates d → GatesStand self gates (e ∷ d)
  gates_stay gates e d none g = record {
    count = g.count;
    each = λ h gate at. subst (λ (l : SenderLog). Represents gate l) (sym (gate_left self e d h (none h)).0) (g.each h gate at);
  }

  -- one gate in the place of another
  gates_with : (gates : List Gate) (d after : History) (h : ℕ) (old new : Gate) → slice_get gates h ≡ Some old → ((g : ℕ) → g ≢ h → log_of self after g ≡ log_of self d g)
      → Represents new (log_of self after h) → GatesStand self gates d → GatesStand self (set gates h new) after
  gates_with gates d after h old new there others now g = record {
    count = length-set gates h new ∙ g.count;
    each = λ i gate at. elim (eqb_tells i h) [
      | inl same ↦
          let is : gate ≡ new = same_Some gate new (sym at ∙ ap (slice_get (set gates h new)) same.1 ∙ get-set_same gates h new (slice_get_within gates h old there)) in
          subst (λ (x : Gate). Represents x (log_of self after i)) (sym is) (subst (λ (k : ℕ). Represents new (log_of self after k)) (sym same.1) now)
      | inr other ↦ subst (λ (l : SenderLog). Represents gate l) (sym (others i other.1)) (g.each i gate (sym (get-set_other gates h i new other.1) ∙ at))
    ];
  }

  -- behind an entry that speaks of one gate alone
  pub gate_moves : (gates : List Gate) (e : Entry) (d : History) (h : ℕ) (old new : Gate) → slice_get gates h ≡ Some old → ((g : ℕ) → g ≢ h → speaks_of_gate g e ≡ false)
      → Represents new (log_of self (e ∷ d) h) → GatesStand self gates d → GatesStand self (set gates h new) (e ∷ d)
  gate_moves gates e d h old new there others now g = gates_with gates d (e ∷ d) h old new there (λ k other. (gate_left self e d k (others k other)).0) now g

  not_by : (m : StampedMessage) (g : ℕ) → g ≢ (ui_of m).host → is_by g (Some m) ≡ false
  not_by m g other = ne_eqb (ui_of m).host g (λ e. other (sym e))

  by_other : (m : StampedMessage) (g : ℕ) → g ≢ (ui_of m).host → speaks_of_gate g (Accepted (as_message m)) ≡ false
  by_other m g other = rw (again_stamped m, not_by m g other) refl

  -- A message is taken.
  pub gate_taken : (gates : List Gate) (d : History) (m : StampedMessage) (mark : Mark) (old new : Gate) → stamped_refusal self d m ≡ None → Marks mark m
      → slice_get gates (ui_of m).host ≡ Some old → Follows old mark new → GatesStand self gates d → GatesStand self (set gates (ui_of m).host new) (Accepted (as_message m) ∷ d)
  gate_taken gates d m mark old new passed marks there follows g =
      let h : ℕ = (ui_of m).host in
      let inner : Bool = inner_valid self.shape (valid self) (bare_of m) in
      let next : answer (log_of self d h) (bare_of m) mark.counter inner ≡ offer.Next =
      ap (λ n. answer (log_of self d h) (bare_of m) n inner) marks.counter ∙ taken_next self d m (passes_stamped self d m passed).gate in
      gate_moves gates (Accepted (as_message m)) d h old new there (by_other m)
      (subst (λ (l : SenderLog). Represents new l) (sym (log_follows self (Accepted (as_message m)) d m (again_stamped m)))
      (follows (log_of self d h) (bare_of m) inner (g.each h old there) marks.says next)) g

  -- This host's own gate takes what it stamps.
  pub gate_stamped : (gates : List Gate) (d : History) (m : StampedMessage) (mark : Mark) (old new : Gate) → IsSound self d → Adds self d (Stamped m) → Marks mark m
      → slice_get gates self.host ≡ Some old → Follows old mark new → GatesStand self gates d → GatesStand self (set gates self.host new) (Stamped m ∷ d)
  gate_stamped gates d m mark old new sound makes marks there follows g =
      let own : (ui_of m).host ≡ self.host = own_sender self d m makes in
      let inner : Bool = inner_valid self.shape (valid self) (bare_of m) in
      let next : answer (log_of self d self.host) (bare_of m) mark.counter inner ≡ offer.Next =
      ap (λ n. answer (log_of self d self.host) (bare_of m) n inner) marks.counter ∙ own_next self d m sound.gates (makes, sound.arises) in
      let taken : log_of self (Stamped m ∷ d) self.host ≡ record (log_of self d self.host) { taken = bare_of m ∷ (log_of self d self.host).taken } =
      subst (λ (k : ℕ). log_of self (Stamped m ∷ d) k ≡ record (log_of self d k) { taken = bare_of m ∷ (log_of self d k).taken }) own (log_follows self (Stamped m) d m refl) in
      gate_moves gates (Stamped m) d self.host old new there (λ k other. rw (not_by m k (λ e. other (e ∙ own))) refl)
      (subst (λ (l : SenderLog). Represents new l) (sym taken) (follows (log_of self d self.host) (bare_of m) inner (g.each self.host old there) marks.says next)) g

  -- A gate is closed.
  pub gate_closed : (gates : List Gate) (d : History) (h counter : ℕ) (old new : Gate) → slice_get gates h ≡ Some old → Closes old counter new → GatesStand self gates d → GatesStand self (set gates h new) (Closed h counter ∷ d)
  gate_closed gates d h counter old new there closes g =
      gate_moves gates (Closed h counter) d h old new there (λ k other. ne_eqb h k (λ e. other (sym e)))
      (subst (λ (l : SenderLog). Represents new l) (sym (log_closes self d h counter)) (closes (log_of self d h) (g.each h old there))) g

  -- ---- jumps

  -- the test of a jump is that of the history
  pub jump_test : (d : History) (h : ℕ) (floor : Floor) → may_jump (log_of self d h) floor ≡ (is_none (closed_at d h) && nat_lt (gate_of d h).counter floor.counter)
  jump_test d h floor = ap (λ b. is_none (closed_at d h) && b) (forward (gate_of d h).counter floor.counter) where
    forward : (a b : ℕ) → nat_le (a + 1) b ≡ nat_lt a b
    forward a b = elim (cases_Bool (nat_lt a b)) [
      | inl lt ↦ le-leb (a + 1) b (omega (arith, ltb-true a b lt)) ∙ sym lt
      | inr ge ↦ elim (cases_Bool (nat_le (a + 1) b)) [
        | inr gt ↦ gt ∙ sym ge
        | inl le ↦ absurd (let lt : nat_lt a b ≡ true = lt-ltb a b (omega (arith, leb-true (a + 1) b le)) in let e = rw lt at ge in absurd cc)
      ]
    ]

  -- A gate goes on from the floor that a LOG shows, where the history has it jump; else it stays.
  pub gate_jumps : (gates : List Gate) (x : Progress) (h : ℕ) (floor : Floor) (old new : Gate) → slice_get gates h ≡ Some old → Jumps old floor new → GatesStand self gates x.history
      → GatesStand self (set gates h new) (jump self h (Some floor) x).history
  gate_jumps gates x h floor old new there jumps g =
      gates_with gates x.history (jump self h (Some floor) x).history h old new there elsewhere
      (subst (λ (l : SenderLog). Represents new l) (sym (jumps_as self x h floor)) (jumps (log_of self x.history h) (g.each h old there))) g where
        elsewhere : (i : ℕ) → i ≢ h → log_of self (jump self h (Some floor) x).history i ≡ log_of self x.history i
        elsewhere i other = elim (cases_Bool (is_none (closed_at x.history h) && nat_lt (gate_of x.history h).counter floor.counter)) [
          | inl does ↦ rw does (gate_left self (Jumped h floor) x.history i (rw (ne_eqb h i (λ e. other (sym e))) refl)).0
          | inr not_so ↦ rw not_so refl
        ]

  -- where it does jump
  pub gate_jumped : (gates : List Gate) (d : History) (h : ℕ) (floor : Floor) (old new : Gate) → slice_get gates h ≡ Some old → Jumps old floor new
      → may_jump (log_of self d h) floor ≡ true → GatesStand self gates d → GatesStand self (set gates h new) (Jumped h floor ∷ d)
  gate_jumped gates d h floor old new there jumps may g =
      subst (λ (after : History). GatesStand self (set gates h new) after) (ap (λ b. (if b then write (Jumped h floor) (begin d) else begin d).history) (sym (jump_test d h floor) ∙ may))
      (gate_jumps gates (begin d) h floor old new there jumps g)

  -- ---- what they answer

  -- The gate of its sender refuses a message as the history does.
  pub gate_refuses : (d : History) (m : StampedMessage) (mark : Mark) (gate : Gate) (o : Offer) → Represents gate (log_of self d (ui_of m).host) → Marks mark m
      → Judges gate mark (inner_valid self.shape (valid self) (bare_of m)) o → gate_refusal self d m ≡ refusal_of o
  gate_refuses d m mark gate o stands marks judges =
      let h : ℕ = (ui_of m).host in
      let inner : Bool = inner_valid self.shape (valid self) (bare_of m) in
      refuses_as self d m
      ∙ sym (ap refusal_of (judges (log_of self d h) (bare_of m) stands marks.says ∙ ap (λ n. answer (log_of self d h) (bare_of m) n inner) marks.counter))

  -- What it answers to a message whose certificates are taken for valid is its answer, unless the message is next then.
  same_answer : (c : Option ℕ) (stale ahead : Bool) (next rule : ℕ) (may whatever : Bool) → (may ≡ true → whatever ≡ true)
      → (convicted_or c (if stale then offer.Stale next else if ahead then offer.Ahead next else if whatever then offer.Next else offer.Illegal rule) ≡ offer.Next → ⊥)
      → convicted_or c (if stale then offer.Stale next else if ahead then offer.Ahead next else if may then offer.Next else offer.Illegal rule)
      ≡ convicted_or c (if stale then offer.Stale next else if ahead then offer.Ahead next else if whatever then offer.Next else offer.Illegal rule)
  same_answer (Some x) stale ahead next rule may whatever more refused = refl
  same_answer None true ahead next rule may whatever more refused = refl
  same_answer None false true next rule may whatever more refused = refl
  same_answer None false false next rule true true more refused = refl
  same_answer None false false next rule true false more refused = absurd (let e = more refl in cc)
  same_answer None false false next rule false true more refused = absurd (refused refl)
  same_answer None false false next rule false false more refused = refl

  pub gate_refuses_early : (d : History) (m : StampedMessage) (mark : Mark) (gate : Gate) (o : Offer) → Represents gate (log_of self d (ui_of m).host) → Marks mark m
      → Judges gate mark true o → (o ≡ offer.Next → ⊥) → gate_refusal self d m ≡ refusal_of o
  gate_refuses_early d m mark gate o stands marks judges refused =
      let log : SenderLog = log_of self d (ui_of m).host in
      let inner : Bool = inner_valid self.shape (valid self) (bare_of m) in
      let counter : ℕ = (ui_of m).counter in
      let is : o ≡ answer log (bare_of m) counter true = judges log (bare_of m) stands marks.says ∙ ap (λ n. answer log (bare_of m) n true) marks.counter in
      let same : answer log (bare_of m) counter inner ≡ answer log (bare_of m) counter true =
      same_answer (shut_before log.closed counter) (nat_le counter (standing log).counter) (nat_lt ((standing log).counter + 1) counter) (next_of log) (rule_of (bare_of m))
      (may_stand log inner (bare_of m)) (may_stand log true (bare_of m)) (permitted_whatever log.from log.shape log.sender (λ b. inner) log.taken (bare_of m)) (λ e. refused (is ∙ e)) in
      refuses_as self d m ∙ ap refusal_of (same ∙ sym is)

  -- where its host stands, and the counter that it waits for
  pub gate_stands : (d : History) (h : ℕ) (gate : Gate) (floor : Floor) → Represents gate (log_of self d h) → StandsAt gate floor → floor ≡ gate_of d h
  gate_stands d h gate floor stands at = at (log_of self d h) stands

  pub gate_next : (d : History) (h : ℕ) (gate : Gate) (floor : Floor) → Represents gate (log_of self d h) → StandsAt gate floor → min (floor.counter + 1) (2 ^ 64 - 1) ≡ next_in d h
  gate_next d h gate floor stands at = ap (λ f. min (f.counter + 1) (2 ^ 64 - 1)) (gate_stands d h gate floor stands at)

  pub gate_floor : (d : History) (h below : ℕ) (gate : Gate) (found : Option Floor) → IsSound self d → Represents gate (log_of self d h) → HasFloor gate below found → found ≡ floor_below d h below
  gate_floor d h below gate found sound stands has = has (log_of self d h) stands ∙ sym (floor_found_is self d sound.gates h below)

  -- where this host stands
  pub own_gate : (d : History) (gates : List Gate) (gate : Gate) (floor : Floor) → GatesStand self gates d → slice_get gates self.host ≡ Some gate → StandsAt gate floor → floor ≡ here self d
  own_gate d gates gate floor g there at = gate_stands d self.host gate floor (g.each self.host gate there) at
