-- The gate of a host stands behind the last message that was taken of it, or at the floor to which it jumped later; the gate for the host itself, behind
-- the last message that it stamped.
use Rattle.std.proofs.Common.{◌≡◌, ℕ, ◌+◌, ◌<◌, Bool, true, false, ◌&&◌, not, List, [], ◌∷◌, ◌++◌, length, refl, sym, ap, subst, ◌∙◌, inl, inr, arith, Option, Some, None}
use Rattle.std.specs.Prelude.{◌==◌, nat_lt}
use Rattle.std.specs.List.{list_all}
use Rattle.std.proofs.lemmas.Bool.{cases_Bool, and_parts, and_from, eq-eqb, ne_eqb, eqb-true, eqb-false, ltb-true}
use Rattle.std.proofs.lemmas.List.{length-map}
use Rattle.mb_base.specs.Shapes.{Bytes, primary}
use Rattle.mb_base.specs.declared.shape.Shape.{Shape}
use Rattle.mb_parts.specs.declared.floor.Floor.{Floor}
use Rattle.mb_parts.specs.declared.floor.Phase.{Phase}
use Rattle.mb_parts.specs.declared.floor.Phase.TheVariants as phase
use Rattle.mb_parts.specs.Bares.{Bare}
use Rattle.mb_parts.specs.Bares as bare
use Rattle.mb_parts.specs.Claims.{Claim}
use Rattle.mb_parts.specs.Ordered.{initial_floor, current_view, is_opened, is_entered, is_below, last_position, top_position, last_checkpoint, permits, is_ordered, floor_after, phase_from, phase_is_open, phase_is_entered}
use Rattle.mb_parts.specs.Certificates.{inner_valid}
use Rattle.mb_parts.proofs.OrderedLaws.{rising}
use Rattle.mb_msg.specs.declared.message.Message.{Message}
use Rattle.mb_msg.specs.declared.message.Message.TheVariants as message
use Rattle.mb_msg.specs.declared.stamped.Stamped.{Stamped as StampedMessage}
use Rattle.mb_msg.specs.declared.stamped.Stamped.TheVariants as stamped
use Rattle.mb_msg.specs.Stamps.{bare_of, ui_of, as_stamped, as_message}
use Rattle.mb_model.specs.Histories.{Entry, Accepted, Stamped, Jumped, History, Identity, onto, by_host, origin, taken_of, gate, said, counter_of, stamped as all_stamped}
use Rattle.mb_model.specs.GateChecks.{valid}
use Rattle.mb_model.specs.Passed.{Passes, PassesGate}
use Rattle.mb_steps.specs.OwnLists.{inner}
use Rattle.mb_steps.specs.Arises.{Arises, Makes}
use Rattle.mb_steps.proofs.StepOwnList.{stands_here, own_passed}
use Rattle.mb_steps.proofs.StepOwnStamped.{steady}
use Rattle.mb_promise.specs.KeepsTables.{NoneIs}
use Rattle.mb_promise.specs.GatesStand.{IsMessage, is_of, moves_gate, MovesTo, TakesInTurn, KeepsGates, KeepsJumps, StartsGates, GatesStand}
use Rattle.mb_world_model.specs.World.{System, self_of}
use Rattle.mb_world_model.specs.WorldSteps.{world}
use Rattle.mb_world_laws.proofs.KeptByWorlds.{world_arises}
use Rattle.mb_host_laws.proofs.Cases.{not_true}
use Rattle.mb_host_laws.proofs.OwnGates.{OwnUi, own_ui}

-- ---- where one message leads

module _ (o : Floor) (s : Shape) (host : ℕ) (inside : Bare → Bool) (l : List Bare) where
  open_phase : (b : Bool) (n : Bool) → b ≡ true → phase_from b n ≡ phase.Open
  open_phase true n e = refl
  open_phase false n e = absurd cc

  entered_phase : (b n : Bool) → b ≡ false → n ≡ true → phase_from b n ≡ phase.Entered
  entered_phase false true e f = refl
  entered_phase true n e f = absurd cc
  entered_phase false false e f = absurd cc

  changing_phase : (b n : Bool) → b ≡ false → n ≡ false → phase_from b n ≡ phase.Changing
  changing_phase false false e f = refl
  changing_phase true n e f = absurd cc
  changing_phase false true e f = absurd cc

  not_here : (w c v : ℕ) → (w == c) ≡ true → c < v → (w == v) ≡ false
  not_here w c v same lt = let at : w ≡ c = eqb-true w c same in ne_eqb w v (λ e. omega (arith, at, lt, e))

  -- nothing is said of a view above the last one
  record IsNew (k : List Bare) (v : ℕ) : Type 0 where
    not_opened : is_opened o k v ≡ false
    not_entered : is_entered o k v ≡ false
    no_position : last_position o k v ≡ 0

  nothing_above : (k : List Bare) → is_ordered o s host inside k ≡ true → (v : ℕ) → current_view o k < v → IsNew k v
  unfolding is_ordered permits current_view is_opened is_entered last_position
  nothing_above [] ordered v lt = let other : (o.view == v) ≡ false = ne_eqb o.view v (λ e. omega (arith, lt, e)) in record { not_opened = rw other refl; not_entered = rw other refl; no_position = rw other refl }
  nothing_above (bare.ViewChange w x ∷ k) ordered v lt =
      let t = and_parts (nat_lt o.view w && list_all (is_below w) k) (is_ordered o s host inside k) ordered in
      let more : current_view o k < w = ltb-true (current_view o k) w (sym (rising o s host inside k w t.1) ∙ t.0) in
      let n = nothing_above k t.1 v (omega (arith, more, lt)) in
      record { not_opened = n.not_opened; not_entered = n.not_entered; no_position = n.no_position }
  nothing_above (bare.Prepare w p x ∷ k) ordered v lt =
      let t = and_parts _ (is_ordered o s host inside k) ordered in
      let other = not_here w (current_view o k) v (and_parts (w == current_view o k) _ t.0).0 lt in
      let n = nothing_above k t.1 v lt in
      record { not_opened = n.not_opened; not_entered = n.not_entered; no_position = rw other n.no_position }
  nothing_above (bare.Commit w p c y x ∷ k) ordered v lt =
      let t = and_parts _ (is_ordered o s host inside k) ordered in
      let other = not_here w (current_view o k) v (and_parts (w == current_view o k) _ t.0).0 lt in
      let n = nothing_above k t.1 v lt in
      record { not_opened = n.not_opened; not_entered = n.not_entered; no_position = rw other n.no_position }
  nothing_above (bare.Checkpoint p y x ∷ k) ordered v lt =
      let t = and_parts _ (is_ordered o s host inside k) ordered in
      let n = nothing_above k t.1 v lt in
      record { not_opened = n.not_opened; not_entered = n.not_entered; no_position = n.no_position }
  nothing_above (bare.NewView w b e p x ∷ k) ordered v lt =
      let t = and_parts _ (is_ordered o s host inside k) ordered in
      let other = not_here w (current_view o k) v (and_parts (w == current_view o k) _ t.0).0 lt in
      let n = nothing_above k t.1 v lt in
      record { not_opened = n.not_opened; not_entered = rw other n.not_entered; no_position = n.no_position }
  nothing_above (bare.Enter w c p ∷ k) ordered v lt =
      let t = and_parts _ (is_ordered o s host inside k) ordered in
      let other = not_here w (current_view o k) v (and_parts (w == current_view o k) _ t.0).0 lt in
      let n = nothing_above k t.1 v lt in
      record { not_opened = n.not_opened; not_entered = rw other n.not_entered; no_position = n.no_position }
  nothing_above (bare.Open e x ∷ k) ordered v lt =
      let t = and_parts _ (is_ordered o s host inside k) ordered in
      let other = not_here e.view (current_view o k) v (and_parts (e.view == current_view o k) _ t.0).0 lt in
      let n = nothing_above k t.1 v lt in
      record { not_opened = rw other n.not_opened; not_entered = n.not_entered; no_position = rw other n.no_position }
  nothing_above (bare.Join w e c ∷ k) ordered v lt =
      let t = and_parts _ (is_ordered o s host inside k) ordered in
      let other = not_here w (current_view o k) v (and_parts (w == current_view o k) _ t.0).0 lt in
      let n = nothing_above k t.1 v lt in
      record { not_opened = rw other n.not_opened; not_entered = n.not_entered; no_position = rw other n.no_position }

  leads : is_ordered o s host inside l ≡ true → (m : StampedMessage) → permits o s host inside l (bare_of m) ≡ true → MovesTo (floor_after o l) m (floor_after o (bare_of m ∷ l))
  unfolding permits current_view is_opened is_entered last_position top_position last_checkpoint
  leads ordered (stamped.Prepare m) p =
      let a = and_parts (m.view == current_view o l) _ p in
      let b = and_parts (host == primary s m.view) _ a.1 in
      let c = and_parts (is_opened o l m.view) _ b.1 in
      let v : m.view ≡ current_view o l = eqb-true m.view (current_view o l) a.0 in
      record { view_is = sym v; phase_is = open_phase _ _ (subst (λ (w : ℕ). is_opened o l w ≡ true) v c.0); last_is = rw (eq-eqb m.view (current_view o l) v) refl; top_is = refl; point_is = refl }
  leads ordered (stamped.Commit m) p =
      let a = and_parts (m.view == current_view o l) _ p in
      let b = and_parts (not (host == primary s m.view)) _ a.1 in
      let c = and_parts (is_opened o l m.view) _ b.1 in
      let v : m.view ≡ current_view o l = eqb-true m.view (current_view o l) a.0 in
      record { view_is = sym v; phase_is = open_phase _ _ (subst (λ (w : ℕ). is_opened o l w ≡ true) v c.0); last_is = rw (eq-eqb m.view (current_view o l) v) refl; top_is = refl; point_is = refl }
  leads ordered (stamped.Checkpoint m) p = record { view_is = refl; phase_is = refl; last_is = refl; top_is = refl; point_is = refl }
  leads ordered (stamped.ViewChange m) p =
      let more : current_view o l < m.view = ltb-true (current_view o l) m.view (sym (rising o s host inside l m.view ordered) ∙ p) in
      let n = nothing_above l ordered m.view more in
      record { view_is = refl; phase_is = changing_phase _ _ n.not_opened n.not_entered; last_is = n.no_position; top_is = refl; point_is = refl }
  leads ordered (stamped.NewView m) p =
      let a = and_parts (m.view == current_view o l) _ p in
      let b = and_parts (host == primary s m.view) _ a.1 in
      let c = and_parts (not (is_entered o l m.view)) (not (is_opened o l m.view)) b.1 in
      let v : m.view ≡ current_view o l = eqb-true m.view (current_view o l) a.0 in
      record { view_is = sym v; phase_is = entered_phase _ _ (subst (λ (w : ℕ). is_opened o l w ≡ false) v (not_true (is_opened o l m.view) c.1)) (rw (eq-eqb m.view (current_view o l) v) refl); last_is = refl; top_is = refl; point_is = refl }
  leads ordered (stamped.Enter m) p =
      let a = and_parts (m.view == current_view o l) _ p in
      let b = and_parts (not (host == primary s m.view)) _ a.1 in
      let c = and_parts (not (is_entered o l m.view)) (not (is_opened o l m.view)) b.1 in
      let v : m.view ≡ current_view o l = eqb-true m.view (current_view o l) a.0 in
      record { view_is = sym v; phase_is = entered_phase _ _ (subst (λ (w : ℕ). is_opened o l w ≡ false) v (not_true (is_opened o l m.view) c.1)) (rw (eq-eqb m.view (current_view o l) v) refl); last_is = refl; top_is = refl; point_is = refl }
  leads ordered (stamped.Open m) p =
      let a = and_parts (m.evidence.view == current_view o l) _ p in
      let v : m.evidence.view ≡ current_view o l = eqb-true m.evidence.view (current_view o l) a.0 in
      record { view_is = sym v; phase_is = open_phase _ _ (rw (eq-eqb m.evidence.view (current_view o l) v) refl); last_is = rw (eq-eqb m.evidence.view (current_view o l) v) refl; top_is = refl; point_is = refl }
  leads ordered (stamped.Join m) p =
      let a = and_parts (m.view == current_view o l) _ p in
      let v : m.view ≡ current_view o l = eqb-true m.view (current_view o l) a.0 in
      record { view_is = sym v; phase_is = open_phase _ _ (rw (eq-eqb m.view (current_view o l) v) refl); last_is = rw (eq-eqb m.view (current_view o l) v) refl; top_is = refl; point_is = refl }

  one_more : (m : Bare) → (floor_after o (m ∷ l)).counter ≡ (floor_after o l).counter + 1
  one_more m = omega arith

-- ---- what moves no gate

none_of : (h : ℕ) (o : Option StampedMessage) → is_of h o ≡ false → by_host h o ≡ None
none_of h None e = refl
none_of h (Some m) e = rw e refl

origin_still : (x : Entry) (d : History) (h : ℕ) → moves_gate h x ≡ false → origin (x ∷ d) h ≡ origin d h
unfolding origin
origin_still (Jumped g floor) d h e = rw e refl
origin_still x d h e = refl

taken_still : (x : Entry) (d : History) (h : ℕ) → moves_gate h x ≡ false → taken_of (x ∷ d) h ≡ taken_of d h
unfolding taken_of
taken_still (Accepted m) d h e = ap (λ (o : Option Bare). onto o (taken_of d h)) (none_of h (as_stamped m) e)
taken_still (Stamped m) d h e = rw e refl
taken_still (Jumped g floor) d h e = rw e refl
taken_still x d h e = refl

gate_still : (x : Entry) (d : History) (h : ℕ) → moves_gate h x ≡ false → gate (x ∷ d) h ≡ gate d h
gate_still x d h e = rw (origin_still x d h e, taken_still x d h e) refl

gate_stays : (later d : History) (h : ℕ) → NoneIs (moves_gate h) later → gate (later ++ d) h ≡ gate d h
gate_stays [] d h none = refl
gate_stays (x ∷ later) d h none = gate_still x (later ++ d) h none.0 ∙ gate_stays later d h none.1

-- ---- jumps and the start

phase_back : (p : Phase) → phase_from (phase_is_open p) (phase_is_entered p) ≡ p
phase_back phase.Open = refl
phase_back phase.Entered = refl
phase_back phase.Changing = refl

at_floor : (f : Floor) → floor_after f [] ≡ f
unfolding current_view is_opened is_entered last_position top_position last_checkpoint
at_floor f = rw (eq-eqb f.view f.view refl, phase_back f.phase) (ap (λ (n : ℕ). record { counter = n; view = f.view; phase = f.phase; last = f.last; top = f.top; point = f.point }) (counter_is f.counter)) where
  counter_is : (n : ℕ) → n + 0 ≡ n
  counter_is n = omega arith

jump_origin : (h : ℕ) (f : Floor) (d : History) → origin (Jumped h f ∷ d) h ≡ f
unfolding origin
jump_origin h f d = rw (eq-eqb h h refl) refl

jump_taken : (h : ℕ) (f : Floor) (d : History) → taken_of (Jumped h f ∷ d) h ≡ []
unfolding taken_of
jump_taken h f d = rw (eq-eqb h h refl) refl

pub jumped_gate : (h : ℕ) (floor : Floor) (d : History) → gate (Jumped h floor ∷ d) h ≡ floor
jumped_gate h floor d = rw (jump_origin h floor d, jump_taken h floor d) (at_floor floor)

keeps_jumps : (d : History) → KeepsJumps d
keeps_jumps d later before h floor is none =
    let here = jumped_gate h floor before in
    ap (λ (x : History). gate x h) is ∙ (gate_stays later (Jumped h floor ∷ before) h none ∙ here)

starts_from : (d : History) (h : ℕ) → NoneIs (moves_gate h) d → (origin d h ≡ initial_floor) × (taken_of d h ≡ [])
unfolding origin taken_of
starts_from [] h none = (refl, refl)
starts_from (x ∷ d) h none = let s = starts_from d h none.1 in (origin_still x d h none.0 ∙ s.0, taken_still x d h none.0 ∙ s.1)

starts_gates : (d : History) → StartsGates d
starts_gates d h none = let s = starts_from d h none in rw (s.0, s.1) (at_floor initial_floor)

-- ---- one message onto the list

module _ {S : Type 0} (self : Identity S) where
  accepted_gate : (d : History) (m : StampedMessage) → Passes self d (as_message m) → PassesGate self d m
  accepted_gate d (stamped.Prepare m) p = p.gate
  accepted_gate d (stamped.Commit m) p = p.gate
  accepted_gate d (stamped.Checkpoint m) p = p.gate
  accepted_gate d (stamped.ViewChange m) p = p.gate
  accepted_gate d (stamped.NewView m) p = p.gate
  accepted_gate d (stamped.Enter m) p = p.gate
  accepted_gate d (stamped.Open m) p = p.gate
  accepted_gate d (stamped.Join m) p = p.gate

  -- It is this host's, with the next counter.
  own_next : (d : History) (m : StampedMessage) → Makes self d m → OwnUi self (λ (c : Claim). Unit {0}) (λ (t : Bytes). Unit {0}) d m
  own_next d m made = own_ui self (λ (c : Claim). Unit {0}) (λ (t : Bytes). Unit {0}) d m made

  abbrev IsOrdered : History → ℕ → Type 0
  IsOrdered d h = is_ordered (origin d h) self.shape h (inner_valid self.shape (valid self)) (taken_of d h) ≡ true

  onto_ordered : (d : History) (m : StampedMessage) (h : ℕ) → IsOrdered d h → PassesGate self d m
      → is_ordered (origin d h) self.shape h (inner_valid self.shape (valid self)) (onto (by_host h (Some m)) (taken_of d h)) ≡ true
  unfolding is_ordered
  onto_ordered d m h before g = elim (cases_Bool ((ui_of m).host == h)) [
    | inl here ↦ rw here (and_from _ _ (subst (λ (x : ℕ). permits (origin d x) self.shape x (inner_valid self.shape (valid self)) (taken_of d x) (bare_of m) ≡ true) (eqb-true (ui_of m).host h here) g.permitted) before)
    | inr other ↦ rw other before
  ]

  -- What was taken of another host is ordered.
  taken_ordered : (d : History) → Arises self d → (h : ℕ) → (self.host ≡ h → ⊥) → IsOrdered d h
  unfolding origin taken_of is_ordered
  taken_ordered [] a h apart = refl
  taken_ordered (Accepted (message.Prepare m) ∷ d) a h apart = onto_ordered d (stamped.Prepare m) h (taken_ordered d a.1 h apart) a.0.gate
  taken_ordered (Accepted (message.Commit m) ∷ d) a h apart = onto_ordered d (stamped.Commit m) h (taken_ordered d a.1 h apart) a.0.gate
  taken_ordered (Accepted (message.Checkpoint m) ∷ d) a h apart = onto_ordered d (stamped.Checkpoint m) h (taken_ordered d a.1 h apart) a.0.gate
  taken_ordered (Accepted (message.ViewChange m) ∷ d) a h apart = onto_ordered d (stamped.ViewChange m) h (taken_ordered d a.1 h apart) a.0.gate
  taken_ordered (Accepted (message.NewView m) ∷ d) a h apart = onto_ordered d (stamped.NewView m) h (taken_ordered d a.1 h apart) a.0.gate
  taken_ordered (Accepted (message.Enter m) ∷ d) a h apart = onto_ordered d (stamped.Enter m) h (taken_ordered d a.1 h apart) a.0.gate
  taken_ordered (Accepted (message.Open m) ∷ d) a h apart = onto_ordered d (stamped.Open m) h (taken_ordered d a.1 h apart) a.0.gate
  taken_ordered (Accepted (message.Join m) ∷ d) a h apart = onto_ordered d (stamped.Join m) h (taken_ordered d a.1 h apart) a.0.gate
  taken_ordered (Stamped m ∷ d) a h apart =
      let host : (ui_of m).host ≡ self.host = (own_next d m a.0).host in
      let other : ((ui_of m).host == h) ≡ false = ne_eqb (ui_of m).host h (λ e. apart (sym host ∙ e)) in
      rw other (taken_ordered d a.1 h apart)
  taken_ordered (Jumped g f ∷ d) a h apart = elim (cases_Bool (g == h)) [
    | inl here ↦ rw here refl
    | inr other ↦ rw other (taken_ordered d a.1 h apart)
  ]
  taken_ordered (x ∷ d) a h apart = taken_ordered d a.1 h apart

  own_ordered : (d : History) → Arises self d → is_ordered (origin d self.host) self.shape self.host (inner self) (taken_of d self.host) ≡ true
  own_ordered d a =
      let list = (steady self d a).list in
      subst (λ (l : List Bare). is_ordered (origin d self.host) self.shape self.host (inner self) l ≡ true) (sym list.own.all)
      (subst (λ (f : Floor). is_ordered f self.shape self.host (inner self) (said d) ≡ true) (sym list.own.from) list.ordered)

  -- It is next of its sender, and may stand behind what was taken of it.
  record Enters (d : History) (m : StampedMessage) : Type 0 where
    next : (ui_of m).counter ≡ (gate d (ui_of m).host).counter + 1
    inner_of : Bare → Bool
    ordered : is_ordered (origin d (ui_of m).host) self.shape (ui_of m).host inner_of (taken_of d (ui_of m).host) ≡ true
    permitted : permits (origin d (ui_of m).host) self.shape (ui_of m).host inner_of (taken_of d (ui_of m).host) (bare_of m) ≡ true

  own_permitted : (d : History) (m : StampedMessage) → Arises self (Stamped m ∷ d) → permits (origin d self.host) self.shape self.host (inner self) (taken_of d self.host) (bare_of m) ≡ true
  unfolding all_stamped is_ordered
  own_permitted d m a =
      let own = (steady self d a.1).list.own in
      let ordered : is_ordered initial_floor self.shape self.host (inner self) (bare_of m ∷ said d) ≡ true = (steady self (Stamped m ∷ d) a).list.ordered in
      let t = and_parts (permits initial_floor self.shape self.host (inner self) (said d) (bare_of m)) _ ordered in
      subst (λ (l : List Bare). permits (origin d self.host) self.shape self.host (inner self) l (bare_of m) ≡ true) (sym own.all)
      (subst (λ (f : Floor). permits f self.shape self.host (inner self) (said d) (bare_of m) ≡ true) (sym own.from) t.0)

  own_enters : (d : History) (m : StampedMessage) → Arises self (Stamped m ∷ d) → Enters d m
  own_enters d m a =
      let ui = own_next d m a.0 in
      let host : (ui_of m).host ≡ self.host = ui.host in
      let counter : (ui_of m).counter ≡ counter_of d + 1 = ui.counter in
      let e : (gate d self.host).counter ≡ 0 + length (said d) = ap (λ (f : Floor). f.counter) (stands_here self d (steady self d a.1).list.own) in
      let count : (gate d self.host).counter ≡ counter_of d = omega (arith, e, length-map (all_stamped d) bare_of) in
      record {
        next = subst (λ (h : ℕ). (ui_of m).counter ≡ (gate d h).counter + 1) (sym host) (omega (arith, counter, count));
        inner_of = inner self;
        ordered = subst (λ (h : ℕ). is_ordered (origin d h) self.shape h (inner self) (taken_of d h) ≡ true) (sym host) (own_ordered d a.1);
        permitted = subst (λ (h : ℕ). permits (origin d h) self.shape h (inner self) (taken_of d h) (bare_of m) ≡ true) (sym host) (own_permitted d m a);
      }

  enters : (d : History) (e : Entry) (m : StampedMessage) → IsMessage e m → Arises self (e ∷ d) → Enters d m
  enters d e m (inl is) a =
      let b : Arises self (Accepted (as_message m) ∷ d) = subst (λ (x : Entry). Arises self (x ∷ d)) is a in
      let g = accepted_gate d m b.0 in
      let other : ((ui_of m).host == self.host) ≡ false = own_passed self d m (steady self d b.1).list.own g in
      record {
        next = g.next;
        inner_of = inner_valid self.shape (valid self);
        ordered = taken_ordered d b.1 (ui_of m).host (λ same. eqb-false (ui_of m).host self.host other (sym same));
        permitted = g.permitted;
      }
  enters d e m (inr is) a = own_enters d m (subst (λ (x : Entry). Arises self (x ∷ d)) is a)

  accepted_taken : (d : History) (m : StampedMessage) → taken_of (Accepted (as_message m) ∷ d) (ui_of m).host ≡ bare_of m ∷ taken_of d (ui_of m).host
  unfolding taken_of
  accepted_taken d (stamped.Prepare m) = rw (eq-eqb m.ui.host m.ui.host refl) refl
  accepted_taken d (stamped.Commit m) = rw (eq-eqb m.ui.host m.ui.host refl) refl
  accepted_taken d (stamped.Checkpoint m) = rw (eq-eqb m.ui.host m.ui.host refl) refl
  accepted_taken d (stamped.ViewChange m) = rw (eq-eqb m.ui.host m.ui.host refl) refl
  accepted_taken d (stamped.NewView m) = rw (eq-eqb m.ui.host m.ui.host refl) refl
  accepted_taken d (stamped.Enter m) = rw (eq-eqb m.ui.host m.ui.host refl) refl
  accepted_taken d (stamped.Open m) = rw (eq-eqb m.ui.host m.ui.host refl) refl
  accepted_taken d (stamped.Join m) = rw (eq-eqb m.ui.host m.ui.host refl) refl

  stamped_taken : (d : History) (m : StampedMessage) → taken_of (Stamped m ∷ d) (ui_of m).host ≡ bare_of m ∷ taken_of d (ui_of m).host
  unfolding taken_of
  stamped_taken d m = rw (eq-eqb (ui_of m).host (ui_of m).host refl) refl

  accepted_origin : (m : Message) (d : History) (h : ℕ) → origin (Accepted m ∷ d) h ≡ origin d h
  unfolding origin
  accepted_origin m d h = refl

  stamped_origin : (m : StampedMessage) (d : History) (h : ℕ) → origin (Stamped m ∷ d) h ≡ origin d h
  unfolding origin
  stamped_origin m d h = refl

  gate_behind : (d : History) (e : Entry) (m : StampedMessage) → IsMessage e m → gate (e ∷ d) (ui_of m).host ≡ floor_after (origin d (ui_of m).host) (bare_of m ∷ taken_of d (ui_of m).host)
  gate_behind d e m (inl is) = ap (λ (x : Entry). gate (x ∷ d) (ui_of m).host) is ∙ rw (accepted_origin (as_message m) d (ui_of m).host, accepted_taken d m) refl
  gate_behind d e m (inr is) = ap (λ (x : Entry). gate (x ∷ d) (ui_of m).host) is ∙ rw (stamped_origin m d (ui_of m).host, stamped_taken d m) refl

  abbrev Moved : History → StampedMessage → Floor → Type 0
  Moved before m g = (g.counter ≡ (ui_of m).counter) × MovesTo (gate before (ui_of m).host) m g

  moved : (d : History) (e : Entry) (m : StampedMessage) → IsMessage e m → Arises self (e ∷ d) → Moved d m (gate (e ∷ d) (ui_of m).host)
  moved d e m is a =
      let h : ℕ = (ui_of m).host in
      let n = enters d e m is a in
      subst (λ (g : Floor). Moved d m g) (sym (gate_behind d e m is))
      (one_more (origin d h) self.shape h n.inner_of (taken_of d h) (bare_of m) ∙ sym n.next, leads (origin d h) self.shape h n.inner_of (taken_of d h) n.ordered m n.permitted)

  arises_past : (l h : History) → Arises self (l ++ h) → Arises self h
  arises_past [] h a = a
  arises_past (y ∷ l) h a = arises_past l h a.1

  keeps_gates : (d : History) → Arises self d → KeepsGates d
  keeps_gates d arises later before e m is message none =
      let h : ℕ = (ui_of m).host in
      let a : Arises self (e ∷ before) = arises_past later (e ∷ before) (subst (λ (x : History). Arises self x) is arises) in
      let same : gate d h ≡ gate (e ∷ before) h = ap (λ (x : History). gate x h) is ∙ gate_stays later (e ∷ before) h none in
      subst (λ (g : Floor). Moved before m g) (sym same) (moved before e m message a)

  takes_in_turn : (d : History) → Arises self d → TakesInTurn d
  takes_in_turn d arises later before e m is message =
      (enters before e m message (arises_past later (e ∷ before) (subst (λ (x : History). Arises self x) is arises))).next

  pub gates_stand : (d : History) → Arises self d → GatesStand d
  gates_stand d a = record { turns = takes_in_turn d a; keeps = keeps_gates d a; jumps = keeps_jumps d; starts = starts_gates d }

-- In each world, whoever is faulty and whatever is forged.
pub hosts_gates_stand : {S : Type 0} (system : System S) → (k h : ℕ) → GatesStand ((world system k).histories h)
hosts_gates_stand system k h = gates_stand (self_of system h) ((world system k).histories h) (world_arises system k h)
