-- Behind each of its marks, a CHECKPOINT or a jump, the floors of a gate begin with where it stands, and nothing else changes them; so a CHECKPOINT tells the
-- last of the two that lies under its position.
use Rattle.std.proofs.Common.{◌≡◌, ℕ, ◌≤◌, ◌<◌, Bool, true, false, List, [], ◌∷◌, ◌++◌, refl, sym, ap, subst, ◌∙◌, Option, Some, None}
use Rattle.std.specs.Prelude.{◌==◌, find, take, nat_lt, slice_get, option_map, if◌then◌else◌}
use Rattle.std.specs.List.{range_with_len}
use Rattle.std.proofs.lemmas.Bool.{eqb-true, le-leb, lt-ltb, le-ltb}
use Rattle.std.proofs.lemmas.List.{append_assoc}
use Rattle.std.proofs.lemmas.Option.{slice_get-map}
use Rattle.mb_base.specs.Shapes.{host_count}
use Rattle.mb_parts.specs.declared.floor.Floor.{Floor}
use Rattle.mb_parts.specs.Bares.{Bare}
use Rattle.mb_parts.specs.Bares as bare
use Rattle.mb_msg.specs.declared.message.Body.TheVariants.{Whole}
use Rattle.mb_msg.specs.declared.message.Message.{Message}
use Rattle.mb_msg.specs.declared.message.Message.TheVariants as message
use Rattle.mb_msg.specs.declared.normal.Checkpoint.{Checkpoint}
use Rattle.mb_msg.specs.declared.stamped.Stamped.{Stamped as StampedMessage}
use Rattle.mb_msg.specs.declared.stamped.Stamped.TheVariants as stamped
use Rattle.mb_msg.specs.Stamps.{bare_of}
use Rattle.mb_model.specs.States.{state_digest}
use Rattle.mb_model.specs.Histories.{Entry, Accepted, Stamped, Jumped, History, Identity, floors_with, gate, gate_floors, floor_below}
use Rattle.mb_model.specs.Sending.{next_ui}
use Rattle.mb_model.specs.Making.{if_covered, floors_under, present_parts, checkpoint}
use Rattle.mb_steps.specs.Arises.{Arises, Makes}
use Rattle.mb_world_model.specs.World.{System, self_of}
use Rattle.mb_world_model.specs.WorldSteps.{world}
use Rattle.mb_promise.specs.KeepsTables.{NoneIs}
use Rattle.mb_promise.specs.TellsFloors.{marks_gate, IsNoJump, TellsLast, TellsLastButOne, TellsFloors}
use Rattle.mb_world_laws.proofs.KeptByWorlds.{world_arises}
use Rattle.mb_host_laws.proofs.Moments.{arises_by}
use Rattle.mb_obligations.proofs.KeptGates.{jumped_gate}
use Rattle.mb_obligations.proofs.Says.{host_at}

-- ---- the floors of a gate

-- no CHECKPOINT
abbrev is_other : Bare → Bool
is_other (bare.Checkpoint pos state digest) = false
is_other m = true

accepted_other : (h : ℕ) (at : Floor) (m : Message) (t : Bool) (b : Bare) (floors : List Floor) → is_other b ≡ true → floors_with h at (Accepted m) (if t then Some b else None) floors ≡ floors
accepted_other h at m false b floors e = refl
accepted_other h at m true (bare.Prepare view pos digest) floors e = refl
accepted_other h at m true (bare.Commit view pos counter cert digest) floors e = refl
accepted_other h at m true (bare.Checkpoint pos state digest) floors e = absurd cc
accepted_other h at m true (bare.ViewChange view digest) floors e = refl
accepted_other h at m true (bare.NewView view base end plan digest) floors e = refl
accepted_other h at m true (bare.Enter view counter plan) floors e = refl
accepted_other h at m true (bare.Open evidence digest) floors e = refl
accepted_other h at m true (bare.Join view evidence stable) floors e = refl

stamped_other : (h : ℕ) (at : Floor) (m : StampedMessage) (t : Bool) (b : Bare) (floors : List Floor) → is_other b ≡ true → floors_with h at (Stamped m) (if t then Some b else None) floors ≡ floors
stamped_other h at m false b floors e = refl
stamped_other h at m true (bare.Prepare view pos digest) floors e = refl
stamped_other h at m true (bare.Commit view pos counter cert digest) floors e = refl
stamped_other h at m true (bare.Checkpoint pos state digest) floors e = absurd cc
stamped_other h at m true (bare.ViewChange view digest) floors e = refl
stamped_other h at m true (bare.NewView view base end plan digest) floors e = refl
stamped_other h at m true (bare.Enter view counter plan) floors e = refl
stamped_other h at m true (bare.Open evidence digest) floors e = refl
stamped_other h at m true (bare.Join view evidence stable) floors e = refl

-- What is no mark changes none of them.
unmarked : (e : Entry) (d : History) (h : ℕ) → marks_gate h e ≡ false → gate_floors (e ∷ d) h ≡ gate_floors d h
unfolding gate_floors
unmarked (Accepted (message.Checkpoint m)) d h none = rw none refl
unmarked (Accepted (message.Prepare m)) d h none = accepted_other h _ (message.Prepare m) _ (bare_of (stamped.Prepare m)) _ refl
unmarked (Accepted (message.Commit m)) d h none = accepted_other h _ (message.Commit m) _ (bare_of (stamped.Commit m)) _ refl
unmarked (Accepted (message.ViewChange m)) d h none = accepted_other h _ (message.ViewChange m) _ (bare_of (stamped.ViewChange m)) _ refl
unmarked (Accepted (message.NewView m)) d h none = accepted_other h _ (message.NewView m) _ (bare_of (stamped.NewView m)) _ refl
unmarked (Accepted (message.Enter m)) d h none = accepted_other h _ (message.Enter m) _ (bare_of (stamped.Enter m)) _ refl
unmarked (Accepted (message.Open m)) d h none = accepted_other h _ (message.Open m) _ (bare_of (stamped.Open m)) _ refl
unmarked (Accepted (message.Join m)) d h none = accepted_other h _ (message.Join m) _ (bare_of (stamped.Join m)) _ refl
unmarked (Stamped (stamped.Checkpoint m)) d h none = rw none refl
unmarked (Stamped (stamped.Prepare m)) d h none = stamped_other h _ (stamped.Prepare m) _ (bare_of (stamped.Prepare m)) _ refl
unmarked (Stamped (stamped.Commit m)) d h none = stamped_other h _ (stamped.Commit m) _ (bare_of (stamped.Commit m)) _ refl
unmarked (Stamped (stamped.ViewChange m)) d h none = stamped_other h _ (stamped.ViewChange m) _ (bare_of (stamped.ViewChange m)) _ refl
unmarked (Stamped (stamped.NewView m)) d h none = stamped_other h _ (stamped.NewView m) _ (bare_of (stamped.NewView m)) _ refl
unmarked (Stamped (stamped.Enter m)) d h none = stamped_other h _ (stamped.Enter m) _ (bare_of (stamped.Enter m)) _ refl
unmarked (Stamped (stamped.Open m)) d h none = stamped_other h _ (stamped.Open m) _ (bare_of (stamped.Open m)) _ refl
unmarked (Stamped (stamped.Join m)) d h none = stamped_other h _ (stamped.Join m) _ (bare_of (stamped.Join m)) _ refl
unmarked (Jumped g floor) d h none = rw none refl
unmarked e d h none = refl

none_marked : (later d : History) (h : ℕ) → NoneIs (marks_gate h) later → gate_floors (later ++ d) h ≡ gate_floors d h
none_marked [] d h none = refl
none_marked (e ∷ l) d h none = unmarked e (l ++ d) h none.0 ∙ none_marked l d h none.1

-- A CHECKPOINT adds where the gate stands.
marked : (e : Entry) (d : History) (h : ℕ) → marks_gate h e ≡ true → IsNoJump e → gate_floors (e ∷ d) h ≡ gate (e ∷ d) h ∷ gate_floors d h
unfolding gate_floors
marked (Accepted (message.Checkpoint m)) d h is no_jump = rw is refl
marked (Stamped (stamped.Checkpoint m)) d h is no_jump = rw is refl
marked (Jumped g floor) d h is no_jump = absurd no_jump
marked e d h is no_jump = absurd cc

jumped : (g : ℕ) (floor : Floor) (d : History) (h : ℕ) → (g == h) ≡ true → gate_floors (Jumped g floor ∷ d) h ≡ gate (Jumped g floor ∷ d) h ∷ []
unfolding gate_floors
jumped g floor d h is =
    let here : gate (Jumped g floor ∷ d) h ≡ floor = subst (λ (x : ℕ). gate (Jumped g floor ∷ d) x ≡ floor) (eqb-true g h is) (jumped_gate g floor d) in
    ap {B = List Floor} (λ (t : Bool). if t then floor ∷ [] else gate_floors d h) is ∙ ap (λ (f : Floor). f ∷ []) (sym here)

-- They begin so behind each mark.
begin_marked : (e : Entry) (d : History) (h : ℕ) → marks_gate h e ≡ true → (rest : List Floor) × (gate_floors (e ∷ d) h ≡ gate (e ∷ d) h ∷ rest)
begin_marked (Jumped g floor) d h is = ([], jumped g floor d h is)
begin_marked (Accepted m) d h is = (gate_floors d h, marked (Accepted m) d h is tt)
begin_marked (Stamped m) d h is = (gate_floors d h, marked (Stamped m) d h is tt)
begin_marked e d h is = absurd cc

-- ---- the one that is told

first_told : (pos : ℕ) (g : Floor) (rest : List Floor) → g.point < pos → find (λ f. nat_lt f.point pos) (take 2 (g ∷ rest)) ≡ Some g
first_told pos g rest under = rw (lt-ltb g.point pos under) refl

second_told : (pos : ℕ) (c g : Floor) (rest : List Floor) → pos ≤ c.point → g.point < pos → find (λ f. nat_lt f.point pos) (take 2 (c ∷ g ∷ rest)) ≡ Some g
second_told pos c g rest above under = rw (le-ltb c.point pos above, lt-ltb g.point pos under) refl

covered : (pos : ℕ) (f : Floor) → f.top ≤ pos → if_covered pos (Some f) ≡ Some f
covered pos f low = rw (le-leb f.top pos low) refl

module _ {S : Type 0} (self : Identity S) where
  floor_at : (d : History) (pos h : ℕ) (g : Floor) → h < host_count self.shape → floor_below d h pos ≡ Some g → g.top ≤ pos → slice_get (floors_under self d pos) h ≡ Some (Some g)
  floor_at d pos h g lt is low =
      slice_get-map (λ h. if_covered pos (floor_below d h pos)) (range_with_len 0 (host_count self.shape)) h
      ∙ ap (option_map (λ h. if_covered pos (floor_below d h pos))) (host_at (host_count self.shape) h lt)
      ∙ ap (λ (o : Option Floor). Some (if_covered pos o)) is ∙ ap (λ (o : Option Floor). Some o) (covered pos g low)

  -- A CHECKPOINT of this position tells the floors under it.
  abbrev Told : History → Checkpoint → Type 0
  Told d m = m.body ≡ Whole (record { floors = floors_under self d m.pos })

  made_told : (d : History) (m : Checkpoint) → Makes self d (stamped.Checkpoint m) → Told d m
  made_told d m (p, just, multiple, is) =
      let made : Checkpoint = record { pos = p; state = state_digest (present_parts self d) p; body = Whole (record { floors = floors_under self d p }); ui = next_ui self d (bare_of (checkpoint self d p)) } in
      subst (λ (y : Checkpoint). Told d y) (same made m is) refl where
        same : (x y : Checkpoint) → stamped.Checkpoint x ≡ stamped.Checkpoint y → x ≡ y
        same x y e = cc

  tells_last : (d : History) (m : Checkpoint) → Told d m → TellsLast self d m
  tells_last d m told later before e h lt is mark none under low =
      let g : Floor = gate (e ∷ before) h in
      let b = begin_marked e before h mark in
      let all : gate_floors d h ≡ g ∷ b.0 = ap (λ (x : History). gate_floors x h) is ∙ none_marked later (e ∷ before) h none ∙ b.1 in
      let found : floor_below d h m.pos ≡ Some g = ap (λ (l : List Floor). find (λ f. nat_lt f.point m.pos) (take 2 l)) all ∙ first_told m.pos g b.0 under in
      (record { floors = floors_under self d m.pos }, told, floor_at d m.pos h g lt found low)

  tells_last_but_one : (d : History) (m : Checkpoint) → Told d m → TellsLastButOne self d m
  tells_last_but_one d m told later middle before c e h lt is mark no_jump marked_before none between above under low =
      let g : Floor = gate (e ∷ before) h in
      let rest : History = middle ++ e ∷ before in
      let top : Floor = gate (c ∷ rest) h in
      let b = begin_marked e before h marked_before in
      let whole : d ≡ later ++ (c ∷ rest) = is ∙ append_assoc later (c ∷ middle) (e ∷ before) in
      let behind : gate_floors d h ≡ gate_floors (c ∷ rest) h = ap (λ (x : History). gate_floors x h) whole ∙ none_marked later (c ∷ rest) h none in
      let first : gate_floors (c ∷ rest) h ≡ top ∷ gate_floors rest h = marked c rest h mark no_jump in
      let second : gate_floors rest h ≡ g ∷ b.0 = none_marked middle (e ∷ before) h between ∙ b.1 in
      let all : gate_floors d h ≡ top ∷ g ∷ b.0 = behind ∙ first ∙ ap (λ (l : List Floor). top ∷ l) second in
      let found : floor_below d h m.pos ≡ Some g = ap (λ (l : List Floor). find (λ f. nat_lt f.point m.pos) (take 2 l)) all ∙ second_told m.pos top g b.0 above under in
      (record { floors = floors_under self d m.pos }, told, floor_at d m.pos h g lt found low)

  tells_floors : (d : History) → Arises self d → TellsFloors self d
  tells_floors d arises = record {
    last = λ later before m is. tells_last before m (at_stamp later before m is);
    last_but_one = λ later before m is. tells_last_but_one before m (at_stamp later before m is);
  } where
    at_stamp : (later before : History) (m : Checkpoint) → d ≡ later ++ Stamped (stamped.Checkpoint m) ∷ before → Told before m
    at_stamp later before m is = made_told before m (arises_by self later (Stamped (stamped.Checkpoint m) ∷ before) (subst (λ (x : History). Arises self x) is arises)).0

pub hosts_tell_floors : {S : Type 0} (system : System S) (k h : ℕ) → TellsFloors (self_of system h) ((world system k).histories h)
hosts_tell_floors system k h = tells_floors (self_of system h) ((world system k).histories h) (world_arises system k h)
