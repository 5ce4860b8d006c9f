-- The floor certificate that a host makes of kept CHECKPOINTs certifies a floor for its owner: its members are kept CHECKPOINTs of rising hosts, which verify, came whole, and agree with one of them on the state and on the owner's floor.
use Rattle.std.proofs.Common.{◌≡◌, ℕ, ◌+◌, ◌≤◌, Bool, true, List, [], ◌∷◌, length, refl, sym, ap, subst, ◌∙◌, inl, inr, arith, Option, Some}
use Rattle.std.specs.Prelude.{◌==◌, map, filter, filter_map, take, nat_le, slice_get, option_and_then}
use Rattle.std.specs.List.{list_all}
use Rattle.std.proofs.lemmas.Bool.{cases_Bool, and_parts, and_from, eqb-true, eq-eqb, leb-true}
use Rattle.std.proofs.lemmas.List.{length-map, length-take-le}
use Rattle.sha2.specs.Sha256.{sha256}
use Rattle.mb_base.specs.Shapes.{Bytes, quorum, host_count}
use Rattle.mb_usig.proofs.Laws.{same_bytes-true}
use Rattle.mb_parts.specs.declared.floor.Floor.{Floor}
use Rattle.mb_parts.specs.declared.floor.Phase.{Phase}
use Rattle.mb_parts.specs.declared.floor.Phase.TheVariants as phase
use Rattle.mb_parts.specs.declared.certificates.FloorCert.{FloorCert}
use Rattle.mb_parts.specs.declared.certificates.FloorMember.{FloorMember}
use Rattle.mb_parts.proofs.Advance.{same_floor as floors_equal}
use Rattle.mb_parts.specs.Spelling.{phase_number, floors_bytes}
use Rattle.mb_parts.specs.Bares as bare
use Rattle.mb_parts.specs.Claims.{are_rising, floor_claims}
use Rattle.mb_parts.specs.Certificates.{floor_for, same_floor, first_floor, agree_on_floor, certified_floor}
use Rattle.mb_msg.specs.declared.message.Body.{Body}
use Rattle.mb_msg.specs.declared.message.Body.TheVariants.{Whole, Bare as Short}
use Rattle.mb_msg.specs.declared.normal.Floors.{Floors}
use Rattle.mb_msg.specs.declared.normal.Checkpoint.{Checkpoint}
use Rattle.mb_msg.specs.declared.stamped.Stamped.TheVariants as stamped
use Rattle.mb_model.specs.Histories.{History, Identity}
use Rattle.mb_msg.specs.Bodies.{whole_body}
use Rattle.mb_model.specs.GateChecks.{valid, stamp_claim}
use Rattle.mb_model.specs.Stable.{checkpoint_of, first_agreed, KeptFloor, floor_in_body, kept_floor, checkpoints_at, same_kept, floor_member, floor_cert, kept_floors, floor_at}
use Rattle.mb_model.proofs.Options.{map_some, option_cases}
use Rattle.mb_model.proofs.RisingLists.{RiseFrom, rise_lower, rise_found, rise_passed, rise_take, rise_members, rise_tests, rise_tests_made}
use Rattle.mb_steps.specs.Arises.{Arises}
use Rattle.mb_steps.proofs.StepHeldEvidence.{some_is, then_some_of}
use Rattle.mb_steps.proofs.StepHeldStable.{checkpoint_checks}

-- ---- floors

phase_is : (a b : Phase) → phase_number a ≡ phase_number b → a ≡ b
phase_is phase.Changing phase.Changing e = refl
phase_is phase.Changing phase.Entered e = absurd (omega (arith, e))
phase_is phase.Changing phase.Open e = absurd (omega (arith, e))
phase_is phase.Entered phase.Changing e = absurd (omega (arith, e))
phase_is phase.Entered phase.Entered e = refl
phase_is phase.Entered phase.Open e = absurd (omega (arith, e))
phase_is phase.Open phase.Changing e = absurd (omega (arith, e))
phase_is phase.Open phase.Entered e = absurd (omega (arith, e))
phase_is phase.Open phase.Open e = refl

floor_is : (a b : Floor) → same_floor (Some a) (Some b) ≡ true → a ≡ b
floor_is a b h =
    let x = and_parts (a.counter == b.counter) _ h in
    let y = and_parts (a.view == b.view) _ x.1 in
    let z = and_parts (phase_number a.phase == phase_number b.phase) _ y.1 in
    let u = and_parts (a.last == b.last) _ z.1 in
    let v = and_parts (a.top == b.top) (a.point == b.point) u.1 in
    floors_equal a.counter a.view a.last a.top a.point b.counter b.view b.last b.top b.point a.phase b.phase
    (eqb-true a.counter b.counter x.0) (eqb-true a.view b.view y.0) (phase_is a.phase b.phase (eqb-true (phase_number a.phase) (phase_number b.phase) z.0)) (eqb-true a.last b.last u.0) (eqb-true a.top b.top v.0) (eqb-true a.point b.point v.1)

same_itself : (o : Floor) → same_floor (Some o) (Some o) ≡ true
same_itself o = and_from _ _ (eq-eqb o.counter o.counter refl) (and_from _ _ (eq-eqb o.view o.view refl) (and_from _ _ (eq-eqb _ _ refl) (and_from _ _ (eq-eqb o.last o.last refl) (and_from _ _ (eq-eqb o.top o.top refl) (eq-eqb o.point o.point refl)))))

-- what is made of those that have one rises as they do
rise_mapped : {A B : Type 0} (key : A → ℕ) (P : A → Type 0) (key' : B → ℕ) (Q : B → Type 0) (g : A → Option B) → ((x : A) (y : B) → P x → g x ≡ Some y → (key' y ≡ key x) × Q y)
    → (n : ℕ) (l : List A) → RiseFrom key P n l → RiseFrom key' Q n (filter_map g l)
rise_mapped key P key' Q g so n [] r = tt
rise_mapped key P key' Q g so n (x ∷ l) r = elim (option_cases (g x)) [
  | inl none ↦ let above : n ≤ key x = r.0 in rw none (rise_lower key' Q n (key x + 1) (filter_map g l) (omega (arith, above)) (rise_mapped key P key' Q g so (key x + 1) l r.2))
  | inr (y, some) ↦
      let s = so x y r.1 some in
      let above : n ≤ key x = r.0 in
      rw some (omega (arith, above, s.0), s.1, subst (λ (k : ℕ). RiseFrom key' Q (k + 1) (filter_map g l)) (sym s.0) (rise_mapped key P key' Q g so (key x + 1) l r.2))
]

pub agreed_many : {A : Type 0} (like : A → A → Bool) (many : ℕ) (all l r : List A) → first_agreed like many all l ≡ Some r → (x : A) × (many ≤ length (filter (like x) all)) × (take many (filter (like x) all) ≡ r)
unfolding first_agreed
agreed_many like many all [] r e = absurd cc
agreed_many like many all (x ∷ l) r e = elim (cases_Bool (nat_le many (length (filter (like x) all)))) [
  | inl enough ↦ (x, leb-true many (length (filter (like x) all)) enough, some_is _ r (rw enough at e))
  | inr few ↦ agreed_many like many all l r (rw few at e)
]

module _ {S : Type 0} (self : Identity S) (owner : ℕ) where
  -- A whole CHECKPOINT of the position, which verifies, with the owner's floor.
  pub record IsKeptFloor (pos : ℕ) (k : KeptFloor) : Type 0 where
    pub place : k.message.pos ≡ pos
    pub claim : valid self (stamp_claim (stamped.Checkpoint k.message)) ≡ true
    pub body : k.message.body ≡ Whole (record { floors = k.floors })
    pub floor : option_and_then (λ f. f) (slice_get k.floors owner) ≡ Some k.floor

  abbrev sender_of : Checkpoint → ℕ
  sender_of m = m.ui.host

  abbrev kept_host : KeptFloor → ℕ
  kept_host k = k.message.ui.host

  abbrev At : ℕ → Checkpoint → Type 0
  At pos m = (m.pos ≡ pos) × (valid self (stamp_claim (stamped.Checkpoint m)) ≡ true)

  kept_is : (pos : ℕ) (m : Checkpoint) (k : KeptFloor) → At pos m → kept_floor owner m ≡ Some k → (kept_host k ≡ sender_of m) × IsKeptFloor pos k
  kept_is pos m k a e =
      let b = then_some_of (floor_in_body owner m) (whole_body m.body) k e in
      let t = map_some (λ (f : Floor). record { message = m; floors = b.0.floors; floor = f }) (option_and_then (λ f. f) (slice_get b.0.floors owner)) k b.2 in
      subst (λ (y : KeptFloor). (kept_host y ≡ sender_of m) × IsKeptFloor pos y) t.2 (refl, record { place = a.0; claim = a.1; body = whole_of m.body b.0 b.1; floor = t.1 }) where
        whole_of : (x : Body Floors) (b : Floors) → whole_body x ≡ Some b → x ≡ Whole b
        whole_of (Whole y) b e = ap (λ (z : Floors). Whole z) (some_is y b e)
        whole_of (Short d) b e = absurd cc

  floors_rise : (d : History) → Arises self d → (pos : ℕ) → RiseFrom kept_host (IsKeptFloor pos) 0 (kept_floors self.shape d owner pos)
  floors_rise d a pos = rise_mapped sender_of (At pos) kept_host (IsKeptFloor pos) (kept_floor owner) (kept_is pos) 0 (checkpoints_at self.shape d pos)
      (rise_found sender_of (At pos) (λ h. checkpoint_of d h pos) (λ h m e. let c = checkpoint_checks self d a h pos m e in (c.sender, (c.place, c.claim))) 0 (host_count self.shape))

  abbrev Agrees : ℕ → KeptFloor → KeptFloor → Type 0
  Agrees pos x k = IsKeptFloor pos k × (same_kept self.shape x k ≡ true)

  state_is : (pos : ℕ) (x k : KeptFloor) → Agrees pos x k → k.message.state ≡ x.message.state
  state_is pos x k a = sym (same_bytes-true x.message.state k.message.state (and_parts _ (same_floor (Some x.floor) (Some k.floor)) a.1).0)

  floor_same : (pos : ℕ) (x k : KeptFloor) → Agrees pos x k → k.floor ≡ x.floor
  floor_same pos x k a = sym (floor_is x.floor k.floor (and_parts _ (same_floor (Some x.floor) (Some k.floor)) a.1).1)

  claim_made : (m : Checkpoint) (floors : List (Option Floor)) (pos : ℕ) (state : Bytes) → m.body ≡ Whole (record { floors = floors }) → m.pos ≡ pos → m.state ≡ state → valid self (stamp_claim (stamped.Checkpoint m)) ≡ true
      → valid self (record { host = m.ui.host; counter = m.ui.counter; says = bare.Checkpoint pos state (sha256 (floors_bytes floors)); cert = m.ui.cert }) ≡ true
  claim_made m floors pos state b p t v = rw (← p, ← t) (rw b at v)

  both_same : (a b x : Floor) → a ≡ x → b ≡ x → same_floor (Some a) (Some b) ≡ true
  both_same a b x e g = rw (e, g) (same_itself x)

  cert_certifies : (pos : ℕ) (x : KeptFloor) (r : List KeptFloor) → RiseFrom kept_host (Agrees pos x) 0 r → length r ≡ quorum self.shape → (c : FloorCert) → floor_cert self.shape pos r ≡ Some c
      → (o : Floor) × (certified_floor self.shape (valid self) owner c ≡ Some o) × (c.pos ≡ pos)
  unfolding certified_floor
  cert_certifies pos x [] rise many c e = absurd cc
  cert_certifies pos x (k ∷ r) rise many c e =
      let made : FloorCert = record { pos = pos; state = k.message.state; members = map (floor_member self.shape) (k ∷ r) } in
      let first : first_floor owner made.members ≡ Some k.floor = rise.1.0.floor in
      let rises : are_rising (map (λ m. m.host) made.members) ≡ true = rise_members (Agrees pos x) (floor_member self.shape) (λ n. n.host) 0 (k ∷ r) rise in
      let claims : list_all (valid self) (floor_claims made) ≡ true =
      rise_tests_made kept_host (Agrees pos x) (floor_member self.shape) (λ (n : FloorMember). record { host = n.host; counter = n.counter; says = bare.Checkpoint pos k.message.state (sha256 (floors_bytes n.floors)); cert = n.cert }) (valid self)
      (λ y a. claim_made y.message y.floors pos k.message.state a.0.body a.0.place (state_is pos x y a ∙ sym (state_is pos x k rise.1)) a.0.claim) 0 (k ∷ r) rise in
      let floors : list_all (λ m. same_floor (first_floor owner made.members) (floor_for owner m)) made.members ≡ true =
      rise_tests kept_host (Agrees pos x) (floor_member self.shape) (λ m. same_floor (first_floor owner made.members) (floor_for owner m))
      (λ y a. same_where (first_floor owner made.members) (floor_for owner (floor_member self.shape y)) k.floor y.floor first a.0.floor (both_same k.floor y.floor x.floor (floor_same pos x k rise.1) (floor_same pos x y a))) 0 (k ∷ r) rise in
      let agree : agree_on_floor self.shape (valid self) owner made ≡ true = and_from _ _ (eq-eqb _ _ (length-map (k ∷ r) (floor_member self.shape) ∙ many)) (and_from _ _ rises (and_from _ _ claims floors)) in
      let certifies : certified_floor self.shape (valid self) owner made ≡ Some k.floor = rw agree first in
      subst (λ (y : FloorCert). (o : Floor) × (certified_floor self.shape (valid self) owner y ≡ Some o) × (y.pos ≡ pos)) (some_is made c e) (k.floor, certifies, refl) where
        same_where : (a b : Option Floor) (p q : Floor) → a ≡ Some p → b ≡ Some q → same_floor (Some p) (Some q) ≡ true → same_floor a b ≡ true
        same_where a b p q e g s = subst (λ (y : Option Floor). same_floor y b ≡ true) (sym e) (subst (λ (y : Option Floor). same_floor (Some p) y ≡ true) (sym g) s)

  -- A floor certificate that is made certifies a floor, and is of its position.
  pub floor_certifies : (d : History) → Arises self d → (pos : ℕ) (c : FloorCert) → floor_at self.shape d owner pos ≡ Some c → (o : Floor) × (certified_floor self.shape (valid self) owner c ≡ Some o) × (c.pos ≡ pos)
  unfolding floor_at
  floor_certifies d a pos c e =
      let all : List KeptFloor = kept_floors self.shape d owner pos in
      let t = then_some_of (floor_cert self.shape pos) (first_agreed (same_kept self.shape) (quorum self.shape) all all) c e in
      let g = agreed_many (same_kept self.shape) (quorum self.shape) all all t.0 t.1 in
      let rise = rise_take kept_host (Agrees pos g.0) (quorum self.shape) 0 (filter (same_kept self.shape g.0) all) (rise_passed kept_host (IsKeptFloor pos) (same_kept self.shape g.0) 0 all (floors_rise d a pos)) in
      let many = length-take-le (quorum self.shape) (filter (same_kept self.shape g.0) all) g.1 in
      cert_certifies pos g.0 t.0 (subst (λ (l : List KeptFloor). RiseFrom kept_host (Agrees pos g.0) 0 l) g.2 rise) (ap length (sym g.2) ∙ many) c t.2
