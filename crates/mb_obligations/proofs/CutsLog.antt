-- The own log is cut: where f+1 agree on a floor, the certificate that is made shows this floor, for two times f+1 hosts share one; the log is cut there,
-- and a cut never goes back.
use Rattle.std.proofs.Common.{◌≡◌, ℕ, ◌+◌, ◌≤◌, Bool, true, false, ◌&&◌, List, [], ◌∷◌, ◌++◌, length, take, refl, sym, ap, subst, ◌∙◌, inl, inr, ◌⊎◌, arith, Option, Some, None}
use Rattle.std.specs.Prelude.{nat_lt, nat_le, map, filter, slice_get, option_map, option_and_then}
use Rattle.std.specs.List.{range_with_len}
use Rattle.std.proofs.lemmas.Bool.{cases_Bool, and_parts, ltb-true, ltb-false, le-leb}
use Rattle.mb_base.specs.Shapes.{Bytes, quorum, host_count, interval, span, tally}
use Rattle.mb_model.proofs.Quorums.{quorums_meet}
use Rattle.mb_usig.specs.Tags.{same_bytes}
use Rattle.mb_usig.proofs.Laws.{same_bytes-true}
use Rattle.mb_parts.specs.declared.floor.Floor.{Floor}
use Rattle.mb_parts.specs.declared.certificates.FloorCert.{FloorCert}
use Rattle.mb_parts.specs.Certificates.{same_floor, first_floor}
use Rattle.mb_msg.specs.declared.message.Body.{Body}
use Rattle.mb_msg.specs.declared.message.Body.TheVariants.{Whole, Bare as Short}
use Rattle.mb_msg.specs.declared.normal.Floors.{Floors}
use Rattle.mb_msg.specs.declared.normal.Checkpoint.{Checkpoint}
use Rattle.mb_msg.specs.Bodies.{whole_body}
use Rattle.mb_model.specs.Histories.{Entry, History, Identity, counter_of}
use Rattle.mb_model.specs.Stable.{KeptFloor, checkpoint_in, checkpoint_of, checkpoints_at, is_kept, floor_in_body, kept_floor, kept_floors, same_kept, floor_member, floor_cert, first_agreed, floor_at, floor_from, low_of, counter_in, floor_counter, cut_by, log_floor}
use Rattle.mb_model.specs.OwnLog.{log_start}
use Rattle.mb_model.specs.Members.{In}
use Rattle.mb_model.proofs.Options.{option_cases, map_some}
use Rattle.mb_steps.proofs.StepHeldEvidence.{then_some_of}
use Rattle.mb_steps.proofs.StepPotential.{tally_same}
use Rattle.mb_world_model.specs.World.{System, self_of}
use Rattle.mb_world_model.specs.WorldSteps.{world}
use Rattle.mb_promise.specs.KeepsTables.{IsCheckpoint}
use Rattle.mb_promise.specs.CutsLog.{floor_told, tells_floor, IsKeptAt, AgreeOnFloor, IsLastAgreed, BringsFloor, CutsLog}
use Rattle.mb_host_laws.proofs.FloorCerts.{agreed_many}
use Rattle.mb_host_laws.proofs.Found.{floor_is}
use Rattle.mb_provenance.proofs.FoundMembers.{passes, as_many, some_in, filter_more, of_filter, of_take, agreement, found_both, of_found}

-- ---- CHECKPOINTs that tell a floor

-- A kept one names this state and this floor.
abbrev is_like : Bytes → Floor → KeptFloor → Bool
is_like state floor k = same_bytes state k.message.state && same_floor (Some floor) (Some k.floor)

none_of : (b : Bool) → false ≡ (b && false)
none_of true = refl
none_of false = refl

-- the kept floor, where there is one
abbrev kept_with : Checkpoint → Floors → Option Floor → Option KeptFloor
kept_with m b o = option_map (λ (f : Floor). record { message = m; floors = b.floors; floor = f }) o

told_floor : (state : Bytes) (floor : Floor) (m : Checkpoint) (b : Floors) (o : Option Floor) → passes (is_like state floor) (kept_with m b o) ≡ (same_bytes state m.state && same_floor (Some floor) o)
told_floor state floor m b None = none_of (same_bytes state m.state)
told_floor state floor m b (Some f) = refl

told_body : (owner : ℕ) (state : Bytes) (floor : Floor) (m : Checkpoint) (b : Body Floors)
    → passes (is_like state floor) (option_and_then (floor_in_body owner m) (whole_body b)) ≡ (same_bytes state m.state && same_floor (Some floor) (floor_told owner b))
told_body owner state floor m (Whole b) = told_floor state floor m b (option_and_then (λ f. f) (slice_get b.floors owner))
told_body owner state floor m (Short digest) = none_of (same_bytes state m.state)

told : (owner : ℕ) (state : Bytes) (floor : Floor) (o : Option Checkpoint) → passes (is_like state floor) (option_and_then (kept_floor owner) o) ≡ tells_floor owner state floor o
told owner state floor None = refl
told owner state floor (Some m) = told_body owner state floor m m.body

-- What shows one floor shows no other.
one_shown : (a b : Floor) (o : Option Floor) → same_floor (Some a) o ≡ true → same_floor (Some b) o ≡ true → a ≡ b
one_shown a b None x y = absurd cc
one_shown a b (Some c) x y = floor_is a c x ∙ sym (floor_is b c y)

one_told : (owner : ℕ) (s t : Bytes) (a b : Floor) (o : Option Checkpoint) → tells_floor owner s a o ≡ true → tells_floor owner t b o ≡ true → a ≡ b
one_told owner s t a b None x y = absurd cc
one_told owner s t a b (Some m) x y = one_shown a b (floor_told owner m.body) (and_parts (same_bytes s m.state) _ x).1 (and_parts (same_bytes t m.state) _ y).1

-- The floor of a kept one is the one that it tells.
kept_shows : (owner : ℕ) (m : Checkpoint) (k : KeptFloor) → kept_floor owner m ≡ Some k → option_and_then (λ f. f) (slice_get k.floors owner) ≡ Some k.floor
kept_shows owner m k e =
    let b = then_some_of (floor_in_body owner m) (whole_body m.body) k e in
    let t = map_some (λ (f : Floor). record { message = m; floors = b.0.floors; floor = f }) (option_and_then (λ f. f) (slice_get b.0.floors owner)) k b.2 in
    subst (λ (y : KeptFloor). option_and_then (λ f. f) (slice_get y.floors owner) ≡ Some y.floor) t.2 t.1

module _ {S : Type 0} (self : Identity S) where
  -- ---- f+1 that agree, and the certificate that is made

  many_told : (d : History) (pos : ℕ) (state : Bytes) (floor : Floor)
      → length (filter (is_like state floor) (kept_floors self.shape d self.host pos)) ≡ tally (λ h. tells_floor self.host state floor (checkpoint_of d h pos)) (host_count self.shape)
  many_told d pos state floor =
      ap (λ (l : List KeptFloor). length (filter (is_like state floor) l)) (found_both (kept_floor self.host) (λ h. checkpoint_of d h pos) (range_with_len 0 (host_count self.shape)))
      ∙ as_many (is_like state floor) (λ h. option_and_then (kept_floor self.host) (checkpoint_of d h pos)) (host_count self.shape)
      ∙ tally_same (λ h. passes (is_like state floor) (option_and_then (kept_floor self.host) (checkpoint_of d h pos))) (λ h. tells_floor self.host state floor (checkpoint_of d h pos)) (host_count self.shape)
      (λ h. told self.host state floor (checkpoint_of d h pos))

  -- Where as many are like this kept one, f+1 agree on its floor.
  agree_with : (d : History) (pos : ℕ) (x : KeptFloor) → quorum self.shape ≤ length (filter (same_kept self.shape x) (kept_floors self.shape d self.host pos)) → AgreeOnFloor self d pos x.message.state x.floor
  agree_with d pos x many =
      let like : quorum self.shape ≤ length (filter (is_like x.message.state x.floor) (kept_floors self.shape d self.host pos)) = many in
      omega (arith, like, many_told d pos x.message.state x.floor)

  -- The certificate of a list whose members are like this one shows its floor.
  cert_shows : (pos : ℕ) (x : KeptFloor) (r : List KeptFloor) → (((y : KeptFloor) → In r y → (same_kept self.shape x y ≡ true) × (option_and_then (λ f. f) (slice_get y.floors self.host) ≡ Some y.floor)))
      → length r ≡ quorum self.shape → (c : FloorCert) × (floor_cert self.shape pos r ≡ Some c) × (first_floor self.host c.members ≡ Some x.floor)
  cert_shows pos x [] each many = absurd (omega (arith, many))
  cert_shows pos x (y ∷ r) each many =
      let here = each y (inl refl) in
      let same : x.floor ≡ y.floor = floor_is x.floor y.floor (and_parts (same_bytes x.message.state y.message.state) _ here.0).1 in
      (record { pos = pos; state = y.message.state; members = map (floor_member self.shape) (y ∷ r) }, refl, here.1 ∙ ap (λ (f : Floor). Some f) (sym same))

  -- Where f+1 agree on a floor, a certificate is made that shows it.
  agreed_made : (d : History) (pos : ℕ) (state : Bytes) (floor : Floor) → AgreeOnFloor self d pos state floor
      → (c : FloorCert) × (floor_at self.shape d self.host pos ≡ Some c) × (first_floor self.host c.members ≡ Some floor)
  unfolding floor_at
  agreed_made d pos state floor agree =
      let all : List KeptFloor = kept_floors self.shape d self.host pos in
      let many : quorum self.shape ≤ length (filter (is_like state floor) all) = omega (arith, agree, many_told d pos state floor) in
      let one = some_in (is_like state floor) all (omega (arith, many)) in
      let parts = and_parts (same_bytes state one.0.message.state) (same_floor (Some floor) (Some one.0.floor)) one.2 in
      let its_state : state ≡ one.0.message.state = same_bytes-true state one.0.message.state parts.0 in
      let its_floor : floor ≡ one.0.floor = floor_is floor one.0.floor parts.1 in
      let alike : length (filter (is_like state floor) all) ≤ length (filter (same_kept self.shape one.0) all) =
      filter_more (is_like state floor) (same_kept self.shape one.0) all (λ k like. subst (λ (t : Bytes). is_like t one.0.floor k ≡ true) its_state (subst (λ (f : Floor). is_like state f k ≡ true) its_floor like)) in
      let r = agreement (same_kept self.shape) (quorum self.shape) all all one.0 one.1 (omega (arith, many, alike)) in
      let x = agreed_many (same_kept self.shape) (quorum self.shape) all all r.0 r.1 in
      let shared = quorums_meet self.shape (λ h. tells_floor self.host state floor (checkpoint_of d h pos)) (λ h. tells_floor self.host x.0.message.state x.0.floor (checkpoint_of d h pos)) agree (agree_with d pos x.0 x.1) in
      let same : floor ≡ x.0.floor = one_told self.host state x.0.message.state floor x.0.floor (checkpoint_of d shared.0 pos) shared.2 shared.3 in
      let c = cert_shows pos x.0 r.0 (each x.0 r.0 x.2) r.2 in
      (c.0, rw r.1 c.1, c.2 ∙ ap (λ (f : Floor). Some f) (sym same)) where
        each : (x : KeptFloor) (r : List KeptFloor) → take (quorum self.shape) (filter (same_kept self.shape x) (kept_floors self.shape d self.host pos)) ≡ r → (y : KeptFloor) → In r y
            → (same_kept self.shape x y ≡ true) × (option_and_then (λ f. f) (slice_get y.floors self.host) ≡ Some y.floor)
        each x r is y i =
            let passed : In (filter (same_kept self.shape x) (kept_floors self.shape d self.host pos)) y = of_take (quorum self.shape) (filter (same_kept self.shape x) (kept_floors self.shape d self.host pos)) y (subst (λ (l : List KeptFloor). In l y) (sym is) i) in
            let member = of_filter (same_kept self.shape x) (kept_floors self.shape d self.host pos) y passed in
            let from = of_found (kept_floor self.host) (checkpoints_at self.shape d pos) y member.0 in
            (member.1, kept_shows self.host from.0 y from.1)

  -- A certificate is made only where f+1 agree.
  made_agreed : (d : History) (pos : ℕ) (c : FloorCert) → floor_at self.shape d self.host pos ≡ Some c → (x : KeptFloor) × AgreeOnFloor self d pos x.message.state x.floor
  unfolding floor_at
  made_agreed d pos c e =
      let all : List KeptFloor = kept_floors self.shape d self.host pos in
      let t = then_some_of (floor_cert self.shape pos) (first_agreed (same_kept self.shape) (quorum self.shape) all all) c e in
      let x = agreed_many (same_kept self.shape) (quorum self.shape) all all t.0 t.1 in
      (x.0, agree_with d pos x.0 x.1)

  -- ---- the certificate of the greatest position

  module _ (d : History) (floor : Floor) (last : IsLastAgreed self d floor) (c : FloorCert) (made : floor_at self.shape d self.host last.pos ≡ Some c) where
    at_or_above : (q : ℕ) → last.pos ≤ q → IsKeptAt self d q → (floor_at self.shape d self.host q ≡ None) ⊎ (floor_at self.shape d self.host q ≡ Some c)
    at_or_above q le kept = elim (cases_Bool (nat_lt last.pos q)) [
      | inr same ↦ let not_above = ltb-false last.pos q same in let is : last.pos ≡ q = omega (arith, le, not_above) in inr (subst (λ (p : ℕ). floor_at self.shape d self.host p ≡ Some c) is made)
      | inl above ↦ elim (option_cases (floor_at self.shape d self.host q)) [
        | inl none ↦ inl none
        | inr (b, some) ↦ let x = made_agreed d q b some in absurd (last.last q x.0.message.state x.0.floor kept (ltb-true last.pos q above) x.1)
      ]
    ]

    greatest : floor_from self.shape d self.host (low_of self d) ≡ Some c
    greatest = by_place last.kept where
      near_or_here : (last.pos ≡ low_of self d) ⊎ (last.pos ≡ low_of self d + interval self.shape) → floor_at self.shape d self.host (low_of self d + span self.shape) ≡ None → floor_from self.shape d self.host (low_of self d) ≡ Some c
      near_or_here (inr near) none = rw (none, subst (λ (p : ℕ). floor_at self.shape d self.host p ≡ Some c) near made) refl
      near_or_here (inl here) none = elim (at_or_above (low_of self d + interval self.shape) (omega (arith, here)) (inr (inl refl))) [
        | inl neither ↦ rw (none, neither) (subst (λ (p : ℕ). floor_at self.shape d self.host p ≡ Some c) here made)
        | inr some ↦ rw (none, some) refl
      ]

      below : (last.pos ≡ low_of self d) ⊎ (last.pos ≡ low_of self d + interval self.shape) → last.pos ≤ low_of self d + span self.shape
      below (inl here) = omega (arith, here)
      below (inr near) = omega (arith, near)

      under : (last.pos ≡ low_of self d) ⊎ (last.pos ≡ low_of self d + interval self.shape) → floor_from self.shape d self.host (low_of self d) ≡ Some c
      under place = elim (at_or_above (low_of self d + span self.shape) (below place) (inr (inr refl))) [
        | inl none ↦ near_or_here place none
        | inr some ↦ rw some refl
      ]

      by_place : IsKeptAt self d last.pos → floor_from self.shape d self.host (low_of self d) ≡ Some c
      by_place (inl here) = under (inl here)
      by_place (inr (inl near)) = under (inr near)
      by_place (inr (inr far)) = rw (subst (λ (p : ℕ). floor_at self.shape d self.host p ≡ Some c) far made) refl

  -- ---- the cut

  -- It never goes back.
  cut_grows : (n : ℕ) (old new : Option FloorCert) → floor_counter self old ≤ floor_counter self (cut_by self n old new)
  cut_grows n old None = omega arith
  cut_grows n old (Some c) = elim (cases_Bool (nat_lt (floor_counter self old) (floor_counter self (Some c)) && nat_le (floor_counter self (Some c)) n)) [
    | inl cuts ↦ rw cuts (lower old c cuts)
    | inr stays ↦ rw stays (omega arith)
  ] where
    lower : (old : Option FloorCert) (c : FloorCert) → (nat_lt (floor_counter self old) (floor_counter self (Some c)) && nat_le (floor_counter self (Some c)) n) ≡ true → floor_counter self old ≤ floor_counter self (Some c)
    lower old c cuts = let lt = ltb-true _ _ (and_parts (nat_lt (floor_counter self old) (floor_counter self (Some c))) (nat_le (floor_counter self (Some c)) n) cuts).0 in omega (arith, lt)

  -- It reaches the new floor, where the host has reached it.
  cut_reaches : (n : ℕ) (old : Option FloorCert) (c : FloorCert) → floor_counter self (Some c) ≤ n → floor_counter self (Some c) ≤ floor_counter self (cut_by self n old (Some c))
  cut_reaches n old c le = elim (cases_Bool (nat_lt (floor_counter self old) (floor_counter self (Some c)))) [
    | inl lower ↦ rw (lower, le-leb (floor_counter self (Some c)) n le) (omega arith)
    | inr not_lower ↦ rw not_lower (ltb-false (floor_counter self old) (floor_counter self (Some c)) not_lower)
  ]

  start_more : (e : Entry) (d : History) → log_start self d ≤ log_start self (e ∷ d)
  unfolding log_floor
  start_more e d = elim (cases_Bool (is_kept (low_of self d) (checkpoint_in e))) [
    | inl kept ↦ rw kept (cut_grows (counter_of (e ∷ d)) (log_floor self d) (floor_from self.shape (e ∷ d) self.host (low_of self (e ∷ d))))
    | inr other ↦ rw other (omega arith)
  ]

  start_grows : (later d : History) → log_start self d ≤ log_start self (later ++ d)
  start_grows [] d = omega arith
  start_grows (e ∷ later) d = let a = start_grows later d in let b = start_more e (later ++ d) in omega (arith, a, b)

  kept_comes : (e : Entry) (m : Checkpoint) → IsCheckpoint e m → checkpoint_in e ≡ Some m
  kept_comes e m (inl is) = ap checkpoint_in is
  kept_comes e m (inr is) = ap checkpoint_in is

  cut_here : (e : Entry) (before : History) (floor : Floor) → BringsFloor self e before floor → floor.counter ≤ log_start self (e ∷ before)
  unfolding log_floor
  cut_here e before floor x =
      let last : IsLastAgreed self (e ∷ before) floor = x.agreed in
      let made = agreed_made (e ∷ before) last.pos last.state floor last.agree in
      let from : floor_from self.shape (e ∷ before) self.host (low_of self (e ∷ before)) ≡ Some made.0 = greatest (e ∷ before) floor last made.0 made.1 in
      let counter : floor_counter self (Some made.0) ≡ floor.counter = ap (counter_in self) made.2 in
      let kept : is_kept (low_of self before) (checkpoint_in e) ≡ true = ap (is_kept (low_of self before)) (kept_comes e x.message x.comes) ∙ le-leb (low_of self before) x.message.pos x.above in
      let reached : floor_counter self (Some made.0) ≤ counter_of (e ∷ before) = let r = x.reached in omega (arith, r, counter) in
      let cut = cut_reaches (counter_of (e ∷ before)) (log_floor self before) made.0 reached in
      rw (kept, from) (omega (arith, cut, counter))

  cuts_log : (d : History) → CutsLog self d
  cuts_log d later before e floor is x =
      let a = cut_here e before floor x in
      let b : log_start self (e ∷ before) ≤ log_start self d = subst (λ (y : History). log_start self (e ∷ before) ≤ log_start self y) (sym is) (start_grows later (e ∷ before)) in
      omega (arith, a, b)

pub hosts_cut_logs : {S : Type 0} (system : System S) (k h : ℕ) → CutsLog (self_of system h) ((world system k).histories h)
hosts_cut_logs system k h = cuts_log (self_of system h) ((world system k).histories h)
