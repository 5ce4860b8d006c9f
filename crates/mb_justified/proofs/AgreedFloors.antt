-- Where a host can make a floor certificate of a position of its kept CHECKPOINTs, it can make a stable one: those that agree on the floor agree on the state.
use Rattle.std.proofs.Common.{◌≡◌, ℕ, ◌+◌, ◌≤◌, Bool, true, false, List, [], ◌∷◌, length, refl, sym, ap, subst, ◌∙◌, inl, inr, arith, Some}
use Rattle.std.specs.Prelude.{filter, filter_map, take, nat_le}
use Rattle.std.proofs.lemmas.Bool.{cases_Bool, and_parts, leb-true, le-leb}
use Rattle.std.proofs.lemmas.List.{length-take-le}
use Rattle.mb_base.specs.Shapes.{quorum}
use Rattle.mb_parts.specs.Certificates.{same_floor}
use Rattle.mb_parts.specs.declared.certificates.StableCert.{StableCert}
use Rattle.mb_parts.specs.declared.certificates.FloorCert.{FloorCert}
use Rattle.mb_msg.specs.declared.normal.Checkpoint.{Checkpoint}
use Rattle.mb_model.specs.Histories.{History, Identity}
use Rattle.mb_model.specs.Stable.{first_agreed, KeptFloor, floor_in_body, kept_floor, checkpoints_at, same_state, stable_cert, agreed_at, same_kept, floor_cert, kept_floors, floor_at}
use Rattle.mb_model.specs.Members.{In}
use Rattle.mb_model.proofs.Options.{map_some, option_cases}
use Rattle.mb_steps.proofs.StepHeldEvidence.{then_some_of}
use Rattle.mb_host_laws.proofs.Cases.{not_both}
use Rattle.mb_msg.specs.Bodies.{whole_body}

-- where so many agree with a member, some are the first that agree
finds_agreed : {A : Type 0} (like : A → A → Bool) (many : ℕ) (all l : List A) (y : A) → In l y → many ≤ length (filter (like y) all) → (r : List A) × (first_agreed like many all l ≡ Some r) × (length r ≡ many)
unfolding first_agreed
finds_agreed like many all [] y i le = absurd i
finds_agreed like many all (x ∷ l) y i le = elim (cases_Bool (nat_le many (length (filter (like x) all)))) [
  | inl enough ↦ rw enough (take many (filter (like x) all), refl, length-take-le many (filter (like x) all) (leb-true many (length (filter (like x) all)) enough))
  | inr few ↦ rw few (finds_agreed like many all l y (other few i) le)
] where
  other : nat_le many (length (filter (like x) all)) ≡ false → In (x ∷ l) y → In l y
  other few (inl is) = absurd (not_both (nat_le many (length (filter (like x) all))) (subst (λ z. nat_le many (length (filter (like z) all)) ≡ true) (sym is) (le-leb many (length (filter (like y) all)) le)) few)
  other few (inr i) = i

agreed_member : {A : Type 0} (like : A → A → Bool) (many : ℕ) (all l r : List A) → first_agreed like many all l ≡ Some r → (x : A) × In l x × (many ≤ length (filter (like x) all))
unfolding first_agreed
agreed_member like many all [] r e = absurd cc
agreed_member like many all (x ∷ l) r e = elim (cases_Bool (nat_le many (length (filter (like x) all)))) [
  | inl enough ↦ (x, inl refl, leb-true many (length (filter (like x) all)) enough)
  | inr few ↦ let t = agreed_member like many all l r (rw few at e) in (t.0, inr t.1, t.2)
]

module _ {S : Type 0} (self : Identity S) where
  -- ---- a floor certificate needs f+1 that agree

  kept_message : (owner : ℕ) (m : Checkpoint) (k : KeptFloor) → kept_floor owner m ≡ Some k → k.message ≡ m
  kept_message owner m k e =
      let b = then_some_of (floor_in_body owner m) (whole_body m.body) k e in
      let t = map_some _ _ k b.2 in
      ap (λ (y : KeptFloor). y.message) (sym t.2)

  kept_in : (owner : ℕ) (l : List Checkpoint) (k : KeptFloor) → In (filter_map (kept_floor owner) l) k → In l k.message
  kept_in owner [] k i = absurd i
  kept_in owner (m ∷ l) k i = elim (option_cases (kept_floor owner m)) [
    | inl none ↦ inr (kept_in owner l k (rw none at i))
    | inr (y, some) ↦ step y some (kept_in owner l k) (rw some at i)
  ] where
    step : (y : KeptFloor) → kept_floor owner m ≡ Some y → (In (filter_map (kept_floor owner) l) k → In l k.message) → In (y ∷ filter_map (kept_floor owner) l) k → In (m ∷ l) k.message
    step y is more (inl same) = inl (sym (kept_message owner m y is) ∙ ap (λ (z : KeptFloor). z.message) same)
    step y is more (inr i) = inr (more i)

  filter_more : {A : Type 0} (t : A → Bool) (x : A) (l : List A) (n : ℕ) → n ≤ length (filter t l) → n ≤ length (filter t (x ∷ l))
  filter_more t x l n le = elim (cases_Bool (t x)) [
    | inl stays ↦ rw stays (omega (arith, le))
    | inr goes ↦ rw goes le
  ]

  alike_count : (owner : ℕ) (x : KeptFloor) (l : List Checkpoint) → length (filter (same_kept self.shape x) (filter_map (kept_floor owner) l)) ≤ length (filter (same_state self.shape x.message) l)
  alike_count owner x [] = omega arith
  alike_count owner x (m ∷ l) = elim (option_cases (kept_floor owner m)) [
    | inl none ↦ rw none (filter_more (same_state self.shape x.message) m l _ (alike_count owner x l))
    | inr (y, some) ↦ rw some (step y some (alike_count owner x l))
  ] where
    step : (y : KeptFloor) → kept_floor owner m ≡ Some y → length (filter (same_kept self.shape x) (filter_map (kept_floor owner) l)) ≤ length (filter (same_state self.shape x.message) l)
        → length (filter (same_kept self.shape x) (y ∷ filter_map (kept_floor owner) l)) ≤ length (filter (same_state self.shape x.message) (m ∷ l))
    step y is le = elim (cases_Bool (same_kept self.shape x y)) [
      | inr goes ↦ rw goes (filter_more (same_state self.shape x.message) m l _ le)
      | inl stays ↦
          let alike : same_state self.shape x.message y.message ≡ true = (and_parts _ (same_floor (Some x.floor) (Some y.floor)) stays).0 in
          let here : same_state self.shape x.message m ≡ true = subst (λ (z : Checkpoint). same_state self.shape x.message z ≡ true) (kept_message owner m y is) alike in
          rw (stays, here) (omega (arith, le))
    ]

  cert_of : (pos n : ℕ) (l : List Checkpoint) → length l ≡ n + 1 → (c : StableCert) × (stable_cert self.shape pos l ≡ Some c)
  cert_of pos n [] e = absurd (omega (arith, e))
  cert_of pos n (m ∷ l) e = (_, refl)

  pub agreed_if_floor : (d : History) (owner pos : ℕ) (c : FloorCert) → floor_at self.shape d owner pos ≡ Some c → (s : StableCert) × (agreed_at self.shape d pos ≡ Some s)
  unfolding floor_at agreed_at
  agreed_if_floor d owner pos c e =
      let cps : List Checkpoint = checkpoints_at self.shape d pos in
      let kept : List KeptFloor = kept_floors self.shape d owner pos in
      let t = then_some_of (floor_cert self.shape pos) (first_agreed (same_kept self.shape) (quorum self.shape) kept kept) c e in
      let x = agreed_member (same_kept self.shape) (quorum self.shape) kept kept t.0 t.1 in
      let many : quorum self.shape ≤ length (filter (same_state self.shape x.0.message) cps) = omega (arith, x.2, alike_count owner x.0 cps) in
      let r = finds_agreed (same_state self.shape) (quorum self.shape) cps cps x.0.message (kept_in owner cps x.0 x.1) many in
      let s = cert_of pos self.shape.f r.0 r.2 in
      (s.0, rw r.1 s.1)
