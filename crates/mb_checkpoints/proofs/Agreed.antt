-- Those with whom enough agree, and their certificate.
use Rattle.std.proofs.Common.{◌≡◌, ℕ, zero, suc, ◌+◌, ◌≤◌, Bool, true, false, ◌&&◌, cond, leb, List, [], ◌∷◌, length, take, map, Option, Some, None, refl, sym, ap, ◌∙◌, arith, inl, inr, subst, add-one}
use Rattle.std.specs.List.{filter, filter_map, cons_option}
use Rattle.std.specs.Prelude.{count_by, option_and_then, option_map}
use Rattle.std.proofs.lemmas.Bool.{cases_Bool, leb-true}
use Rattle.std.proofs.lemmas.List.Sums.{sum_by-cons}
use Rattle.mb_usig.proofs.Laws.{same_bytes-true}
use Rattle.mb_usig.specs.Tags.{same_bytes}
use Rattle.mb_base.specs.declared.shape.Shape.{Shape}
use Rattle.mb_base.specs.Shapes.{quorum}
use Rattle.mb_msg.specs.declared.normal.Checkpoint.{Checkpoint}
use Rattle.mb_model.specs.Stable.{KeptFloor, kept_floor, first_agreed, same_state, stable_member, stable_cert, same_kept, floor_member, floor_cert}
use Rattle.mb_checkpoints.specs.declared.agreement.Said.{Said}
use Rattle.mb_checkpoints.specs.Agreement.{of_state, of_floor, said_in, alike, alike_in_floor, is_this, says, first_with}
use Rattle.mb_checkpoints.specs.Certificates.{stable_of_these, floor_of_these}

abbrev one : Bool → ℕ
one b = cond b 1 0

-- ---- whether so many agree depends only on what is said

module _ {A : Type 0} (like : A → A → Bool) (said_of : A → Said) (same : (a b : A) → like a b ≡ alike (said_of a) (said_of b)) where
  like_said : (x : A) (all : List A) → count_by (alike (said_of x)) (map said_of all) ≡ length (filter (like x) all)
  like_said x [] = refl
  like_said x (y ∷ all) =
      let rest = like_said x all in
      let put = sum_by-cons (λ o. one (alike (said_of x) o)) (said_of y) (map said_of all) in
      elim (cases_Bool (like x y)) [
        | inl t ↦ let here : one (alike (said_of x) (said_of y)) ≡ 1 = ap one (sym (same x y) ∙ t) in rw t (omega (arith, put, here, rest))
        | inr f ↦ let here : one (alike (said_of x) (said_of y)) ≡ 0 = ap one (sym (same x y) ∙ f) in rw f (omega (arith, put, here, rest))
      ]

  those_alike : (x : A) (all : List A) → filter (like x) all ≡ filter (λ y. alike (said_of x) (said_of y)) all
  those_alike x [] = refl
  those_alike x (y ∷ all) = ap (λ b. cond b (y ∷ filter (like x) all) (filter (like x) all)) (same x y) ∙ ap (λ l. cond (alike (said_of x) (said_of y)) (y ∷ l) l) (those_alike x all)

  module _ (many : ℕ) (all : List A) where
    pub none_agreed : (xs : List A) → first_with alike many (map said_of all) (map said_of xs) ≡ None → first_agreed like many all xs ≡ None
    unfolding first_agreed
    none_agreed [] e = refl
    none_agreed (x ∷ xs) e = elim (cases_Bool (leb many (length (filter (like x) all)))) [
      | inl t ↦ absurd (let h : Some (said_of x) ≡ None = rw (like_said x all, t) at e in cc)
      | inr f ↦
          let rest : first_with alike many (map said_of all) (map said_of xs) ≡ None = rw (like_said x all, f) at e in
          rw f (none_agreed xs rest)
    ]

    pub some_agreed : (xs : List A) (said : Said) → first_with alike many (map said_of all) (map said_of xs) ≡ Some said
        → (first_agreed like many all xs ≡ Some (take many (filter (λ y. alike said (said_of y)) all))) × (many ≤ length (filter (λ y. alike said (said_of y)) all))
    unfolding first_agreed
    some_agreed [] said e = absurd cc
    some_agreed (x ∷ xs) said e = elim (cases_Bool (leb many (length (filter (like x) all)))) [
      | inl t ↦
          let found : Some (said_of x) ≡ Some said = rw (like_said x all, t) at e in
          let is : said_of x ≡ said = cc in
          let these : filter (like x) all ≡ filter (λ y. alike said (said_of y)) all = those_alike x all ∙ ap (λ v. filter (λ y. alike v (said_of y)) all) is in
          (rw t (ap (λ l. Some (take many l)) these), subst (λ l. many ≤ length l) these (leb-true many (length (filter (like x) all)) t))
      | inr f ↦
          let rest : first_with alike many (map said_of all) (map said_of xs) ≡ Some said = rw (like_said x all, f) at e in
          let h = some_agreed xs said rest in
          (rw f h.0, h.1)
    ]

-- ---- the first of those with a property

first_of : {A : Type 0} (p : A → Bool) (many : ℕ) (all : List A) → many + 1 ≤ length (filter p all) → (m : A) × (ms : List A) × (take (many + 1) (filter p all) ≡ m ∷ ms) × (p m ≡ true)
first_of p many [] le = absurd (omega arith)
first_of p many (x ∷ xs) le = elim (cases_Bool (p x)) [
  | inl t ↦ (x, take many (filter p xs), rw t (ap (λ k. take k (x ∷ filter p xs)) (add-one many)), t)
  | inr f ↦
      let h = first_of p many xs (rw f at le) in
      (h.0, h.1, rw f h.2, h.3)
]

-- ---- stable certificates

and-first : (a b : Bool) → (a && b) ≡ true → a ≡ true
and-first true b h = refl
and-first false b h = absurd cc

and-true : (b : Bool) → (b && true) ≡ b
and-true true = refl
and-true false = refl

same_in_state : (s : Shape) (a b : Checkpoint) → same_state s a b ≡ alike (of_state a) (of_state b)
same_in_state s a b = sym (and-true (same_bytes a.state b.state))

all_states : (all : List Checkpoint) → filter_map (said_in None) all ≡ map of_state all
all_states [] = refl
all_states (m ∷ all) = ap (λ l. of_state m ∷ l) (all_states all)

pub stable_none : (s : Shape) (pos : ℕ) (all : List Checkpoint) → first_with alike (quorum s) (filter_map (said_in None) all) (filter_map (said_in None) all) ≡ None → None ≡ stable_of_these s pos all
stable_none s pos all e =
    let none = none_agreed (same_state s) of_state (same_in_state s) (quorum s) all all (subst (λ l. first_with alike (quorum s) l l ≡ None) (all_states all) e) in
    sym (ap (option_and_then (stable_cert s pos)) none)

pub stable_some : (s : Shape) (pos : ℕ) (all : List Checkpoint) (said : Said) → first_with alike (quorum s) (filter_map (said_in None) all) (filter_map (said_in None) all) ≡ Some said
    → Some (record { pos = pos; state = said.state; members = map (stable_member s) (take (quorum s) (filter (says None said) all)) }) ≡ stable_of_these s pos all
stable_some s pos all said e =
    let found = some_agreed (same_state s) of_state (same_in_state s) (quorum s) all all said (subst (λ l. first_with alike (quorum s) l l ≡ Some said) (all_states all) e) in
    let first = first_of (λ m. alike said (of_state m)) s.f all found.1 in
    let state : said.state ≡ first.0.state = same_bytes-true said.state first.0.state (and-first (same_bytes said.state first.0.state) (alike_in_floor said.floor None) first.3) in
    ap (λ x. Some (record { pos = pos; state = x; members = map (stable_member s) (take (quorum s) (filter (says None said) all)) })) state
    ∙ ap (λ l. Some (record { pos = pos; state = first.0.state; members = map (stable_member s) l })) first.2
    ∙ sym (ap (stable_cert s pos) first.2)
    ∙ sym (ap (option_and_then (stable_cert s pos)) found.0)

-- ---- certificates of floors

same_in_floor : (s : Shape) (a b : KeptFloor) → same_kept s a b ≡ alike (of_floor a) (of_floor b)
same_in_floor s a b = refl

all_floors : (owner : ℕ) (all : List Checkpoint) → filter_map (said_in (Some owner)) all ≡ map of_floor (filter_map (kept_floor owner) all)
all_floors owner [] = refl
all_floors owner (m ∷ all) = elim (kept_floor owner m) as (λ o. cons_option (option_map of_floor o) (filter_map (said_in (Some owner)) all) ≡ map of_floor (cons_option o (filter_map (kept_floor owner) all))) [
  | None ↦ all_floors owner all
  | Some k ↦ ap (λ l. of_floor k ∷ l) (all_floors owner all)
]

-- those that say it are whole and have the floor
module _ (owner : ℕ) (said : Said) where
  abbrev saying : List Checkpoint → List Checkpoint
  saying all = filter (says (Some owner) said) all

  abbrev floors_like : List Checkpoint → List KeptFloor
  floors_like all = filter (λ k. alike said (of_floor k)) (filter_map (kept_floor owner) all)

  not_saying : (m : Checkpoint) (all : List Checkpoint) → kept_floor owner m ≡ None → (saying (m ∷ all) ≡ saying all) × (floors_like (m ∷ all) ≡ floors_like all)
  not_saying m all is = (ap (λ o. cond (is_this said (option_map of_floor o)) (m ∷ saying all) (saying all)) is, ap (λ o. filter (λ k. alike said (of_floor k)) (cons_option o (filter_map (kept_floor owner) all))) is)

  if_saying : (m : Checkpoint) (all : List Checkpoint) (k : KeptFloor) → kept_floor owner m ≡ Some k
      → (saying (m ∷ all) ≡ cond (alike said (of_floor k)) (m ∷ saying all) (saying all)) × (floors_like (m ∷ all) ≡ cond (alike said (of_floor k)) (k ∷ floors_like all) (floors_like all))
  if_saying m all k is = (ap (λ o. cond (is_this said (option_map of_floor o)) (m ∷ saying all) (saying all)) is, ap (λ o. filter (λ x. alike said (of_floor x)) (cons_option o (filter_map (kept_floor owner) all))) is)

  -- the first so many of them
  Same : ℕ → List Checkpoint → List KeptFloor → Type 0
  Same many these floors = (filter_map (kept_floor owner) (take many these) ≡ take many floors) × (length (take many these) ≡ length (take many floors))

  no_more : (these : List Checkpoint) (floors : List KeptFloor) → Same 0 these floors
  unfolding Same
  no_more these floors = (refl, refl)

  one_more : (many : ℕ) (m : Checkpoint) (k : KeptFloor) (these : List Checkpoint) (floors : List KeptFloor) → kept_floor owner m ≡ Some k → Same many these floors → Same (suc many) (m ∷ these) (k ∷ floors)
  unfolding Same
  one_more many m k these floors is h = (ap (λ o. cons_option o (filter_map (kept_floor owner) (take many these))) is ∙ ap (λ l. k ∷ l) h.0, ap suc h.1)

  step : (m : Checkpoint) (all : List Checkpoint) → ((many : ℕ) → Same many (saying all) (floors_like all)) → (o : Option KeptFloor) → kept_floor owner m ≡ o → (many : ℕ) → Same many (saying (m ∷ all)) (floors_like (m ∷ all))
  step m all rest None is many = let e = not_saying m all is in rw (e.0, e.1) (rest many)
  step m all rest (Some k) is zero = no_more (saying (m ∷ all)) (floors_like (m ∷ all))
  step m all rest (Some k) is (suc many) = let e = if_saying m all k is in elim (cases_Bool (alike said (of_floor k))) [
    | inl t ↦ rw (e.0, e.1, t) (one_more many m k (saying all) (floors_like all) is (rest many))
    | inr f ↦ rw (e.0, e.1, f) (rest (suc many))
  ]

  same_empty : (many : ℕ) → Same many [] []
  unfolding Same
  same_empty zero = (refl, refl)
  same_empty (suc many) = (refl, refl)

  same_saying : (all : List Checkpoint) (many : ℕ) → Same many (saying all) (floors_like all)
  same_saying [] many = same_empty many
  same_saying (m ∷ all) many = step m all (same_saying all) (kept_floor owner m) refl many

  pub those_saying : (all : List Checkpoint) (many : ℕ) → filter_map (kept_floor owner) (take many (saying all)) ≡ take many (floors_like all)
  unfolding Same
  those_saying all many = (same_saying all many).0

  -- those that say it have a floor
  pub saying_floor : (m : Checkpoint) → says (Some owner) said m ≡ true → kept_floor owner m ≡ None → ⊥
  saying_floor m yes_it none = let h : false ≡ true = sym (ap (λ o. is_this said (option_map of_floor o)) none) ∙ yes_it in absurd cc

pub floor_none : (s : Shape) (owner pos : ℕ) (all : List Checkpoint) → first_with alike (quorum s) (filter_map (said_in (Some owner)) all) (filter_map (said_in (Some owner)) all) ≡ None
    → None ≡ floor_of_these s pos (filter_map (kept_floor owner) all)
floor_none s owner pos all e =
    let floors = filter_map (kept_floor owner) all in
    let none = none_agreed (same_kept s) of_floor (same_in_floor s) (quorum s) floors floors (subst (λ l. first_with alike (quorum s) l l ≡ None) (all_floors owner all) e) in
    sym (ap (option_and_then (floor_cert s pos)) none)

pub floor_some : (s : Shape) (owner pos : ℕ) (all : List Checkpoint) (said : Said) → first_with alike (quorum s) (filter_map (said_in (Some owner)) all) (filter_map (said_in (Some owner)) all) ≡ Some said
    → Some (record { pos = pos; state = said.state; members = map (floor_member s) (filter_map (kept_floor owner) (take (quorum s) (filter (says (Some owner) said) all))) }) ≡ floor_of_these s pos (filter_map (kept_floor owner) all)
floor_some s owner pos all said e =
    let floors = filter_map (kept_floor owner) all in
    let found = some_agreed (same_kept s) of_floor (same_in_floor s) (quorum s) floors floors said (subst (λ l. first_with alike (quorum s) l l ≡ Some said) (all_floors owner all) e) in
    let first = first_of (λ k. alike said (of_floor k)) s.f floors found.1 in
    let state : said.state ≡ first.0.message.state = same_bytes-true said.state first.0.message.state (and-first (same_bytes said.state first.0.message.state) (alike_in_floor said.floor (Some first.0.floor)) first.3) in
    ap (λ l. Some (record { pos = pos; state = said.state; members = map (floor_member s) l })) (those_saying owner said all (quorum s))
    ∙ ap (λ x. Some (record { pos = pos; state = x; members = map (floor_member s) (take (quorum s) (filter (λ k. alike said (of_floor k)) floors)) })) state
    ∙ ap (λ l. Some (record { pos = pos; state = first.0.message.state; members = map (floor_member s) l })) first.2
    ∙ sym (ap (floor_cert s pos) first.2)
    ∙ sym (ap (option_and_then (floor_cert s pos)) found.0)

-- ---- members

pub each_some : {A B : Type 0} (f : A → B) (l : List A) → filter_map (λ x. Some (f x)) l ≡ map f l
each_some f [] = refl
each_some f (x ∷ l) = ap (λ k. f x ∷ k) (each_some f l)

pub each_kept : {A B C : Type 0} (f : B → C) (g : A → Option B) (l : List A) → filter_map (λ x. option_map f (g x)) l ≡ map f (filter_map g l)
each_kept f g [] = refl
each_kept f g (x ∷ l) = elim (g x) as (λ o. cons_option (option_map f o) (filter_map (λ y. option_map f (g y)) l) ≡ map f (cons_option o (filter_map g l))) [
  | None ↦ each_kept f g l
  | Some y ↦ ap (λ k. f y ∷ k) (each_kept f g l)
]
