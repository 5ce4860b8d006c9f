-- The list of what waits has each client's request, from the lowest client on; a batch is its beginning, and has no place for the next one.
use Rattle.std.proofs.Common.{◌≡◌, ℕ, zero, suc, ◌+◌, ◌≤◌, ◌<◌, ◌⊎◌, true, List, [], ◌∷◌, ◌++◌, map, length, refl, sym, ap, subst, ◌∙◌, inl, inr, arith, Option, Some, None}
use Rattle.std.specs.Prelude.{◌==◌, nat_lt, slice_get, filter_map, Contains}
use Rattle.std.specs.List.{range_with_len}
use Rattle.std.proofs.lemmas.Bool.{cases_Bool, cases_eq, cases_lt, eqb-true, eqb-false, eq-eqb, ltb-true, lt-ltb}
use Rattle.mb_base.specs.Shapes.{span, client_count}
use Rattle.mb_parts.specs.declared.request.Request.{Request}
use Rattle.mb_parts.specs.declared.batch.Batch.{Batch}
use Rattle.mb_msg.specs.declared.message.Message.TheVariants as message
use Rattle.mb_msg.specs.declared.message.Body.TheVariants.{Whole}
use Rattle.mb_msg.specs.declared.normal.Prepare.{Prepare}
use Rattle.mb_msg.specs.declared.stamped.Stamped.TheVariants as stamped
use Rattle.mb_model.specs.declared.known.KnownSlot.{KnownSlot}
use Rattle.mb_model.specs.declared.known.LastReply.{LastReply}
use Rattle.mb_model.specs.Service.{Machine, Served as ServedState, reply_of, is_fresh, served}
use Rattle.mb_model.specs.Histories.{Accepted, Stamped, Served, Installed, History, Identity, view_of}
use Rattle.mb_model.specs.Stable.{low_of}
use Rattle.mb_model.specs.Positions.{slot_in, slot_at, in_window}
use Rattle.mb_model.specs.Execution.{state_of, pending, if_above, if_fresh, if_restored, state_from}
use Rattle.mb_model.specs.Passed.{PassesRequest}
use Rattle.mb_model.specs.EnabledRules.{number_of, greatest, greatest_in, number_in_slot, greatest_in_slots, window, unordered_of, unordered}
use Rattle.mb_model.specs.Members.{In}
use Rattle.mb_model.proofs.Members.{in_contained, contained, in_left, in_right, in_map}
use Rattle.mb_model.proofs.Options.{option_cases, if_some}
use Rattle.mb_history_laws.proofs.Executing.{pending_client}
use Rattle.mb_steps.specs.Arises.{Arises}
use Rattle.mb_promise.specs.NothingLeft.{IsFull, IsInWindow, AreBelow, IsUnordered}
use Rattle.mb_world_model.specs.World.{self_of}
use Rattle.mb_world_model.specs.WorldSteps.{world}
use Rattle.mb_each_host.proofs.DueOrders.{in_range, slot_held}
use Rattle.mb_world_laws.proofs.KeptByWorlds.{world_arises}
use Rattle.mb_each_host.proofs.Words.{window_says}
use Rattle.mb_host_laws.proofs.Cases.{some_is}
use Rattle.mb_host_laws.proofs.Moments.{arises_by}
use Rattle.mb_one_log.proofs.Executions.{in_parts}
use Rattle.mb_obligations.proofs.OrdersAll.{orders_all_that_fit}
use Rattle.mb_results.proofs.Replies.{reply_new, reply_again, reply_other, reply_past}
use Rattle.mb_pins.specs.Batches.{Waits, IsNextBehind, OrdersInTurn, OrdersAllInTurn, HostsOrderInTurn}

-- ---- lists of requests, by rising client

abbrev AreRising : ℕ → List Request → Type 0
AreRising low [] = Unit {0}
AreRising low (r ∷ l) = (low ≤ r.client) × AreRising (r.client + 1) l

lower : (low n : ℕ) (l : List Request) → low ≤ n → AreRising n l → AreRising low l
lower low n [] le a = tt
lower low n (r ∷ l) le a = let first = a.0 in (omega (arith, le, first), a.1)

-- members are not below, and those behind a part of the list are above those in it
at_least : (low : ℕ) (l : List Request) (r : Request) → AreRising low l → In l r → low ≤ r.client
at_least low (q ∷ l) r a (inl is) = let first = a.0 in let same = ap (λ (x : Request). x.client) is in omega (arith, first, same)
at_least low (q ∷ l) r a (inr i) = let first = a.0 in let more = at_least (q.client + 1) l r a.1 i in omega (arith, first, more)
at_least low [] r a i = absurd i

behind_part : (low : ℕ) (b rest : List Request) (q r : Request) → AreRising low (b ++ rest) → In b q → In rest r → q.client < r.client
behind_part low [] rest q r a i j = absurd i
behind_part low (x ∷ b) rest q r a (inl is) j = let more = at_least (x.client + 1) (b ++ rest) r a.1 (in_right b rest r j) in let same = ap (λ (y : Request). y.client) is in omega (arith, more, same)
behind_part low (x ∷ b) rest q r a (inr i) j = behind_part (x.client + 1) b rest q r a.1 i j

in_part : (low : ℕ) (b rest : List Request) → AreRising low (b ++ rest) → AreRising low b
in_part low [] rest a = tt
in_part low (x ∷ b) rest a = (a.0, in_part (x.client + 1) b rest a.1)

there_in : (l : List Request) (i : ℕ) (r : Request) → slice_get l i ≡ Some r → In l r
there_in [] i r e = absurd cc
there_in (q ∷ l) zero r e = inl (some_is q r e)
there_in (q ∷ l) (suc i) r e = inr (there_in l i r e)

rising_at : (low : ℕ) (l : List Request) (i j : ℕ) (x y : Request) → AreRising low l → i < j → slice_get l i ≡ Some x → slice_get l j ≡ Some y → x.client < y.client
rising_at low [] i j x y a lt e f = absurd cc
rising_at low (q ∷ l) zero zero x y a lt e f = absurd (omega (arith, lt))
rising_at low (q ∷ l) zero (suc j) x y a lt e f = let more = at_least (q.client + 1) l y a.1 (there_in l j y f) in let same = ap (λ (z : Request). z.client) (some_is q x e) in omega (arith, more, same)
rising_at low (q ∷ l) (suc i) zero x y a lt e f = absurd (omega (arith, lt))
rising_at low (q ∷ l) (suc i) (suc j) x y a lt e f = rising_at (q.client + 1) l i j x y a.1 (omega (arith, lt)) e f

-- a list that is found client by client
module _ (f : ℕ → Option Request) (own : (c : ℕ) (r : Request) → f c ≡ Some r → r.client ≡ c) where
  found_rising : (a n : ℕ) → AreRising a (filter_map f (range_with_len a n))
  found_rising a zero = tt
  found_rising a (suc n) = elim (option_cases (f a)) [
    | inl none ↦ rw none (lower a (a + 1) (filter_map f (range_with_len (a + 1) n)) (omega arith) (found_rising (a + 1) n))
    | inr (r, some) ↦ let client = own a r some in rw some (omega (arith, client), subst (λ (c : ℕ). AreRising (c + 1) (filter_map f (range_with_len (a + 1) n))) (sym client) (found_rising (a + 1) n))
  ]

  found_is : (l : List ℕ) (r : Request) → In (filter_map f l) r → (c : ℕ) × (In l c) × (f c ≡ Some r)
  found_is [] r i = absurd i
  found_is (a ∷ l) r i = elim (option_cases (f a)) [
    | inl none ↦ let x = found_is l r (rw none at i) in (x.0, inr x.1, x.2)
    | inr (q, some) ↦ first q some (λ j. found_is l r j) (rw some at i)
  ] where
    first : (q : Request) → f a ≡ Some q → (In (filter_map f l) r → (c : ℕ) × (In l c) × (f c ≡ Some r)) → In (q ∷ filter_map f l) r → (c : ℕ) × (In (a ∷ l) c) × (f c ≡ Some r)
    first q some more (inl is) = (a, inl refl, some ∙ ap (λ (x : Request). Some x) is)
    first q some more (inr j) = let x = more j in (x.0, inr x.1, x.2)

  is_found : (l : List ℕ) (c : ℕ) (r : Request) → In l c → f c ≡ Some r → In (filter_map f l) r
  is_found [] c r i e = absurd i
  is_found (a ∷ l) c r (inl is) e = let here : f a ≡ Some r = ap f is ∙ e in rw here (inl refl)
  is_found (a ∷ l) c r (inr i) e = elim (option_cases (f a)) [
    | inl none ↦ rw none (is_found l c r i e)
    | inr (q, some) ↦ rw some (inr (is_found l c r i e))
  ]

below_end : (a n c : ℕ) → In (range_with_len a n) c → c < a + n
below_end a zero c i = absurd i
below_end a (suc n) c (inl is) = omega (arith, is)
below_end a (suc n) c (inr i) = let lt = below_end (a + 1) n c i in omega (arith, lt)

-- ---- numbers

at_most : (l : List ℕ) (n : ℕ) → In l n → n ≤ greatest l
unfolding greatest
at_most [] n i = absurd i
at_most (m ∷ l) n (inl is) = omega (arith, is)
at_most (m ∷ l) n (inr i) = let le = at_most l n i in omega (arith, le)

all_below : (l : List ℕ) (n : ℕ) → 0 < n → ((m : ℕ) → In l m → m < n) → greatest l < n
unfolding greatest
all_below [] n more all = omega (arith, more)
all_below (m ∷ l) n more all = let first = all m (inl refl) in let rest = all_below l n more (λ k i. all k (inr i)) in omega (arith, first, rest)

mapped : {A : Type 0} (f : A → ℕ) (l : List A) (n : ℕ) → In (map f l) n → (x : A) × (In l x) × (f x ≡ n)
mapped f [] n i = absurd i
mapped f (x ∷ l) n (inl is) = (x, inl refl, is)
mapped f (x ∷ l) n (inr i) = let r = mapped f l n i in (r.0, inr r.1, r.2)

own_number : (c n : ℕ) (q : Request) → 0 < n → (q.client ≡ c → q.seq < n) → number_of c q < n
own_number c n q more below = elim (cases_Bool (q.client == c)) [
  | inl own ↦ rw own (below (eqb-true q.client c own))
  | inr other ↦ rw other (omega (arith, more))
]

module _ {S : Type 0} (self : Identity S) (d : History) where
  -- ---- slots

  -- The numbers of a client in a slot are below one that is in none.
  slot_numbers : (c n p : ℕ) → 0 < n → IsUnordered self d c n → number_in_slot self d c p < n
  slot_numbers c n p more free = elim (option_cases (slot_at self d p)) [
    | inl none ↦ rw none (omega (arith, more))
    | inr (k, some) ↦ rw some (in_batch k some k.batch refl)
  ] where
    in_batch : (k : KnownSlot) → slot_at self d p ≡ Some k → (o : Option Batch) → k.batch ≡ o → greatest_in c o < n
    in_batch k some None is = omega (arith, more)
    in_batch k some (Some b) is =
        let t = if_some (in_window self d p) (slot_in self d (view_of self d) p) k some in
        let below : AreBelow self d c n b.requests = free p k b ((window_says self d p t.0, t.1), is) in
        all_below (map (number_of c) b.requests) n more (λ m i. let q = mapped (number_of c) b.requests m i in
        let lt = own_number c n q.0 more (λ own. below q.0 (contained b.requests q.0 q.1) own) in let is = q.2 in omega (arith, lt, is))

  free_below : (c n : ℕ) → 0 < n → IsUnordered self d c n → greatest_in_slots self d c (window self d) < n
  unfolding greatest_in_slots
  free_below c n more free = all_below (map (number_in_slot self d c) (window self d)) n more (λ m i. let p = mapped (number_in_slot self d c) (window self d) m i in let lt = slot_numbers c n p.0 more free in let is = p.2 in omega (arith, lt, is))

  below_free : (c n : ℕ) → greatest_in_slots self d c (window self d) < n → IsUnordered self d c n
  unfolding greatest_in_slots
  below_free c n low p k b has q there client =
      let inside : IsInWindow self d p = has.0.0 in
      let above = inside.above in
      let near = inside.near in
      let held : slot_at self d p ≡ Some k = slot_held self d p k inside has.0.1 in
      let place : In (window self d) p = in_range (low_of self d + 1) (span self.shape) p (omega (arith, above)) (omega (arith, near)) in
      let all : number_in_slot self d c p ≤ greatest (map (number_in_slot self d c) (window self d)) = at_most (map (number_in_slot self d c) (window self d)) (number_in_slot self d c p) (in_map (number_in_slot self d c) (window self d) p place) in
      let here : number_in_slot self d c p ≡ greatest (map (number_of c) b.requests) = rw (held, has.1) refl in
      let one : number_of c q ≤ greatest (map (number_of c) b.requests) = at_most (map (number_of c) b.requests) (number_of c q) (in_map (number_of c) b.requests q (in_contained b.requests q there)) in
      let own : number_of c q ≡ q.seq = rw (eq-eqb q.client c client) refl in
      omega (arith, low, all, here, one, own)

-- ---- a request that waits is fresh

-- A number above those that a client has been served stays above, where the next one that is served is below it.
served_low : {S : Type 0} (m : Machine S) (x : ServedState S) (pos : ℕ) (q : Request) (c n : ℕ) → (reply_of x c).seq < n → (q.client ≡ c → q.seq < n) → (reply_of (served m x pos q) c).seq < n
served_low m x pos q c n low below = elim (cases_eq c q.client) [
  | inr other ↦ let same = ap (λ (a : LastReply). a.seq) (reply_other m x pos q c other) in omega (arith, same, low)
  | inl own ↦ elim (cases_Bool (is_fresh x q)) [
    | inr again ↦ let same = ap (λ (y : ServedState _). (reply_of y c).seq) (reply_again m x pos q again) in omega (arith, same, low)
    | inl fresh ↦ served_fresh fresh own
  ]
] where
  served_fresh : is_fresh x q ≡ true → c ≡ q.client → (reply_of (served m x pos q) c).seq < n
  served_fresh fresh own = elim (cases_lt q.client (length x.table)) [
    | inl within ↦
        let new = ap (λ (a : LastReply). a.seq) (reply_new m x pos q fresh within) in
        let here : (reply_of (served m x pos q) c).seq ≡ q.seq = ap (λ (k : ℕ). (reply_of (served m x pos q) k).seq) own ∙ new in
        let lt = below (sym own) in
        omega (arith, here, lt)
    | inr past ↦ let same = ap (λ (a : LastReply). a.seq) (reply_past m x pos q c past) in omega (arith, same, low)
  ]

module _ {S : Type 0} (self : Identity S) where
  above_both : (seq : ℕ) (o : Option Request) (r : Request) → if_above seq o ≡ Some r → (o ≡ Some r) × (seq < r.seq)
  above_both seq None r e = absurd cc
  above_both seq (Some q) r e =
      let t = if_some (nat_lt seq q.seq) (Some q) r e in
      (t.1, subst (λ (x : Request). seq < x.seq) (some_is q r t.1) (ltb-true seq q.seq t.0))

  fresh_both : (x : ServedState S) (o : Option Request) (r : Request) → if_fresh self x o ≡ Some r → (o ≡ Some r) × ((reply_of x r.client).seq < r.seq)
  fresh_both x None r e = absurd cc
  fresh_both x (Some q) r e =
      let t = if_some (is_fresh x q) (Some q) r e in
      (t.1, subst (λ (y : Request). (reply_of x y.client).seq < y.seq) (some_is q r t.1) (ltb-true (reply_of x q.client).seq q.seq t.0))

  pub pending_fresh : (d : History) → Arises self d → (c : ℕ) (r : Request) → pending self d c ≡ Some r → (reply_of (state_of self d) c).seq < r.seq
  unfolding pending state_of
  pending_fresh [] a c r e = absurd cc
  pending_fresh (Accepted (message.Request q) ∷ d) a c r e = elim (cases_Bool (q.client == c)) [
    | inr other ↦ pending_fresh d a.1 c r (rw other at e)
    | inl mine ↦
        let p : PassesRequest self d q = a.0 in
        let same : q ≡ r = some_is q r (rw mine at e) in
        let low : (reply_of (state_of self d) q.client).seq < q.seq = ltb-true (reply_of (state_of self d) q.client).seq q.seq p.fresh in
        let here : (reply_of (state_of self d) c).seq < q.seq = subst (λ (k : ℕ). (reply_of (state_of self d) k).seq < q.seq) (eqb-true q.client c mine) low in
        subst (λ (x : Request). (reply_of (state_of self d) c).seq < x.seq) same here
  ]
  pending_fresh (Served pos placed ∷ d) a c r e = elim (cases_Bool (placed.request.client == c)) [
    | inl mine ↦
        let t = above_both placed.request.seq (pending self d c) r (rw mine at e) in
        served_low self.machine (state_of self d) pos placed.request c r.seq (pending_fresh d a.1 c r t.0) (λ own. t.1)
    | inr other ↦ served_low self.machine (state_of self d) pos placed.request c r.seq (pending_fresh d a.1 c r (rw other at e)) (λ own. absurd (eqb-false placed.request.client c other own))
  ]
  pending_fresh (Installed pos parts ∷ d) a c r e =
      let x : ServedState S = if_restored self (state_of self d) (state_from self parts) in
      let t = fresh_both x (pending self d c) r e in
      subst (λ (k : ℕ). (reply_of x k).seq < r.seq) (pending_client self d c r t.0) t.1
  pending_fresh (x ∷ d) a c r e = pending_fresh d a.1 c r e

-- ---- the batch

module _ {S : Type 0} (self : Identity S) (d : History) (arises : Arises self d) where
  own_client : (c : ℕ) (r : Request) → unordered_of self d c ≡ Some r → r.client ≡ c
  own_client c r e = pending_client self d c r (above_both self (greatest_in_slots self d c (window self d)) (pending self d c) r e).0

  waits_so : (c : ℕ) (r : Request) → c < client_count self.shape → unordered_of self d c ≡ Some r → Waits self d c r
  waits_so c r lt e = let t = above_both self (greatest_in_slots self d c (window self d)) (pending self d c) r e in record { client = lt; pending = t.0; free = below_free self d c r.seq t.1 }

  so_waits : (c : ℕ) (r : Request) → Waits self d c r → unordered_of self d c ≡ Some r
  so_waits c r x =
      let above = pending_fresh self d arises c r x.pending in
      let low = free_below self d c r.seq (omega (arith, above)) x.free in
      rw (x.pending, lt-ltb (greatest_in_slots self d c (window self d)) r.seq low) refl

  abbrev n : ℕ
  n = client_count self.shape

  in_list : (c : ℕ) (r : Request) → Waits self d c r → In (unordered self d) r
  unfolding unordered
  in_list c r x = let lt = x.client in is_found (unordered_of self d) own_client (range_with_len 0 n) c r (in_range 0 n c (omega arith) (omega (arith, lt))) (so_waits c r x)

  of_list : (r : Request) → In (unordered self d) r → Waits self d r.client r
  unfolding unordered
  of_list r i =
      let x = found_is (unordered_of self d) own_client (range_with_len 0 n) r i in
      let lt = below_end 0 n x.0 x.1 in
      subst (λ (c : ℕ). Waits self d c r) (sym (own_client x.0 r x.2)) (waits_so x.0 r (omega (arith, lt)) x.2)

  list_rising : AreRising 0 (unordered self d)
  unfolding unordered
  list_rising = found_rising (unordered_of self d) own_client 0 n

  module _ (b : Batch) (x : IsFull (unordered self d) b) where
    rising : AreRising 0 (b.requests ++ x.rest)
    rising = subst (AreRising 0) x.begins list_rising

    in_all : (r : Request) → In b.requests r → In (unordered self d) r
    in_all r i = subst (λ (l : List Request). In l r) (sym x.begins) (in_left b.requests x.rest r i)

    rest_all : (r : Request) → In x.rest r → In (unordered self d) r
    rest_all r i = subst (λ (l : List Request). In l r) (sym x.begins) (in_right b.requests x.rest r i)

    -- A request that waits is in the batch or behind it.
    either_part : (c : ℕ) (r : Request) → Waits self d c r → In b.requests r ⊎ In x.rest r
    either_part c r y = in_parts b.requests x.rest r (subst (λ (l : List Request). In l r) x.begins (in_list c r y))

    client_of : (c : ℕ) (r : Request) → Waits self d c r → r.client ≡ c
    client_of c r y = pending_client self d c r y.pending

    none_left : (c : ℕ) (r q : Request) → Waits self d c r → Contains b.requests q → c ≤ q.client → Contains b.requests r
    none_left c r q y there le = elim (either_part c r y) [
      | inl here ↦ contained b.requests r here
      | inr behind ↦
          let above = behind_part 0 b.requests x.rest q r rising (in_contained b.requests q there) behind in
          let client = client_of c r y in
          absurd (omega (arith, above, client, le))
    ]

    -- The next client's request is the first behind the batch.
    first_rest : (c : ℕ) (r : Request) → IsNextBehind self d b c r → (more : List Request) × (x.rest ≡ r ∷ more)
    first_rest c r y = elim (either_part c r y.waits) [
      | inl here ↦ let lt = y.behind r (contained b.requests r here) in let client = client_of c r y.waits in absurd (omega (arith, lt, client))
      | inr behind ↦ go x.rest refl behind
    ] where
      go : (l : List Request) → x.rest ≡ l → In l r → (more : List Request) × (x.rest ≡ r ∷ more)
      go [] is i = absurd i
      go (q ∷ l) is (inl same) = (l, is ∙ ap (λ (z : Request). z ∷ l) same)
      go (q ∷ l) is (inr i) =
          let all : AreRising 0 (b.requests ++ (q ∷ l)) = subst (λ (t : List Request). AreRising 0 (b.requests ++ t)) is rising in
          let there : In x.rest q = subst (λ (t : List Request). In t q) (sym is) (inl refl) in
          let lower : c ≤ q.client = y.first q.client q (of_list q (rest_all q there)) (λ p k. behind_part 0 b.requests (q ∷ l) p q all (in_contained b.requests p k) (inl refl)) in
          let before : q.client < r.client = first_before b.requests q l r 0 all i in
          let client = client_of c r y.waits in
          absurd (omega (arith, lower, before, client)) where
            first_before : (b : List Request) (q : Request) (l : List Request) (r : Request) (low : ℕ) → AreRising low (b ++ (q ∷ l)) → In l r → q.client < r.client
            first_before [] q l r low a i = let more = at_least (q.client + 1) l r a.1 i in omega (arith, more)
            first_before (z ∷ b) q l r low a i = first_before b q l r (z.client + 1) a.1 i

    in_turn : OrdersInTurn self d b
    in_turn = record {
      waits = λ r there. of_list r (in_all r (in_contained b.requests r there));
      fresh = λ r there. let y = of_list r (in_all r (in_contained b.requests r there)) in pending_fresh self d arises r.client r y.pending;
      rising = λ i j p q lt e f. rising_at 0 b.requests i j p q (in_part 0 b.requests x.rest rising) lt e f;
      none_left = none_left;
      some = x.some;
      few = x.few;
      short = x.short;
      full = λ c r y. let t = first_rest c r y in x.full r t.0 t.1;
    }

orders_in_turn : {S : Type 0} (self : Identity S) (d : History) → Arises self d → ((later before : History) (m : Prepare) (b : Batch) → d ≡ later ++ Stamped (stamped.Prepare m) ∷ before → m.body ≡ Whole b → IsFull (unordered self before) b) → OrdersAllInTurn self d
orders_in_turn self d arises full later before m b is whole =
    let earlier : Arises self before = (arises_by self later (Stamped (stamped.Prepare m) ∷ before) (subst (λ (h : History). Arises self h) is arises)).1 in
    in_turn self before earlier b (full later before m b is whole)

pub hosts_order_in_turn : (S : Type 0) → HostsOrderInTurn S
hosts_order_in_turn S system k h = orders_in_turn (self_of system h) ((world system k).histories h) (world_arises system k h) (orders_all_that_fit system k h)
