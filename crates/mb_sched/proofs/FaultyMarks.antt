-- The marks of whom is faulty, and their names.
use Rattle.std.proofs.Common.{◌≡◌, ℕ, zero, suc, ◌+◌, ◌<◌, ◌≤◌, eqb, ltb, cond, Bool, true, false, ◌||◌, List, [], ◌∷◌, ◌++◌, length, map, refl, ap, ◌∙◌, arith, inl, inr}
use Rattle.std.specs.Prelude.{slice_get, unwrap_or}
use Rattle.std.specs.List.{list_any, count_by, range_with_len}
use Rattle.std.proofs.lemmas.List.Folds.{list_any-append}
use Rattle.std.proofs.lemmas.Bool.{and_from, lt-ltb, le-ltb, ne_eqb, eq-eqb, cases_eq, cases_lt}
use Rattle.std.proofs.lemmas.List.Sums.{sum_by-cons}
use Rattle.mb_base.specs.Shapes.{tally}
use Rattle.mb_schedule.specs.declared.schedule.Name.{Name}
use Rattle.mb_schedule.specs.declared.schedule.Name.TheVariants.{Host, Client}
use Rattle.mb_sched.specs.Headers.{is_host_name, rise, is_host_of, is_client_of}
use Rattle.mb_sched.specs.ScheduleText.{marked}

-- the mark with this number
abbrev pub mark_at : List Bool → ℕ → Bool
mark_at marks i = unwrap_or (slice_get marks i) false

abbrev truth : Bool → ℕ
truth b = cond b 1 0

-- ---- names of marks rise

clients_rise : (k m : ℕ) (marks : List Bool) → k < m → rise (Client k ∷ marked Client m marks) ≡ true
clients_rise k m [] lt = refl
clients_rise k m (true ∷ marks) lt = and_from (ltb k m) (rise (Client m ∷ marked Client (m + 1) marks)) (lt-ltb k m lt) (clients_rise m (m + 1) marks (omega arith))
clients_rise k m (false ∷ marks) lt = clients_rise k (m + 1) marks (omega arith)

clients_after_host : (k m : ℕ) (marks : List Bool) → rise (Host k ∷ marked Client m marks) ≡ true
clients_after_host k m [] = refl
clients_after_host k m (true ∷ marks) = clients_rise m (m + 1) marks (omega arith)
clients_after_host k m (false ∷ marks) = clients_after_host k (m + 1) marks

only_clients_rise : (m : ℕ) (marks : List Bool) → rise (marked Client m marks) ≡ true
only_clients_rise m [] = refl
only_clients_rise m (true ∷ marks) = clients_rise m (m + 1) marks (omega arith)
only_clients_rise m (false ∷ marks) = only_clients_rise (m + 1) marks

module _ (clients : List Bool) where
  hosts_rise : (k n : ℕ) (marks : List Bool) → k < n → rise (Host k ∷ marked Host n marks ++ marked Client 0 clients) ≡ true
  hosts_rise k n [] lt = clients_after_host k 0 clients
  hosts_rise k n (true ∷ marks) lt =
      and_from (ltb k n) (rise (Host n ∷ marked Host (n + 1) marks ++ marked Client 0 clients)) (lt-ltb k n lt) (hosts_rise n (n + 1) marks (omega arith))
  hosts_rise k n (false ∷ marks) lt = hosts_rise k (n + 1) marks (omega arith)

  pub marked_rise : (n : ℕ) (marks : List Bool) → rise (marked Host n marks ++ marked Client 0 clients) ≡ true
  marked_rise n [] = only_clients_rise 0 clients
  marked_rise n (true ∷ marks) = hosts_rise n (n + 1) marks (omega arith)
  marked_rise n (false ∷ marks) = marked_rise (n + 1) marks

-- ---- how many hosts

tally-front : (p : ℕ → Bool) (n : ℕ) → tally p (suc n) ≡ truth (p 0) + tally (λ i. p (suc i)) n
tally-front p zero = refl
tally-front p (suc n) = let e = tally-front p n in omega (arith, e)

no_hosts : (m : ℕ) (marks : List Bool) → count_by is_host_name (marked Client m marks) ≡ 0
no_hosts m [] = refl
no_hosts m (true ∷ marks) =
    let one = sum_by-cons (λ name. cond (is_host_name name) 1 0) (Client m) (marked Client (m + 1) marks) in
    let more = no_hosts (m + 1) marks in
    omega (arith, one, more)
no_hosts m (false ∷ marks) = no_hosts (m + 1) marks

-- as many hosts are named as are marked
pub hosts_named : (n : ℕ) (marks clients : List Bool) → count_by is_host_name (marked Host n marks ++ marked Client 0 clients) ≡ tally (mark_at marks) (length marks)
hosts_named n [] clients = no_hosts 0 clients
hosts_named n (true ∷ marks) clients =
    let e = hosts_named (n + 1) marks clients in
    let one = sum_by-cons (λ name. cond (is_host_name name) 1 0) (Host n) (marked Host (n + 1) marks ++ marked Client 0 clients) in
    let t = tally-front (mark_at (true ∷ marks)) (length marks) in
    omega (arith, e, one, t)
hosts_named n (false ∷ marks) clients =
    let e = hosts_named (n + 1) marks clients in
    let t = tally-front (mark_at (false ∷ marks)) (length marks) in
    omega (arith, e, t)

-- ---- the marks of names

or_false : (b : Bool) → (b || false) ≡ b
or_false true = refl
or_false false = refl

host_below : (h n : ℕ) (marks : List Bool) → h < n → list_any (is_host_of h) (marked Host n marks) ≡ false
host_below h n [] lt = refl
host_below h n (true ∷ marks) lt = rw (ne_eqb n h (λ e. omega arith)) (host_below h (n + 1) marks (omega arith))
host_below h n (false ∷ marks) lt = host_below h (n + 1) marks (omega arith)

client_below : (c m : ℕ) (marks : List Bool) → c < m → list_any (is_client_of c) (marked Client m marks) ≡ false
client_below c m [] lt = refl
client_below c m (true ∷ marks) lt = rw (ne_eqb m c (λ e. omega arith)) (client_below c (m + 1) marks (omega arith))
client_below c m (false ∷ marks) lt = client_below c (m + 1) marks (omega arith)

host_marked : (h n i : ℕ) (marks : List Bool) → h ≡ n + i → list_any (is_host_of h) (marked Host n marks) ≡ mark_at marks i
host_marked h n i [] e = refl
host_marked h n zero (true ∷ marks) e = rw (eq-eqb n h (omega arith)) refl
host_marked h n zero (false ∷ marks) e = host_below h (n + 1) marks (omega arith)
host_marked h n (suc i) (true ∷ marks) e = rw (ne_eqb n h (λ same. omega arith)) (host_marked h (n + 1) i marks (omega arith))
host_marked h n (suc i) (false ∷ marks) e = host_marked h (n + 1) i marks (omega arith)

client_marked : (c m i : ℕ) (marks : List Bool) → c ≡ m + i → list_any (is_client_of c) (marked Client m marks) ≡ mark_at marks i
client_marked c m i [] e = refl
client_marked c m zero (true ∷ marks) e = rw (eq-eqb m c (omega arith)) refl
client_marked c m zero (false ∷ marks) e = client_below c (m + 1) marks (omega arith)
client_marked c m (suc i) (true ∷ marks) e = rw (ne_eqb m c (λ same. omega arith)) (client_marked c (m + 1) i marks (omega arith))
client_marked c m (suc i) (false ∷ marks) e = client_marked c (m + 1) i marks (omega arith)

no_client : (c n : ℕ) (marks : List Bool) → list_any (is_client_of c) (marked Host n marks) ≡ false
no_client c n [] = refl
no_client c n (true ∷ marks) = no_client c (n + 1) marks
no_client c n (false ∷ marks) = no_client c (n + 1) marks

no_host : (h m : ℕ) (marks : List Bool) → list_any (is_host_of h) (marked Client m marks) ≡ false
no_host h m [] = refl
no_host h m (true ∷ marks) = no_host h (m + 1) marks
no_host h m (false ∷ marks) = no_host h (m + 1) marks

-- marks that are tested one by one
marks_again : (p : ℕ → Bool) (n : ℕ) (marks : List Bool) → ((h i : ℕ) → h ≡ n + i → p h ≡ mark_at marks i) → map p (range_with_len n (length marks)) ≡ marks
marks_again p n [] each = refl
marks_again p n (b ∷ marks) each =
    let first : p n ≡ b = each n 0 (omega arith) in
    rw (first, marks_again p (n + 1) marks (λ h i e. each h (suc i) (omega arith))) refl

pub host_marks : (hosts clients : List Bool) → map (λ h. list_any (is_host_of h) (marked Host 0 hosts ++ marked Client 0 clients)) (range_with_len 0 (length hosts)) ≡ hosts
host_marks hosts clients =
    marks_again (λ h. list_any (is_host_of h) (marked Host 0 hosts ++ marked Client 0 clients)) 0 hosts
    (λ h i e. list_any-append (is_host_of h) (marked Host 0 hosts) (marked Client 0 clients)
    ∙ ap (λ (b : Bool). b || list_any (is_host_of h) (marked Client 0 clients)) (host_marked h 0 i hosts e)
    ∙ ap (λ (b : Bool). mark_at hosts i || b) (no_host h 0 clients)
    ∙ or_false (mark_at hosts i))

pub client_marks : (hosts clients : List Bool) → map (λ c. list_any (is_client_of c) (marked Host 0 hosts ++ marked Client 0 clients)) (range_with_len 0 (length clients)) ≡ clients
client_marks hosts clients =
    marks_again (λ c. list_any (is_client_of c) (marked Host 0 hosts ++ marked Client 0 clients)) 0 clients
    (λ c i e. list_any-append (is_client_of c) (marked Host 0 hosts) (marked Client 0 clients)
    ∙ ap (λ (b : Bool). b || list_any (is_client_of c) (marked Client 0 clients)) (no_client c 0 hosts)
    ∙ client_marked c 0 i clients e)

-- ---- no more hosts are marked than named

truth-either : (a b : Bool) → truth (a || b) ≤ truth a + truth b
truth-either true b = omega arith
truth-either false b = omega arith

tally-either : (p q : ℕ → Bool) (n : ℕ) → tally (λ i. p i || q i) n ≤ tally p n + tally q n
tally-either p q zero = omega arith
tally-either p q (suc n) = let e = tally-either p q n in let one = truth-either (p n) (q n) in omega (arith, e, one)

ltb-grows : (x n : ℕ) → truth (ltb x n) ≤ truth (ltb x (suc n))
ltb-grows x n =
    elim (cases_lt x n) [
      | inl below ↦
          let one : truth (ltb x n) ≡ 1 = ap truth (lt-ltb x n below) in
          let two : truth (ltb x (suc n)) ≡ 1 = ap truth (lt-ltb x (suc n) (omega arith)) in
          omega (arith, one, two)
      | inr above ↦
          let one : truth (ltb x n) ≡ 0 = ap truth (le-ltb x n above) in
          omega (arith, one)
    ]

tally-one : (x n : ℕ) → tally (λ i. eqb x i) n ≤ truth (ltb x n)
tally-one x zero = omega arith
tally-one x (suc n) =
    let before = tally-one x n in
    elim (cases_eq x n) [
      | inl same ↦
          let here : truth (eqb x n) ≡ 1 = ap truth (eq-eqb x n same) in
          let above : truth (ltb x n) ≡ 0 = ap truth (le-ltb x n (omega (arith, same))) in
          let below : truth (ltb x (suc n)) ≡ 1 = ap truth (lt-ltb x (suc n) (omega (arith, same))) in
          omega (arith, before, here, above, below)
      | inr other ↦
          let here : truth (eqb x n) ≡ 0 = ap truth (ne_eqb x n other) in
          let grows : truth (ltb x n) ≤ truth (ltb x (suc n)) = ltb-grows x n in
          omega (arith, before, here, grows)
    ]

tally-none : (n : ℕ) → tally (λ i. false) n ≡ 0
tally-none zero = refl
tally-none (suc n) = let e = tally-none n in omega (arith, e)

truth-most : (b : Bool) → truth b ≤ 1
truth-most true = omega arith
truth-most false = omega arith

pub few_marked : (names : List Name) (n : ℕ) → tally (λ h. list_any (is_host_of h) names) n ≤ count_by is_host_name names
few_marked [] n = let e = tally-none n in omega (arith, e)
few_marked (Host x ∷ names) n =
    let both = tally-either (λ h. eqb x h) (λ h. list_any (is_host_of h) names) n in
    let one = tally-one x n in
    let most = truth-most (ltb x n) in
    let more = few_marked names n in
    let count = sum_by-cons (λ name. cond (is_host_name name) 1 0) (Host x) names in
    omega (arith, both, one, most, more, count)
few_marked (Client x ∷ names) n =
    let more = few_marked names n in
    let count = sum_by-cons (λ name. cond (is_host_name name) 1 0) (Client x) names in
    omega (arith, more, count)
