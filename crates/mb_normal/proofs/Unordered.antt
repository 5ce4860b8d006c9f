-- The requests that aren't ordered, client by client, and the batch that is filled with them.
use Rattle.std.proofs.Common.{◌≡◌, ℕ, zero, suc, ◌+◌, ◌-◌, ◌<◌, ◌≤◌, Bool, true, false, ◌&&◌, nat_lt, List, [], ◌∷◌, ◌++◌, length, Option, Some, None, is_some, filter_map, refl, sym, ap, ◌∙◌, subst, arith, append_assoc, append-nil, length-append, inl, inr}
use Rattle.std.specs.Prelude.{option_copied}
use Rattle.std.specs.Borrow.{Bor}
use Rattle.std.specs.List.{range_with_len, cons_option}
use Rattle.std.proofs.lemmas.Bool.{ltb-true, ltb-false, cases_Bool}
use Rattle.mb_base.specs.Limits.{batch_limit}
use Rattle.mb_base.specs.declared.shape.Shape.{Shape}
use Rattle.mb_base.specs.Shapes.{client_count}
use Rattle.mb_parts.specs.declared.request.Request.{Request}
use Rattle.mb_parts.specs.Spelling.{request_bytes}
use Rattle.mb_model.specs.Batches.{has_place, fitting, first_batch}
use Rattle.mb_normal.specs.declared.filling.Filling.{Filling}
use Rattle.mb_normal.specs.declared.normal.Normal.{Normal}
use Rattle.mb_normal.specs.Filling.{Adds}
use Rattle.mb_normal.specs.Searches.{Searches, unordered_of, unordered}
use Rattle.mb_normal.specs.Tables.{Represents}

-- ---- client by client

-- the requests that aren't ordered of the clients from one on
abbrev pub unordered_from : Shape → Searches → ℕ → List Request
unordered_from s x i = filter_map (unordered_of s x) (range_with_len i (client_count s - i))

from_start : (s : Shape) (x : Searches) → unordered_from s x 0 ≡ unordered s x
from_start s x = let all : client_count s - 0 ≡ client_count s = omega arith in rw all refl

from_next : (s : Shape) (x : Searches) (i : ℕ) (o : Option Request) → i < client_count s → o ≡ unordered_of s x i → unordered_from s x i ≡ cons_option o (unordered_from s x (i + 1))
from_next s x i o lt is =
    let left : client_count s - i ≡ suc (client_count s - (i + 1)) = omega arith in
    let next : unordered_from s x i ≡ cons_option (unordered_of s x i) (unordered_from s x (i + 1)) = rw left refl in
    next ∙ ap (λ (y : Option Request). cons_option y (unordered_from s x (i + 1))) (sym is)

from_end : (s : Shape) (x : Searches) (i : ℕ) → client_count s ≤ i → unordered_from s x i ≡ []
from_end s x i le = let left : client_count s - i ≡ 0 = omega arith in rw left refl

-- what a table says of a client is so in the searches that it stands for
abbrev pub SaysOf : Normal → ℕ → Option Request → Type 0
SaysOf t i o = (s : Shape) (h : ℕ) (x : Searches) → Represents s h t x → o ≡ unordered_of s x i

below : (t : Normal) (i : ℕ) (s : Shape) (h : ℕ) (x : Searches) → Represents s h t x → i < client_count t.shape → i < client_count s
below t i s h x st lt = subst (λ (y : Shape). i < client_count y) st.shape_is lt

at_end : (t : Normal) (i : ℕ) (s : Shape) (h : ℕ) (x : Searches) → Represents s h t x → client_count t.shape ≤ i → client_count s ≤ i
at_end t i s h x st le = subst (λ (y : Shape). client_count y ≤ i) st.shape_is le

-- ---- whether there is one

-- None was found yet.
abbrev pub NoneSoFar : Normal → ℕ → Type 0
NoneSoFar t i = (s : Shape) (h : ℕ) (x : Searches) → Represents s h t x → unordered_from s x i ≡ unordered s x

pub none_looked : (t : Normal) → NoneSoFar t 0
none_looked t s h x st = from_start s x

pub none_more : (t : Normal) (i : ℕ) (o : Option Request) → i < client_count t.shape → SaysOf t i o → is_some o ≡ false → NoneSoFar t i → NoneSoFar t (i + 1)
none_more t i None lt is fails so_far s h x st = sym (from_next s x i None (below t i s h x st lt) (is s h x st)) ∙ so_far s h x st
none_more t i (Some q) lt is fails so_far s h x st = absurd cc

pub one_found : (t : Normal) (i : ℕ) (o : Option Request) → i < client_count t.shape → SaysOf t i o → is_some o ≡ true → NoneSoFar t i
    → (s : Shape) (h : ℕ) (x : Searches) → Represents s h t x → true ≡ is_some (first_batch (unordered s x))
one_found t i None lt is holds so_far s h x st = absurd cc
one_found t i (Some q) lt is holds so_far s h x st =
    ap (λ l. is_some (first_batch l)) (sym (from_next s x i (Some q) (below t i s h x st lt) (is s h x st)) ∙ so_far s h x st)

pub none_found : (t : Normal) (i : ℕ) → client_count t.shape ≤ i → NoneSoFar t i → (s : Shape) (h : ℕ) (x : Searches) → Represents s h t x → false ≡ is_some (first_batch (unordered s x))
none_found t i le so_far s h x st = ap (λ l. is_some (first_batch l)) (sym (from_end s x i (at_end t i s h x st le)) ∙ so_far s h x st)

-- ---- what goes into a batch

fitting_none : (most used : ℕ) → fitting most used [] ≡ []
unfolding fitting
fitting_none zero used = refl
fitting_none (suc most) used = refl

both_true : (a b : Bool) → (a && b) ≡ true → (a ≡ true) × (b ≡ true)
both_true true b e = (refl, e)
both_true false b e = absurd cc

-- a request with place goes into it
fitting_more : (n used : ℕ) (r : Request) (l : List Request) → nat_lt n batch_limit ≡ true → has_place used r ≡ true
    → fitting (batch_limit - n) used (r ∷ l) ≡ r ∷ fitting (batch_limit - (n + 1)) (used + length (request_bytes r)) l
unfolding fitting
fitting_more n used r l few place =
    let lt : n < batch_limit = ltb-true n batch_limit few in
    let left : batch_limit - n ≡ suc (batch_limit - (n + 1)) = omega arith in
    rw (left, place) refl

-- one without place ends it
fitting_full : (n used : ℕ) (r : Request) (l : List Request) → (nat_lt n batch_limit && has_place used r) ≡ false → fitting (batch_limit - n) used (r ∷ l) ≡ []
unfolding fitting
fitting_full n used r l full = elim (cases_Bool (nat_lt n batch_limit)) [
  | inl few ↦
      let lt : n < batch_limit = ltb-true n batch_limit few in
      let left : batch_limit - n ≡ suc (batch_limit - 1 - n) = omega arith in
      let no_place : has_place used r ≡ false = ap (λ b. b && has_place used r) (sym few) ∙ full in
      rw (left, no_place) refl
  | inr many ↦
      let ge : batch_limit ≤ n = ltb-false n batch_limit many in
      let left : batch_limit - n ≡ 0 = omega arith in
      rw left refl
]

-- all that goes into it is the batch
batch_is : (l requests : List Request) → requests ≡ fitting batch_limit 0 l → (l ≡ [] → ⊥) → Some (record { requests = requests }) ≡ first_batch l
batch_is [] requests is some = absurd (some refl)
batch_is (q ∷ l) requests is some = ap (λ (y : List Request). Some (record { requests = y })) is

-- Those of the clients from one on are still to be looked at.
abbrev pub FilledTo : Shape → Searches → ℕ → Filling → Type 0
FilledTo s x i f = f.requests ++ fitting (batch_limit - length f.requests) f.used (unordered_from s x i) ≡ fitting batch_limit 0 (unordered s x)

abbrev pub FilledSoFar : Normal → ℕ → Filling → Type 0
FilledSoFar t i f = (s : Shape) (h : ℕ) (x : Searches) → Represents s h t x → FilledTo s x i f

pub filled_none : (t : Normal) (f : Filling) → f.requests ≡ [] → f.used ≡ 0 → FilledSoFar t 0 f
filled_none t f empty unused s h x st = rw (empty, unused) (ap (fitting batch_limit 0) (from_start s x))

-- The next client's request went into it, where it has one.
pub filled_more : (t : Normal) (i : ℕ) (old new : Filling) (o : Option Request) → i < client_count t.shape → SaysOf t i o → Adds old o new true → FilledSoFar t i old → FilledSoFar t (i + 1) new
filled_more t i old new None lt is adds so_far s h x st =
    let next : unordered_from s x i ≡ unordered_from s x (i + 1) = from_next s x i None (below t i s h x st lt) (is s h x st) in
    rw adds.1 (ap (λ (l : List Request). old.requests ++ fitting (batch_limit - length old.requests) old.used l) (sym next) ∙ so_far s h x st)
filled_more t i old new (Some q) lt is adds so_far s h x st =
    let l : List Request = unordered_from s x (i + 1) in
    let next : unordered_from s x i ≡ q ∷ l = from_next s x i (Some q) (below t i s h x st lt) (is s h x st) in
    let goes = both_true (nat_lt (length old.requests) batch_limit) (has_place old.used q) adds.0 in
    let one = fitting_more (length old.requests) old.used q l goes.0 goes.1 in
    let count : length new.requests ≡ length old.requests + 1 = rw adds.1.0 (length-append old.requests (q ∷ [])) in
    rw (count, adds.1.1, adds.1.0) (append_assoc old.requests (q ∷ []) (fitting (batch_limit - (length old.requests + 1)) (old.used + length (request_bytes q)) l)
    ∙ ap (λ (y : List Request). old.requests ++ y) (sym one ∙ ap (fitting (batch_limit - length old.requests) old.used) (sym next)) ∙ so_far s h x st)

-- It had no place, so the batch is full.
pub filled_full : (t : Normal) (i : ℕ) (old new : Filling) (o : Option Request) → i < client_count t.shape → SaysOf t i o → Adds old o new false → FilledSoFar t i old
    → (s : Shape) (h : ℕ) (x : Searches) → Represents s h t x → (unordered s x ≡ [] → ⊥) → Some (record { requests = new.requests }) ≡ first_batch (unordered s x)
filled_full t i old new None lt is adds so_far s h x st some = absurd cc
filled_full t i old new (Some q) lt is adds so_far s h x st some =
    let l : List Request = unordered_from s x (i + 1) in
    let next : unordered_from s x i ≡ q ∷ l = from_next s x i (Some q) (below t i s h x st lt) (is s h x st) in
    let full : fitting (batch_limit - length old.requests) old.used (unordered_from s x i) ≡ [] = ap (fitting (batch_limit - length old.requests) old.used) next ∙ fitting_full (length old.requests) old.used q l adds.0 in
    let all : old.requests ≡ fitting batch_limit 0 (unordered s x) = sym (append-nil old.requests) ∙ ap (λ (y : List Request). old.requests ++ y) (sym full) ∙ so_far s h x st in
    batch_is (unordered s x) new.requests (ap (λ (f : Filling). f.requests) adds.1 ∙ all) some

-- All clients were looked at.
pub filled_all : (t : Normal) (i : ℕ) (f : Filling) → client_count t.shape ≤ i → FilledSoFar t i f
    → (s : Shape) (h : ℕ) (x : Searches) → Represents s h t x → (unordered s x ≡ [] → ⊥) → Some (record { requests = f.requests }) ≡ first_batch (unordered s x)
filled_all t i f le so_far s h x st some =
    let nothing : unordered_from s x i ≡ [] = from_end s x i (at_end t i s h x st le) in
    let full : fitting (batch_limit - length f.requests) f.used (unordered_from s x i) ≡ [] = ap (fitting (batch_limit - length f.requests) f.used) nothing ∙ fitting_none (batch_limit - length f.requests) f.used in
    let all : f.requests ≡ fitting batch_limit 0 (unordered s x) = sym (append-nil f.requests) ∙ ap (λ (y : List Request). f.requests ++ y) (sym full) ∙ so_far s h x st in
    batch_is (unordered s x) f.requests all some

-- ---- what is lent

pub some_copied : {A : Type 0} (o : Option (Bor A)) → is_some (option_copied o) ≡ is_some o
some_copied None = refl
some_copied (Some r) = refl
