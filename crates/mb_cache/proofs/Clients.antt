-- A client's place in the table, and what an execution writes there.
use Rattle.std.proofs.Common.{◌≡◌, ℕ, zero, suc, ◌<◌, ◌≤◌, ◌^◌, ◌+◌, ◌*◌, Bool, true, false, cond, eqb, ltb, leb, ◌&&◌, List, [], ◌∷◌, ◌++◌, length, length-set, get_or, set, replicate, Some, None, refl, sym, ap, subst, ◌∙◌, arith}
use Rattle.std.specs.Int.{w16, w64}
use Rattle.std.specs.List.{AllByRecursion, flat_map, slice_get}
use Rattle.std.proofs.lemmas.Bool.{lt-ltb, le-ltb, ltb-true, leb-true, le-leb, eqb-true, ne_eqb, and_parts}
use Rattle.std.proofs.lemmas.List.{get_or-set_same, length-append}
use Rattle.std.proofs.lemmas.List.Concat.{flat_map-cons}
use Rattle.std.proofs.lemmas.Option.{slice_get-get_or, unwrap_or-slice_get}
use Rattle.mb_base.specs.Limits.{text_limit, part_limit}
use Rattle.mb_base.specs.Shapes.{Bytes}
use Rattle.mb_base.proofs.Laws.{number_length, wide16, wide64}
use Rattle.mb_parts.specs.declared.limits.TheConstants.{MAX_PLACE}
use Rattle.mb_parts.specs.declared.request.Request.{Request}
use Rattle.mb_parts.specs.Fits.{IsPosition}
use Rattle.mb_model.specs.declared.known.LastReply.{LastReply}
use Rattle.mb_model.specs.Service.{Machine, Served, no_reply, served}
use Rattle.mb_model.specs.States.{is_place_of, is_size_of, table_bytes}
use Rattle.mb_model.specs.Execution.{state_of}
use Rattle.mb_cache.specs.Tables.{last_of, last_text, IsLast, IsTable}
use Rattle.mb_cache.specs.Answers.{result_of}
use Rattle.mb_cache.specs.Represents.{StandsServed}

-- ---- one client

-- what lies at a client's place is its last request
pub last_is : (table : List LastReply) (client i : ℕ) (a : LastReply) → i ≡ client → client < length table → a ≡ get_or table i a → a ≡ last_of table client
last_is table client i a named lt is =
    let here : slice_get table client ≡ Some a = slice_get-get_or table client a lt ∙ ap (λ (y : LastReply). Some y) (ap (λ (j : ℕ). get_or table j a) (sym named) ∙ sym is) in
    rw here refl

pub each_at : (table : List LastReply) (i : ℕ) (a : LastReply) → AllByRecursion IsLast table → i < length table → a ≡ get_or table i a → IsLast a
each_at [] i a all lt is = absurd (omega arith)
each_at (b ∷ table) zero a all lt is = subst IsLast (sym is) all.0
each_at (b ∷ table) (suc i) a all lt is = each_at table i a all.1 (omega arith) is

each_set : (table : List LastReply) (i : ℕ) (a : LastReply) → IsLast a → AllByRecursion IsLast table → AllByRecursion IsLast (set table i a)
each_set [] i a fits all = tt
each_set (b ∷ table) zero a fits all = (fits, all.1)
each_set (b ∷ table) (suc i) a fits all = (all.0, each_set table i a fits all.1)

pub each_replicate : (n : ℕ) (a : LastReply) → IsLast a → AllByRecursion IsLast (replicate n a)
each_replicate zero a fits = tt
each_replicate (suc n) a fits = (fits, each_replicate n a fits)

pub no_reply_fits : IsLast no_reply
no_reply_fits = record { seq = omega arith; place = refl; size = refl }

pub each_push : (table : List LastReply) (a : LastReply) → IsLast a → AllByRecursion IsLast table → AllByRecursion IsLast (table ++ a ∷ [])
each_push [] a fits all = (fits, tt)
each_push (b ∷ table) a fits all = (all.0, each_push table a fits all.1)

-- ---- what may stand behind a number

place_cases : (zero_seq : Bool) (pos : ℕ) → cond zero_seq (eqb pos 0) (ltb 0 pos && leb pos MAX_PLACE) ≡ true → pos < 2 ^ 63
place_cases true pos e = omega (arith, eqb-true _ _ e)
place_cases false pos e = omega (arith, leb-true _ _ (and_parts (ltb 0 pos) (leb pos MAX_PLACE) e).1)

pub place_small : (seq pos : ℕ) → is_place_of seq pos ≡ true → pos < 2 ^ 63
place_small seq pos e = place_cases (eqb seq 0) pos e

size_cases : (zero_seq : Bool) (size : ℕ) → cond zero_seq (eqb size 0) (leb size text_limit) ≡ true → size ≤ text_limit
size_cases true size e = omega (arith, eqb-true _ _ e)
size_cases false size e = omega (arith, leb-true _ _ e)

pub size_small : (seq size : ℕ) → is_size_of seq size ≡ true → size ≤ text_limit
size_small seq size e = size_cases (eqb seq 0) size e

pub some_place : (seq pos : ℕ) → 0 < seq → is_place_of seq pos ≡ true → IsPosition pos
some_place seq pos some e =
    let not_zero : eqb seq 0 ≡ false = ne_eqb seq 0 (λ is. omega (arith, some, is)) in
    let test : (ltb 0 pos && leb pos MAX_PLACE) ≡ true = ap (λ (b : Bool). cond b (eqb pos 0) (ltb 0 pos && leb pos MAX_PLACE)) (sym not_zero) ∙ e in
    let both = and_parts (ltb 0 pos) (leb pos MAX_PLACE) test in
    (omega (arith, ltb-true _ _ both.0), place_small seq pos e)

-- what an execution stores
pub stored_fits : (seq pos : ℕ) (result : Bytes) → 0 < seq → seq < 2 ^ 64 → IsPosition pos → length result ≤ text_limit → IsLast (record { seq = seq; pos = pos; result = result })
stored_fits seq pos result some small position short =
    let not_zero : eqb seq 0 ≡ false = ne_eqb seq 0 (λ is. omega (arith, some, is)) in
    let above : ltb 0 pos ≡ true = lt-ltb _ _ (omega (arith, position.0)) in
    let below : leb pos MAX_PLACE ≡ true = le-leb _ _ (omega (arith, position.1)) in
    let size : leb (length result) text_limit ≡ true = le-leb _ _ (omega (arith, short)) in
    record {
      seq = small;
      place = rw (not_zero, above, below) refl;
      size = rw (not_zero, size) refl;
    }

-- ---- an execution

-- the table after a write
pub table_set : (table : List LastReply) (i : ℕ) (a : LastReply) → IsLast a → IsTable table → IsTable (set table i a)
table_set table i a fits t = record { each = each_set table i a fits t.each; few = omega (arith, t.few, length-set table i a) }

-- what was written is the client's last request
pub last_written : (table : List LastReply) (client i : ℕ) (a : LastReply) → i ≡ client → client < length table → last_of (set table i a) client ≡ a
last_written table client i a named lt =
    unwrap_or-slice_get (set table i a) client no_reply ∙ (ap (λ (j : ℕ). get_or (set table j a) client no_reply) named ∙ get_or-set_same table client a no_reply lt)

module _ {S : Type 0} (m : Machine S) (x : Served S) (p : ℕ) (r : Request) where
  -- a fresh request is applied, and its reply is stored
  pub served_fresh : (client : ℕ) (op : Bytes) (after : S) (result : Bytes) → (last_of x.table r.client).seq < r.seq → client ≡ r.client → op ≡ r.op → after ≡ m.after x.state op → result ≡ m.result x.state op
      → record { state = after; table = set x.table client (record { seq = r.seq; pos = p; result = result }) } ≡ served m x p r
  unfolding served
  served_fresh client op after result fresh named op_is after_is result_is = rw (lt-ltb _ _ fresh, after_is, result_is, op_is, named) refl

  -- any other changes nothing
  pub served_old : r.seq ≤ (last_of x.table r.client).seq → x ≡ served m x p r
  unfolding served
  served_old le = rw (le-ltb _ _ le) refl

  -- the history serves the request, too
  pub stands_served : (new : Served S) → new ≡ served m x p r → StandsServed m x p r new
  unfolding state_of
  stands_served new is = λ host d placed machine request here.
      is ∙ (ap (λ (y : Served S). served m y p r) here
      ∙ (ap (λ (q : Request). served m (state_of host d) p q) (sym request)
      ∙ ap (λ (k : Machine S). served k (state_of host d) p placed.request) (sym machine)))

module _ {S : Type 0} (answer : S → Bytes → Bytes) (x : Served S) (r : Request) where
  pub result_fresh : (result : Bytes) → (last_of x.table r.client).seq < r.seq → result ≡ answer x.state r.op → Some result ≡ result_of answer x r
  result_fresh result fresh is = rw (lt-ltb _ _ fresh, is) refl

  pub result_old : r.seq ≤ (last_of x.table r.client).seq → None ≡ result_of answer x r
  result_old le = rw (le-ltb _ _ le) refl

-- ---- the bytes of a table

pub text_short : (a : LastReply) → IsLast a → length (last_text a) ≤ 1042
text_short a f =
    let size = size_small a.seq (length a.result) f.size in
    let seq = number_length w64 (2 ^ 64) a.seq wide64 in
    let pos = number_length w64 (2 ^ 64) a.pos wide64 in
    let count = number_length w16 (2 ^ 16) (length a.result) wide16 in
    simp (length-append, seq, pos, count) (omega (arith, size))

texts_short : (t : List LastReply) → AllByRecursion IsLast t → length (flat_map last_text t) ≤ 1042 * length t
texts_short [] all = omega arith
texts_short (a ∷ t) all =
    let joined : length (flat_map last_text (a ∷ t)) ≡ length (last_text a) + length (flat_map last_text t) = ap length (flat_map-cons last_text a t) ∙ length-append (last_text a) (flat_map last_text t) in
    omega (arith, joined, text_short a all.0, texts_short t all.1)

-- They have room in a part.
pub table_short : (t : List LastReply) → IsTable t → length (table_bytes t) ≤ part_limit
unfolding table_bytes
table_short t f = omega (arith, texts_short t f.each, f.few)
