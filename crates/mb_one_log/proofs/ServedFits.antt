-- States of the service that requests of the grammar led to are given back by their parts.
--
-- The client table of such a state has allowed values, so it is read back from its bytes; the parts of the service give its state back by assumption.
use Rattle.std.proofs.Common.{◌≡◌, ℕ, zero, suc, ◌+◌, ◌≤◌, ◌<◌, ◌^◌, true, List, [], ◌∷◌, ◌++◌, length, refl, sym, ap, subst, ◌∙◌, inl, inr, arith, length-append, Some, Ok}
use Rattle.std.specs.Prelude.{nat_lt, nat_le, map, take, slice_get, replicate, slice_set}
use Rattle.std.specs.List.{AllByRecursion, range_with_len, flat_map}
use Rattle.std.specs.Int.{w16, w64}
use Rattle.std.proofs.lemmas.Bool.{cases_Bool, and_from, lt-ltb, le-leb, ne_eqb}
use Rattle.std.proofs.lemmas.List.{append_assoc, length-map, length-replicate, length-set}
use Rattle.std.proofs.lemmas.List.Concat.{flat_map-cons}
use Rattle.mb_base.specs.Limits.{service_parts, table_part, text_limit}
use Rattle.mb_base.specs.Shapes.{Bytes}
use Rattle.mb_base.specs.declared.shape.Shape.{Shape}
use Rattle.mb_base.specs.Spelling.{number, text16}
use Rattle.mb_base.specs.Reading.{cursor, number_at, repeat_at}
use Rattle.mb_base.proofs.Laws.{number_field, checked_field, bytes_field, wide16, wide64}
use Rattle.mb_parts.specs.declared.request.Request.{Request}
use Rattle.mb_msg.specs.declared.event.Placed.{Placed}
use Rattle.mb_parts.specs.declared.limits.TheConstants.{MAX_PLACE}
use Rattle.mb_parts.specs.Fits.{FitsText, FitsRequest}
use Rattle.mb_model.specs.declared.known.LastReply.{LastReply}
use Rattle.mb_model.specs.Service.{Machine, Served, no_reply, start, served, served_each, is_fresh}
use Rattle.mb_model.specs.States.{Snapshots, is_place_of, is_size_of, last_reply_at, table_bytes, table_of, parts_of, restored}
use Rattle.mb_promise.specs.Headline.{state_after, IsService}
use Rattle.mb_model.proofs.Lists.{get_push}
use Rattle.mb_one_log.proofs.Marks.{requests_of}
use Rattle.mb_one_log.proofs.InstalledState.{range_length}

-- ---- the client table

pub record FitsLast (a : LastReply) : Type 0 where
  pub seq : a.seq < 2 ^ 64
  pub pos : a.pos < 2 ^ 64
  pub place : is_place_of a.seq a.pos ≡ true
  pub result : length a.result < 2 ^ 16
  pub size : is_size_of a.seq (length a.result) ≡ true

abbrev last_text : LastReply → Bytes
last_text a = number w64 a.seq ++ (number w64 a.pos ++ text16 a.result)

regrouped : (a b c d rest : Bytes) → (a ++ (b ++ (c ++ d))) ++ rest ≡ a ++ (b ++ (c ++ (d ++ rest)))
regrouped a b c d rest = append_assoc a (b ++ (c ++ d)) rest ∙ ap (λ (x : Bytes). a ++ x) (append_assoc b (c ++ d) rest ∙ ap (λ (x : Bytes). b ++ x) (append_assoc c d rest))

last_length : (a b c d : Bytes) → length (a ++ (b ++ (c ++ d))) ≡ ((length a + length b) + length c) + length d
last_length a b c d = omega (arith, length-append a (b ++ (c ++ d)), length-append b (c ++ d), length-append c d)

last_again : (a : LastReply) (at : ℕ) (rest : Bytes) → FitsLast a → last_reply_at (cursor at (last_text a ++ rest)) ≡ Ok (a, cursor (at + length (last_text a)) rest)
unfolding last_reply_at
last_again a at rest f =
    let s : Bytes = number w64 a.seq in
    let p : Bytes = number w64 a.pos in
    let n : Bytes = number w16 (length a.result) in
    let place : (((at + length s) + length p) + length n) + length a.result ≡ at + length (last_text a) = omega (arith, last_length s p n a.result) in
    ap (λ (x : Bytes). last_reply_at (cursor at x)) (regrouped s p n a.result rest)
    ∙ rw (
      (number_field w64 (2 ^ 64) wide64).again a.seq at (p ++ (n ++ (a.result ++ rest))) f.seq,
      (checked_field (is_place_of a.seq) (number_at w64) (number w64) (λ k. k < 2 ^ 64) (number_field w64 (2 ^ 64) wide64)).again a.pos (at + length s) (n ++ (a.result ++ rest)) (f.pos, f.place),
      (checked_field (is_size_of a.seq) (number_at w16) (number w16) (λ k. k < 2 ^ 16) (number_field w16 (2 ^ 16) wide16)).again (length a.result) ((at + length s) + length p) (a.result ++ rest) (f.result, f.size),
      (bytes_field (length a.result)).again a.result (((at + length s) + length p) + length n) rest refl,
    )
    (ap (λ (k : ℕ). Ok (a, cursor k rest)) place)

table_again : (t : List LastReply) (at : ℕ) → AllByRecursion FitsLast t → repeat_at last_reply_at (length t) (cursor at (flat_map last_text t)) ≡ Ok (t, cursor (at + length (flat_map last_text t)) [])
unfolding repeat_at
table_again [] at f = let s : at + 0 ≡ at = omega arith in rw s refl
table_again (a ∷ t) at f =
    let more : flat_map last_text (a ∷ t) ≡ last_text a ++ flat_map last_text t = flat_map-cons last_text a t in
    let place : (at + length (last_text a)) + length (flat_map last_text t) ≡ at + length (flat_map last_text (a ∷ t)) = omega (arith, length-append (last_text a) (flat_map last_text t), ap length more) in
    ap (λ (r : Bytes). repeat_at last_reply_at (suc (length t)) (cursor at r)) more
    ∙ rw (last_again a at (flat_map last_text t) f.0, table_again t (at + length (last_text a)) f.1) (ap (λ (k : ℕ). Ok (a ∷ t, cursor k [])) place)

table_back : (t : List LastReply) → AllByRecursion FitsLast t → table_of (length t) (table_bytes t) ≡ Ok t
unfolding table_of table_bytes
table_back t f = rw (table_again t 0 f) refl

-- ---- a state

pub record FitsServed {S : Type 0} (machine : Machine S) (initial : S) (clients : ℕ) (x : Served S) : Type 0 where
  pub many : length x.table ≡ clients
  pub table : AllByRecursion FitsLast x.table
  pub ops : List Bytes
  pub texts : AllByRecursion FitsText ops
  pub state : x.state ≡ state_after machine initial ops

all_replicate : (n : ℕ) (a : LastReply) → FitsLast a → AllByRecursion FitsLast (replicate n a)
all_replicate zero a f = tt
all_replicate (suc n) a f = (f, all_replicate n a f)

all_set : (t : List LastReply) (i : ℕ) (a : LastReply) → FitsLast a → AllByRecursion FitsLast t → AllByRecursion FitsLast (slice_set t i a)
all_set [] i a f all = tt
all_set (b ∷ t) zero a f all = (f, all.1)
all_set (b ∷ t) (suc i) a f all = (all.0, all_set t i a f all.1)

all_push : (l : List Bytes) (x : Bytes) → AllByRecursion FitsText l → FitsText x → AllByRecursion FitsText (l ++ x ∷ [])
all_push [] x a f = (f, tt)
all_push (y ∷ l) x a f = (a.0, all_push l x a.1 f)

state_push : {S : Type 0} (m : Machine S) (x : S) (ops : List Bytes) (op : Bytes) → state_after m x (ops ++ op ∷ []) ≡ m.after (state_after m x ops) op
unfolding state_after
state_push m x [] op = refl
state_push m x (o ∷ ops) op = state_push m (m.after x o) ops op

module _ {S : Type 0} (machine : Machine S) (snapshots : Snapshots S) (initial : S) (service : IsService machine snapshots initial) (clients : ℕ) where
  abbrev Fitting : Served S → Type 0
  Fitting x = FitsServed machine initial clients x

  pub start_fits : Fitting (start machine initial clients)
  unfolding state_after
  start_fits = record {
    many = length-replicate {A = LastReply} clients no_reply;
    table = all_replicate clients no_reply (record { seq = omega arith; pos = omega arith; place = refl; result = omega arith; size = refl });
    ops = [];
    texts = tt;
    state = refl;
  }

  -- a request of the grammar leads from one to another
  pub served_fits : (s : Shape) (x : Served S) (pos : ℕ) (r : Request) → 0 < pos → pos < 2 ^ 63 → FitsRequest s r → Fitting x → Fitting (served machine x pos r)
  unfolding served
  served_fits s x pos r above below fits f = elim (cases_Bool (is_fresh x r)) [
    | inr again ↦ rw again f
    | inl fresh ↦
        let result : FitsText (machine.result x.state r.op) = subst (λ (y : S). FitsText (machine.result y r.op)) (sym f.state) (service.short f.ops r.op f.texts fits.op) in
        rw fresh (record {
          many = length-set x.table r.client _ ∙ f.many;
          table = all_set x.table r.client _ (record {
            seq = fits.seq.1;
            pos = omega (arith, below);
            place = place r.seq fits.seq.0;
            result = omega (arith, result);
            size = size r.seq (length (machine.result x.state r.op)) fits.seq.0 result;
          }) f.table;
          ops = f.ops ++ r.op ∷ [];
          texts = all_push f.ops r.op f.texts fits.op;
          state = ap (λ (y : S). machine.after y r.op) f.state ∙ sym (state_push machine initial f.ops r.op);
        })
  ] where
    place : (seq : ℕ) → 1 ≤ seq → is_place_of seq pos ≡ true
    place seq le = rw (ne_eqb seq 0 (λ e. omega (arith, le, e))) (and_from (nat_lt 0 pos) (nat_le pos MAX_PLACE) (lt-ltb 0 pos above) (le-leb pos MAX_PLACE (omega (arith, below))))

    size : (seq n : ℕ) → 1 ≤ seq → n ≤ text_limit → is_size_of seq n ≡ true
    size seq n le short = rw (ne_eqb seq 0 (λ e. omega (arith, le, e))) (le-leb n text_limit short)

  -- so do the requests of a batch
  pub each_fits : (s : Shape) (x : Served S) (pos : ℕ) (ps : List Placed) → 0 < pos → pos < 2 ^ 63 → AllByRecursion (FitsRequest s) (requests_of ps) → Fitting x → Fitting (served_each machine x pos ps)
  unfolding served_each
  each_fits s x pos [] above below fits f = f
  each_fits s x pos (p ∷ ps) above below fits f = each_fits s (served machine x pos p.request) pos ps above below fits.1 (served_fits s x pos p.request above below fits.0 f)

  take_all : (l : List Bytes) (x : Bytes) (n : ℕ) → length l ≡ n → take n (l ++ x ∷ []) ≡ l
  take_all [] x zero e = refl
  take_all [] x (suc n) e = absurd cc
  take_all (y ∷ l) x zero e = absurd cc
  take_all (y ∷ l) x (suc n) e = ap (λ (z : List Bytes). y ∷ z) (take_all l x n (omega (arith, e)))

  last_there : (l : List Bytes) (x : Bytes) (n : ℕ) → length l ≡ n → slice_get (l ++ x ∷ []) n ≡ Some x
  last_there l x n e = subst (λ (k : ℕ). slice_get (l ++ x ∷ []) k ≡ Some x) e (get_push l x)

  joined_back : (l : List Bytes) (x : Served S) (n k : ℕ) → n ≡ service_parts → k ≡ table_part → length l ≡ n → length l ≡ k → snapshots.restored l ≡ Ok x.state → table_of clients (table_bytes x.table) ≡ Ok x.table
      → restored snapshots clients (l ++ table_bytes x.table ∷ []) ≡ Ok x
  unfolding restored
  joined_back l x n k first second many same state table =
      let there : slice_get (l ++ table_bytes x.table ∷ []) table_part ≡ Some (table_bytes x.table) = last_there l (table_bytes x.table) table_part (same ∙ second) in
      let parts : take service_parts (l ++ table_bytes x.table ∷ []) ≡ l = take_all l (table_bytes x.table) service_parts (many ∙ first) in
      rw (there, parts, table, state) refl

  -- the parts give it back
  pub parts_back : (x : Served S) → Fitting x → restored snapshots clients (parts_of snapshots x) ≡ Ok x
  unfolding parts_of
  parts_back x f =
      let l : List Bytes = map (snapshots.part x.state) (range_with_len 0 service_parts) in
      let many : length l ≡ service_parts = length-map (range_with_len 0 service_parts) (snapshots.part x.state) ∙ range_length 0 service_parts in
      let state : snapshots.restored l ≡ Ok x.state = subst (λ (y : S). snapshots.restored (map (snapshots.part y) (range_with_len 0 service_parts)) ≡ Ok y) (sym f.state) (service.whole f.ops f.texts) in
      let table : table_of clients (table_bytes x.table) ≡ Ok x.table = subst (λ (n : ℕ). table_of n (table_bytes x.table) ≡ Ok x.table) f.many (table_back x.table f.table) in
      joined_back l x service_parts service_parts refl refl many many state table
