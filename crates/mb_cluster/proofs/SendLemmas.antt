-- Sends one after the other.
use Rattle.std.proofs.Common.{◌≡◌, ℕ, zero, suc, ◌+◌, ◌-◌, ◌≤◌, inl, inr, List, [], ◌∷◌, ◌++◌, length, take, drop, replicate, is_none, cond, Option, Some, Result, Ok, Err, refl, sym, ap, subst, ◌∙◌, append_assoc, append-nil, add-one, arith}
use Rattle.std.specs.Prelude.{slice_get, IsErrAnd}
use Rattle.std.specs.List.{flat_map, range_with_len, AllByRecursion}
use Rattle.std.proofs.lemmas.List.{map-append, take_more, take-append-drop, replicate-append-replicate}
use Rattle.std.proofs.lemmas.List.Sums.{sum_by-append}
use Rattle.std.proofs.lemmas.Grind.{flat_map-append}
use Rattle.std.proofs.lemmas.Option.{slice_get_within, get_or_from_slice_get}
use Rattle.mb_base.specs.Shapes.{Bytes}
use Rattle.mb_edge.specs.Told.{with_more, added_by}
use Rattle.mb_edge.proofs.ToldLemmas.{with_more-nil}
use Rattle.mb_cluster.specs.Hearing.{Receive}
use Rattle.mb_cluster.specs.Posts.{next_number, to_host, to_all, posts, number_after, request_bytes, quiets, request_each, requests, AreSome}
use Rattle.mb_cluster.specs.Sends.{first_failure, SendsSome, SendsFront, SendsInTurn}
use Rattle.mb_cluster.proofs.WireLemmas.{more_both, more_none}

-- ---- some of them

pub all_are_some : {A : Type 0} (xs : List A) → AreSome xs xs
all_are_some [] = tt
all_are_some (x ∷ xs) = inl (refl, all_are_some xs)

-- with one more in front that is missing
some_past : {A : Type 0} (xs : List A) (y : A) (ys : List A) → AreSome xs ys → AreSome xs (y ∷ ys)
some_past [] y ys some = tt
some_past (x ∷ xs) y ys some = inr some

pub some_both : {A : Type 0} (xs ys zs ws : List A) → AreSome xs ys → AreSome zs ws → AreSome (xs ++ zs) (ys ++ ws)
some_both [] [] zs ws first second = second
some_both [] (y ∷ ys) zs ws first second = some_past zs y (ys ++ ws) (some_both [] ys zs ws tt second)
some_both (x ∷ xs) [] zs ws first second = absurd first
some_both (x ∷ xs) (y ∷ ys) zs ws (inl both) second = inl (both.0, some_both xs ys zs ws both.1 second)
some_both (x ∷ xs) (y ∷ ys) zs ws (inr past) second = inr (some_both (x ∷ xs) ys zs ws past second)

-- an error is no success
pub not_ok : {E : Type 0} (Q : E → Type 0) (r : Result (Unit {0}) E) → IsErrAnd r Q → r ≡ Ok tt → ⊥
not_ok Q (Ok done) is ok = absurd is
not_ok Q (Err e) is ok = absurd cc

-- ---- sends

pub sends_none : {E : Type 0} (old : Option (List (ℕ × Bytes))) → SendsSome {E = E} [] (Ok tt) old old
sends_none old = record { some = []; told = more_none old; among = tt; all = λ _. refl }

both_ok : {E : Type 0} (r q : Result (Unit {0}) E) → first_failure r q ≡ Ok tt → (r ≡ Ok tt) × (q ≡ Ok tt)
both_ok (Ok done) q is = (refl, is)
both_ok (Err e) q is = absurd cc

pub sends_both : {E : Type 0} (xs ys : List (ℕ × Bytes)) (r q : Result (Unit {0}) E) (old mid new : Option (List (ℕ × Bytes)))
    → SendsSome xs r old mid → SendsSome ys q mid new → SendsSome (xs ++ ys) (first_failure r q) old new
sends_both xs ys r q old mid new first second = record {
  some = first.some ++ second.some;
  told = more_both old mid new first.some second.some first.told second.told;
  among = some_both first.some xs second.some ys first.among second.among;
  all = λ is. let ok = both_ok r q is in rw (first.all ok.0, second.all ok.1) refl;
}

-- one call
pub sends_call : {E : Type 0} (x : ℕ × Bytes) (r : Result (Unit {0}) E) (old new : Option (List (ℕ × Bytes))) → new ≡ with_more old (added_by r (λ _. x)) → SendsSome (x ∷ []) r old new
sends_call x (Ok done) old new told = record { some = x ∷ []; told = told; among = all_are_some (x ∷ []); all = λ _. refl }
sends_call x (Err e) old new told = record { some = []; told = told; among = tt; all = λ is. absurd cc }

-- ---- sends up to the first that fails

pub fronts_none : {E : Type 0} (old : Option (List (ℕ × Bytes))) → SendsFront {E = E} [] (Ok tt) old old
fronts_none old = record { front = []; rest = []; parts = refl; told = more_none old; all = λ _. refl }

-- none was made, since something failed before
pub fronts_nothing : {E : Type 0} (datagrams : List (ℕ × Bytes)) (q : Result (Unit {0}) E) (old : Option (List (ℕ × Bytes))) → (q ≡ Ok tt → ⊥) → SendsFront datagrams q old old
fronts_nothing datagrams q old failed = record { front = []; rest = datagrams; parts = refl; told = more_none old; all = λ is. absurd (failed is) }

-- all of them
pub fronts_all : {E : Type 0} (datagrams : List (ℕ × Bytes)) (old new : Option (List (ℕ × Bytes))) → SendsFront {E = E} datagrams (Ok tt) old new → new ≡ with_more old datagrams
fronts_all datagrams old new sends =
    let whole : sends.front ≡ datagrams = sym (append-nil sends.front) ∙ ap (λ rest. sends.front ++ rest) (sym (sends.all refl)) ∙ sends.parts in
    sends.told ∙ ap (with_more old) whole

-- more behind those that were all sent
pub fronts_both : {E : Type 0} (xs ys : List (ℕ × Bytes)) (q : Result (Unit {0}) E) (old mid new : Option (List (ℕ × Bytes))) → SendsFront {E = E} xs (Ok tt) old mid → SendsFront ys q mid new → SendsFront (xs ++ ys) q old new
fronts_both {E} xs ys q old mid new first second = record {
  front = xs ++ second.front;
  rest = second.rest;
  parts = append_assoc xs second.front second.rest ∙ ap (λ zs. xs ++ zs) second.parts;
  told = more_both old mid new xs second.front (fronts_all {E = E} xs old mid first) second.told;
  all = second.all;
}

-- and still more that were not begun
pub fronts_stop : {E : Type 0} (whole begun later : List (ℕ × Bytes)) (r q : Result (Unit {0}) E) (old new : Option (List (ℕ × Bytes)))
    → begun ++ later ≡ whole → SendsFront begun r old new → (q ≡ Ok tt → ⊥) → SendsFront whole q old new
fronts_stop whole begun later r q old new parts first failed = record {
  front = first.front;
  rest = first.rest ++ later;
  parts = sym (append_assoc first.front first.rest later) ∙ ap (λ zs. zs ++ later) first.parts ∙ parts;
  told = first.told;
  all = λ is. absurd (failed is);
}

-- a call that failed behind them adds nothing
pub fronts_kept : {E : Type 0} (datagrams : List (ℕ × Bytes)) (old mid new : Option (List (ℕ × Bytes))) → SendsFront {E = E} datagrams (Ok tt) old mid → new ≡ with_more mid [] → SendsFront {E = E} datagrams (Ok tt) old new
fronts_kept datagrams old mid new sends kept = record { front = sends.front; rest = sends.rest; parts = sends.parts; told = kept ∙ with_more-nil mid ∙ sends.told; all = sends.all }

pub fronts_one : {E : Type 0} (x : ℕ × Bytes) (old new : Option (List (ℕ × Bytes))) → new ≡ with_more old (x ∷ []) → SendsFront {E = E} (x ∷ []) (Ok tt) old new
fronts_one x old new told = record { front = x ∷ []; rest = []; parts = refl; told = told; all = λ _. refl }

-- ---- the loops

pub to_host_more : (pieces : List Bytes) (host i : ℕ) (piece : Bytes) → slice_get pieces i ≡ Some piece → to_host (take (i + 1) pieces) host ≡ to_host (take i pieces) host ++ (host, piece) ∷ []
to_host_more pieces host i piece is =
    rw (take_more pieces i piece (slice_get_within pieces i piece is), get_or_from_slice_get pieces i piece piece is)
    (map-append (λ (p : Bytes). (host, p)) (take i pieces) (piece ∷ []))

pub to_host_parts : (pieces : List Bytes) (host i : ℕ) → to_host (take i pieces) host ++ to_host (drop i pieces) host ≡ to_host pieces host
to_host_parts pieces host i = sym (map-append (λ (p : Bytes). (host, p)) (take i pieces) (drop i pieces)) ∙ ap (λ (ps : List Bytes). to_host ps host) (take-append-drop i pieces)

pub range_more : (a n : ℕ) → range_with_len a (suc n) ≡ range_with_len a n ++ (a + n) ∷ []
range_more a zero = ap (λ m. m ∷ []) (omega arith)
range_more a (suc n) =
    let last : a + 1 + n ≡ a + suc n = omega arith in
    ap (λ xs. a ∷ xs) (range_more (a + 1) n ∙ ap (λ m. range_with_len (a + 1) n ++ m ∷ []) last)

pub hosts_more : (pieces : List Bytes) (n : ℕ) → flat_map (to_host pieces) (range_with_len 0 (n + 1)) ≡ flat_map (to_host pieces) (range_with_len 0 n) ++ to_host pieces n
hosts_more pieces n =
    let last : 0 + n ≡ n = omega arith in
    rw add-one
    (ap (flat_map (to_host pieces)) (range_more 0 n ∙ ap (λ m. range_with_len 0 n ++ m ∷ []) last)
    ∙ flat_map-append (to_host pieces) (range_with_len 0 n) (n ∷ [])
    ∙ ap (λ xs. flat_map (to_host pieces) (range_with_len 0 n) ++ xs) (append-nil (to_host pieces n)))

-- a host, those before it and those behind it
range_parts : (a n m : ℕ) → range_with_len a n ++ (a + n) ∷ range_with_len (a + n + 1) m ≡ range_with_len a (n + 1 + m)
range_parts a zero m =
    let here : a + 0 ≡ a = omega arith in
    let size : 0 + 1 + m ≡ suc m = omega arith in
    rw (here, size) refl
range_parts a (suc n) m =
    let place : a + suc n ≡ a + 1 + n = omega arith in
    let size : suc n + 1 + m ≡ suc (n + 1 + m) = omega arith in
    rw (place, size) (ap (λ xs. a ∷ xs) (range_parts (a + 1) n m))

pub hosts_parts : (pieces : List Bytes) (host hosts : ℕ) → host + 1 ≤ hosts
    → (flat_map (to_host pieces) (range_with_len 0 host) ++ to_host pieces host) ++ flat_map (to_host pieces) (range_with_len (host + 1) (hosts - (host + 1))) ≡ flat_map (to_host pieces) (range_with_len 0 hosts)
hosts_parts pieces host hosts lt =
    let more = hosts - (host + 1) in
    let size : host + 1 + more ≡ hosts = omega (arith, lt) in
    let here : 0 + host ≡ host = omega arith in
    let range = subst (λ k. range_with_len 0 host ++ k ∷ range_with_len (k + 1) more ≡ range_with_len 0 (host + 1 + more)) here (range_parts 0 host more) in
    append_assoc (flat_map (to_host pieces) (range_with_len 0 host)) (to_host pieces host) (flat_map (to_host pieces) (range_with_len (host + 1) more))
    ∙ sym (flat_map-append (to_host pieces) (range_with_len 0 host) (host ∷ range_with_len (host + 1) more))
    ∙ ap (flat_map (to_host pieces)) (range ∙ ap (range_with_len 0) size)

-- ---- messages in a row

pub posts-append : (hosts number : ℕ) (ms ns : List Bytes) → posts hosts number (ms ++ ns) ≡ posts hosts number ms ++ posts hosts (number_after number ms) ns
posts-append hosts number [] ns = refl
posts-append hosts number (m ∷ ms) ns = ap (λ xs. to_all hosts number m ++ xs) (posts-append hosts (next_number number) ms ns) ∙ sym (append_assoc (to_all hosts number m) (posts hosts (next_number number) ms) (posts hosts (number_after (next_number number) ms) ns))

pub number_after-append : (number : ℕ) (ms ns : List Bytes) → number_after number (ms ++ ns) ≡ number_after (number_after number ms) ns
number_after-append number [] ns = refl
number_after-append number (m ∷ ms) ns = number_after-append (next_number number) ms ns

-- one more message
pub posts_next : (hosts number : ℕ) (ms : List Bytes) (m : Bytes) → posts hosts number (ms ++ m ∷ []) ≡ posts hosts number ms ++ to_all hosts (number_after number ms) m
posts_next hosts number ms m = posts-append hosts number ms (m ∷ []) ∙ ap (λ xs. posts hosts number ms ++ xs) (append-nil (to_all hosts (number_after number ms) m))

-- ---- messages, each in turn

-- none was begun
pub turns_none : (messages : List Bytes) (hosts number : ℕ) (old new : Option (List (ℕ × Bytes))) → new ≡ old → SendsInTurn messages hosts number number old new
turns_none messages hosts number old new kept = record { begun = []; later = messages; whole = refl; front = []; rest = []; parts = refl; told = kept ∙ more_none old; counted = refl }

-- all were sent
pub turns_all : (messages : List Bytes) (hosts number behind : ℕ) (old new : Option (List (ℕ × Bytes))) → new ≡ with_more old (posts hosts number messages) → behind ≡ number_after number messages → SendsInTurn messages hosts number behind old new
turns_all messages hosts number behind old new sent counted = record {
  begun = messages;
  later = [];
  whole = append-nil messages;
  front = posts hosts number messages;
  rest = [];
  parts = append-nil (posts hosts number messages);
  told = sent;
  counted = counted;
}

-- one was begun
pub turns_one : {E : Type 0} (message : Bytes) (hosts number behind : ℕ) (r : Result (Unit {0}) E) (old new : Option (List (ℕ × Bytes))) → SendsFront (to_all hosts number message) r old new → behind ≡ next_number number
    → SendsInTurn (message ∷ []) hosts number behind old new
turns_one message hosts number behind r old new sends counted = record {
  begun = message ∷ [];
  later = [];
  whole = refl;
  front = sends.front;
  rest = sends.rest;
  parts = sends.parts ∙ sym (append-nil (to_all hosts number message));
  told = sends.told;
  counted = counted;
}

-- behind messages that were all sent
pub turns_behind : (ms ns : List Bytes) (hosts number between behind : ℕ) (old mid new : Option (List (ℕ × Bytes))) → mid ≡ with_more old (posts hosts number ms) → between ≡ number_after number ms
    → SendsInTurn ns hosts between behind mid new → SendsInTurn (ms ++ ns) hosts number behind old new
turns_behind ms ns hosts number between behind old mid new sent counted turns = record {
  begun = ms ++ turns.begun;
  later = turns.later;
  whole = append_assoc ms turns.begun turns.later ∙ ap (λ l. ms ++ l) turns.whole;
  front = posts hosts number ms ++ turns.front;
  rest = turns.rest;
  parts =
      append_assoc (posts hosts number ms) turns.front turns.rest
      ∙ ap (λ l. posts hosts number ms ++ l) (turns.parts ∙ ap (λ n. posts hosts n turns.begun) counted)
      ∙ sym (posts-append hosts number ms turns.begun);
  told = more_both old mid new (posts hosts number ms) turns.front sent turns.told;
  counted = turns.counted ∙ ap (λ n. number_after n turns.begun) counted ∙ sym (number_after-append number ms turns.begun);
}

-- before others that were not begun
pub turns_before : (ms ns all : List Bytes) (hosts number behind : ℕ) (old new : Option (List (ℕ × Bytes))) → ms ++ ns ≡ all → SendsInTurn ms hosts number behind old new → SendsInTurn all hosts number behind old new
turns_before ms ns all hosts number behind old new parts turns = record {
  begun = turns.begun;
  later = turns.later ++ ns;
  whole = sym (append_assoc turns.begun turns.later ns) ∙ ap (λ l. l ++ ns) turns.whole ∙ parts;
  front = turns.front;
  rest = turns.rest;
  parts = turns.parts;
  told = turns.told;
  counted = turns.counted;
}

-- more operations
pub requests-append : (secret : Bytes) (seq : ℕ) (ops more : List Bytes) (receives later : List (List Receive)) → length receives ≡ length ops
    → requests secret seq (ops ++ more) (receives ++ later) ≡ requests secret seq ops receives ++ requests secret (seq + length receives) more later
requests-append secret seq [] more [] later len =
    let here : seq ≡ seq + 0 = omega arith in
    ap (λ n. requests secret n more later) here
requests-append secret seq [] more (r ∷ rs) later len = absurd cc
requests-append secret seq (o ∷ ops) more [] later len = absurd cc
requests-append secret seq (o ∷ ops) more (r ∷ rs) later len =
    let rest = requests-append secret (seq + 1) ops more rs later (omega arith) in
    let here : seq + 1 + length rs ≡ seq + suc (length rs) = omega arith in
    ap (λ ms. request_each (request_bytes secret seq o) r ++ ms) rest
    ∙ sym (append_assoc (request_each (request_bytes secret seq o) r) (requests secret (seq + 1) ops rs) (requests secret (seq + 1 + length rs) more later))
    ∙ ap (λ n. (request_each (request_bytes secret seq o) r ++ requests secret (seq + 1) ops rs) ++ requests secret n more later) here

-- those for which there are receives
pub requests_front : (secret : Bytes) (seq : ℕ) (ops more : List Bytes) (receives : List (List Receive)) → length receives ≤ length ops → requests secret seq (ops ++ more) receives ≡ requests secret seq ops receives
requests_front secret seq [] [] [] few = refl
requests_front secret seq [] (m ∷ more) [] few = refl
requests_front secret seq [] more (r ∷ rs) few = absurd (omega arith)
requests_front secret seq (o ∷ ops) more [] few = refl
requests_front secret seq (o ∷ ops) more (r ∷ rs) few = ap (λ ms. request_each (request_bytes secret seq o) r ++ ms) (requests_front secret (seq + 1) ops more rs (omega arith))

-- those for more operations begin with them
pub requests_more : (secret : Bytes) (seq : ℕ) (ops more : List Bytes) (receives : List (List Receive)) → (later : List Bytes) × (requests secret seq ops receives ++ later ≡ requests secret seq (ops ++ more) receives)
requests_more secret seq [] more receives = (requests secret seq more receives, refl)
requests_more secret seq (o ∷ ops) more [] = ([], refl)
requests_more secret seq (o ∷ ops) more (r ∷ rs) =
    let rest = requests_more secret (seq + 1) ops more rs in
    let first = request_each (request_bytes secret seq o) r in
    (rest.0, append_assoc first (requests secret (seq + 1) ops rs) rest.0 ∙ ap (λ ms. first ++ ms) rest.1)

-- where all operations were asked, there are none for one more
pub requests_asked : (secret : Bytes) (seq : ℕ) (ops : List Bytes) (receives : List (List Receive)) (got : List Receive) → length receives ≡ length ops → requests secret seq ops (receives ++ got ∷ []) ≡ requests secret seq ops receives
requests_asked secret seq [] [] got len = refl
requests_asked secret seq [] (r ∷ rs) got len = absurd cc
requests_asked secret seq (o ∷ ops) [] got len = absurd cc
requests_asked secret seq (o ∷ ops) (r ∷ rs) got len = ap (λ ms. request_each (request_bytes secret seq o) r ++ ms) (requests_asked secret (seq + 1) ops rs got (omega arith))

-- a request again at each quiet
pub quiets_more : (request : Bytes) (got more : List Receive) → replicate (quiets (got ++ more)) request ≡ replicate (quiets got) request ++ replicate (quiets more) request
quiets_more request got more = ap (λ n. replicate n request) (sum_by-append (λ (x : Receive). cond (is_none x) 1 0) got more) ∙ sym (replicate-append-replicate (quiets got) (quiets more) request)

pub sends_all : {E : Type 0} (datagrams : List (ℕ × Bytes)) (old new : Option (List (ℕ × Bytes))) → SendsSome {E = E} datagrams (Ok tt) old new → new ≡ with_more old datagrams
sends_all datagrams old new sends = sends.told ∙ ap (with_more old) (sends.all refl)

-- ---- lists that are gone through

pub take_next : {A : Type 0} (xs : List A) (i : ℕ) (x : A) → slice_get xs i ≡ Some x → take (i + 1) xs ≡ take i xs ++ x ∷ []
take_next xs i x is = take_more xs i x (slice_get_within xs i x is) ∙ ap (λ y. take i xs ++ y ∷ []) (get_or_from_slice_get xs i x x is)

-- the whole list around an item
pub parts_at : {A : Type 0} (xs : List A) (i : ℕ) (x : A) → slice_get xs i ≡ Some x → (take i xs ++ x ∷ []) ++ drop (i + 1) xs ≡ xs
parts_at xs i x is = ap (λ front. front ++ drop (i + 1) xs) (sym (take_next xs i x is)) ∙ take-append-drop (i + 1) xs

pub all_at : {A : Type 0} (P : A → Type 0) (xs : List A) (i : ℕ) (x : A) → AllByRecursion P xs → slice_get xs i ≡ Some x → P x
all_at P [] i x all is = absurd cc
all_at P (y ∷ xs) zero x all is = let same : y ≡ x = cc in subst P same all.0
all_at P (y ∷ xs) (suc i) x all is = all_at P xs i x all.1 is
