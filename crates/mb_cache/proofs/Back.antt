-- The bytes of a table give it back.
use Rattle.std.proofs.Common.{◌≡◌, ℕ, suc, ◌+◌, ◌<◌, ◌^◌, List, [], ◌∷◌, ◌++◌, length, refl, ap, ◌∙◌, arith, length-append, Ok}
use Rattle.std.specs.List.{AllByRecursion, flat_map}
use Rattle.std.specs.Int.{w16, w64}
use Rattle.std.proofs.lemmas.List.{append_assoc}
use Rattle.std.proofs.lemmas.List.Concat.{flat_map-cons}
use Rattle.mb_base.specs.Shapes.{Bytes}
use Rattle.mb_base.specs.Spelling.{number}
use Rattle.mb_base.specs.Reading.{cursor, number_at, repeat_at}
use Rattle.mb_base.proofs.Laws.{number_field, checked_field, bytes_field, wide16, wide64}
use Rattle.mb_model.specs.declared.known.LastReply.{LastReply}
use Rattle.mb_model.specs.States.{is_place_of, is_size_of, last_reply_at, table_bytes, table_of}
use Rattle.mb_cache.specs.Tables.{IsLast, last_text}
use Rattle.mb_cache.proofs.Clients.{place_small, size_small}

regrouped : (a b c d rest : Bytes) → (a ++ (b ++ (c ++ d))) ++ rest ≡ a ++ (b ++ (c ++ (d ++ rest)))
regrouped a b c d rest = append_assoc a (b ++ (c ++ d)) rest ∙ ap (λ (x : Bytes). a ++ x) (append_assoc b (c ++ d) rest ∙ ap (λ (x : Bytes). b ++ x) (append_assoc c d rest))

last_length : (a b c d : Bytes) → length (a ++ (b ++ (c ++ d))) ≡ ((length a + length b) + length c) + length d
last_length a b c d = omega (arith, length-append a (b ++ (c ++ d)), length-append b (c ++ d), length-append c d)

last_again : (a : LastReply) (at : ℕ) (rest : Bytes) → IsLast a → last_reply_at (cursor at (last_text a ++ rest)) ≡ Ok (a, cursor (at + length (last_text a)) rest)
unfolding last_reply_at
last_again a at rest f =
    let s : Bytes = number w64 a.seq in
    let p : Bytes = number w64 a.pos in
    let n : Bytes = number w16 (length a.result) in
    let place : (((at + length s) + length p) + length n) + length a.result ≡ at + length (last_text a) = omega (arith, last_length s p n a.result) in
    let pos : a.pos < 2 ^ 64 = omega (arith, place_small a.seq a.pos f.place) in
    let size : length a.result < 2 ^ 16 = omega (arith, size_small a.seq (length a.result) f.size) in
    ap (λ (x : Bytes). last_reply_at (cursor at x)) (regrouped s p n a.result rest)
    ∙ rw (
      (number_field w64 (2 ^ 64) wide64).again a.seq at (p ++ (n ++ (a.result ++ rest))) f.seq,
      (checked_field (is_place_of a.seq) (number_at w64) (number w64) (λ k. k < 2 ^ 64) (number_field w64 (2 ^ 64) wide64)).again a.pos (at + length s) (n ++ (a.result ++ rest)) (pos, f.place),
      (checked_field (is_size_of a.seq) (number_at w16) (number w16) (λ k. k < 2 ^ 16) (number_field w16 (2 ^ 16) wide16)).again (length a.result) ((at + length s) + length p) (a.result ++ rest) (size, f.size),
      (bytes_field (length a.result)).again a.result (((at + length s) + length p) + length n) rest refl,
    )
    (ap (λ (k : ℕ). Ok (a, cursor k rest)) place)

table_again : (t : List LastReply) (at : ℕ) → AllByRecursion IsLast t → repeat_at last_reply_at (length t) (cursor at (flat_map last_text t)) ≡ Ok (t, cursor (at + length (flat_map last_text t)) [])
unfolding repeat_at
table_again [] at f = let s : at + 0 ≡ at = omega arith in rw s refl
table_again (a ∷ t) at f =
    let more : flat_map last_text (a ∷ t) ≡ last_text a ++ flat_map last_text t = flat_map-cons last_text a t in
    let place : (at + length (last_text a)) + length (flat_map last_text t) ≡ at + length (flat_map last_text (a ∷ t)) = omega (arith, length-append (last_text a) (flat_map last_text t), ap length more) in
    ap (λ (r : Bytes). repeat_at last_reply_at (suc (length t)) (cursor at r)) more
    ∙ rw (last_again a at (flat_map last_text t) f.0, table_again t (at + length (last_text a)) f.1) (ap (λ (k : ℕ). Ok (a ∷ t, cursor k [])) place)

pub table_back : (t : List LastReply) → AllByRecursion IsLast t → table_of (length t) (table_bytes t) ≡ Ok t
unfolding table_of table_bytes
table_back t f = rw (table_again t 0 f) refl
