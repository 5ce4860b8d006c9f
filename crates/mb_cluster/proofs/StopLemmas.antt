-- The datagram of a STOP: it is the one piece of that message, and holds its number in four bytes.
use Rattle.std.proofs.Common.{◌≡◌, ℕ, ◌+◌, ◌^◌, ◌≤◌, ◌<◌, List, [], ◌∷◌, ◌++◌, length, map, get_or, take, drop, replicate, Option, Result, refl, sym, ap, subst, ◌∙◌, length-append, length-take, arith}
use Rattle.std.specs.Int.{w8, w32}
use Rattle.std.specs.List.{flat_map, range_with_len}
use Rattle.std.proofs.lemmas.Grind.{replicate_next}
use Rattle.std.proofs.lemmas.List.{take_all}
use Rattle.std.proofs.lemmas.List.Concat.{flat_map-cons}
use Rattle.std.proofs.lemmas.List.FromFn.{map-range_with_len_more}
use Rattle.mb_base.specs.Shapes.{Bytes}
use Rattle.mb_base.specs.Spelling.{number}
use Rattle.mb_base.proofs.Laws.{number_length, wide8, wide32}
use Rattle.mb_usig.specs.Tags.{stop_tag}
use Rattle.mb_msg.specs.Spelling.{spelling}
use Rattle.mb_frag.specs.declared.limits.TheConstants.{PIECE}
use Rattle.mb_frag.specs.Pieces.{header_text, datagram_of}
use Rattle.mb_frag.specs.Cutting.{piece_count, part, piece_text, pieces_of}
use Rattle.mb_frag.proofs.CuttingLemmas.{count_bounds}
use Rattle.mb_cluster.specs.Posts.{program, next_number, to_host, to_all, posts, number_after, stop_bytes, stop_datagram}
use Rattle.mb_cluster.specs.Sends.{first_failure, SendsSome}
use Rattle.mb_cluster.specs.Stopping.{IsStop, round}
use Rattle.mb_cluster.specs.Missing.{SendsBut}
use Rattle.mb_cluster.proofs.SendLemmas.{sends_both, posts_next, number_after-append}
use Rattle.mb_cluster.proofs.FewLemmas.{buts_both}
use Rattle.mb_cluster.proofs.SizeLemmas.{stop_tag_length}

-- ---- one piece

one_piece : (message : Bytes) → 1 ≤ length message → length message ≤ PIECE → piece_count message ≡ 1
one_piece message some short = let bounds = count_bounds message in omega (arith, bounds.0, bounds.1, some, short)

short_pieces : (sender n : ℕ) (message : Bytes) → 1 ≤ length message → length message ≤ PIECE → pieces_of sender n message ≡ datagram_of (record { sender = sender; number = n; index = 0; count = 1 }) message ∷ []
unfolding pieces_of
short_pieces sender n message some short =
    let count = one_piece message some short in
    let all : part message 0 ≡ message = take_all PIECE message short in
    ap (λ (k : ℕ). map (piece_text sender n message) (range_with_len 0 k)) count
    ∙ ap (λ (k : ℕ). datagram_of (record { sender = sender; number = n; index = 0; count = k }) (part message 0) ∷ []) count
    ∙ ap (λ (bytes : Bytes). datagram_of (record { sender = sender; number = n; index = 0; count = 1 }) bytes ∷ []) all

stop_length : (secret : Bytes) → length (stop_bytes secret) ≡ 33
unfolding spelling
stop_length secret = omega (arith, length-append (number w8 16) (stop_tag secret), number_length w8 (2 ^ 8) 16 wide8, stop_tag_length secret)

pub stop_pieces : (secret : Bytes) (n : ℕ) → pieces_of program n (stop_bytes secret) ≡ stop_datagram secret n ∷ []
stop_pieces secret n = let len = stop_length secret in short_pieces program n (stop_bytes secret) (omega (arith, len)) (omega (arith, len))

-- the pieces of a STOP, as they were cut
module _ (secret message : Bytes) (pieces : List Bytes) (stop : message ≡ stop_bytes secret) (cut : pieces ≡ pieces_of program 0 message) where
  cut_once : pieces ≡ stop_datagram secret 0 ∷ []
  cut_once = cut ∙ ap (λ (m : Bytes). pieces_of program 0 m) stop ∙ stop_pieces secret 0

  pub cut_some : 0 < length pieces
  cut_some = let once : length pieces ≡ 1 = ap length cut_once in omega (arith, once)

  pub first_cut : (first : Bytes) → first ≡ get_or pieces 0 first → first ≡ stop_datagram secret 0
  first_cut first there = there ∙ ap (λ (ps : List Bytes). get_or ps 0 first) cut_once

-- ---- its bytes

pub stop_long : (secret : Bytes) (n : ℕ) → 5 ≤ length (stop_datagram secret n)
stop_long secret n = omega (arith, length-append (header_text (record { sender = program; number = n; index = 0; count = 1 })) (stop_bytes secret), stop_length secret)

pub stop_renumbered : (secret old : Bytes) (n : ℕ) → IsStop secret old → take 1 old ++ (number w32 n ++ drop 5 old) ≡ stop_datagram secret n
unfolding number header_text
stop_renumbered secret old n is = rw is.is refl

pub renumbered_long : (old new : Bytes) (n : ℕ) → 5 ≤ length old → new ≡ take 1 old ++ (number w32 n ++ drop 5 old) → 5 ≤ length new
renumbered_long old new n long is =
    let all = ap length is in
    omega (arith, all, long, length-append (take 1 old) (number w32 n ++ drop 5 old), length-append (number w32 n) (drop 5 old), number_length w32 (2 ^ 32) n wide32, length-take 1 old)

-- ---- rounds

singles : (datagram : Bytes) (hosts : List ℕ) → flat_map (to_host (datagram ∷ [])) hosts ≡ map (λ host. (host, datagram)) hosts
singles datagram [] = refl
singles datagram (host ∷ hosts) = flat_map-cons {X = ℕ} (to_host (datagram ∷ [])) host hosts ∙ ap (λ l. (host, datagram) ∷ l) (singles datagram hosts)

pub round_is : (secret : Bytes) (hosts n : ℕ) → round hosts (stop_datagram secret n) ≡ to_all hosts n (stop_bytes secret)
round_is secret hosts n = sym (ap (λ ps. flat_map (to_host ps) (range_with_len 0 hosts)) (stop_pieces secret n) ∙ singles (stop_datagram secret n) (range_with_len 0 hosts))

pub round_more : (hosts : ℕ) (datagram : Bytes) → round (hosts + 1) datagram ≡ round hosts datagram ++ (hosts, datagram) ∷ []
round_more hosts datagram = map-range_with_len_more (λ host. (host, datagram)) 0 hosts hosts (omega arith)

-- one round more
pub rounds_more : {E : Type 0} (secret datagram : Bytes) (hosts first k n : ℕ) (r q : Result (Unit {0}) E) (old mid new : Option (List (ℕ × Bytes))) → datagram ≡ stop_datagram secret n → n ≡ number_after first (replicate k (stop_bytes secret))
    → SendsSome (posts hosts first (replicate k (stop_bytes secret))) r old mid → SendsSome (round hosts datagram) q mid new → SendsSome (posts hosts first (replicate (k + 1) (stop_bytes secret))) (first_failure r q) old new
rounds_more secret datagram hosts first k n r q old mid new is counted before one =
    let stop = stop_bytes secret in
    let earlier = replicate k stop in
    let round_sent = subst (λ ds. SendsSome ds q mid new) (ap (round hosts) is ∙ round_is secret hosts n ∙ ap (λ m. to_all hosts m stop) counted) one in
    rw (replicate_next k stop, posts_next hosts first earlier stop) (sends_both (posts hosts first earlier) (to_all hosts (number_after first earlier) stop) r q old mid new before round_sent)

-- and what is missing of it
pub rounds_but : (secret datagram : Bytes) (hosts first k n f g h : ℕ) (old mid new : Option (List (ℕ × Bytes))) → datagram ≡ stop_datagram secret n → n ≡ number_after first (replicate k (stop_bytes secret))
    → SendsBut (posts hosts first (replicate k (stop_bytes secret))) f g old mid → SendsBut (round hosts datagram) g h mid new → g ≤ h → SendsBut (posts hosts first (replicate (k + 1) (stop_bytes secret))) f h old new
rounds_but secret datagram hosts first k n f g h old mid new is counted before one later =
    let stop = stop_bytes secret in
    let earlier = replicate k stop in
    let round_sent = subst (λ ds. SendsBut ds g h mid new) (ap (round hosts) is ∙ round_is secret hosts n ∙ ap (λ m. to_all hosts m stop) counted) one in
    rw (replicate_next k stop, posts_next hosts first earlier stop) (buts_both (posts hosts first earlier) (to_all hosts (number_after first earlier) stop) f g h old mid new before round_sent later)

pub rounds_counted : (secret : Bytes) (first k n : ℕ) → n ≡ number_after first (replicate k (stop_bytes secret)) → next_number n ≡ number_after first (replicate (k + 1) (stop_bytes secret))
rounds_counted secret first k n counted =
    let stop = stop_bytes secret in
    rw (replicate_next k stop, number_after-append first (replicate k stop) (stop ∷ [])) (ap next_number counted)
