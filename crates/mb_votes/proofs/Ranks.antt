-- Ranks tell how many hosts gave a vote, also behind one vote more.
use Rattle.std.proofs.Common.{◌≡◌, ℕ, zero, suc, ◌+◌, ◌<◌, ◌≤◌, Bool, true, false, cond, List, [], ◌∷◌, length, set, get_or, max, Option, Some, None, inl, inr, refl, sym, ap, ◌∙◌, subst, arith, ◌&&◌, eqb, length-set}
use Rattle.std.specs.Prelude.{count_by}
use Rattle.std.specs.List.{list_any}
use Rattle.std.proofs.lemmas.Bool.{cases_Bool, cases_lt, lt-leb, le-leb, eq-eqb, eqb-true}
use Rattle.std.proofs.lemmas.List.Sums.{sum_by-set}
use Rattle.mb_base.specs.Limits.{most_hosts}
use Rattle.mb_usig.specs.Tags.{same_bytes}
use Rattle.mb_usig.proofs.Laws.{true-same_bytes, same_bytes-true}
use Rattle.mb_model.specs.declared.known.Vote.{Vote}
use Rattle.mb_model.specs.Votes.{is_vote}
use Rattle.mb_votes.specs.declared.ballot.Counted.{Counted}
use Rattle.mb_votes.specs.Counted.{vote_of, votes_of, rank_of, has_rank, greatest_rank, IsCounted}

-- ---- the votes alone

pub votes_set : (places : List (Option Counted)) (h : ℕ) (c : Counted) → votes_of (set places h (Some c)) ≡ set (votes_of places) h (Some c.vote)
votes_set [] h c = refl
votes_set (p ∷ ps) zero c = refl
votes_set (p ∷ ps) (suc h) c = ap (λ vs. vote_of p ∷ vs) (votes_set ps h c)

pub votes_get : (places : List (Option Counted)) (h : ℕ) → get_or (votes_of places) h None ≡ vote_of (get_or places h None)
votes_get [] h = refl
votes_get (p ∷ ps) zero = refl
votes_get (p ∷ ps) (suc h) = votes_get ps h

pub votes_length : (places : List (Option Counted)) → length (votes_of places) ≡ length places
votes_length [] = refl
votes_length (p ∷ ps) = ap suc (votes_length ps)

-- ---- ranks

greatest_set : (x : Vote) (places : List (Option Counted)) (h : ℕ) (c : Counted) → h < length places → get_or places h None ≡ None
    → greatest_rank x (set places h (Some c)) ≡ max (rank_of x (Some c)) (greatest_rank x places)
greatest_set x [] h c lt none = absurd (omega arith)
greatest_set x (p ∷ ps) zero c lt none = let e : p ≡ None = none in rw e (let z : max (rank_of x (Some c)) (greatest_rank x ps) ≡ max (rank_of x (Some c)) (max 0 (greatest_rank x ps)) = omega arith in z)
greatest_set x (p ∷ ps) (suc h) c lt none = let rest = greatest_set x ps h c (omega arith) none in omega (arith, rest)

-- 1 for a vote that is this one
abbrev one : Vote → Option Vote → ℕ
one x v = cond (is_vote v x) 1 0

count_set : (x v : Vote) (votes : List (Option Vote)) (h : ℕ) → h < length votes → get_or votes h None ≡ None
    → count_by (λ o. is_vote o x) (set votes h (Some v)) ≡ one x (Some v) + count_by (λ o. is_vote o x) votes
count_set x v votes h lt none =
    let put = sum_by-set (one x) votes h (Some v) None lt in
    let gone : one x (get_or votes h None) ≡ 0 = ap (one x) none in
    omega (arith, put, gone)

-- one vote more, with the rank behind the greatest of its kind
pub more_ranks : (x : Vote) (places : List (Option Counted)) (h : ℕ) (c : Counted) → h < length places → get_or places h None ≡ None
    → c.rank ≡ greatest_rank c.vote places + 1 → (is_vote (Some c.vote) x ≡ true → c.vote ≡ x)
    → greatest_rank x places ≡ count_by (λ o. is_vote o x) (votes_of places)
    → greatest_rank x (set places h (Some c)) ≡ count_by (λ o. is_vote o x) (votes_of (set places h (Some c)))
more_ranks x places h c lt none rank same stands =
    let ranked = greatest_set x places h c lt none in
    let wide : h < length (votes_of places) = rw (votes_length places) lt in
    let open_place : get_or (votes_of places) h None ≡ None = votes_get places h ∙ ap vote_of none in
    let counted = count_set x c.vote (votes_of places) h wide open_place in
    elim (cases_Bool (is_vote (Some c.vote) x)) [
      | inl t ↦
          let its : greatest_rank c.vote places ≡ greatest_rank x places = ap (λ (v : Vote). greatest_rank v places) (same t) in
          let here : rank_of x (Some c) ≡ c.rank = ap (λ b. cond b c.rank 0) t in
          let more : one x (Some c.vote) ≡ 1 = ap (λ b. cond b 1 0) t in
          rw (votes_set places h c) (omega (arith, ranked, counted, its, here, more, rank, stands))
      | inr f ↦
          let here : rank_of x (Some c) ≡ 0 = ap (λ b. cond b c.rank 0) f in
          let more : one x (Some c.vote) ≡ 0 = ap (λ b. cond b 1 0) f in
          rw (votes_set places h c) (omega (arith, ranked, counted, here, more, stands))
    ]

-- ---- whether so many hosts have equal votes

-- a vote with such a rank has as many hosts
pub ranked_agree : (q : ℕ) (places : List (Option Counted)) → list_any (has_rank q) places ≡ true → (x : Vote) × (q ≤ greatest_rank x places)
ranked_agree q [] e = absurd cc
ranked_agree q (None ∷ ps) e =
    let rest = ranked_agree q ps e in
    (rest.0, let le = rest.1 in omega (arith, le))
ranked_agree q (Some c ∷ ps) e = elim (cases_lt c.rank q) [
  | inl low ↦
      let rest = ranked_agree q ps (rw (lt-leb q c.rank low) at e) in
      (rest.0, let le = rest.1 in omega (arith, le))
  | inr le ↦
      let here : rank_of c.vote (Some c) ≡ c.rank = ap (λ b. cond b c.rank 0) (is_itself c.vote) in
      (c.vote, omega (arith, le, here))
] where
  is_itself : (v : Vote) → is_vote (Some v) v ≡ true
  is_itself v = rw (eq-eqb v.counter v.counter refl, true-same_bytes v.request v.request refl) refl

-- and where a vote has so many hosts, the rank of one of them is not less
pub agree_ranked : (q : ℕ) (x : Vote) (places : List (Option Counted)) → 1 ≤ q → q ≤ greatest_rank x places → list_any (has_rank q) places ≡ true
agree_ranked q x [] some le = absurd (omega (arith, some, le))
agree_ranked q x (None ∷ ps) some le = agree_ranked q x ps some (omega (arith, le))
agree_ranked q x (Some c ∷ ps) some le = elim (cases_lt c.rank q) [
  | inr enough ↦ rw (le-leb q c.rank enough) refl
  | inl low ↦
      let most = rank_most x c in
      rw (lt-leb q c.rank low) (agree_ranked q x ps some (omega (arith, le, most, low)))
] where
  rank_most : (y : Vote) (d : Counted) → rank_of y (Some d) ≤ d.rank
  rank_most y d = elim (is_vote (Some d.vote) y) as (λ b. cond b d.rank 0 ≤ d.rank) [ true ↦ omega arith | false ↦ omega arith ]

-- ---- one vote more in a ballot

same_vote : (a b : Vote) → is_vote (Some a) b ≡ true → a ≡ b
same_vote a b e =
    let counter : a.counter ≡ b.counter = eqb-true a.counter b.counter (and-first (eqb a.counter b.counter) (same_bytes a.request b.request) e) in
    let request : a.request ≡ b.request = same_bytes-true a.request b.request (and-second (eqb a.counter b.counter) (same_bytes a.request b.request) e) in
    ap (λ n. record { counter = n; request = a.request }) counter ∙ ap (λ r. record { counter = b.counter; request = r }) request where
      and-first : (p q : Bool) → (p && q) ≡ true → p ≡ true
      and-first true q h = refl
      and-first false q h = absurd cc

      and-second : (p q : Bool) → (p && q) ≡ true → q ≡ true
      and-second true q h = h
      and-second false q h = absurd cc

no_vote : (o : Option Counted) → vote_of o ≡ None → o ≡ None
no_vote None e = refl
no_vote (Some c) e = absurd cc

module _ (places : List (Option Counted)) (votes : List (Option Vote)) (h : ℕ) (v : Vote) (view : votes_of places ≡ votes) where
  pub added_view : (c : Counted) → c.vote ≡ v → votes_of (set places h (Some c)) ≡ set votes h (Some v)
  added_view c is = votes_set places h c ∙ ap (λ x. set (votes_of places) h (Some x)) is ∙ ap (λ l. set l h (Some v)) view

  pub added : (rank : ℕ) → IsCounted places → h < most_hosts → get_or votes h None ≡ None → rank ≡ count_by (λ o. is_vote o v) votes → IsCounted (set places h (Some (record { vote = v; rank = rank + 1 })))
  added rank counted lt first is =
      let c : Counted = record { vote = v; rank = rank + 1 } in
      let free : get_or places h None ≡ None = no_vote (get_or places h None) (sym (votes_get places h) ∙ ap (λ l. get_or l h None) view ∙ first) in
      let greatest : rank ≡ greatest_rank v places = is ∙ sym (ap (count_by (λ o. is_vote o v)) view) ∙ sym (counted.ranks v) in
      record {
        width = length-set places h (Some c) ∙ counted.width;
        ranks = λ x. more_ranks x places h c (subst (λ n. h < n) (sym counted.width) lt) free (ap (λ n. n + 1) greatest) (same_vote v x) (counted.ranks x);
      }
