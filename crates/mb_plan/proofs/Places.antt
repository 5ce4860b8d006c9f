-- Votes by place: one more entry changes the place of its position, or all; and the lowest of all logs, place by place.
use Rattle.std.proofs.Common.{◌≡◌, ◌≢◌, ℕ, ◌+◌, ◌-◌, ◌≤◌, ◌<◌, List, ◌∷◌, length, map, drop, slice_get, set, replicate, length-set, get_or-set_same, get_or-set_other, Option, Some, None, refl, sym, ap, subst, ◌∙◌, inl, inr, arith}
use Rattle.std.specs.Prelude.{option_map, nat_lt, ◌==◌, if◌then◌else◌}
use Rattle.std.proofs.lemmas.Bool.{cases_lt, lt-ltb, le-ltb, ne_eqb, eq-eqb, cases_eq}
use Rattle.std.proofs.lemmas.List.{get_or-replicate}
use Rattle.mb_msg.specs.declared.stamped.Shown.{Shown}
use Rattle.mb_model.specs.Plans.{ShownVote, newest, vote_since, lower_vote, lowest_vote}
use Rattle.mb_plan.specs.declared.logs.ShownLog.{ShownLog as LentLog}
use Rattle.mb_plan.specs.declared.shown_votes.ShownVote.{ShownVote as LentVote}
use Rattle.mb_plan.specs.Lent.{shown, vote, vote_at, AreVotes}
use Rattle.mb_plan.proofs.Joins.{lower_joins, lower_none}
use Rattle.mb_plan.proofs.Folds.{rest_next, rest_none}

pub put_here : (votes : List (Option LentVote)) (i : ℕ) (v : Option LentVote) → i < length votes → vote_at (set votes i v) i ≡ option_map vote v
put_here votes i v lt = ap (option_map vote) (get_or-set_same votes i v None lt)

pub put_elsewhere : (votes : List (Option LentVote)) (i k : ℕ) (v : Option LentVote) → k ≢ i → vote_at (set votes i v) k ≡ vote_at votes k
put_elsewhere votes i k v ne = ap (option_map vote) (get_or-set_other votes i k v None ne)

-- without votes
pub none_at : (n i : ℕ) → i < n → vote_at (replicate n None) i ≡ None
none_at n i lt = ap (option_map vote) (get_or-replicate n i None None lt)

-- ---- one more entry

here : (x y : Option ShownVote) (pos q : ℕ) → pos ≡ q → (if pos == q then x else y) ≡ x
here x y pos q at = rw (eq-eqb pos q at) refl

elsewhere : (x y : Option ShownVote) (pos q : ℕ) → pos ≢ q → (if pos == q then x else y) ≡ y
elsewhere x y pos q other = rw (ne_eqb pos q other) refl

-- what an entry votes for changes the place of its position alone
module _ (votes : List (Option LentVote)) (base pos : ℕ) (v : Option LentVote) (e : Shown) (l : List Shown)
    (step : (q : ℕ) → vote_since q (e ∷ l) ≡ (if pos == q then option_map vote v else vote_since q l)) (are : AreVotes votes base l) where
  put_above : base < pos → AreVotes (set votes (pos - base - 1) v) base (e ∷ l)
  put_above above = λ i lt.
      let within : i < length votes = omega (arith, lt, length-set votes (pos - base - 1) v) in
      elim (cases_eq pos (base + 1 + i)) [
        | inl at ↦
            let place : pos - base - 1 ≡ i = omega (arith, at) in
            let inside : pos - base - 1 < length votes = omega (arith, place, within) in
            ap (vote_at (set votes (pos - base - 1) v)) (sym place) ∙ put_here votes (pos - base - 1) v inside
            ∙ sym (step (base + 1 + i) ∙ here (option_map vote v) (vote_since (base + 1 + i) l) pos (base + 1 + i) at)
        | inr other ↦
            let ne : i ≢ pos - base - 1 = λ x. other (omega (arith, above, x)) in
            put_elsewhere votes (pos - base - 1) i v ne ∙ are i within
            ∙ sym (step (base + 1 + i) ∙ elsewhere (option_map vote v) (vote_since (base + 1 + i) l) pos (base + 1 + i) other)
      ]

  put_below : pos ≤ base → AreVotes votes base (e ∷ l)
  put_below below = λ i lt.
      let other : pos ≢ base + 1 + i = λ x. absurd (omega (arith, below, x)) in
      are i lt ∙ sym (step (base + 1 + i) ∙ elsewhere (option_map vote v) (vote_since (base + 1 + i) l) pos (base + 1 + i) other)

  pub put_vote : AreVotes (if nat_lt base pos then set votes (pos - base - 1) v else votes) base (e ∷ l)
  put_vote = elim (cases_lt base pos) [
    | inl above ↦ subst (λ (x : List (Option LentVote)). AreVotes x base (e ∷ l)) (sym (taken above)) (put_above above)
    | inr below ↦ subst (λ (x : List (Option LentVote)). AreVotes x base (e ∷ l)) (sym (left below)) (put_below below)
  ] where
    taken : base < pos → (if nat_lt base pos then set votes (pos - base - 1) v else votes) ≡ set votes (pos - base - 1) v
    taken above = rw (lt-ltb base pos above) refl

    left : pos ≤ base → (if nat_lt base pos then set votes (pos - base - 1) v else votes) ≡ votes
    left below = rw (le-ltb base pos below) refl

module _ (old : List (Option LentVote)) (base : ℕ) (e : Shown) where
  -- The places before one have the entry, and the others are as they were.
  pub record NotedTo (votes : List (Option LentVote)) (index : ℕ) : Type 0 where
    pub noted : (k : ℕ) → k < index → (l : List Shown) → vote_at old k ≡ vote_since (base + 1 + k) l → vote_at votes k ≡ vote_since (base + 1 + k) (e ∷ l)
    pub others : (k : ℕ) → index ≤ k → vote_at votes k ≡ vote_at old k

  pub note_next : (votes : List (Option LentVote)) (index : ℕ) (v : Option LentVote) → index < length votes → NotedTo votes index
      → ((l : List Shown) → vote_at votes index ≡ vote_since (base + 1 + index) l → option_map vote v ≡ vote_since (base + 1 + index) (e ∷ l)) → NotedTo (set votes index v) (index + 1)
  note_next votes index v within so_far noted_here = record {
    noted = λ k lt l was. elim (cases_eq k index) [
      | inl same ↦
          let was_here : vote_at old index ≡ vote_since (base + 1 + index) l = subst (λ (j : ℕ). vote_at old j ≡ vote_since (base + 1 + j) l) same was in
          subst (λ (j : ℕ). vote_at (set votes index v) j ≡ vote_since (base + 1 + j) (e ∷ l)) (sym same)
          (put_here votes index v within ∙ noted_here l (so_far.others index (omega arith) ∙ was_here))
      | inr ne ↦ put_elsewhere votes index k v ne ∙ so_far.noted k (omega (arith, lt, ne)) l was
    ];
    others = λ k le. put_elsewhere votes index k v (λ x. absurd (omega (arith, le, x))) ∙ so_far.others k (omega (arith, le));
  }

-- ---- the lower of two, place by place

module _ (old votes : List (Option LentVote)) where
  pub record LowerTo (lowest : List (Option LentVote)) (index : ℕ) : Type 0 where
    pub lower : (k : ℕ) → k < index → vote_at lowest k ≡ lower_vote (vote_at old k) (vote_at votes k)
    pub others : (k : ℕ) → index ≤ k → vote_at lowest k ≡ vote_at old k

  pub lower_next : (lowest : List (Option LentVote)) (index : ℕ) (v : Option LentVote) → index < length lowest → LowerTo lowest index
      → option_map vote v ≡ lower_vote (vote_at lowest index) (vote_at votes index) → LowerTo (set lowest index v) (index + 1)
  lower_next lowest index v within so_far lower_here = record {
    lower = λ k lt. elim (cases_eq k index) [
      | inl same ↦
          subst (λ (j : ℕ). vote_at (set lowest index v) j ≡ lower_vote (vote_at old j) (vote_at votes j)) (sym same)
          (put_here lowest index v within ∙ lower_here ∙ ap (λ x. lower_vote x (vote_at votes index)) (so_far.others index (omega arith)))
      | inr ne ↦ put_elsewhere lowest index k v ne ∙ so_far.lower k (omega (arith, lt, ne))
    ];
    others = λ k le. put_elsewhere lowest index k v (λ x. absurd (omega (arith, le, x))) ∙ so_far.others k (omega (arith, le));
  }

-- ---- the lowest of all logs

module _ (p : ℕ) (voters : List LentLog) where
  -- joined with those of the logs from a place on
  abbrev pub LowestFrom : ℕ → Option ShownVote → Type 0
  LowestFrom index x = lower_vote x (lowest_vote p (map shown (drop index voters))) ≡ lowest_vote p (map shown voters)

  pub lowest_next : (index : ℕ) (log : LentLog) → slice_get voters index ≡ Some log → (a x : Option ShownVote) → x ≡ lower_vote a (vote_since p (newest (shown log)))
      → LowestFrom index a → LowestFrom (index + 1) x
  lowest_next index log at a x is so_far =
      ap (λ v. lower_vote v (lowest_vote p (map shown (drop (index + 1) voters)))) is
      ∙ lower_joins a (vote_since p (newest (shown log))) (lowest_vote p (map shown (drop (index + 1) voters)))
      ∙ sym (rest_next (λ l. lower_vote a (lowest_vote p (map shown l))) voters index log at)
      ∙ so_far

  pub lowest_all : (index : ℕ) (x : Option ShownVote) → length voters ≤ index → LowestFrom index x → x ≡ lowest_vote p (map shown voters)
  lowest_all index x le so_far = sym (lower_none x) ∙ sym (rest_none (λ l. lower_vote x (lowest_vote p (map shown l))) voters index le) ∙ so_far
