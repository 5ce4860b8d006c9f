-- The votes of one message more, and of a plan more.
use Rattle.std.proofs.Common.{◌≡◌, ℕ, ◌+◌, ◌<◌, ◌^◌, Bool, true, false, cond, eqb, List, [], ◌∷◌, ◌++◌, length, Option, Some, None, option_map, refl, sym, ap, subst, ◌∙◌, inl, inr, arith}
use Rattle.std.specs.Prelude.{◌==◌, ◌&&◌, ◌||◌, if◌then◌else◌, nat_lt}
use Rattle.std.specs.Option.{option_or}
use Rattle.std.specs.List.{list_any}
use Rattle.std.proofs.lemmas.Bool.{cases_Bool, eqb-true, eq-eqb, ne_eqb, lt-ltb}
use Rattle.std.proofs.lemmas.List.Folds.{list_any-append}
use Rattle.mb_base.specs.Shapes.{Bytes}
use Rattle.mb_usig.specs.Tags.{same_bytes}
use Rattle.mb_usig.proofs.Laws.{same_bytes-true, true-same_bytes}
use Rattle.mb_parts.specs.Bares.{Bare}
use Rattle.mb_parts.specs.Bares as bare
use Rattle.mb_model.specs.declared.known.Vote.{Vote}
use Rattle.mb_model.specs.Committed.{Plans, PlanText, planned, vote_by}
use Rattle.mb_model.specs.Votes.{is_vote}
use Rattle.mb_learn.specs.declared.heard.Heard.{Heard}
use Rattle.mb_learn.specs.declared.heard.Opening.{Opening}
use Rattle.mb_learn.specs.declared.plans.KnownPlan.{KnownPlan}
use Rattle.mb_learn.specs.declared.votes.Cast.{Cast}
use Rattle.mb_learn.specs.declared.votes.Votes.{Votes}
use Rattle.mb_learn.specs.Hearing.{is_open, is_opening, Counts, CountsOnly, with_list}
use Rattle.mb_learn.specs.Lists.{has_vote}
use Rattle.mb_learn.specs.Tables.{text_of, casts_at, is_cast, is_among, AreLow, AddsCast, vote_of, by_openings, by_plan, AddsVotes}
use Rattle.mb_learn.proofs.Finds.{or_none}
use Rattle.mb_learn.proofs.Certified.{apart}
use Rattle.mb_learn.proofs.Tests.{and_false, and_turned, or_assoc, or_false, or_turned}

-- ---- tests

pub eqb_turned : (a b : ℕ) → eqb a b ≡ eqb b a
eqb_turned a b = elim (cases_Bool (eqb a b)) [
  | inl same ↦ same ∙ sym (eq-eqb b a (sym (eqb-true a b same)))
  | inr other ↦ other ∙ sym (ne_eqb b a (λ e. apart a b other (sym e)))
]

bytes_turned : (a b : Bytes) → same_bytes a b ≡ same_bytes b a
bytes_turned a b = elim (cases_Bool (same_bytes a b)) [
  | inl same ↦ same ∙ sym (true-same_bytes b a (sym (same_bytes-true a b same)))
  | inr other ↦ other ∙ sym (false_of (same_bytes b a) (λ e. true_false (sym (true-same_bytes a b (sym (same_bytes-true b a e))) ∙ other)))
] where
  true_false : true ≡ false → ⊥
  true_false e = cc

  false_of : (b : Bool) → (b ≡ true → ⊥) → b ≡ false
  false_of true not_so = absurd (not_so refl)
  false_of false not_so = refl

-- the vote of one of two
vote_if : (b : Bool) (o : Option Vote) (x : Vote) → is_vote (cond b o None) x ≡ (b && is_vote o x)
vote_if true o x = refl
vote_if false o x = refl

-- ---- one vote more in a table

module _ (old new : Votes) (pos : ℕ) (cast : Cast) (adds : AddsCast old pos cast new) where
  -- as a test of what is added
  abbrev pub added_at : ℕ → ℕ → ℕ → Vote → Bool
  added_at p h view vote = p == pos && is_cast h view vote cast

  among_more : (p h view : ℕ) (vote : Vote) (b : Bool) → is_among (cond b (casts_at old p ++ cast ∷ []) (casts_at old p)) h view vote ≡ (is_among (casts_at old p) h view vote || (b && is_cast h view vote cast))
  among_more p h view vote true = list_any-append (is_cast h view vote) (casts_at old p) (cast ∷ []) ∙ ap (λ b. is_among (casts_at old p) h view vote || b) (or_false (is_cast h view vote cast))
  among_more p h view vote false = sym (or_false (is_among (casts_at old p) h view vote))

  -- a position that is not executed
  above : (p : ℕ) → old.executed < p → (p == pos && nat_lt old.executed pos) ≡ (p == pos)
  above p lt = elim (cases_Bool (eqb p pos)) [
    | inl same ↦ ap (λ b. b && nat_lt old.executed pos) same ∙ lt-ltb old.executed pos (subst (λ (n : ℕ). old.executed < n) (eqb-true p pos same) lt) ∙ sym same
    | inr other ↦ ap (λ b. b && nat_lt old.executed pos) other ∙ sym other
  ]

  pub adds_votes : pos < 2 ^ 63 → AddsVotes added_at old new
  adds_votes below = record {
    executed = adds.executed;
    low = low;
    votes = λ p h view vote lt.
        ap (λ (l : List Cast). is_among l h view vote) (adds.casts p)
        ∙ ap (λ b. is_among (cond b (casts_at old p ++ cast ∷ []) (casts_at old p)) h view vote) (above p lt)
        ∙ among_more p h view vote (p == pos);
  } where
    low : AreLow old → AreLow new
    low before p le =
        adds.casts p
        ∙ ap (λ b. cond (b && nat_lt old.executed pos) (casts_at old p ++ cast ∷ []) (casts_at old p)) (ne_eqb p pos (λ e. omega (arith, e, le, below)))
        ∙ before p le

-- nothing is added
pub adds_nothing : (t : Votes) → AddsVotes (λ p h view vote. false) t t
adds_nothing t = record { executed = refl; low = λ low. low; votes = λ p h view vote lt. sym (or_false (is_among (casts_at t p) h view vote)) }

-- Votes alone are counted.
pub counts_only : (t : Heard) (votes : Votes) (added : ℕ → ℕ → ℕ → Vote → Bool) → AddsVotes added t.votes votes → CountsOnly t (record t { votes = votes })
counts_only t votes added adds = record { shape = refl; usig = refl; followers = refl; plans = refl; batches = refl; checkpoints = refl; news = refl; executed = adds.executed; low = adds.low }

-- first one, then the other
pub adds_both : (x y : ℕ → ℕ → ℕ → Vote → Bool) (a b c : Votes) → AddsVotes x a b → AddsVotes y b c → AddsVotes (λ p h view vote. x p h view vote || y p h view vote) a c
adds_both x y a b c f g = record {
  executed = g.executed ∙ f.executed;
  low = λ low. g.low (f.low low);
  votes = λ p h view vote lt.
      g.votes p h view vote (subst (λ (n : ℕ). n < p) (sym f.executed) lt)
      ∙ ap (λ z. z || y p h view vote) (f.votes p h view vote lt)
      ∙ or_assoc (is_among (casts_at a p) h view vote) (x p h view vote) (y p h view vote);
}

-- another test that answers alike
pub adds_alike : (x y : ℕ → ℕ → ℕ → Vote → Bool) (a b : Votes) → ((p h view : ℕ) (vote : Vote) → x p h view vote ≡ y p h view vote) → AddsVotes x a b → AddsVotes y a b
adds_alike x y a b e f = record {
  executed = f.executed;
  low = f.low;
  votes = λ p h view vote lt. f.votes p h view vote lt ∙ ap (λ z. is_among (casts_at a p) h view vote || z) (e p h view vote);
}

-- ---- one message more in the list of a host

module _ (lists : ℕ → List Bare) (host : ℕ) (l : List Bare) where
  pub with_own : (h : ℕ) → eqb h host ≡ true → with_list lists host l h ≡ l
  with_own h e = ap (λ b. if b then l else lists h) e

  pub with_other : (h : ℕ) → eqb h host ≡ false → with_list lists host l h ≡ lists h
  with_other h e = ap (λ b. if b then l else lists h) e

module _ (plans : Plans) (lists : ℕ → List Bare) (host : ℕ) (m : Bare) (openings more : List Opening) (old new : Votes) (added : ℕ → ℕ → ℕ → Vote → Bool) where
  abbrev longer : ℕ → List Bare
  longer = with_list lists host (m ∷ lists host)

  pub counts_more : AddsVotes added old new
      → ((p h view : ℕ) (vote : Vote) → eqb h host ≡ true → added p h view vote ≡ is_vote (vote_by plans (length (lists host) + 1) m view p) vote)
      → ((p h view : ℕ) (vote : Vote) → eqb h host ≡ false → added p h view vote ≡ false)
      → ((h view counter : ℕ) (plan : Bytes) → list_any (is_opening h view counter plan) more ≡ (list_any (is_opening h view counter plan) openings || (eqb h host && is_open view counter plan m)))
      → Counts plans lists openings old → Counts plans longer more new
  unfolding has_vote
  counts_more adds own other opens c = record {
    opened = λ h view counter plan. opens h view counter plan ∙ elim (cases_Bool (eqb h host)) [
      | inl same ↦
          let e : h ≡ host = eqb-true h host same in
          ap (λ b. list_any (is_opening h view counter plan) openings || (b && is_open view counter plan m)) same
          ∙ ap (λ b. b || is_open view counter plan m) (c.opened h view counter plan ∙ ap (λ (i : ℕ). list_any (is_open view counter plan) (lists i)) e)
          ∙ or_turned (list_any (is_open view counter plan) (lists host)) (is_open view counter plan m)
          ∙ sym (ap (list_any (is_open view counter plan)) (with_own lists host (m ∷ lists host) h same))
      | inr differs ↦
          ap (λ b. list_any (is_opening h view counter plan) openings || (b && is_open view counter plan m)) differs
          ∙ or_false (list_any (is_opening h view counter plan) openings) ∙ c.opened h view counter plan
          ∙ sym (ap (list_any (is_open view counter plan)) (with_other lists host (m ∷ lists host) h differs))
    ];
    voted = λ p h view vote lt.
        let before : old.executed < p = subst (λ (n : ℕ). n < p) adds.executed lt in
        adds.votes p h view vote before ∙ ap (λ b. b || added p h view vote) (c.voted p h view vote before) ∙ elim (cases_Bool (eqb h host)) [
          | inl same ↦
              let e : h ≡ host = eqb-true h host same in
              ap (λ b. has_vote plans (lists h) view p vote || b) (own p h view vote same)
              ∙ ap (λ (i : ℕ). has_vote plans (lists i) view p vote || is_vote (vote_by plans (length (lists host) + 1) m view p) vote) e
              ∙ or_turned (has_vote plans (lists host) view p vote) (is_vote (vote_by plans (length (lists host) + 1) m view p) vote)
              ∙ sym (ap (λ (x : List Bare). has_vote plans x view p vote) (with_own lists host (m ∷ lists host) h same))
          | inr differs ↦
              ap (λ b. has_vote plans (lists h) view p vote || b) (other p h view vote differs)
              ∙ or_false (has_vote plans (lists h) view p vote)
              ∙ sym (ap (λ (x : List Bare). has_vote plans x view p vote) (with_other lists host (m ∷ lists host) h differs))
        ];
  }

-- ---- by kinds

-- no OPEN is added
pub none_opened : (openings : List Opening) (host : ℕ) (m : Bare) → ((view counter : ℕ) (plan : Bytes) → is_open view counter plan m ≡ false)
    → (h view counter : ℕ) (plan : Bytes) → list_any (is_opening h view counter plan) openings ≡ (list_any (is_opening h view counter plan) openings || (eqb h host && is_open view counter plan m))
none_opened openings host m not_so h view counter plan =
    sym (ap (λ b. list_any (is_opening h view counter plan) openings || (eqb h host && b)) (not_so view counter plan)
    ∙ ap (λ b. list_any (is_opening h view counter plan) openings || b) (and_false (eqb h host)) ∙ or_false (list_any (is_opening h view counter plan) openings))

-- a vote for one position
voting : (a b : Bool) (q : Bool) → (b && (true && (a && q))) ≡ ((a && b) && q)
voting true true q = refl
voting true false q = refl
voting false true q = refl
voting false false q = refl

never : (b q : Bool) → (b && (false && q)) ≡ false
never true q = refl
never false q = refl

module _ (host view pos counter : ℕ) (digest : Bytes) where
  abbrev pub cast_of : Cast
  cast_of = record { host = host; view = view; vote = record { counter = counter; request = digest } }

  pub votes_own : (p h v : ℕ) (vote : Vote) → eqb h host ≡ true
      → (p == pos && is_cast h v vote cast_of) ≡ is_vote (cond (view == v && pos == p) (Some (record { counter = counter; request = digest })) None) vote
  votes_own p h v vote same =
      ap (λ b. p == pos && (b && (view == v && (counter == vote.counter && same_bytes digest vote.request)))) (eqb_turned host h ∙ same)
      ∙ voting (view == v) (p == pos) (counter == vote.counter && same_bytes digest vote.request)
      ∙ ap (λ b. (view == v && b) && (counter == vote.counter && same_bytes digest vote.request)) (eqb_turned p pos)
      ∙ sym (vote_if (view == v && pos == p) (Some (record { counter = counter; request = digest })) vote)

  pub votes_other : (p h v : ℕ) (vote : Vote) → eqb h host ≡ false → (p == pos && is_cast h v vote cast_of) ≡ false
  votes_other p h v vote other =
      ap (λ b. p == pos && (b && (view == v && (counter == vote.counter && same_bytes digest vote.request)))) (eqb_turned host h ∙ other)
      ∙ never (p == pos) (view == v && (counter == vote.counter && same_bytes digest vote.request))

module _ (plans : Plans) (lists : ℕ → List Bare) (host counter : ℕ) (is : counter ≡ length (lists host) + 1) (openings : List Opening) (old new : Votes) where
  pub counts_prepare : (view pos : ℕ) (digest : Bytes) → pos < 2 ^ 63 → AddsCast old pos (cast_of host view pos counter digest) new → Counts plans lists openings old
      → Counts plans (with_list lists host (bare.Prepare view pos digest ∷ lists host)) openings new
  unfolding vote_by
  counts_prepare view pos digest below adds =
      counts_more plans lists host (bare.Prepare view pos digest) openings openings old new (λ p h v vote. p == pos && is_cast h v vote (cast_of host view pos counter digest))
      (adds_votes old new pos (cast_of host view pos counter digest) adds below)
      (λ p h v vote same. votes_own host view pos counter digest p h v vote same ∙ ap (λ (n : ℕ). is_vote (cond (view == v && pos == p) (Some (record { counter = n; request = digest })) None) vote) is)
      (votes_other host view pos counter digest)
      (none_opened openings host (bare.Prepare view pos digest) (λ v c plan. refl))

  pub counts_commit : (view pos named : ℕ) (cert digest : Bytes) → pos < 2 ^ 63 → AddsCast old pos (cast_of host view pos named digest) new → Counts plans lists openings old
      → Counts plans (with_list lists host (bare.Commit view pos named cert digest ∷ lists host)) openings new
  unfolding vote_by
  counts_commit view pos named cert digest below adds =
      counts_more plans lists host (bare.Commit view pos named cert digest) openings openings old new (λ p h v vote. p == pos && is_cast h v vote (cast_of host view pos named digest))
      (adds_votes old new pos (cast_of host view pos named digest) adds below)
      (votes_own host view pos named digest) (votes_other host view pos named digest)
      (none_opened openings host (bare.Commit view pos named cert digest) (λ v c plan. refl))

-- a message that votes for nothing
pub counts_other : (plans : Plans) (lists : ℕ → List Bare) (host : ℕ) (m : Bare) (openings : List Opening) (votes : Votes)
    → ((n v p : ℕ) → vote_by plans n m v p ≡ None) → ((view counter : ℕ) (plan : Bytes) → is_open view counter plan m ≡ false)
    → Counts plans lists openings votes → Counts plans (with_list lists host (m ∷ lists host)) openings votes
counts_other plans lists host m openings votes no_vote no_open =
    counts_more plans lists host m openings openings votes votes (λ p h v vote. false) (adds_nothing votes)
    (λ p h v vote same. sym (ap (λ (o : Option Vote). is_vote o vote) (no_vote (length (lists host) + 1) v p)))
    (λ p h v vote other. refl)
    (none_opened openings host m no_open)

-- ---- OPENs

module _ (plans : Plans) (o : Opening) where
  open_test : (a b c : Bool) → (true && (a && (b && c))) ≡ (a && (b && c))
  open_test a b c = refl

  -- the opening that is added
  pub one_opened : (openings : List Opening) (m : Bare) → ((view counter : ℕ) (plan : Bytes) → is_open view counter plan m ≡ (o.view == view && (o.counter == counter && same_bytes o.plan plan)))
      → (h view counter : ℕ) (plan : Bytes) → list_any (is_opening h view counter plan) (openings ++ o ∷ []) ≡ (list_any (is_opening h view counter plan) openings || (eqb h o.host && is_open view counter plan m))
  one_opened openings m says h view counter plan =
      list_any-append (is_opening h view counter plan) openings (o ∷ [])
      ∙ ap (λ b. list_any (is_opening h view counter plan) openings || b)
      (or_false (is_opening h view counter plan o) ∙ ap (λ b. b && (o.view == view && (o.counter == counter && same_bytes o.plan plan))) (eqb_turned o.host h)
      ∙ ap (λ b. eqb h o.host && b) (sym (says view counter plan)))

  -- its votes, where its plan is this
  open_votes : (known : Option KnownPlan) → option_map text_of known ≡ plans o.plan → (p v : ℕ) (vote : Vote)
      → by_plan o known p o.host v vote ≡ is_vote (cond (o.view == v) (option_map (λ r. record { counter = o.counter; request = r }) (planned (plans o.plan) p)) None) vote
  open_votes None e p v vote =
      sym (ap (λ (t : Option PlanText). is_vote (cond (o.view == v) (option_map (λ r. record { counter = o.counter; request = r }) (planned t p)) None) vote) (sym e) ∙ nothing (o.view == v)) where
        nothing : (b : Bool) → is_vote (cond b None None) vote ≡ false
        nothing true = refl
        nothing false = refl
  open_votes (Some plan) e p v vote =
      ap (λ b. b && (o.view == v && is_vote (vote_of o (text_of plan) p) vote)) (eq-eqb o.host o.host refl)
      ∙ sym (vote_if (o.view == v) (vote_of o (text_of plan) p) vote)
      ∙ ap (λ (t : Option PlanText). is_vote (cond (o.view == v) (option_map (λ r. record { counter = o.counter; request = r }) (planned t p)) None) vote) e

  no_votes : (known : Option KnownPlan) (p h v : ℕ) (vote : Vote) → eqb h o.host ≡ false → by_plan o known p h v vote ≡ false
  no_votes None p h v vote other = refl
  no_votes (Some plan) p h v vote other = ap (λ b. b && (o.view == v && is_vote (vote_of o (text_of plan) p) vote)) (eqb_turned o.host h ∙ other)

  pub counts_open : (lists : ℕ → List Bare) (m : Bare) (openings : List Opening) (old new : Votes) (known : Option KnownPlan) → option_map text_of known ≡ plans o.plan
      → ((n v p : ℕ) → vote_by plans n m v p ≡ cond (o.view == v) (option_map (λ r. record { counter = o.counter; request = r }) (planned (plans o.plan) p)) None)
      → ((view counter : ℕ) (plan : Bytes) → is_open view counter plan m ≡ (o.view == view && (o.counter == counter && same_bytes o.plan plan)))
      → AddsVotes (by_plan o known) old new → Counts plans lists openings old → Counts plans (with_list lists o.host (m ∷ lists o.host)) (openings ++ o ∷ []) new
  counts_open lists m openings old new known e votes opens adds =
      counts_more plans lists o.host m openings (openings ++ o ∷ []) old new (by_plan o known) adds
      (λ p h v vote same.
      ap (λ (i : ℕ). by_plan o known p i v vote) (eqb-true h o.host same) ∙ open_votes known e p v vote ∙ ap (λ (x : Option Vote). is_vote x vote) (sym (votes (length (lists o.host) + 1) v p)))
      (λ p h v vote other. no_votes known p h v vote other)
      (one_opened openings m opens)

-- ---- a plan more

-- it has this digest at a position
abbrev matches : Option Bytes → Bytes → Bool
matches None x = false
matches (Some r) x = same_bytes r x

vote_matches : (counter : ℕ) (r : Option Bytes) (vote : Vote) → is_vote (option_map (λ x. record { counter = counter; request = x }) r) vote ≡ (matches r vote.request && counter == vote.counter)
vote_matches counter None vote = refl
vote_matches counter (Some x) vote = and_turned (counter == vote.counter) (same_bytes x vote.request)

moved : (m d h v c : Bool) → (d && (h && (v && (m && c)))) ≡ (m && (h && (v && (c && d))))
moved true true h v true = refl
moved true true h v false = refl
moved true false true true true = refl
moved true false true true false = refl
moved true false true false c = refl
moved true false false v c = refl
moved false true true true c = refl
moved false true true false c = refl
moved false true false v c = refl
moved false false h v c = refl

gathered : (a x b y m : Bool) → ((a || (m && x)) || (b || (m && y))) ≡ ((a || b) || (m && (x || y)))
gathered true x b y m = refl
gathered false true true y true = refl
gathered false true false y true = refl
gathered false false true y true = refl
gathered false false false y true = refl
gathered false x true y false = refl
gathered false x false y false = refl

module _ (plan : KnownPlan) (p : ℕ) (vote : Vote) where
  abbrev matched : Bool
  matched = matches (planned (Some (text_of plan)) p) vote.request

  -- by the openings that name it
  opened_by : (openings : List Opening) (h v : ℕ) → by_openings openings plan p h v vote ≡ (matched && list_any (is_opening h v vote.counter plan.digest) openings)
  opened_by [] h v = sym (and_false matched)
  opened_by (o ∷ l) h v =
      ap (λ b. (same_bytes o.plan plan.digest && (o.host == h && (o.view == v && b))) || by_openings l plan p h v vote) (vote_matches o.counter (planned (Some (text_of plan)) p) vote)
      ∙ ap (λ b. b || by_openings l plan p h v vote) (moved matched (same_bytes o.plan plan.digest) (o.host == h) (o.view == v) (o.counter == vote.counter))
      ∙ ap (λ b. (matched && is_opening h v vote.counter plan.digest o) || b) (opened_by l h v)
      ∙ both_and matched (is_opening h v vote.counter plan.digest o) (list_any (is_opening h v vote.counter plan.digest) l) where
        both_and : (m a b : Bool) → ((m && a) || (m && b)) ≡ (m && (a || b))
        both_and true a b = refl
        both_and false a b = refl

  module _ (plans more : Plans) (new : plans plan.digest ≡ None) (is : (d : Bytes) → more d ≡ option_or (plans d) (if same_bytes plan.digest d then Some (text_of plan) else None)) where
    -- of a message that is no OPEN
    plain : (m : Bare) (v n : ℕ) → vote_by more n m v p ≡ vote_by plans n m v p → is_open v vote.counter plan.digest m ≡ false
        → is_vote (vote_by more n m v p) vote ≡ (is_vote (vote_by plans n m v p) vote || (matched && is_open v vote.counter plan.digest m))
    plain m v n same not_so =
        ap (λ (o : Option Vote). is_vote o vote) same
        ∙ sym (ap (λ b. is_vote (vote_by plans n m v p) vote || (matched && b)) not_so ∙ ap (λ b. is_vote (vote_by plans n m v p) vote || b) (and_false matched) ∙ or_false (is_vote (vote_by plans n m v p) vote))

    abbrev opens_with : ℕ → ℕ → ℕ → Option PlanText → Option Vote
    opens_with view counter v t = cond (view == v) (option_map (λ r. record { counter = counter; request = r }) (planned t p)) None

    of_open : (view counter v : ℕ) (d : Bytes) → is_vote (opens_with view counter v (more d)) vote
        ≡ (is_vote (opens_with view counter v (plans d)) vote || (matched && (view == v && (counter == vote.counter && same_bytes d plan.digest))))
    of_open view counter v d = elim (cases_Bool (same_bytes d plan.digest)) [
      | inl same ↦
          let e : d ≡ plan.digest = same_bytes-true d plan.digest same in
          let none : plans d ≡ None = ap plans e ∙ new in
          let now : more d ≡ Some (text_of plan) = is d ∙ ap (λ (o : Option PlanText). option_or o (if same_bytes plan.digest d then Some (text_of plan) else None)) none ∙ ap (λ b. if b then Some (text_of plan) else None) (bytes_turned plan.digest d ∙ same) in
          ap (λ (t : Option PlanText). is_vote (opens_with view counter v t) vote) now
          ∙ vote_if (view == v) (option_map (λ r. record { counter = counter; request = r }) (planned (Some (text_of plan)) p)) vote
          ∙ ap (λ b. view == v && b) (vote_matches counter (planned (Some (text_of plan)) p) vote)
          ∙ turned (view == v) matched (counter == vote.counter)
          ∙ sym (ap (λ b. is_vote (opens_with view counter v (plans d)) vote || (matched && (view == v && (counter == vote.counter && b)))) same
          ∙ ap (λ (t : Option PlanText). is_vote (opens_with view counter v t) vote || (matched && (view == v && (counter == vote.counter && true)))) none
          ∙ ap (λ b. b || (matched && (view == v && (counter == vote.counter && true)))) (vote_if (view == v) None vote ∙ and_false (view == v)))
      | inr other ↦
          let now : more d ≡ plans d = is d ∙ ap (λ b. option_or (plans d) (if b then Some (text_of plan) else None)) (bytes_turned plan.digest d ∙ other) ∙ or_none (plans d) in
          ap (λ (t : Option PlanText). is_vote (opens_with view counter v t) vote) now
          ∙ sym (ap (λ b. is_vote (opens_with view counter v (plans d)) vote || (matched && (view == v && (counter == vote.counter && b)))) other
          ∙ ap (λ b. is_vote (opens_with view counter v (plans d)) vote || b) (dropped matched (view == v) (counter == vote.counter)) ∙ or_false (is_vote (opens_with view counter v (plans d)) vote))
    ] where
      turned : (a m c : Bool) → (a && (m && c)) ≡ (m && (a && (c && true)))
      turned true true true = refl
      turned true true false = refl
      turned true false c = refl
      turned false true c = refl
      turned false false c = refl

      dropped : (m a c : Bool) → (m && (a && (c && false))) ≡ false
      dropped true true true = refl
      dropped true true false = refl
      dropped true false c = refl
      dropped false a c = refl

    of_message : (m : Bare) (v n : ℕ) → is_vote (vote_by more n m v p) vote ≡ (is_vote (vote_by plans n m v p) vote || (matched && is_open v vote.counter plan.digest m))
    unfolding vote_by
    of_message (bare.Prepare view pos digest) v n = plain (bare.Prepare view pos digest) v n refl refl
    of_message (bare.Commit view pos counter cert digest) v n = plain (bare.Commit view pos counter cert digest) v n refl refl
    of_message (bare.Checkpoint pos state digest) v n = plain (bare.Checkpoint pos state digest) v n refl refl
    of_message (bare.ViewChange view digest) v n = plain (bare.ViewChange view digest) v n refl refl
    of_message (bare.NewView view base end q digest) v n = plain (bare.NewView view base end q digest) v n refl refl
    of_message (bare.Enter view counter q) v n = plain (bare.Enter view counter q) v n refl refl
    of_message (bare.Open evidence digest) v n = of_open evidence.view evidence.counter v evidence.plan
    of_message (bare.Join view evidence stable) v n = plain (bare.Join view evidence stable) v n refl refl

    pub voted_more : (l : List Bare) (v : ℕ) → has_vote more l v p vote ≡ (has_vote plans l v p vote || (matched && list_any (is_open v vote.counter plan.digest) l))
    unfolding has_vote
    voted_more [] v = sym (and_false matched)
    voted_more (m ∷ l) v =
        ap (λ b. b || has_vote more l v p vote) (of_message m v (length l + 1))
        ∙ ap (λ b. (is_vote (vote_by plans (length l + 1) m v p) vote || (matched && is_open v vote.counter plan.digest m)) || b) (voted_more l v)
        ∙ gathered (is_vote (vote_by plans (length l + 1) m v p) vote) (is_open v vote.counter plan.digest m) (has_vote plans l v p vote) (list_any (is_open v vote.counter plan.digest) l) matched

-- Once a plan is known, the votes of the OPENs that name it count.
pub counts_plan : (plans more : Plans) (lists : ℕ → List Bare) (openings : List Opening) (plan : KnownPlan) (old new : Votes) → plans plan.digest ≡ None
    → ((d : Bytes) → more d ≡ option_or (plans d) (if same_bytes plan.digest d then Some (text_of plan) else None)) → AddsVotes (by_openings openings plan) old new
    → Counts plans lists openings old → Counts more lists openings new
counts_plan plans more lists openings plan old new none is adds c = record {
  opened = c.opened;
  voted = λ p h v vote lt.
      let before : old.executed < p = subst (λ (n : ℕ). n < p) adds.executed lt in
      adds.votes p h v vote before
      ∙ ap (λ b. b || by_openings openings plan p h v vote) (c.voted p h v vote before)
      ∙ ap (λ b. has_vote plans (lists h) v p vote || b) (opened_by plan p vote openings h v ∙ ap (λ b. matches (planned (Some (text_of plan)) p) vote.request && b) (c.opened h v vote.counter plan.digest))
      ∙ sym (voted_more plan p vote plans more none is (lists h) v);
}
