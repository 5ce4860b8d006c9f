-- The votes of one message more of a host, and those of OPENs by a plan.
use Rattle.std.proofs.Common.{◌≡◌, ℕ, zero, suc, ◌+◌, ◌-◌, ◌<◌, ◌^◌, Bool, true, false, cond, eqb, List, [], ◌∷◌, ◌++◌, take, slice_get, Option, Some, None, option_map, refl, sym, ap, subst, ◌∙◌, inl, inr, arith, add-one}
use Rattle.std.specs.Prelude.{◌&&◌, ◌||◌, ◌==◌, nat_lt}
use Rattle.std.specs.Global.{Vec}
use Rattle.std.specs.List.{list_any}
use Rattle.std.proofs.lemmas.Bool.{cases_Bool, eqb-true, eq-eqb, ne_eqb, eqb-false, lt-ltb, ltb-true}
use Rattle.std.proofs.lemmas.List.{length-take-le}
use Rattle.std.proofs.lemmas.Option.{same_Some, none-some, slice_get_past, slice_get_within}
use Rattle.mb_base.specs.Shapes.{Bytes}
use Rattle.mb_usig.specs.Tags.{same_bytes}
use Rattle.mb_parts.specs.Bares.{Bare}
use Rattle.mb_parts.specs.Bares as bare
use Rattle.mb_parts.specs.Spelling.{batch_bytes}
use Rattle.mb_msg.specs.declared.change.Open.{Open}
use Rattle.mb_msg.specs.declared.normal.Commit.{Commit}
use Rattle.mb_msg.specs.declared.normal.Prepare.{Prepare}
use Rattle.mb_msg.specs.declared.stamped.Stamped.{Stamped}
use Rattle.mb_msg.specs.declared.stamped.Stamped.TheVariants as stamped
use Rattle.mb_msg.specs.Bodies.{body_digest}
use Rattle.mb_msg.specs.Stamps.{ui_of, bare_of}
use Rattle.mb_model.specs.declared.known.Vote.{Vote}
use Rattle.mb_model.specs.Committed.{PlanText, planned, vote_by}
use Rattle.mb_model.specs.Votes.{is_vote}
use Rattle.mb_learn.specs.declared.heard.Heard.{Heard}
use Rattle.mb_learn.specs.declared.heard.Opening.{Opening}
use Rattle.mb_learn.specs.declared.plans.KnownPlan.{KnownPlan}
use Rattle.mb_learn.specs.declared.votes.Cast.{Cast}
use Rattle.mb_learn.specs.declared.votes.Votes.{Votes}
use Rattle.mb_learn.specs.Hearing.{Counts, CountsToo, with_list}
use Rattle.mb_learn.specs.Tables.{text_of, plan_at, is_cast, AddsCast, votes_so, votes_with, by_openings, by_plan, AddsVotes}
use Rattle.mb_learn.proofs.Counted.{cast_of, adds_votes, adds_nothing, adds_both, adds_alike, counts_prepare, counts_commit, counts_other, counts_open}
use Rattle.mb_learn.proofs.Tests.{and_false, or_false, or_assoc}

-- ---- one message more

module _ (old new : Heard) where
  pub counted_prepare : (m : Prepare) (d : Bytes) → d ≡ body_digest batch_bytes m.body → new.openings ≡ old.openings → m.pos < 2 ^ 63 → AddsCast old.votes m.pos (cast_of m.ui.host m.view m.pos m.ui.counter d) new.votes
      → CountsToo m.ui.host m.ui.counter (bare_of (stamped.Prepare m)) old new
  counted_prepare m d is openings below adds plans lists plans_are c at =
      subst (λ (x : Bytes). Counts plans (with_list lists m.ui.host (bare.Prepare m.view m.pos x ∷ lists m.ui.host)) new.openings.items new.votes) is
      (subst (λ (v : Vec Opening). Counts plans (with_list lists m.ui.host (bare.Prepare m.view m.pos d ∷ lists m.ui.host)) v.items new.votes) (sym openings)
      (counts_prepare plans lists m.ui.host m.ui.counter at old.openings.items old.votes new.votes m.view m.pos d below adds c))

  pub counted_commit : (m : Commit) (d : Bytes) → d ≡ body_digest batch_bytes m.body → new.openings ≡ old.openings → m.pos < 2 ^ 63 → AddsCast old.votes m.pos (cast_of m.ui.host m.view m.pos m.counter d) new.votes
      → CountsToo m.ui.host m.ui.counter (bare_of (stamped.Commit m)) old new
  counted_commit m d is openings below adds plans lists plans_are c at =
      subst (λ (x : Bytes). Counts plans (with_list lists m.ui.host (bare.Commit m.view m.pos m.counter m.cert x ∷ lists m.ui.host)) new.openings.items new.votes) is
      (subst (λ (v : Vec Opening). Counts plans (with_list lists m.ui.host (bare.Commit m.view m.pos m.counter m.cert d ∷ lists m.ui.host)) v.items new.votes) (sym openings)
      (counts_commit plans lists m.ui.host m.ui.counter at old.openings.items old.votes new.votes m.view m.pos m.counter m.cert d below adds c))

  -- the opening of an OPEN
  abbrev pub opening_of : Open → Opening
  opening_of m = record { host = m.ui.host; view = m.evidence.view; counter = m.evidence.counter; plan = m.evidence.plan }

  pub counted_open : (m : Open) → new.openings.items ≡ old.openings.items ++ opening_of m ∷ [] → AddsVotes (by_plan (opening_of m) (plan_at old.plans m.evidence.plan)) old.votes new.votes
      → CountsToo m.ui.host m.ui.counter (bare_of (stamped.Open m)) old new
  unfolding vote_by
  counted_open m openings adds plans lists plans_are c at =
      subst (λ (l : List Opening). Counts plans (with_list lists m.ui.host (bare_of (stamped.Open m) ∷ lists m.ui.host)) l new.votes) (sym openings)
      (counts_open plans (opening_of m) lists (bare_of (stamped.Open m)) old.openings.items old.votes new.votes (plan_at old.plans m.evidence.plan) (plans_are m.evidence.plan) (λ n v p. refl) (λ v counter plan. refl) adds c)

pub counted_other : (t : Heard) (x : Stamped) → ((m : Prepare) → x ≡ stamped.Prepare m → ⊥) → ((m : Commit) → x ≡ stamped.Commit m → ⊥) → ((m : Open) → x ≡ stamped.Open m → ⊥) → CountsToo (ui_of x).host (ui_of x).counter (bare_of x) t t
unfolding vote_by
counted_other t (stamped.Prepare m) np nc not_so plans lists plans_are c at = absurd (np m refl)
counted_other t (stamped.Commit m) np nc not_so plans lists plans_are c at = absurd (nc m refl)
counted_other t (stamped.Open m) np nc not_so plans lists plans_are c at = absurd (not_so m refl)
counted_other t (stamped.Checkpoint m) np nc not_so plans lists plans_are c at = counts_other plans lists m.ui.host (bare_of (stamped.Checkpoint m)) t.openings.items t.votes (λ n v p. refl) (λ v counter plan. refl) c
counted_other t (stamped.ViewChange m) np nc not_so plans lists plans_are c at = counts_other plans lists m.ui.host (bare_of (stamped.ViewChange m)) t.openings.items t.votes (λ n v p. refl) (λ v counter plan. refl) c
counted_other t (stamped.NewView m) np nc not_so plans lists plans_are c at = counts_other plans lists m.ui.host (bare_of (stamped.NewView m)) t.openings.items t.votes (λ n v p. refl) (λ v counter plan. refl) c
counted_other t (stamped.Enter m) np nc not_so plans lists plans_are c at = counts_other plans lists m.ui.host (bare_of (stamped.Enter m)) t.openings.items t.votes (λ n v p. refl) (λ v counter plan. refl) c
counted_other t (stamped.Join m) np nc not_so plans lists plans_are c at = counts_other plans lists m.ui.host (bare_of (stamped.Join m)) t.openings.items t.votes (λ n v p. refl) (λ v counter plan. refl) c

-- ---- the batches of a plan, one after the other

eqb_suc : (a b : ℕ) → eqb a b ≡ eqb (suc a) (suc b)
eqb_suc a b = elim (cases_Bool (eqb a b)) [
  | inl same ↦ same ∙ sym (eq-eqb (suc a) (suc b) (ap suc (eqb-true a b same)))
  | inr other ↦ other ∙ sym (ne_eqb (suc a) (suc b) (λ e. eqb-false a b other (omega (arith, e))))
]

get_take : (l : List Bytes) (i k : ℕ) (d : Bytes) → slice_get l i ≡ Some d → slice_get (take (suc i) l) k ≡ cond (eqb k i) (Some d) (slice_get (take i l) k)
get_take [] i k d at = absurd (none-some d at)
get_take (x ∷ l) zero zero d at = at
get_take (x ∷ l) zero (suc k) d at = sym (ap (λ b. cond b (Some d) None) (ne_eqb (suc k) zero (λ e. omega (arith, e))))
get_take (x ∷ l) (suc i) zero d at = sym (ap (λ b. cond b (Some d) (Some x)) (ne_eqb zero (suc i) (λ e. omega (arith, e))))
get_take (x ∷ l) (suc i) (suc k) d at = get_take l i k d at ∙ ap (λ b. cond b (Some d) (slice_get (take i l) k)) (eqb_suc k i)

module _ (base : ℕ) (l : List Bytes) (i : ℕ) (d : Bytes) (at : slice_get l i ≡ Some d) where
  -- the plan with so many of its batches
  abbrev text_to : ℕ → PlanText
  text_to n = record { base = base; digests = take n l }

  same_place : (p : ℕ) → base < p → eqb (p - base - 1) i ≡ eqb p (base + i + 1)
  same_place p lt = elim (cases_Bool (eqb p (base + i + 1))) [
    | inl same ↦ let is = eqb-true p (base + i + 1) same in eq-eqb (p - base - 1) i (omega (arith, is)) ∙ sym same
    | inr other ↦ ne_eqb (p - base - 1) i (λ e. eqb-false p (base + i + 1) other (omega (arith, e, lt))) ∙ sym other
  ]

  planned_more : (p : ℕ) → planned (Some (text_to (i + 1))) p ≡ cond (eqb p (base + i + 1)) (Some d) (planned (Some (text_to i)) p)
  planned_more p = elim (cases_Bool (nat_lt base p)) [
    | inl above ↦
        let lt = ltb-true base p above in
        ap (λ b. cond b (slice_get (take (i + 1) l) (p - base - 1)) None) above
        ∙ ap (λ (n : ℕ). slice_get (take n l) (p - base - 1)) (add-one i)
        ∙ get_take l i (p - base - 1) d at
        ∙ ap (λ b. cond b (Some d) (slice_get (take i l) (p - base - 1))) (same_place p lt)
        ∙ sym (ap (λ b. cond (eqb p (base + i + 1)) (Some d) (cond b (slice_get (take i l) (p - base - 1)) None)) above)
    | inr below ↦
        ap (λ b. cond b (slice_get (take (i + 1) l) (p - base - 1)) None) below
        ∙ sym (ap (λ b. cond b (Some d) (planned (Some (text_to i)) p)) (ne_eqb p (base + i + 1) (λ e. not_below p e (below)))
        ∙ ap (λ b. cond b (slice_get (take i l) (p - base - 1)) None) below)
  ] where
    not_below : (p : ℕ) → p ≡ base + i + 1 → nat_lt base p ≡ false → ⊥
    not_below p e below = let t : true ≡ false = sym (lt-ltb base p (omega (arith, e))) ∙ below in absurd cc

  -- none yet at its position
  planned_none : (p : ℕ) → p ≡ base + i + 1 → planned (Some (text_to i)) p ≡ None
  planned_none p e =
      let within = slice_get_within l i d at in
      let long = length-take-le i l (omega (arith, within)) in
      ap (λ b. cond b (slice_get (take i l) (p - base - 1)) None) (lt-ltb base p (omega (arith, e)))
      ∙ slice_get_past (take i l) (p - base - 1) (omega (arith, e, long))

  module _ (o : Opening) where
    abbrev pub cast_by : Cast
    cast_by = record { host = o.host; view = o.view; vote = record { counter = o.counter; request = d } }

    abbrev tested : (h view : ℕ) (vote : Vote) → Option Bytes → Bool
    tested h view vote r = o.host == h && (o.view == view && is_vote (option_map (λ x. record { counter = o.counter; request = x }) r) vote)

    nobody : (h view : ℕ) (vote : Vote) → tested h view vote None ≡ false
    nobody h view vote = ap (λ b. o.host == h && b) (and_false (o.view == view)) ∙ and_false (o.host == h)

    pub votes_more : (pos : ℕ) → pos ≡ base + i + 1 → (p h view : ℕ) (vote : Vote)
        → (votes_so o (text_to i) p h view vote || (p == pos && is_cast h view vote cast_by)) ≡ votes_so o (text_to (i + 1)) p h view vote
    votes_more pos is p h view vote = elim (cases_Bool (eqb p pos)) [
      | inl same ↦
          let here : p ≡ base + i + 1 = eqb-true p pos same ∙ is in
          ap (λ (r : Option Bytes). tested h view vote r || (p == pos && is_cast h view vote cast_by)) (planned_none p here)
          ∙ ap (λ b. b || (p == pos && is_cast h view vote cast_by)) (nobody h view vote)
          ∙ ap (λ b. b && is_cast h view vote cast_by) same
          ∙ sym (ap (tested h view vote) (planned_more p ∙ ap (λ b. cond b (Some d) (planned (Some (text_to i)) p)) (eq-eqb p (base + i + 1) here)))
      | inr other ↦
          ap (λ b. votes_so o (text_to i) p h view vote || (b && is_cast h view vote cast_by)) other
          ∙ or_false (votes_so o (text_to i) p h view vote)
          ∙ sym (ap (tested h view vote) (planned_more p ∙ ap (λ b. cond b (Some d) (planned (Some (text_to i)) p)) (ne_eqb p (base + i + 1) (λ e. eqb-false p pos other (e ∙ sym is)))))
    ]

    pub plan_next : (first old new : Votes) (pos : ℕ) → pos ≡ base + i + 1 → pos < 2 ^ 63 → AddsVotes (votes_so o (text_to i)) first old → AddsCast old pos cast_by new → AddsVotes (votes_so o (text_to (i + 1))) first new
    plan_next first old new pos is below before adds =
        adds_alike (λ p h view vote. votes_so o (text_to i) p h view vote || (p == pos && is_cast h view vote cast_by)) (votes_so o (text_to (i + 1))) first new (votes_more pos is)
        (adds_both (votes_so o (text_to i)) (λ p h view vote. p == pos && is_cast h view vote cast_by) first old new before (adds_votes old new pos cast_by adds below))

pub plan_first : (base : ℕ) (l : List Bytes) (o : Opening) (t : Votes) → AddsVotes (votes_so o (record { base = base; digests = take 0 l })) t t
plan_first base l o t = adds_alike (λ p h view vote. false) (votes_so o (record { base = base; digests = take 0 l })) t t (λ p h view vote. sym (none p h view vote)) (adds_nothing t) where
  empty : (p : ℕ) → planned (Some (record { base = base; digests = take 0 l })) p ≡ None
  empty p = by (nat_lt base p) where
    by : (b : Bool) → cond b (slice_get (take 0 l) (p - base - 1)) None ≡ None
    by true = refl
    by false = refl

  none : (p h view : ℕ) (vote : Vote) → votes_so o (record { base = base; digests = take 0 l }) p h view vote ≡ false
  none p h view vote =
      ap (λ (r : Option Bytes). o.host == h && (o.view == view && is_vote (option_map (λ x. record { counter = o.counter; request = x }) r) vote)) (empty p)
      ∙ ap (λ b. o.host == h && b) (and_false (o.view == view)) ∙ and_false (o.host == h)

-- ---- openings, one after the other

any_take : {A : Type 0} (f : A → Bool) (l : List A) (i : ℕ) (x : A) → slice_get l i ≡ Some x → (list_any f (take i l) || f x) ≡ list_any f (take (i + 1) l)
any_take f l i x at = rw (add-one i) (by l i at) where
  by : (l : List _) (i : ℕ) → slice_get l i ≡ Some x → (list_any f (take i l) || f x) ≡ list_any f (take (suc i) l)
  by [] i at = absurd (none-some x at)
  by (y ∷ l) zero at = ap f (sym (same_Some y x at)) ∙ sym (or_false (f y))
  by (y ∷ l) (suc i) at = or_assoc (f y) (list_any f (take i l)) (f x) ∙ ap (λ b. f y || b) (by l i at)

module _ (plan : KnownPlan) where
  pub openings_first : (openings : List Opening) (t : Votes) → AddsVotes (by_openings (take 0 openings) plan) t t
  openings_first openings t = adds_nothing t

  pub openings_next : (openings : List Opening) (i : ℕ) (o : Opening) (first old new : Votes) → slice_get openings i ≡ Some o → AddsVotes (by_openings (take i openings) plan) first old → AddsVotes (votes_with plan o) old new
      → AddsVotes (by_openings (take (i + 1) openings) plan) first new
  openings_next openings i o first old new at before adds =
      adds_alike (λ p h view vote. by_openings (take i openings) plan p h view vote || votes_with plan o p h view vote) (by_openings (take (i + 1) openings) plan) first new
      (λ p h view vote. any_take (λ x. votes_with plan x p h view vote) openings i o at)
      (adds_both (by_openings (take i openings) plan) (votes_with plan o) first old new before adds)

  -- an opening by another plan
  pub opening_apart : (o : Opening) (t : Votes) → same_bytes o.plan plan.digest ≡ false → AddsVotes (votes_with plan o) t t
  opening_apart o t other = adds_alike (λ p h view vote. false) (votes_with plan o) t t (λ p h view vote. sym (ap (λ b. b && votes_so o (text_of plan) p h view vote) other)) (adds_nothing t)

  -- one by this plan
  pub opening_by : (o : Opening) (old new : Votes) → same_bytes o.plan plan.digest ≡ true → AddsVotes (votes_so o (text_of plan)) old new → AddsVotes (votes_with plan o) old new
  opening_by o old new same adds = adds_alike (votes_so o (text_of plan)) (votes_with plan o) old new (λ p h view vote. sym (ap (λ b. b && votes_so o (text_of plan) p h view vote) same)) adds
