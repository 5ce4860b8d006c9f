-- What is committed in a view is in the plan of each later view, or at or below its base.
--
-- By induction on the later view w. Evidence of w is of the plan of f+1 usable logs. One of them is a log of a host that voted for position p in
-- view v (`shared`), and as v is below w, the vote stands before its VIEW_CHANGE (`in_list`). Let u be the highest opened view of the logs.
-- 1. The floor hides the vote: then p is at most the floor's greatest position, so at most the base.
-- 2. The vote is shown and u is v (`same_view_stays`): the voter's log has a vote for each position from the base to p.
-- 3. The vote is shown and u is above v (`higher_view_stays`): some log opened u, by evidence of u, and by induction the plan of u has the batch
--    at p or its base is at least p. That log shows the whole plan of u, or begins at or behind its end.
-- Where every position from the base to p has a vote in u, and the lowest vote at p is not above a counter at which the primary of u ordered the
-- batch at p, the plan has that batch there (`finish`): for a vote names the message that orders its position, and there is one such. In the
-- second case that counter is the committed one, in the third that of the NEW_VIEW of u. So the lowest counter is taken for this alone.
use Rattle.std.proofs.Common.{◌≡◌, ℕ, zero, suc, ◌+◌, ◌-◌, ◌≤◌, ◌<◌, Bool, true, List, [], ◌∷◌, ◌++◌, length, refl, sym, ap, subst, ◌∙◌, inl, inr, ◌⊎◌, arith, Option, Some, None}
use Rattle.std.specs.Prelude.{◌==◌, slice_get, IsTrue}
use Rattle.std.specs.List.{AllByRecursion}
use Rattle.std.specs.Cmp.Lexicographic.{same_text}
use Rattle.std.proofs.lemmas.Bool.{and_parts, eqb-true, lt-ltb, cases_lt}
use Rattle.std.proofs.lemmas.Option.{slice_get-map, same_Some}
use Rattle.mb_base.specs.declared.shape.Shape.{Shape}
use Rattle.mb_base.specs.Shapes.{Bytes, primary, span, host_count, HasQuorum}
use Rattle.mb_usig.specs.Tags.{same_bytes}
use Rattle.mb_parts.specs.declared.certificates.Evidence.{Evidence}
use Rattle.mb_parts.specs.declared.batch.Batch.{Batch}
use Rattle.mb_parts.specs.Bares.{Bare, batch_digest}
use Rattle.mb_parts.specs.Bares as bare
use Rattle.mb_parts.specs.Ordered.{initial_floor, is_ordered, floor_after, last_position}
use Rattle.mb_parts.specs.Claims.{Claim}
use Rattle.mb_parts.specs.Certificates.{inner_valid, is_evidence}
use Rattle.mb_parts.specs.Counters.{at_counter, IsBeginning}
use Rattle.mb_parts.proofs.Counters.{at_bound}
use Rattle.mb_model.specs.declared.known.Vote.{Vote}
use Rattle.mb_model.specs.UsableLogs.{bares}
use Rattle.mb_model.specs.Plans.{ShownLog, ShownVote, newest, opened_view, opened_from, highest_view, by_host, of_view, lowest_vote, vote_since, batches_from, base_of, plan_in_order, view_if_open}
use Rattle.mb_model.specs.Committed.{Plans, planned, vote_in, leads, IsCommitted}
use Rattle.mb_model.specs.Votes.{is_vote}
use Rattle.mb_agreement.specs.Agreement.{text_of, IsConsistentRecord, IsUsableLog, CommittedStays}
use Rattle.mb_model.proofs.ByHost.{by_host_rising}
use Rattle.mb_model.proofs.Quorums.{quorums_meet}
use Rattle.mb_agreement.proofs.WholeLists.{vote_placed, votes_before, last_below_top, change_is, has_plan, planned_within}
use Rattle.mb_agreement.proofs.FoundVotes.{finds_vote, found_is_vote, found_low, run_start, Found}
use Rattle.mb_agreement.proofs.ShownOpenings.{opened_low, shown_view, shown_opened, IsShownOpened}
use Rattle.mb_agreement.proofs.Leading.{names, one_order, Orders, orders_plan}
use Rattle.mb_model.specs.Members.{In}
use Rattle.mb_model.proofs.Members.{all_in, any_in}
use Rattle.mb_model.proofs.PlanLaws.{has_host, as_many, stable_below, of_view_in, of_view_is, highest_above, highest_from, lowest_found, lowest_from, batch_at}
use Rattle.mb_agreement.proofs.ReadyLogs.{IsReady, ready, drop_newest, run_low}

all_first : {A : Type 0} (P Q : A → Type 0) (l : List A) → AllByRecursion (λ x. P x × Q x) l → AllByRecursion P l
all_first P Q [] h = tt
all_first P Q (x ∷ l) h = (h.0.0, all_first P Q l h.1)

abbrev vote : ℕ → Bytes → Vote
vote c r = record { counter = c; request = r }

pub same_parts : (c c' : ℕ) (r r' : Bytes) → c ≡ c' → r ≡ r' → vote c r ≡ vote c' r'
same_parts c c' r r' a b = cc

pub is_vote_is : (y : Option Vote) (x : Vote) → is_vote y x ≡ true → y ≡ Some x
is_vote_is None x e = absurd cc
is_vote_is (Some y) x e =
    let a = and_parts (y.counter == x.counter) (same_bytes y.request x.request) e in
    ap Some (same_parts y.counter x.counter y.request x.request (eqb-true _ _ a.0) (same_text y.request x.request (sym a.1)))

module _ (s : Shape) (secret : Bytes) (plans : Plans) (issued : Claim → Bool) (prefix : ℕ → List Bare) (facts : IsConsistentRecord s secret plans issued prefix) where
  abbrev ReadyLog : ℕ → ShownLog → Type 0
  ReadyLog w log = IsReady s secret plans issued prefix facts w log

  -- ---- the plan at a position

  -- Evidence, and the logs that its plan was made of.
  record IsMade (e : Evidence) (logs : List ShownLog) : Type 0 where
    ok : is_evidence s issued e ≡ true
    base : e.base ≡ (base_of logs).pos
    plan : plans e.plan ≡ Some (text_of (plan_in_order s logs))
    usable : (log : ShownLog) → In logs log → IsUsableLog s secret plans issued prefix e.view log
    many : HasQuorum s (has_host logs)

  made_of : (e : Evidence) → is_evidence s issued e ≡ true → (logs : List ShownLog) × IsMade e logs
  unfolding plan_in_order
  made_of e ok =
      let b = facts.evidences e ok in
      let below = all_first (λ (l : ShownLog). l.host < host_count s) (λ l. IsUsableLog s secret plans issued prefix e.view l) b.0 b.1.usable in
      let same : by_host s b.0 ≡ b.0 = by_host_rising s b.0 b.1.rising below in (
        b.0,
        record {
          ok = ok;
          base = b.1.base ∙ ap (λ (l : List ShownLog). (plan_in_order s l).base.pos) same;
          plan = b.1.plan ∙ ap (λ (l : List ShownLog). Some (text_of (plan_in_order s l))) same;
          usable = λ log here. (all_in (λ (l : ShownLog). (l.host < host_count s) × IsUsableLog s secret plans issued prefix e.view l) b.0 log b.1.usable here).1;
          many = omega (arith, b.1.many, as_many (host_count s) b.0 b.1.rising below);
        },
      )

  plan_at : (e : Evidence) (logs : List ShownLog) → plans e.plan ≡ Some (text_of (plan_in_order s logs))
      → (p : ℕ) (b : Batch) (r : Bytes) → (base_of logs).pos < p → slice_get (batches_from (of_view (highest_view logs) logs) ((base_of logs).pos + 1) (span s)) (p - (base_of logs).pos - 1) ≡ Some b
      → batch_digest b ≡ r → planned (plans e.plan) p ≡ Some r
  unfolding plan_in_order
  plan_at e logs is p b r above at same =
      rw (is, lt-ltb (base_of logs).pos p above)
      (slice_get-map batch_digest (batches_from (of_view (highest_view logs) logs) ((base_of logs).pos + 1) (span s)) (p - (base_of logs).pos - 1)
      ∙ rw at (ap Some same))

  -- where each position up to p has a vote, and the lowest one at p is not above the counter that orders r, the plan has r at p
  finish : (e : Evidence) (logs : List ShownLog) (m : IsMade e logs) (u p c : ℕ) (r : Bytes) → highest_view logs ≡ Some u → (base_of logs).pos < p
      → ((q : ℕ) → (base_of logs).pos < q → q ≤ p → (y : ShownVote) × (lowest_vote q (of_view (Some u) logs) ≡ Some y))
      → Orders s secret plans issued prefix facts u p c r → ((z : ShownVote) → lowest_vote p (of_view (Some u) logs) ≡ Some z → z.0 ≤ c)
      → planned (plans e.plan) p ≡ Some r
  unfolding plan_in_order
  finish e logs m u p c r high above all o low =
      let z = all p above (omega arith) in
      let from = lowest_from p z.0 (of_view (Some u) logs) z.1 in
      let here = of_view_is u from.0 logs from.1 in
      let d = ready s secret plans issued prefix facts e.view from.0 (m.usable from.0 here.0) in
      let view : opened_from (view_if_open (Some (floor_after initial_floor d.hidden))) (newest from.0) ≡ Some u = sym d.opened ∙ here.1 in
      let vote = found_is_vote s secret plans issued prefix facts from.0.host from.0.body.stable.pos d.hidden (newest from.0) u p z.0 d.ordered d.entries d.known view from.2 in
      let once = drop_newest s secret plans issued prefix facts from.0.host _ _ d.once in
      let bound : (1 ≤ c) × (c ≤ length (prefix (primary s u))) = at_bound (prefix (primary s u)) c o.says o.there in
      let order = names s secret plans issued prefix facts from.0.host (bares (newest from.0) ++ d.hidden) once.later u p _ once.is d.ordered vote (omega (arith, low z.0 z.1)) in
      let same = one_order s secret plans issued prefix facts u p z.0.0 c (batch_digest z.0.1) r order o in
      let reach = found_low s secret plans issued prefix facts from.0.host from.0.body.stable.pos d.hidden (newest from.0) p z.0 d.entries d.bodies from.2 in
      let stable = stable_below from.0 logs here.0 in
      let at : lowest_vote ((base_of logs).pos + 1 + (p - (base_of logs).pos - 1)) (of_view (Some u) logs) ≡ Some z.0 = subst (λ (n : ℕ). lowest_vote n (of_view (Some u) logs) ≡ Some z.0) (back p (base_of logs).pos above) z.1 in
      let batch = batch_at (of_view (Some u) logs) ((base_of logs).pos + 1) (span s) (p - (base_of logs).pos - 1) z.0 (omega arith) (λ q le lt. all q (omega arith) (omega arith)) at in
      let batch2 = subst (λ (y : Option ℕ). slice_get (batches_from (of_view y logs) ((base_of logs).pos + 1) (span s)) (p - (base_of logs).pos - 1) ≡ Some z.0.1) (sym high) batch in
      plan_at e logs m.plan p z.0.1 r above batch2 same.1 where
        back : (p b : ℕ) → b < p → p ≡ b + 1 + (p - b - 1)
        back p b lt = omega arith

  -- ---- the induction over views

  -- what is committed in view v is in the plan of this evidence, or below its base
  abbrev Stays : ℕ → ℕ → Vote → Evidence → Type 0
  Stays v p x e = (p ≤ e.base) ⊎ (planned (plans e.plan) p ≡ Some x.request)

  pub leads_bound : (v c : ℕ) → IsTrue (leads v (at_counter (prefix (primary s v)) c)) → c ≤ length (prefix (primary s v))
  leads_bound v c h = go (at_counter (prefix (primary s v)) c) refl h where
    go : (m : Option Bare) → at_counter (prefix (primary s v)) c ≡ m → IsTrue (leads v m) → c ≤ length (prefix (primary s v))
    go None e h = absurd cc
    go (Some m) e h = (at_bound (prefix (primary s v)) c m e).1

  -- a voter whose log is among those of the plan
  record IsShared (v p : ℕ) (x : Vote) (e : Evidence) (logs : List ShownLog) : Type 0 where
    log : ShownLog
    here : In logs log
    voted : vote_in plans (prefix log.host) v p ≡ Some x

  shared : (v p : ℕ) (x : Vote) (e : Evidence) (logs : List ShownLog) → IsCommitted plans s prefix v p x → IsMade e logs → IsShared v p x e logs
  shared v p x e logs c m =
      let h = quorums_meet s (λ g. is_vote (vote_in plans (prefix g) v p) x) (has_host logs) c.voted m.many in
      let found = any_in (λ (l : ShownLog). l.host == h.0) logs h.3 in
      let host : found.0.host ≡ h.0 = eqb-true _ _ found.2 in
      record { log = found.0; here = found.1; voted = rw host (is_vote_is _ x h.2) }

  -- the log's own prefix of the proof: its vote is hidden, or shown in its list
  record IsInList (v p : ℕ) (x : Vote) (w : ℕ) (log : ShownLog) (d : ReadyLog w log) : Type 0 where
    vote : vote_in plans (bares (newest log) ++ d.hidden) v p ≡ Some x
    low : p ≤ last_position initial_floor (bares (newest log) ++ d.hidden) v

  in_list : (v p : ℕ) (x : Vote) (w : ℕ) (log : ShownLog) (d : ReadyLog w log) → v < w → vote_in plans (prefix log.host) v p ≡ Some x → IsInList v p x w log d
  in_list v p x w log d lt e =
      let whole : is_ordered initial_floor s log.host (inner_valid s issued) (d.once.later ++ bare.ViewChange w d.digest ∷ (bares (newest log) ++ d.hidden)) ≡ true =
      subst (λ (y : List Bare). is_ordered initial_floor s log.host (inner_valid s issued) y ≡ true) (sym d.once.is) (facts.ordered log.host) in
      let before = votes_before s secret plans issued prefix facts log.host d.once.later w d.digest (bares (newest log) ++ d.hidden) v p whole lt in
      let e2 : vote_in plans (bares (newest log) ++ d.hidden) v p ≡ Some x = sym before ∙ (ap (λ (y : List Bare). vote_in plans y v p) d.once.is ∙ e) in
      let placed = vote_placed s secret plans issued prefix facts log.host (bares (newest log) ++ d.hidden) v p x e2 d.ordered in
      record { vote = e2; low = placed.low }

  lowest_is : (q : ℕ) (l : List ShownLog) (a b : ShownVote) → lowest_vote q l ≡ Some a → lowest_vote q l ≡ Some b → a.0 ≡ b.0
  lowest_is q l a b x y = ap (λ (z : ShownVote). z.0) (same_Some a b (sym x ∙ y))

  -- the highest opened view is that of the vote
  same_view_stays : (v p : ℕ) (x : Vote) (e : Evidence) (logs : List ShownLog) (log : ShownLog) (m : IsMade e logs) (d : ReadyLog e.view log) (i : IsInList v p x e.view log d)
      → In logs log → highest_view logs ≡ Some v → opened_view log ≡ Some v → x.counter ≤ length (prefix (primary s v)) → Stays v p x e
  same_view_stays v p x e logs log m d i here high view short = elim (cases_lt (base_of logs).pos p) [
    | inr le ↦ inl (omega (arith, m.base))
    | inl above ↦ inr (finish e logs m v p x.counter x.request high above
        (λ q lo hi. let f = found q lo hi in let r = lowest_found q f.vote log (of_view (Some v) logs) among f.is in (r.0, r.1))
        (names s secret plans issued prefix facts log.host (bares (newest log) ++ d.hidden) once.later v p x once.is d.ordered i.vote short)
        (λ z e. let f = found p above (omega arith) in
        let r = lowest_found p f.vote log (of_view (Some v) logs) among f.is in
        let vote = found_is_vote s secret plans issued prefix facts log.host log.body.stable.pos d.hidden (newest log) v p f.vote d.ordered d.entries d.known run_view f.is in
        let same : f.vote.0 ≡ x.counter = ap (λ (y : Vote). y.counter) (same_Some _ _ (sym vote ∙ i.vote)) in
        omega (arith, r.2, lowest_is p (of_view (Some v) logs) z r.0 e r.1)))
  ] where
    once : IsBeginning (bares (newest log) ++ d.hidden) (prefix log.host)
    once = drop_newest s secret plans issued prefix facts log.host _ _ d.once

    among : In (of_view (Some v) logs) log
    among = of_view_in v log logs here view

    run_view : opened_from (view_if_open (Some (floor_after initial_floor d.hidden))) (newest log) ≡ Some v
    run_view = sym d.opened ∙ view

    found : (q : ℕ) → (base_of logs).pos < q → q ≤ p → Found s secret plans issued prefix facts log.host log.body.stable.pos d.hidden q (newest log)
    found q lo hi =
        let run = run_low s secret plans issued prefix facts e.view log logs v here high view d in
        finds_vote s secret plans issued prefix facts log.host log.body.stable.pos d.hidden (newest log) v q d.ordered d.entries d.bodies run_view (omega arith) (omega (arith, i.low))

  -- a higher view was opened, and what was committed is in its plan or below its base
  higher_view_stays : (u v p : ℕ) (x : Vote) (e : Evidence) (logs : List ShownLog) (log : ShownLog) (m : IsMade e logs) (d : ReadyLog e.view log)
      → In logs log → highest_view logs ≡ Some u → opened_view log ≡ Some u → (f : Evidence)
      → IsShownOpened s secret plans issued prefix facts log.host log.body.stable.pos d.hidden (newest log) u f → Stays v p x f → Stays v p x e
  higher_view_stays u v p x e logs log m d here high view f by stays = go by.how stays where
    run : run_start d.hidden (newest log) ≤ (base_of logs).pos
    run = run_low s secret plans issued prefix facts e.view log logs u here high view d

    plan : f.base ≤ f.end
    plan = let h = has_plan s secret plans issued prefix facts f by.ok in omega (arith, h.base, h.end)

    among : In (of_view (Some u) logs) log
    among = of_view_in u log logs here view

    start : ℕ
    start = run_start d.hidden (newest log)

    order : planned (plans f.plan) p ≡ Some x.request → Orders s secret plans issued prefix facts u p f.counter x.request
    order h = subst (λ (y : ℕ). Orders s secret plans issued prefix facts y p f.counter x.request) by.view
        (record { says = bare.NewView f.view f.base f.end f.plan f.body; there = facts.new_views f by.ok; puts = orders_plan s secret plans issued prefix facts f.view p f.base f.end f.plan f.body x.request h })

    covers : (start ≡ f.base) → ((q : ℕ) → f.base < q → q ≤ f.end → (y : ShownVote) × (vote_since q (newest log) ≡ Some y) × (y.0 ≡ f.counter))
        → (h : planned (plans f.plan) p ≡ Some x.request) → p ≤ f.end → (base_of logs).pos < p → Stays v p x e
    covers base votes h within above = inr (finish e logs m u p f.counter x.request high above
        (λ q lo hi. let y = votes q (omega (arith, run, base)) (omega arith) in let r = lowest_found q y.0 log (of_view (Some u) logs) among y.1 in (r.0, r.1))
        (order h)
        (λ z e. let y = votes p (omega (arith, run, base)) within in
        let r = lowest_found p y.0 log (of_view (Some u) logs) among y.1 in
        omega (arith, r.2, y.2, lowest_is p (of_view (Some u) logs) z r.0 e r.1)))

    go : (f.end ≤ start) ⊎ ((start ≡ f.base) × ((q : ℕ) → f.base < q → q ≤ f.end → (y : ShownVote) × (vote_since q (newest log) ≡ Some y) × (y.0 ≡ f.counter)))
        → Stays v p x f → Stays v p x e
    go (inl ended) (inl low) = inl (omega (arith, run, plan, m.base))
    go (inl ended) (inr h) = let w = planned_within s secret plans issued prefix facts f p x.request by.ok h in inl (omega (arith, run, w.1, m.base))
    go (inr (base, votes)) (inl low) = inl (omega (arith, run, base, m.base))
    go (inr (base, votes)) (inr h) = let w = planned_within s secret plans issued prefix facts f p x.request by.ok h in elim (cases_lt (base_of logs).pos p) [
      | inr le ↦ inl (omega (arith, m.base))
      | inl above ↦ covers base votes h w.1 above
    ]

  stays_below : (n : ℕ) (v p : ℕ) (x : Vote) → IsCommitted plans s prefix v p x → (e : Evidence) → e.view < n → is_evidence s issued e ≡ true → v < e.view → Stays v p x e
  stays_below zero v p x c e le ok lt = absurd (omega arith)
  stays_below (suc n) v p x c e le ok lt = cases (made_of e ok).0 (made_of e ok).1 (λ f below is higher. stays_below n v p x c f below is higher) where
    short : x.counter ≤ length (prefix (primary s v))
    short = leads_bound v x.counter c.led

    shown : (logs : List ShownLog) (m : IsMade e logs) (log : ShownLog) (d : ReadyLog e.view log) → In logs log → IsInList v p x e.view log d
        → ((f : Evidence) → f.view < n → is_evidence s issued f ≡ true → v < f.view → Stays v p x f) → (u : ℕ) → opened_view log ≡ Some u → v ≤ u → Stays v p x e
    shown logs m log d here i before u view le2 =
        let top = highest_above u log logs here view in
        elim (cases_lt v top.0) [
          | inr ge ↦
              let same : u ≡ v = omega (arith, top.2) in
              let highest : top.0 ≡ v = omega (arith, top.2) in
              same_view_stays v p x e logs log m d i here (top.1 ∙ ap Some highest) (view ∙ ap Some same) short
          | inl above ↦
              let g = highest_from top.0 logs top.1 in
              let k = ready s secret plans issued prefix facts e.view g.0 (m.usable g.0 g.1) in
              let found : opened_from (view_if_open (Some (floor_after initial_floor k.hidden))) (newest g.0) ≡ Some top.0 = sym k.opened ∙ g.2 in
              let by = shown_opened s secret plans issued prefix facts g.0.host g.0.body.stable.pos k.hidden (newest g.0) top.0 k.ordered k.entries k.bodies found (omega arith) in
              let low = opened_low s secret plans issued prefix facts g.0.host g.0.body.stable.pos k.hidden (newest g.0) top.0 k.ordered found in
              let up = change_is s secret plans issued prefix facts g.0.host e.view k.digest (bares (newest g.0) ++ k.hidden) k.changes in
              higher_view_stays top.0 v p x e logs g.0 m k g.1 top.1 g.2 by.0 by.1
              (before by.0 (omega (arith, low, up, by.1.view)) by.1.ok (omega (arith, by.1.view)))
        ]

    cases : (logs : List ShownLog) (m : IsMade e logs) → ((f : Evidence) → f.view < n → is_evidence s issued f ≡ true → v < f.view → Stays v p x f) → Stays v p x e
    cases logs m before =
        let sh = shared v p x e logs c m in
        let d = ready s secret plans issued prefix facts e.view sh.log (m.usable sh.log sh.here) in
        let i = in_list v p x e.view sh.log d lt sh.voted in
        elim (shown_view s secret plans issued prefix facts sh.log.host sh.log.body.stable.pos d.hidden (newest sh.log) v p x d.ordered i.vote) [
          | inl hides ↦
              let placed = vote_placed s secret plans issued prefix facts sh.log.host d.hidden v p x hides d.hidden_ordered in
              let top = last_below_top s secret plans issued prefix facts sh.log.host d.hidden v in
              let stable = stable_below sh.log logs sh.here in
              inl (omega (arith, placed.low, d.low, m.base))
          | inr (u, found, le2) ↦ shown logs m sh.log d sh.here i before u (d.opened ∙ found) le2
        ]

  -- what is committed stays
  pub committed_stays : CommittedStays s secret plans issued prefix
  committed_stays v p x e c ok lt = stays_below (suc e.view) v p x c e (omega arith) ok lt
