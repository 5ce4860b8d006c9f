-- A byte string is learnt from: positions are executed while a batch is proved, and what hosts say is compared.
use Rattle.std.proofs.Common.{◌≡◌, ℕ, ◌+◌, ◌-◌, ◌<◌, ◌≤◌, ◌^◌, ◌⊎◌, Bool, true, false, cond, List, [], ◌∷◌, ◌++◌, length, slice_get, Some, IfSome, Result, Err, refl, sym, ap, subst, ◌∙◌, inl, inr, arith, append_assoc, append-nil, length-append}
use Rattle.std.specs.Prelude.{◌==◌, if◌then◌else◌, Contains}
use Rattle.std.specs.Global.{Vec}
use Rattle.std.specs.List.{AllByRecursion}
use Rattle.std.proofs.lemmas.Bool.{cases_lt, ne_eqb}
use Rattle.std.proofs.lemmas.List.Elements.{Contains-append_left, Contains-push}
use Rattle.std.proofs.lemmas.Option.{none-some}
use Rattle.mb_base.specs.Shapes.{Bytes, host_count, client_count}
use Rattle.mb_base.specs.declared.shape.Shape.{Shape}
use Rattle.mb_parts.specs.declared.batch.Batch.{Batch}
use Rattle.mb_parts.specs.Bares.{Bare}
use Rattle.mb_parts.specs.Claims.{Claim}
use Rattle.mb_parts.specs.Fits.{FitsBatch}
use Rattle.mb_msg.specs.declared.stamped.Shown.{Shown}
use Rattle.mb_msg.specs.declared.event.Slot.{Slot}
use Rattle.mb_model.proofs.Members.{in_contained}
use Rattle.mb_model.specs.Committed.{Plans}
use Rattle.mb_model.specs.Service.{Machine, batch_of}
use Rattle.mb_model.specs.States.{Snapshots}
use Rattle.mb_usig.specs.Trusted.{Trusted}
use Rattle.mb_audit.specs.Stamps.{claims_among}
use Rattle.mb_learn.specs.declared.difference.Difference.{Difference}
use Rattle.mb_learn.specs.declared.batches.Batches.{Batches}
use Rattle.mb_learn.specs.declared.checkpoints.Checkpoints.{Checkpoints}
use Rattle.mb_learn.specs.declared.follower.Follower.{Follower}
use Rattle.mb_learn.specs.declared.heard.Heard.{Heard}
use Rattle.mb_learn.specs.declared.heard.Opening.{Opening}
use Rattle.mb_learn.specs.declared.learner.Learner.{Learner}
use Rattle.mb_learn.specs.declared.learner.LearnStop.{LearnStop}
use Rattle.mb_learn.specs.declared.learner.LearnStop.TheVariants as stop
use Rattle.mb_learn.specs.declared.line.Line.{Line}
use Rattle.mb_learn.specs.declared.plans.Plans.{Plans as PlanTable}
use Rattle.mb_learn.specs.declared.votes.Cast.{Cast}
use Rattle.mb_learn.specs.declared.votes.Votes.{Votes}
use Rattle.mb_learn.specs.Followers.{IsFollowing}
use Rattle.mb_learn.specs.Held.{known_plans}
use Rattle.mb_learn.specs.Differences.{IsLowest, IsNowhere}
use Rattle.mb_learn.specs.Executed.{Executes, ExecutesToo}
use Rattle.mb_learn.specs.Halting.{Halts}
use Rattle.mb_learn.specs.Hearing.{IsReady, FollowsAll, Counts, Shows, Says, Hears, HearsOf, NotesNews, AddsNews, KeepsTables, KeepsPlace}
use Rattle.mb_learn.specs.Learners.{Agrees, Represents, LearnsMore, Differs, Answers, AreProved, Executed, ExecutedAll, Compares}
use Rattle.mb_learn.specs.Next.{IsNext}
use Rattle.mb_learn.specs.Proved.{IsProved, IsLearnt, DiffersAt, digest_behind}
use Rattle.mb_learn.specs.Running.{IsRunning}
use Rattle.mb_learn.specs.Shown.{shown_among}
use Rattle.mb_learn.specs.Tables.{AreLow, batch_at, plan_at, IsLowPlan, casts_at, is_among, Raises, said_at, says}
use Rattle.mb_learn.proofs.Comparing.{differs_is, is_differs, is_noted}
use Rattle.mb_learn.proofs.Executing.{got_either}
use Rattle.mb_learn.proofs.Learning.{next_proved, proved_next, proved_more}

-- ---- nothing was taken

-- Nothing is proved by no byte strings.
none_proved : (s : Shape) (secret : Bytes) (position : ℕ) (b : Batch) → IsProved s secret [] position b → ⊥
none_proved s secret position b (view, vote, proved) = in_contained [] proved.held.by proved.held.among

pub learns_nothing : {S : Type 0} (s : Shape) (m : Machine S) (initial : S) (secret : Bytes) → IsLearnt s m initial secret [] []
learns_nothing s m initial secret = record {
  places = refl;
  proved = λ q slot at. absurd (none-some slot at);
  marks = λ q i slot p at there. absurd (none-some slot at);
  all = λ b proved. none_proved s secret 1 b proved;
}

pub agrees_nothing : {S : Type 0} (s : Shape) (secret : Bytes) (m : Machine S) (snapshots : Snapshots S) (initial : S) → Agrees s secret m snapshots initial [] []
agrees_nothing s secret m snapshots initial p c d = let one = d.positive in let none = d.executed in absurd (omega (arith, one, none))

-- ---- the next position is executed

module _ (old new : Votes) (raises : Raises old new) where
  raised_other : (p : ℕ) → (p ≡ new.executed → ⊥) → casts_at new p ≡ casts_at old p
  raised_other p ne = raises.casts p ∙ ap (λ b. if b then [] else casts_at old p) (ne_eqb p new.executed ne)

  pub raised_counts : (plans : Plans) (lists : ℕ → List Bare) (openings : List Opening) → Counts plans lists openings old → Counts plans lists openings new
  raised_counts plans lists openings c = record {
    opened = c.opened;
    voted = λ p h view vote lt.
        let above = raises.executed in
        ap (λ (l : List Cast). is_among l h view vote) (raised_other p (λ e. omega (arith, e, lt))) ∙ c.voted p h view vote (omega (arith, above, lt));
  }

  pub raised_low : AreLow old → AreLow new
  raised_low low p le = raises.casts p ∙ by (p == new.executed) where
    by : (b : Bool) → cond b [] (casts_at old p) ≡ []
    by true = refl
    by false = low p le

-- votes that are raised, and a position that is noted
module _ (t : Heard) (votes : Votes) (news : Vec ℕ) (raises : Raises t.votes votes) where
  abbrev pub raised : Heard
  raised = record t { votes = votes; newly_said = news }

  pub raised_ready : t.votes.executed + 1 < 2 ^ 63 → IsReady t → IsReady raised
  raised_ready low ready = record {
    shape = ready.shape;
    count = ready.count;
    follow = ready.follow;
    batches = ready.batches;
    plans = ready.plans;
    votes = raised_low t.votes votes raises ready.votes;
    place = subst (λ (n : ℕ). n < 2 ^ 63) (sym raises.executed) low;
  }

  pub raised_hears : (s : Shape) (secret : Bytes) (taken : List Bytes) (lists : ℕ → List Bare) → HearsOf s secret taken lists t → HearsOf s secret taken lists raised
  raised_hears s secret taken lists h = record {
    hears = record {
      shape = h.hears.shape;
      secret_is = h.hears.secret_is;
      follows = h.hears.follows;
      counts = raised_counts t.votes votes raises _ lists t.openings.items h.hears.counts;
      shows = h.hears.shows;
      says_all = h.hears.says_all;
    };
    whole = h.whole;
  }

module _ {S : Type 0} (s : Shape) (secret : Bytes) (m : Machine S) (snapshots : Snapshots S) (initial : S) (taken : List Bytes) (lists : ℕ → List Bare) (slots : List Slot) where
  -- nothing is executed yet
  pub executed_none : (t : Heard) (line : Line S) → Executed s secret m snapshots initial taken lists slots t line → ExecutedAll s secret m snapshots initial taken lists slots t line
  executed_none t line x = record {
    more = [];
    executed = subst (λ (l : List Slot). Executed s secret m snapshots initial taken lists l t line) (sym (append-nil slots)) x;
    noted = λ p above below. let none = ap (λ (l : List Slot). length l) (append-nil slots) in absurd (omega (arith, above, below, none));
  }

  -- one position more
  pub executed_one : (t : Heard) (line after : Line S) (votes : Votes) (news : Vec ℕ) (b : Batch) → ExecutedAll s secret m snapshots initial taken lists slots t line
      → ((l : List Slot) → Executes s m initial snapshots l line → ExecutesToo s m initial snapshots l b after) → IsNext s secret (shown_among s taken) lists (t.votes.executed + 1) b → t.votes.executed ≡ length line.slots.items
      → (raises : Raises t.votes votes) → news.items ≡ t.newly_said.items ++ length after.slots.items ∷ [] → length after.slots.items ≡ length line.slots.items + 1
      → ExecutedAll s secret m snapshots initial taken lists slots (raised t votes news raises) after
  executed_one t line after votes news b x executes next place raises noted longer =
      let too = executes (slots ++ x.more) x.executed.executes in
      record {
        more = x.more ++ too.slot ∷ [];
        executed = subst (λ (l : List Slot). Executed s secret m snapshots initial taken lists l (raised t votes news raises) after) (append_assoc slots x.more (too.slot ∷ [])) (record {
          hears = raised_hears t votes news raises s secret taken lists x.executed.hears;
          executes = too.executes;
          proved = proved too;
        });
        noted = λ p above below. note too p above below (cases_lt (length (slots ++ x.more)) p);
      } where
        count : t.votes.executed ≡ length (slots ++ x.more)
        count = place ∙ ap (λ (l : List Slot). length l) x.executed.executes.slots_are

        proved : (too : ExecutesToo s m initial snapshots (slots ++ x.more) b after) → AreProved s secret m snapshots initial taken ((slots ++ x.more) ++ too.slot ∷ [])
        proved too q slot at = by (got_either (slots ++ x.more) too.slot q slot at) where
          by : ((q < length (slots ++ x.more)) × (slice_get (slots ++ x.more) q ≡ Some slot)) ⊎ ((q ≡ length (slots ++ x.more)) × (too.slot ≡ slot)) → IsProved s secret taken (q + 1) (batch_of slot)
          by (inl before) = x.executed.proved q slot before.1
          by (inr last) =
              subst (λ (n : ℕ). IsProved s secret taken (n + 1) (batch_of slot)) (count ∙ sym last.0)
              (subst (λ (y : Slot). IsProved s secret taken (t.votes.executed + 1) (batch_of y)) last.1
              (subst (λ (y : Batch). IsProved s secret taken (t.votes.executed + 1) y) (sym too.batch_is) (next_proved s secret taken lists (t.votes.executed + 1) b x.executed.hears.whole next)))

        note : (too : ExecutesToo s m initial snapshots (slots ++ x.more) b after) (p : ℕ) → length slots + 1 ≤ p → p ≤ length (slots ++ (x.more ++ too.slot ∷ [])) → (length (slots ++ x.more) < p) ⊎ (p ≤ length (slots ++ x.more)) → Contains news.items p
        note too p above below (inr le) = subst (λ (l : List ℕ). Contains l p) (sym noted) (Contains-append_left t.newly_said.items (length after.slots.items ∷ []) p (x.noted p above le))
        note too p above below (inl lt) =
            let long = ap (λ (l : List Slot). length l) (append_assoc slots x.more (too.slot ∷ [])) in
            let one = length-append (slots ++ x.more) (too.slot ∷ []) in
            let last : length after.slots.items ≡ p = omega (arith, lt, below, long, one, longer, place, count) in
            subst (λ (l : List ℕ). Contains l p) (sym noted) (subst (λ (n : ℕ). Contains (t.newly_said.items ++ n ∷ []) p) (sym last) (Contains-push t.newly_said.items p))

  -- none is proved behind the last
  pub none_next : (t : Heard) (line : Line S) → ExecutedAll s secret m snapshots initial taken lists slots t line → t.votes.executed ≡ length line.slots.items
      → ((b : Batch) → IsNext s secret (shown_among s taken) lists (t.votes.executed + 1) b → ⊥) → (b : Batch) → IsProved s secret taken (length line.slots.items + 1) b → ⊥
  none_next t line x place none b proved =
      none b (subst (λ (n : ℕ). IsNext s secret (shown_among s taken) lists (n + 1) b) (sym place) (proved_next s secret taken lists (length line.slots.items + 1) b x.executed.hears.whole proved))

  -- what is learnt then
  pub learnt_now : (t : Heard) (line : Line S) (x : ExecutedAll s secret m snapshots initial taken lists slots t line) → ((b : Batch) → IsProved s secret taken (length line.slots.items + 1) b → ⊥)
      → IsLearnt s m initial secret taken (slots ++ x.more)
  learnt_now t line x none = record {
    places = x.executed.executes.places;
    proved = x.executed.proved;
    marks = x.executed.executes.marks;
    all = λ b proved. none b (subst (λ (l : List Slot). IsProved s secret taken (length l + 1) b) (sym x.executed.executes.slots_are) proved);
  }

-- ---- the whole call

module _ {S : Type 0} (s : Shape) (secret : Bytes) (m : Machine S) (snapshots : Snapshots S) (initial : S) (taken : List Bytes) (bytes : Bytes) (slots : List Slot) where
  abbrev after : List Bytes
  after = taken ++ bytes ∷ []

  -- What was executed stays proved.
  pub still_executed : (lists : ℕ → List Bare) (t : Heard) (line : Line S) → HearsOf s secret after lists t → Executes s m initial snapshots slots line → IsLearnt s m initial secret taken slots → Executed s secret m snapshots initial after lists slots t line
  still_executed lists t line hears executes learnt = record {
    hears = hears;
    executes = executes;
    proved = λ q slot at. proved_more s secret taken bytes lists (q + 1) (batch_of slot) hears.whole (learnt.proved q slot at);
  }

  module _ (lists : ℕ → List Bare) (old first last : Heard) (line : Line S) (x : ExecutedAll s secret m snapshots initial after lists slots last line) (before : Says secret (claims_among s taken) old.checkpoints)
      (agrees : Agrees s secret m snapshots initial taken slots) (news : NotesNews old first) (adds : AddsNews first last) where
    new_noted : (p h : ℕ) (state : Bytes) → (says (said_at last.checkpoints p) h state ≡ says (said_at old.checkpoints p) h state) ⊎ Contains last.newly_said.items p
    new_noted p h state = by (news.noted p h state) where
      by : (says (said_at first.checkpoints p) h state ≡ says (said_at old.checkpoints p) h state) ⊎ Contains first.newly_said.items p
          → (says (said_at last.checkpoints p) h state ≡ says (said_at old.checkpoints p) h state) ⊎ Contains last.newly_said.items p
      by (inl e) = inl (ap (λ (t : Checkpoints). says (said_at t p) h state) adds.checkpoints ∙ e)
      by (inr there) = inr (adds.noted_before p there)

    there : (p : ℕ) (c : Bytes) → DiffersAt s m initial snapshots secret after (slots ++ x.more) p c → Contains last.newly_said.items p
    there = is_noted s secret m snapshots initial taken after slots x.more old last agrees before x.executed.hears.hears.says_all new_noted x.noted

    -- Where nothing differs at what is noted, nothing differs.
    pub agrees_now : IsNowhere last line last.newly_said.items → Agrees s secret m snapshots initial after (slots ++ x.more)
    agrees_now nowhere p c d =
        nowhere (record { pos = p; found = digest_behind s m initial snapshots (slots ++ x.more) p; certified = c }) (there p c d)
        (differs_is s m initial snapshots (slots ++ x.more) line x.executed.executes secret after last x.executed.hears.hears.shape x.executed.hears.hears.says_all p c d)

    -- The lowest of what is noted is the lowest.
    pub differs_now : ((b : Batch) → IsProved s secret after (length line.slots.items + 1) b → ⊥) → (d : Difference) → IsLowest last line last.newly_said.items d → (y : Learner S) → y.halted ≡ true
        → Differs s secret m snapshots initial after slots d.pos d.found d.certified y
    differs_now none d low y halts =
        let is = is_differs s m initial snapshots (slots ++ x.more) line x.executed.executes secret after last x.executed.hears.hears.shape x.executed.hears.hears.says_all d low.differs in
        record {
          halts = halts;
          more = x.more;
          learnt = learnt_now s secret m snapshots initial after lists slots last line x none;
          differs = is.0;
          found_is = is.1;
          lowest = λ p c other. low.below (record { pos = p; found = digest_behind s m initial snapshots (slots ++ x.more) p; certified = c }) (there p c other)
              (differs_is s m initial snapshots (slots ++ x.more) line x.executed.executes secret after last x.executed.hears.hears.shape x.executed.hears.hears.says_all p c other);
        }

    -- The learner goes on.
    pub learns_now : ((b : Batch) → IsProved s secret after (length line.slots.items + 1) b → ⊥) → IsNowhere last line last.newly_said.items → (y : Learner S) → y.halted ≡ false → y.line ≡ line → KeepsTables last y.heard
        → y.heard.newly_said.items ≡ [] → Represents s secret m snapshots initial after (slots ++ x.more) y
    learns_now none nowhere y runs line_is kept news_none = record {
      runs = runs;
      lists = lists;
      hears = kept_hears;
      executes = subst (λ (l : Line S). Executes s m initial snapshots (slots ++ x.more) l) (sym line_is) x.executed.executes;
      news = news_none;
      learnt = learnt_now s secret m snapshots initial after lists slots last line x none;
      agrees = agrees_now nowhere;
    } where
      h : Hears s secret (claims_among s after) (claims_among s after) (shown_among s after) lists last
      h = x.executed.hears.hears

      kept_hears : HearsOf s secret after lists y.heard
      kept_hears = record {
        hears = record {
          shape = kept.shape ∙ h.shape;
          secret_is = ap (λ (u : Trusted). u.secret) kept.usig ∙ h.secret_is;
          follows = subst (λ (v : Vec Follower). FollowsAll s secret (claims_among s after) lists v.items) (sym kept.followers) h.follows;
          counts = subst (λ (v : Vec Opening). Counts (known_plans s secret (shown_among s after)) lists v.items y.heard.votes) (sym kept.openings) (subst (λ (v : Votes). Counts (known_plans s secret (shown_among s after)) lists last.openings.items v) (sym kept.votes) h.counts);
          shows = subst (λ (b : Batches). Shows s secret (shown_among s after) y.heard.plans b) (sym kept.batches) (subst (λ (p : PlanTable). Shows s secret (shown_among s after) p last.batches) (sym kept.plans) h.shows);
          says_all = subst (λ (t : Checkpoints). Says secret (claims_among s after) t) (sym kept.checkpoints) h.says_all;
        };
        whole = x.executed.hears.whole;
      }

-- ---- the loop

module _ {S : Type 0} (m : Machine S) (snapshots : Snapshots S) where
  -- Positions were executed, and their numbers noted.
  pub record Executing (old : Heard) (before : Line S) (now : Heard) (line : Line S) : Type 0 where
    pub running : IsRunning now line
    pub longer : length before.slots.items ≤ length line.slots.items
    pub executed : (s : Shape) (secret : Bytes) (initial : S) (taken : List Bytes) (lists : ℕ → List Bare) (slots : List Slot) → Executed s secret m snapshots initial taken lists slots old before
        → ExecutedAll s secret m snapshots initial taken lists slots now line
    pub news : AddsNews old now

  pub executing_first : (t : Heard) (line : Line S) → IsRunning t line → Executing t line t line
  executing_first t line running = record {
    running = running;
    longer = omega arith;
    executed = λ s secret initial taken lists slots e. executed_none s secret m snapshots initial taken lists slots t line e;
    news = record { noted_before = λ p there. there; checkpoints = refl };
  }

  module _ (old : Heard) (before : Line S) (now : Heard) (line : Line S) (g : Executing old before now line) where
    -- one position more
    pub executing_next : (longer_line : Line S) (votes : Votes) (news : Vec ℕ) (b : Batch)
        → ((s : Shape) (initial : S) (l : List Slot) → Executes s m initial snapshots l line → ExecutesToo s m initial snapshots l b longer_line)
        → ((s : Shape) (secret : Bytes) (claims said : List Claim) (all : List Shown) (lists : ℕ → List Bare) → Hears s secret claims said all lists now → IsNext s secret all lists (now.votes.executed + 1) b)
        → Raises now.votes votes → news.items ≡ now.newly_said.items ++ length longer_line.slots.items ∷ [] → length longer_line.slots.items ≡ length line.slots.items + 1 → now.votes.executed + 1 < 2 ^ 63
        → longer_line.shape ≡ line.shape → length longer_line.table ≡ length line.table → Executing old before (record now { votes = votes; newly_said = news }) longer_line
    executing_next longer_line votes news b executes next raises noted longer low shape clients = record {
      running = record {
        ready = raised_ready now votes news raises low g.running.ready;
        shape = shape ∙ g.running.shape;
        clients = clients ∙ g.running.clients ∙ ap client_count (sym shape);
        place = raises.executed ∙ ap (λ n. n + 1) g.running.place ∙ sym longer;
      };
      longer = let before_long = g.longer in omega (arith, before_long, longer);
      executed = λ s secret initial taken lists slots e.
          let x = g.executed s secret initial taken lists slots e in
          executed_one s secret m snapshots initial taken lists slots now line longer_line votes news b x (λ l ex. executes s initial l ex)
          (next s secret (claims_among s taken) (claims_among s taken) (shown_among s taken) lists x.executed.hears.hears) g.running.place raises noted longer;
      news = record {
        noted_before = λ p there. subst (λ (l : List ℕ). Contains l p) (sym noted) (Contains-append_left now.newly_said.items (length longer_line.slots.items ∷ []) p (g.news.noted_before p there));
        checkpoints = g.news.checkpoints;
      };
    }

    -- none is proved
    pub executing_last : ((s : Shape) (secret : Bytes) (claims said : List Claim) (all : List Shown) (lists : ℕ → List Bare) → Hears s secret claims said all lists now → (b : Batch) → IsNext s secret all lists (now.votes.executed + 1) b → ⊥)
        → (s : Shape) (secret : Bytes) (initial : S) (taken : List Bytes) (lists : ℕ → List Bare) (slots : List Slot) → Executed s secret m snapshots initial taken lists slots old before
        → ExecutedAll s secret m snapshots initial taken lists slots now line × ((b : Batch) → IsProved s secret taken (length line.slots.items + 1) b → ⊥)
    executing_last none s secret initial taken lists slots e =
        let x = g.executed s secret initial taken lists slots e in
        (x, none_next s secret m snapshots initial taken lists slots now line x g.running.place (none s secret (claims_among s taken) (claims_among s taken) (shown_among s taken) lists x.executed.hears.hears))

-- ---- a learner that goes on

module _ {S : Type 0} where
  -- behind a byte string
  pub running_taken : (t u : Heard) (line : Line S) → KeepsPlace t u → IsRunning t line → IsRunning u line
  running_taken t u line keeps run = record { ready = keeps.ready; shape = run.shape ∙ sym keeps.shape; clients = run.clients; place = keeps.executed ∙ run.place }

  -- where nothing is noted any more
  pub running_kept : (t u : Heard) (line : Line S) → KeepsTables t u → IsRunning t line → IsRunning u line
  running_kept t u line kept run = record {
    ready = record {
      shape = ap (λ (x : Trusted). x.shape) kept.usig ∙ run.ready.shape ∙ sym kept.shape;
      count = ap (λ (v : Vec Follower). length v.items) kept.followers ∙ run.ready.count ∙ ap host_count (sym kept.shape);
      follow = subst (λ (s : Shape). AllByRecursion (IsFollowing s) u.followers.items) (sym kept.shape) (subst (λ (v : Vec Follower). AllByRecursion (IsFollowing t.shape) v.items) (sym kept.followers) run.ready.follow);
      batches = λ d. subst (λ (s : Shape). IfSome (batch_at u.batches d) (FitsBatch s)) (sym kept.shape) (subst (λ (b : Batches). IfSome (batch_at b d) (FitsBatch t.shape)) (sym kept.batches) (run.ready.batches d));
      plans = λ d. subst (λ (p : PlanTable). IfSome (plan_at p d) IsLowPlan) (sym kept.plans) (run.ready.plans d);
      votes = subst AreLow (sym kept.votes) run.ready.votes;
      place = subst (λ (v : Votes). v.executed < 2 ^ 63) (sym kept.votes) run.ready.place;
    };
    shape = run.shape ∙ sym kept.shape;
    clients = run.clients;
    place = ap (λ (v : Votes). v.executed) kept.votes ∙ run.place;
  }

-- ---- what a call answers

module _ {S : Type 0} (s : Shape) (secret : Bytes) (m : Machine S) (snapshots : Snapshots S) (initial : S) (taken : List Bytes) (bytes : Bytes) (slots : List Slot) (old mid : Learner S)
    (rep : Represents s secret m snapshots initial taken slots old) (first : Heard) (hears : (longer : ℕ → List Bare) × HearsOf s secret (taken ++ bytes ∷ []) longer first) (news : NotesNews old.heard first) (adds : AddsNews first mid.heard)
    (executes : (lists : ℕ → List Bare) → Executed s secret m snapshots initial (taken ++ bytes ∷ []) lists slots first old.line
    → ExecutedAll s secret m snapshots initial (taken ++ bytes ∷ []) lists slots mid.heard mid.line × ((b : Batch) → IsProved s secret (taken ++ bytes ∷ []) (length mid.line.slots.items + 1) b → ⊥)) where
  executed : ExecutedAll s secret m snapshots initial (taken ++ bytes ∷ []) hears.0 slots mid.heard mid.line × ((b : Batch) → IsProved s secret (taken ++ bytes ∷ []) (length mid.line.slots.items + 1) b → ⊥)
  executed = executes hears.0 (still_executed s secret m snapshots initial taken bytes slots hears.0 first old.line hears.1 rep.executes rep.learnt)

  -- It stops.
  pub call_stops : (e : LearnStop) (y : Learner S) → Compares mid (Err e) → y.halted ≡ true → Answers s secret m snapshots initial (taken ++ bytes ∷ []) slots (Err e) y
  call_stops (stop.Differs position found certified) y low halts =
      differs_now s secret m snapshots initial taken bytes slots hears.0 old.heard first mid.heard mid.line executed.0 rep.hears.hears.says_all rep.agrees news adds executed.1
      (record { pos = position; found = found; certified = certified }) low y halts
  call_stops stop.Halted y none halts = none
  call_stops stop.NoMemory y none halts = halts

  -- It goes on.
  pub call_goes : (y : Learner S) (count : ℕ) → IsNowhere mid.heard mid.line mid.heard.newly_said.items → y.halted ≡ false → y.line ≡ mid.line → KeepsTables mid.heard y.heard → y.heard.newly_said.items ≡ []
      → count ≡ length mid.line.slots.items - length old.line.slots.items → LearnsMore s secret m snapshots initial (taken ++ bytes ∷ []) slots count y
  call_goes y count nowhere runs line_is kept none count_is = record {
    more = executed.0.more;
    count =
        let all = ap (λ (l : List Slot). length l) executed.0.executed.executes.slots_are in
        let before = ap (λ (l : List Slot). length l) rep.executes.slots_are in
        let long = length-append slots executed.0.more in
        omega (arith, count_is, all, before, long);
    represents = learns_now s secret m snapshots initial taken bytes slots hears.0 old.heard first mid.heard mid.line executed.0 rep.hears.hears.says_all rep.agrees news adds executed.1 nowhere y runs line_is kept none;
  }

-- It stops for another cause than an earlier stop.
pub stops_otherwise : {S : Type 0} (old mid new : Learner S) (e : LearnStop) → Compares mid (Err e) → old.halted ≡ false → new.halted ≡ true → Halts old (Err e) new
stops_otherwise old mid new (stop.Differs position found certified) c went ends = (went, ends)
stops_otherwise old mid new stop.Halted c went ends = absurd c
stops_otherwise old mid new stop.NoMemory c went ends = (went, ends)
