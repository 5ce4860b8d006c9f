-- What is proved by more byte strings, and what is proved next.
use Rattle.std.proofs.Common.{◌≡◌, ℕ, ◌+◌, ◌<◌, ◌≤◌, ◌⊎◌, Bool, true, false, cond, List, [], ◌∷◌, ◌++◌, length, Option, Some, None, option_map, refl, sym, ap, subst, ◌∙◌, inl, inr, arith, mod-lt, append-nil}
use Rattle.std.specs.Prelude.{◌||◌, ◌==◌, find}
use Rattle.std.specs.Option.{option_or}
use Rattle.std.proofs.lemmas.Bool.{or_cases, or_left, or_right}
use Rattle.std.proofs.lemmas.List.Concat.{flat_map-append}
use Rattle.std.proofs.lemmas.List.Folds.{find-append}
use Rattle.mb_base.specs.Shapes.{Bytes, host_count, quorum, primary}
use Rattle.mb_base.specs.declared.shape.Shape.{Shape}
use Rattle.mb_parts.specs.declared.batch.Batch.{Batch}
use Rattle.mb_parts.specs.Bares.{Bare}
use Rattle.mb_parts.specs.Bares as bare
use Rattle.mb_parts.specs.Claims.{Claim}
use Rattle.mb_parts.specs.Counters.{at_counter, IsBeginning}
use Rattle.mb_parts.proofs.Counters.{at_more}
use Rattle.mb_msg.specs.declared.stamped.Shown.{Shown}
use Rattle.mb_model.specs.declared.known.Vote.{Vote}
use Rattle.mb_model.specs.Committed.{Plans, PlanText, planned, leads, vote_by}
use Rattle.mb_model.specs.Votes.{is_vote}
use Rattle.mb_model.proofs.Members.{in_contained, contained, in_left}
use Rattle.mb_audit.specs.Stamps.{claims_of, claims_among}
use Rattle.mb_learn.specs.Held.{shows_plan, plan_of_first, known_plans, IsHeld}
use Rattle.mb_learn.specs.Hearing.{AreWhole}
use Rattle.mb_learn.specs.Lists.{is_at, first_of, has_vote}
use Rattle.mb_learn.specs.Next.{IsNext}
use Rattle.mb_learn.specs.Proved.{IsProved}
use Rattle.mb_learn.specs.Shown.{shown_of, shown_among}
use Rattle.mb_learn.proofs.Followed.{Grows}
use Rattle.mb_learn.proofs.Lists.{one_list, goes_on}
use Rattle.mb_learn.proofs.Tallies.{tally_below, tally_up}
use Rattle.mb_learn.proofs.Tests.{true_false}

pub primary_below : (s : Shape) (view : ℕ) → primary s view < host_count s
primary_below s view = mod-lt view (omega arith)

-- ---- more byte strings

pub claims_more : (s : Shape) (taken : List Bytes) (bytes : Bytes) → claims_among s (taken ++ bytes ∷ []) ≡ claims_among s taken ++ claims_of s bytes
claims_more s taken bytes = flat_map-append (claims_of s) taken (bytes ∷ []) ∙ ap (λ (l : List Claim). claims_among s taken ++ l) (append-nil (claims_of s bytes))

pub shown_more : (s : Shape) (taken : List Bytes) (bytes : Bytes) → shown_among s (taken ++ bytes ∷ []) ≡ shown_among s taken ++ shown_of s bytes
shown_more s taken bytes = flat_map-append (shown_of s) taken (bytes ∷ []) ∙ ap (λ (l : List Shown). shown_among s taken ++ l) (append-nil (shown_of s bytes))

-- what is first stays so
first_stays : (secret : Bytes) (claims more : List Claim) (h : ℕ) → Grows (first_of secret claims h) (first_of secret (claims ++ more) h)
first_stays secret claims more h c m is =
    ap (option_map (λ (x : Claim). x.says)) (find-append (is_at secret claims h c) claims more) ∙ kept (find (is_at secret claims h c) claims) (find (is_at secret claims h c) more) is where
      kept : (a b : Option Claim) → option_map (λ (x : Claim). x.says) a ≡ Some m → option_map (λ (x : Claim). x.says) (option_or a b) ≡ Some m
      kept (Some x) b e = e
      kept None b e = absurd cc

-- a plan that is known stays so
plan_grows : (s : Shape) (secret : Bytes) (all more : List Shown) (d : Bytes) (t : PlanText) → known_plans s secret all d ≡ Some t → known_plans s secret (all ++ more) d ≡ Some t
plan_grows s secret all more d t is = ap (plan_of_first s secret) (find-append (shows_plan s secret d) all more) ∙ kept (find (shows_plan s secret d) all) (find (shows_plan s secret d) more) is where
  kept : (a b : Option Shown) → plan_of_first s secret a ≡ Some t → plan_of_first s secret (option_or a b) ≡ Some t
  kept (Some x) b e = e
  kept None b e = absurd cc

held_grows : (s : Shape) (secret : Bytes) (all more : List Shown) (b : Batch) → IsHeld s secret all b → IsHeld s secret (all ++ more) b
held_grows s secret all more b h = record { by = h.by; among = contained (all ++ more) h.by (in_left all more h.by (in_contained all h.by h.among)); shows = h.shows; tags = h.tags }

-- ---- votes stay

abbrev pub Extends : Plans → Plans → Type 0
Extends plans more = (d : Bytes) (t : PlanText) → plans d ≡ Some t → more d ≡ Some t

module _ (plans more : Plans) (ext : Extends plans more) where
  opened_stays : (b : Bool) (d : Bytes) (counter p : ℕ) (x : Vote) → is_vote (cond b (option_map (λ r. record { counter = counter; request = r }) (planned (plans d) p)) None) x ≡ true
      → is_vote (cond b (option_map (λ r. record { counter = counter; request = r }) (planned (more d) p)) None) x ≡ true
  opened_stays b d counter p x so = by (plans d) refl where
    by : (o : Option PlanText) → plans d ≡ o → is_vote (cond b (option_map (λ r. record { counter = counter; request = r }) (planned (more d) p)) None) x ≡ true
    by (Some t) is =
        ap (λ (o : Option PlanText). is_vote (cond b (option_map (λ r. record { counter = counter; request = r }) (planned o p)) None) x) (ext d t is ∙ sym is) ∙ so
    by None is = true_false (sym so ∙ ap (λ (o : Option PlanText). is_vote (cond b (option_map (λ r. record { counter = counter; request = r }) (planned o p)) None) x) is ∙ nothing b) where
      nothing : (c : Bool) → is_vote (cond c None None) x ≡ false
      nothing true = refl
      nothing false = refl

  pub vote_stays : (n : ℕ) (m : Bare) (v p : ℕ) (x : Vote) → is_vote (vote_by plans n m v p) x ≡ true → is_vote (vote_by more n m v p) x ≡ true
  unfolding vote_by
  vote_stays n (bare.Prepare view pos digest) v p x so = so
  vote_stays n (bare.Commit view pos counter cert digest) v p x so = so
  vote_stays n (bare.Checkpoint pos state digest) v p x so = so
  vote_stays n (bare.ViewChange view digest) v p x so = so
  vote_stays n (bare.NewView view base end plan digest) v p x so = so
  vote_stays n (bare.Enter view counter plan) v p x so = so
  vote_stays n (bare.Open evidence digest) v p x so = opened_stays (evidence.view == v) evidence.plan evidence.counter p x so
  vote_stays n (bare.Join view evidence stable) v p x so = so

  has_stays : (l : List Bare) (v p : ℕ) (x : Vote) → has_vote plans l v p x ≡ true → has_vote more l v p x ≡ true
  unfolding has_vote
  has_stays [] v p x so = so
  has_stays (m ∷ l) v p x so = by (or_cases (is_vote (vote_by plans (length l + 1) m v p) x) (has_vote plans l v p x) so) (has_stays l v p x) where
    by : (is_vote (vote_by plans (length l + 1) m v p) x ≡ true) ⊎ (has_vote plans l v p x ≡ true) → (has_vote plans l v p x ≡ true → has_vote more l v p x ≡ true) → (is_vote (vote_by more (length l + 1) m v p) x || has_vote more l v p x) ≡ true
    by (inl here) rest = or_left (is_vote (vote_by more (length l + 1) m v p) x) (has_vote more l v p x) (vote_stays (length l + 1) m v p x here)
    by (inr before) rest = or_right (is_vote (vote_by more (length l + 1) m v p) x) (has_vote more l v p x) (rest before)

  has_more : (later l : List Bare) (v p : ℕ) (x : Vote) → has_vote plans l v p x ≡ true → has_vote more (later ++ l) v p x ≡ true
  unfolding has_vote
  has_more [] l v p x so = has_stays l v p x so
  has_more (m ∷ later) l v p x so = or_right (is_vote (vote_by more (length (later ++ l) + 1) m v p) x) (has_vote more (later ++ l) v p x) (has_more later l v p x so)

  pub has_longer : (l longer : List Bare) → IsBeginning l longer → (v p : ℕ) (x : Vote) → has_vote plans l v p x ≡ true → has_vote more longer v p x ≡ true
  has_longer l longer begins v p x so = subst (λ (y : List Bare). has_vote more y v p x ≡ true) begins.is (has_more begins.later l v p x so)

-- what leads stays so
leads_longer : (l longer : List Bare) → IsBeginning l longer → (v c : ℕ) → leads v (at_counter l c) ≡ true → leads v (at_counter longer c) ≡ true
leads_longer l longer begins v c so = by (at_counter l c) refl where
  by : (o : Option Bare) → at_counter l c ≡ o → leads v (at_counter longer c) ≡ true
  by (Some m) is = ap (leads v) (ap (λ (y : List Bare). at_counter y c) (sym begins.is) ∙ at_more begins.later l c m is ∙ sym is) ∙ so
  by None is = true_false (sym so ∙ ap (leads v) is)

-- ---- what is proved

module _ (s : Shape) (secret : Bytes) (taken : List Bytes) (lists : ℕ → List Bare) where
  pub next_proved : (position : ℕ) (b : Batch) → AreWhole s secret (claims_among s taken) lists → IsNext s secret (shown_among s taken) lists position b → IsProved s secret taken position b
  next_proved position b whole (view, vote, next) = (view, vote, record { lists = lists; are = whole; voted = next.agreed.voted; led = next.agreed.led; held = next.held; digest = next.digest })

  pub proved_next : (position : ℕ) (b : Batch) → AreWhole s secret (claims_among s taken) lists → IsProved s secret taken position b → IsNext s secret (shown_among s taken) lists position b
  proved_next position b whole (view, vote, proved) = (
    view,
    vote,
    record {
      agreed = record {
        voted = subst (λ (n : ℕ). quorum s ≤ n) (tally_below (λ h. has_vote (known_plans s secret (shown_among s taken)) (proved.lists h) view position vote) (λ h. has_vote (known_plans s secret (shown_among s taken)) (lists h) view position vote) (host_count s)
            (λ h lt. ap (λ (l : List Bare). has_vote (known_plans s secret (shown_among s taken)) l view position vote) (same h lt))) proved.voted;
        led = subst (λ (l : List Bare). leads view (at_counter l vote.counter) ≡ true) (same (primary s view) (primary_below s view)) proved.led;
      };
      held = proved.held;
      digest = proved.digest;
    },
  ) where
    same : (h : ℕ) → h < host_count s → proved.lists h ≡ lists h
    same h lt = one_list s secret h (first_of secret (claims_among s taken) h) (proved.lists h) (lists h) (proved.are h lt) (whole h lt)

-- ... stays so with one byte string more.
pub proved_more : (s : Shape) (secret : Bytes) (taken : List Bytes) (bytes : Bytes) (longer : ℕ → List Bare) (position : ℕ) (b : Batch) → AreWhole s secret (claims_among s (taken ++ bytes ∷ [])) longer
    → IsProved s secret taken position b → IsProved s secret (taken ++ bytes ∷ []) position b
proved_more s secret taken bytes longer position b whole (view, vote, proved) = (
  view,
  vote,
  record {
    lists = longer;
    are = whole;
    voted =
        let up = tally_up (λ h. has_vote (known_plans s secret (shown_among s taken)) (proved.lists h) view position vote) (λ h. has_vote (known_plans s secret (shown_among s (taken ++ bytes ∷ []))) (longer h) view position vote) (host_count s)
        (λ h lt so. has_longer (known_plans s secret (shown_among s taken)) (known_plans s secret (shown_among s (taken ++ bytes ∷ []))) extends (proved.lists h) (longer h) (begins h lt) view position vote so) in
        let enough = proved.voted in
        omega (arith, up, enough);
    led = leads_longer (proved.lists (primary s view)) (longer (primary s view)) (begins (primary s view) (primary_below s view)) view vote.counter proved.led;
    held = subst (λ (l : List Shown). IsHeld s secret l b) (sym (shown_more s taken bytes)) (held_grows s secret (shown_among s taken) (shown_of s bytes) b proved.held);
    digest = proved.digest;
  },
) where
  extends : Extends (known_plans s secret (shown_among s taken)) (known_plans s secret (shown_among s (taken ++ bytes ∷ [])))
  extends d t is = ap (λ (l : List Shown). known_plans s secret l d) (shown_more s taken bytes) ∙ plan_grows s secret (shown_among s taken) (shown_of s bytes) d t is

  begins : (h : ℕ) → h < host_count s → IsBeginning (proved.lists h) (longer h)
  begins h lt =
      goes_on s secret h (first_of secret (claims_among s taken) h) (first_of secret (claims_among s (taken ++ bytes ∷ [])) h)
      (λ c m is. ap (λ (l : List Claim). first_of secret l h c) (claims_more s taken bytes) ∙ first_stays secret (claims_among s taken) (claims_of s bytes) h c m is)
      (proved.lists h) (longer h) (proved.are h lt) (whole h lt)
