-- What is proved next, by the votes for the next position.
use Rattle.std.proofs.Common.{◌≡◌, ℕ, zero, suc, ◌+◌, ◌<◌, ◌≤◌, ◌^◌, ◌⊎◌, Bool, true, List, [], ◌∷◌, take, slice_get, Option, Some, None, is_some, unwrap_or, inl, inr, refl, sym, ap, subst, ◌∙◌, arith, add-one}
use Rattle.std.specs.Prelude.{◌&&◌, ◌==◌, IsTrue, IfSome, IfNone, option_copied}
use denote.Ref.{Bor}
use Rattle.std.specs.List.{AllByRecursion}
use Rattle.std.specs.Ordering.{nat_cmp}
use Rattle.std.specs.BTreeMap.{get}
use Rattle.std.proofs.lemmas.Bool.{and_parts, eqb-true, cases_lt}
use Rattle.std.proofs.lemmas.Option.{none-some, same_Some}
use Rattle.mb_base.specs.Shapes.{Bytes, host_count, primary, quorum, tally}
use Rattle.mb_base.specs.declared.shape.Shape.{Shape}
use Rattle.mb_usig.specs.Tags.{same_bytes}
use Rattle.mb_usig.proofs.Laws.{same_bytes-true}
use Rattle.mb_parts.specs.declared.batch.Batch.{Batch}
use Rattle.mb_parts.specs.Bares.{Bare, batch_digest}
use Rattle.mb_parts.specs.Claims.{Claim}
use Rattle.mb_parts.specs.Counters.{at_counter}
use Rattle.mb_msg.specs.declared.stamped.Shown.{Shown}
use Rattle.mb_model.specs.declared.known.Vote.{Vote}
use Rattle.mb_model.specs.Committed.{leads}
use Rattle.mb_model.specs.Members.{In}
use Rattle.mb_model.proofs.Members.{any_in, all_in}
use Rattle.mb_model.proofs.Quorums.{tally_some}
use Rattle.mb_learn.specs.declared.follower.Follower.{Follower}
use Rattle.mb_learn.specs.declared.heard.Heard.{Heard}
use Rattle.mb_learn.specs.declared.votes.Cast.{Cast}
use Rattle.mb_learn.specs.Followers.{Follows}
use Rattle.mb_learn.specs.Held.{known_plans}
use Rattle.mb_learn.specs.Hearing.{IsReady, Hears}
use Rattle.mb_learn.specs.Lists.{first_of, has_vote}
use Rattle.mb_learn.specs.Next.{IsAgreed, IsNextBy, IsNext, HasNext}
use Rattle.mb_learn.specs.Tables.{batch_at, casts_at, is_cast, is_among}
use Rattle.mb_learn.proofs.Tallies.{tally_below}

all_take : {A : Type 0} (P : A → Type 0) (l : List A) (i : ℕ) (x : A) → slice_get l i ≡ Some x → AllByRecursion P (take i l) → P x → AllByRecursion P (take (i + 1) l)
all_take {A} P l i x at all own = rw (add-one i) (by l i at all) where
  by : (l : List A) (i : ℕ) → slice_get l i ≡ Some x → AllByRecursion P (take i l) → AllByRecursion P (take (suc i) l)
  by [] i at all = absurd (none-some x at)
  by (y ∷ l) zero at all = (subst P (sym (same_Some y x at)) own, tt)
  by (y ∷ l) (suc i) at all = (all.0, by l i at all.1)

-- what holds of what a table gives
pub found_all : {A : Type 0} (P : A → Type 0) (r : Option (Bor A)) (o : Option A) → option_copied r ≡ o → IfSome o P → IfSome r (λ b. P b.now)
found_all {A} P (Some x) o is all = subst (λ (z : Option A). IfSome z P) (sym is) all
found_all P None o is all = tt

module _ (s : Shape) (secret : Bytes) (claims said : List Claim) (shown : List Shown) (lists : ℕ → List Bare) (t : Heard) (h : Hears s secret claims said shown lists t) where
  abbrev position : ℕ
  position = t.votes.executed + 1

  voted_is : (view : ℕ) (vote : Vote) (n : ℕ) → tally (λ i. is_among (casts_at t.votes position) i view vote) n ≡ tally (λ i. has_vote (known_plans s secret shown) (lists i) view position vote) n
  voted_is view vote n = tally_below _ _ n (λ i lt. h.counts.voted position i view vote (omega arith))

  -- f+1 hosts have the vote, and the primary leads there
  pub agreed : (view : ℕ) (vote : Vote) (n : ℕ) → n ≡ tally (λ i. is_among (casts_at t.votes position) i view vote) (host_count s) → quorum s ≤ n → IsTrue (leads view (at_counter (lists (primary s view)) vote.counter))
      → IsAgreed s (known_plans s secret shown) lists position view vote
  agreed view vote n is le led = record { voted = let e = is ∙ voted_is view vote (host_count s) in omega (arith, le, e); led = led }

  pub not_voted : (view : ℕ) (vote : Vote) (n : ℕ) → n ≡ tally (λ i. is_among (casts_at t.votes position) i view vote) (host_count s) → n < quorum s → IsAgreed s (known_plans s secret shown) lists position view vote → ⊥
  not_voted view vote n is lt a = let many = a.voted in let e = is ∙ voted_is view vote (host_count s) in omega (arith, lt, e, many)

  -- what the follower of the primary answers
  pub led_by_primary : (view counter : ℕ) (f : Follower) → slice_get t.followers.items (primary t.shape view) ≡ Some f → (r : Bool)
      → ((host : ℕ) (first : ℕ → Option Bare) (l : List Bare) → Follows s secret host first f l → r ≡ leads view (at_counter l counter)) → r ≡ leads view (at_counter (lists (primary s view)) counter)
  led_by_primary view counter f there r told =
      told (primary s view) (first_of secret claims (primary s view)) (lists (primary s view)) (h.follows (primary s view) f (subst (λ (z : Shape). slice_get t.followers.items (primary z view) ≡ Some f) h.shape there))

  -- its batch, where one is held
  pub next_by : (view : ℕ) (vote : Vote) (b : Batch) → IsAgreed s (known_plans s secret shown) lists position view vote → batch_at t.batches vote.request ≡ Some b → IsNextBy s secret shown lists position view vote b
  next_by view vote b a at = let held = h.shows.held vote.request b at in record { agreed = a; held = held.0; digest = sym held.1 }

  pub none_by : (view : ℕ) (vote : Vote) (b : Batch) → batch_at t.batches vote.request ≡ None → IsNextBy s secret shown lists position view vote b → ⊥
  none_by view vote b none next =
      some_none (batch_at t.batches (batch_digest b)) (h.shows.all_held b next.held) (ap (batch_at t.batches) (sym next.digest) ∙ none) where
        some_none : (o : Option Batch) → is_some o ≡ true → o ≡ None → ⊥
        some_none (Some x) some none = none-some x (sym none)
        some_none None some none = cc

  -- as the table gives it
  pub next_found : (view : ℕ) (vote : Vote) → IsAgreed s (known_plans s secret shown) lists position view vote → (r : Option (Bor Batch)) → option_copied r ≡ batch_at t.batches vote.request
      → IfSome r (λ b. IsNextBy s secret shown lists position view vote b.now)
  next_found view vote a (Some b) is = next_by view vote b.now a (sym is)
  next_found view vote a None is = tt

  pub none_found : (view : ℕ) (vote : Vote) (r : Option (Bor Batch)) → option_copied r ≡ batch_at t.batches vote.request → IfNone r ((b : Batch) → IsNextBy s secret shown lists position view vote b → ⊥)
  none_found view vote (Some b) is = tt
  none_found view vote None is = λ b next. none_by view vote b (sym is) next

  -- Whatever is proved is so by one of the votes for the position.
  pub next_among : (b : Batch) → IsNext s secret shown lists position b → AllByRecursion (λ c. (x : Batch) → IsNextBy s secret shown lists position c.view c.vote x → ⊥) (casts_at t.votes position) → ⊥
  next_among b (view, vote, next) none = all_in (λ (c : Cast). (x : Batch) → IsNextBy s secret shown lists position c.view c.vote x → ⊥) (casts_at t.votes position) found.0 none found.1 b
      (subst (λ (v : Vote). IsNextBy s secret shown lists position found.0.view v b) (sym (same_vote)) (subst (λ (v : ℕ). IsNextBy s secret shown lists position v vote b) (sym same_view) next)) where
        some : (i : ℕ) × (i < host_count s) × (has_vote (known_plans s secret shown) (lists i) view position vote ≡ true)
        some = tally_some (λ i. has_vote (known_plans s secret shown) (lists i) view position vote) (host_count s) (let many = next.agreed.voted in omega (arith, many))

        found : (c : Cast) × (In (casts_at t.votes position) c) × (is_cast some.0 view vote c ≡ true)
        found = any_in (is_cast some.0 view vote) (casts_at t.votes position) (h.counts.voted position some.0 view vote (omega arith) ∙ some.2)

        first : ((found.0.host == some.0) ≡ true) × ((found.0.view == view && (found.0.vote.counter == vote.counter && same_bytes found.0.vote.request vote.request)) ≡ true)
        first = and_parts (found.0.host == some.0) _ found.2

        second : ((found.0.view == view) ≡ true) × ((found.0.vote.counter == vote.counter && same_bytes found.0.vote.request vote.request) ≡ true)
        second = and_parts (found.0.view == view) _ first.1

        third : ((found.0.vote.counter == vote.counter) ≡ true) × (same_bytes found.0.vote.request vote.request ≡ true)
        third = and_parts (found.0.vote.counter == vote.counter) _ second.1

        same_view : found.0.view ≡ view
        same_view = eqb-true found.0.view view second.0

        same_vote : found.0.vote ≡ vote
        same_vote =
            ap (λ n. record { counter = n; request = found.0.vote.request }) (eqb-true found.0.vote.counter vote.counter third.0)
            ∙ ap (λ (r : Bytes). record { counter = vote.counter; request = r }) (same_bytes-true found.0.vote.request vote.request third.1)

-- ---- the votes in front of a place

-- None of these proves a batch.
abbrev pub NoneProved : Heard → List Cast → Type 0
NoneProved t casts = (s : Shape) (secret : Bytes) (claims said : List Claim) (shown : List Shown) (lists : ℕ → List Bare) → Hears s secret claims said shown lists t
    → AllByRecursion (λ c. (b : Batch) → IsNextBy s secret shown lists (t.votes.executed + 1) c.view c.vote b → ⊥) casts

pub none_first : (t : Heard) (casts : List Cast) → NoneProved t (take 0 casts)
none_first t casts s secret claims said shown lists h = tt

pub none_more : (t : Heard) (casts : List Cast) (i : ℕ) (c : Cast) → slice_get casts i ≡ Some c → NoneProved t (take i casts)
    → ((s : Shape) (secret : Bytes) (claims said : List Claim) (shown : List Shown) (lists : ℕ → List Bare) → Hears s secret claims said shown lists t → (b : Batch) → IsNextBy s secret shown lists (t.votes.executed + 1) c.view c.vote b → ⊥)
    → NoneProved t (take (i + 1) casts)
none_more t casts i c at before own s secret claims said shown lists h =
    all_take (λ (x : Cast). (b : Batch) → IsNextBy s secret shown lists (t.votes.executed + 1) x.view x.vote b → ⊥) casts i c at (before s secret claims said shown lists h) (own s secret claims said shown lists h)

-- There are votes for the next position, where one of them is found.
pub has_next : (t : Heard) → IsReady t → (i : ℕ) (c : Cast) → slice_get (casts_at t.votes (t.votes.executed + 1)) i ≡ Some c → HasNext t.votes
has_next t ready i c at = record { low = low (cases_lt (t.votes.executed + 1) (2 ^ 63)); there = there (get nat_cmp t.votes.by_position (t.votes.executed + 1)) at } where
  low : (t.votes.executed + 1 < 2 ^ 63) ⊎ (2 ^ 63 ≤ t.votes.executed + 1) → t.votes.executed + 1 < 2 ^ 63
  low (inl lt) = lt
  low (inr le) = absurd (none-some c (sym (ap (λ (l : List Cast). slice_get l i) (ready.votes (t.votes.executed + 1) le)) ∙ at))

  there : (o : Option (List Cast)) → slice_get (unwrap_or o []) i ≡ Some c → is_some o ≡ true
  there None found = absurd (none-some c found)
  there (Some l) found = refl

-- What one of the votes proves is proved next.
pub found_next : (t : Heard) → IsReady t → (i : ℕ) (c : Cast) → slice_get (casts_at t.votes (t.votes.executed + 1)) i ≡ Some c → (b : Batch)
    → ((s : Shape) (secret : Bytes) (claims said : List Claim) (shown : List Shown) (lists : ℕ → List Bare) → Hears s secret claims said shown lists t → IsNextBy s secret shown lists (t.votes.executed + 1) c.view c.vote b)
    → ((s : Shape) (secret : Bytes) (claims said : List Claim) (shown : List Shown) (lists : ℕ → List Bare) → Hears s secret claims said shown lists t → IsNext s secret shown lists (t.votes.executed + 1) b) × HasNext t.votes
found_next t ready i c at b next = (λ s secret claims said shown lists h. (c.view, c.vote, next s secret claims said shown lists h), has_next t ready i c at)
