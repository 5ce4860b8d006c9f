-- What a list awaits is kept, and the list goes on.
use Rattle.std.proofs.Common.{◌≡◌, ℕ, ◌<◌, Option, List, [], ◌∷◌, ◌++◌, length, set, slice_get, Some, Result, true, sym, ap, subst, ◌∙◌}
use Rattle.std.specs.Prelude.{OnOk}
use Rattle.std.specs.Global.{Vec}
use Rattle.std.proofs.lemmas.Result.{on_ok_weaker}
use Rattle.mb_base.specs.Shapes.{Bytes}
use Rattle.mb_base.specs.declared.shape.Shape.{Shape}
use Rattle.mb_parts.specs.Bares.{Bare}
use Rattle.mb_parts.specs.Claims.{Claim}
use Rattle.mb_msg.specs.declared.stamped.Shown.{Shown}
use Rattle.mb_msg.specs.declared.stamped.Stamped.{Stamped}
use Rattle.mb_msg.specs.Stamps.{ui_of, bare_of}
use Rattle.mb_certified.specs.Certified.{IsBareStamp}
use Rattle.mb_model.specs.GateChecks.{stamp_claim}
use Rattle.mb_model.specs.Verified.{verifies}
use Rattle.mb_learn.specs.declared.follower.Follower.{Follower}
use Rattle.mb_learn.specs.declared.heard.Heard.{Heard}
use Rattle.mb_learn.specs.Followers.{IsFollowing, Follows, IsAwaited, shown_too}
use Rattle.mb_learn.specs.Hearing.{IsReady, AreWhole, Hears, KeepsPlace, with_list}
use Rattle.mb_learn.specs.Lists.{first_of, IsList}
use Rattle.mb_learn.proofs.Follow.{keeps_set, keeps_on, ends_on}
use Rattle.mb_learn.proofs.Going.{keeps_then}
use Rattle.mb_learn.proofs.Set.{all_at, same_at}

-- the follower of a host is for messages of the shape
pub of_shape : (t : Heard) (host : ℕ) (f : Follower) → IsReady t → slice_get t.followers.items host ≡ Some f → IsFollowing t.shape f
of_shape t host f ready there = all_at (IsFollowing t.shape) t.followers.items host f ready.follow there

-- ... and so of its own
pub own_shape : (t : Heard) (f : Follower) → IsFollowing t.shape f → IsFollowing f.shape f
own_shape t f fo = subst (λ (z : Shape). IsFollowing z f) (sym fo.shape) fo

pub own_bare : (t : Heard) (f : Follower) (m copy : Stamped) → copy ≡ m → IsFollowing t.shape f → IsBareStamp t.shape m → IsBareStamp f.shape copy
own_bare t f m copy same fo bare = subst (IsBareStamp f.shape) (sym same) (subst (λ (z : Shape). IsBareStamp z m) (sym fo.shape) bare)

-- the follower keeps a copy
pub kept_now : (s : Shape) (secret : Bytes) (host : ℕ) (first : ℕ → Option Bare) (was new : Follower) (l : List Bare) (m copy : Stamped) → copy ≡ m → IsAwaited s secret host first was l (ui_of m).counter
    → (IsAwaited s secret host first was l (ui_of copy).counter → (ui_of copy).host ≡ host → Follows s secret host (shown_too first (ui_of copy).counter (bare_of copy)) new l)
    → (ui_of m).host ≡ host → Follows s secret host (shown_too first (ui_of m).counter (bare_of m)) new l
kept_now s secret host first was new l m copy same awaited keeps by =
    subst (λ (x : Stamped). (IsAwaited s secret host first was l (ui_of x).counter → (ui_of x).host ≡ host → Follows s secret host (shown_too first (ui_of x).counter (bare_of x)) new l)) same keeps awaited by

module _ (t : Heard) (m : Stamped) (host : ℕ) (at : host ≡ (ui_of m).host) (was new : Follower) (followers : Vec Follower) (there : slice_get t.followers.items host ≡ Some was)
    (is : followers.items ≡ set t.followers.items host new) (lt : host < length t.followers.items) where
  abbrev mid : Heard
  mid = record t { followers = followers }

  pub keeps_mid : IsFollowing t.shape new → IsReady t → KeepsPlace t mid
  keeps_mid following ready = keeps_set t host new followers is following ready

  pub keeps_last : {A E : Type 0} (r : Result A E) (last : Heard) → IsFollowing t.shape new → IsReady t → OnOk r (KeepsPlace mid last) → OnOk r (KeepsPlace t last)
  keeps_last r last following ready = on_ok_weaker r (λ k. keeps_then t mid last (keeps_mid following ready) k)

  module _ (s : Shape) (secret : Bytes) (claims said : List Claim) (all : List Shown) (lists : ℕ → List Bare) (so : verifies t.usig.secret (stamp_claim m) ≡ true) (h : Hears s secret claims said all lists t) where
    abbrev more : List Claim
    more = claims ++ stamp_claim m ∷ []

    hears_mid : Follows s secret (ui_of m).host (shown_too (first_of secret claims (ui_of m).host) (ui_of m).counter (bare_of m)) new (lists (ui_of m).host) → Hears s secret more said all lists mid
    hears_mid fo =
        keeps_on s secret claims said all lists (stamp_claim m) t new followers (subst (λ (i : ℕ). followers.items ≡ set t.followers.items i new) at is)
        (ap (λ (k : Bytes). verifies k (stamp_claim m)) (sym h.secret_is) ∙ so) (subst (λ (i : ℕ). i < length t.followers.items) at lt) fo h

    -- it is kept, since it is awaited by the one that was looked at
    pub follows_last : {A E : Type 0} (r : Result A E) (last : Heard) (f : Follower) → slice_get t.followers.items host ≡ Some f
        → ((first : ℕ → Option Bare) (l : List Bare) → Follows s secret (ui_of m).host first f l → IsAwaited s secret (ui_of m).host first f l (ui_of m).counter)
        → ((first : ℕ → Option Bare) (l : List Bare) → Follows s secret (ui_of m).host first was l → IsAwaited s secret (ui_of m).host first was l (ui_of m).counter
        → Follows s secret (ui_of m).host (shown_too first (ui_of m).counter (bare_of m)) new l)
        → (Hears s secret more said all lists mid → OnOk r ((l : List Bare) × Hears s secret more said all (with_list lists host l) last × IsList s secret host (first_of secret more host) l))
        → AreWhole s secret claims lists → OnOk r ((longer : ℕ → List Bare) × Hears s secret more said all longer last × AreWhole s secret more longer)
    follows_last r last f here awaited kept follow whole =
        ends_on s secret claims said all lists (stamp_claim m) r last t.followers.items whole
        (subst (λ (i : ℕ). OnOk r ((l : List Bare) × Hears s secret more said all (with_list lists i l) last × IsList s secret i (first_of secret more i) l)) at (follow (hears_mid follows_new))) where
          first : ℕ → Option Bare
          first = first_of secret claims (ui_of m).host

          own : List Bare
          own = lists (ui_of m).host

          same : f ≡ was
          same = same_at t.followers.items host f was here there

          follows_was : Follows s secret (ui_of m).host first was own
          follows_was = h.follows (ui_of m).host was (subst (λ (i : ℕ). slice_get t.followers.items i ≡ Some was) at there)

          is_awaited : IsAwaited s secret (ui_of m).host first was own (ui_of m).counter
          is_awaited =
              subst (λ (x : Follower). IsAwaited s secret (ui_of m).host first x own (ui_of m).counter) same
              (awaited first own (subst (λ (x : Follower). Follows s secret (ui_of m).host first x own) (sym same) follows_was))

          follows_new : Follows s secret (ui_of m).host (shown_too first (ui_of m).counter (bare_of m)) new own
          follows_new = kept first own follows_was is_awaited
