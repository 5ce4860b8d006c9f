-- The list of a host goes on, message by message.
use Rattle.std.proofs.Common.{◌≡◌, ℕ, ◌+◌, ◌<◌, List, [], ◌∷◌, ◌++◌, length, set, slice_get, Option, Some, None, Result, refl, sym, ap, subst, ◌∙◌, inl, true, arith}
use Rattle.std.specs.Prelude.{OnOk}
use Rattle.std.specs.BTreeMap.{btree_map_len}
use Rattle.std.specs.Global.{Vec}
use Rattle.std.proofs.lemmas.Result.{on_ok_weaker}
use Rattle.mb_base.specs.Shapes.{Bytes}
use Rattle.mb_base.specs.declared.shape.Shape.{Shape}
use Rattle.mb_parts.specs.Bares.{Bare}
use Rattle.mb_parts.specs.Claims.{Claim}
use Rattle.mb_msg.specs.declared.stamped.Shown.{Shown}
use Rattle.mb_msg.specs.declared.stamped.Stamped.{Stamped}
use Rattle.mb_msg.specs.Stamps.{ui_of, bare_of}
use Rattle.mb_model.specs.Verified.{verifies}
use Rattle.mb_learn.specs.declared.follower.Follower.{Follower}
use Rattle.mb_learn.specs.declared.heard.Heard.{Heard}
use Rattle.mb_learn.specs.Followers.{IsFollowing, Follows, IsKeptAt, shown_too}
use Rattle.mb_learn.specs.Hearing.{IsReady, FollowsAll, AreWhole, Hears, KeepsPlace, with_list, CountsOnly, CountsToo}
use Rattle.mb_learn.specs.Lists.{first_of, IsList}
use Rattle.mb_learn.proofs.Going.{keeps_same, keeps_then, counted_keeps}
use Rattle.mb_learn.proofs.Set.{set_here}
use Rattle.mb_learn.proofs.Stamping.{hears_set, ready_set, follows_kept, whole_with, with_same, own_list, follows_on, hears_on}

-- another follower in the place of one
pub keeps_set : (t : Heard) (host : ℕ) (f : Follower) (followers : Vec Follower) → followers.items ≡ set t.followers.items host f → IsFollowing t.shape f → IsReady t → KeepsPlace t (record t { followers = followers })
keeps_set t host f followers is following ready = record { executed = refl; shape = refl; news = record { kept = λ p there. there; noted = λ p h state. inl refl }; ready = ready_set t host f followers is following ready }

-- ---- what is awaited is kept

module _ (s : Shape) (secret : Bytes) (claims said : List Claim) (all : List Shown) (lists : ℕ → List Bare) (c : Claim) where
  pub keeps_on : (t : Heard) (f : Follower) (followers : Vec Follower) → followers.items ≡ set t.followers.items c.host f → verifies secret c ≡ true → c.host < length t.followers.items
      → Follows s secret c.host (shown_too (first_of secret claims c.host) c.counter c.says) f (lists c.host) → Hears s secret claims said all lists t → Hears s secret (claims ++ c ∷ []) said all lists (record t { followers = followers })
  keeps_on t f followers is so lt fo h =
      hears_set s secret claims (claims ++ c ∷ []) said all lists t followers h
      (subst (λ (l : List Follower). FollowsAll s secret (claims ++ c ∷ []) lists l) (sym is) (follows_kept s secret claims c lists t.followers.items so lt f fo h.follows))

  pub ends_on : {A E : Type 0} (r : Result A E) (new : Heard) (followers : List Follower) → AreWhole s secret claims lists
      → OnOk r ((l : List Bare) × Hears s secret (claims ++ c ∷ []) said all (with_list lists c.host l) new × IsList s secret c.host (first_of secret (claims ++ c ∷ []) c.host) l)
      → OnOk r ((longer : ℕ → List Bare) × Hears s secret (claims ++ c ∷ []) said all longer new × AreWhole s secret (claims ++ c ∷ []) longer)
  ends_on r new followers whole = on_ok_weaker r (λ x. (with_list lists c.host x.0, x.1, whole_with s secret claims c lists followers x.0 x.2 whole))

-- ---- the loop

-- It has gone on with the list of the host.
pub record GoesOn (host : ℕ) (old new : Heard) : Type 0 where
  pub keeps : KeepsPlace old new
  pub goes : (s : Shape) (secret : Bytes) (claims said : List Claim) (all : List Shown) (lists : ℕ → List Bare) → Hears s secret claims said all lists old
      → (l : List Bare) × Hears s secret claims said all (with_list lists host l) new

pub goes_first : (host : ℕ) (t : Heard) → IsReady t → GoesOn host t t
goes_first host t ready = record {
  keeps = keeps_same t ready;
  goes = λ s secret claims said all lists h. (lists host, subst (λ (ls : ℕ → List Bare). Hears s secret claims said all ls t) (sym (with_same s secret claims said all lists host (lists host))) h);
}

module _ (host : ℕ) (old now : Heard) (g : GoesOn host old now) (was f : Follower) (followers : Vec Follower) (there : slice_get now.followers.items host ≡ Some was) (is : followers.items ≡ set now.followers.items host f)
    (lt : host < length now.followers.items) (following : IsFollowing now.shape f) where
  abbrev mid : Heard
  mid = record now { followers = followers }

  keeps_mid : KeepsPlace old mid
  keeps_mid = keeps_then old now mid g.keeps (keeps_set now host f followers is following g.keeps.ready)

  module _ (s : Shape) (secret : Bytes) (claims said : List Claim) (all : List Shown) (lists : ℕ → List Bare) (l : List Bare) (h : Hears s secret claims said all (with_list lists host l) now) where
    -- the follower has this list
    followed : Follows s now.usig.secret host (first_of secret claims host) was l
    followed =
        subst (λ (k : Bytes). Follows s k host (first_of secret claims host) was l) (sym h.secret_is)
        (subst (λ (x : List Bare). Follows s secret host (first_of secret claims host) was x) (own_list s secret claims said all lists host l) (h.follows host was there))

    -- ... and now that one
    all_follow : (more : List Bare) → Follows s now.usig.secret host (first_of secret claims host) f more → FollowsAll s secret claims (with_list lists host more) followers.items
    all_follow more fo =
        subst (λ (x : List Follower). FollowsAll s secret claims (with_list lists host more) x) (sym is)
        (follows_on s secret claims said all lists host l now.followers.items more f lt (subst (λ (k : Bytes). Follows s k host (first_of secret claims host) f more) h.secret_is fo) h.follows)

  -- one message more
  pub goes_next : (new : Heard) (m : Stamped)
      → ((s : Shape) (first : ℕ → Option Bare) (l : List Bare) → Follows s now.usig.secret host first was l → Follows s now.usig.secret host first f (bare_of m ∷ l) × IsKeptAt host (length l + 1) m)
      → CountsOnly mid new → CountsToo (ui_of m).host (ui_of m).counter (bare_of m) mid new → GoesOn host old new
  goes_next new m advances only counts = record {
    keeps = keeps_then old mid new keeps_mid (counted_keeps mid new only keeps_mid.ready);
    goes = λ s secret claims said all lists h.
        let r = g.goes s secret claims said all lists h in
        let a = advances s (first_of secret claims host) r.0 (followed s secret claims said all lists r.0 r.1) in (
          bare_of m ∷ r.0,
          hears_on s secret claims said all lists host r.0 mid new (bare_of m) (ui_of m).counter only (subst (λ i. CountsToo i (ui_of m).counter (bare_of m) mid new) a.1.by counts) a.1.at
              (all_follow s secret claims said all lists r.0 r.1 (bare_of m ∷ r.0) a.0) r.1.counts r.1.shows r.1.says_all r.1.shape r.1.secret_is,
        );
  }

  -- the end
  pub goes_last : ((s : Shape) (first : ℕ → Option Bare) (l : List Bare) → Follows s now.usig.secret host first was l → Follows s now.usig.secret host first f l × IsList s now.usig.secret host first l)
      → (s : Shape) (secret : Bytes) (claims said : List Claim) (all : List Shown) (lists : ℕ → List Bare) → Hears s secret claims said all lists old
      → (l : List Bare) × Hears s secret claims said all (with_list lists host l) mid × IsList s secret host (first_of secret claims host) l
  goes_last advances s secret claims said all lists h =
      let r = g.goes s secret claims said all lists h in
      let a = advances s (first_of secret claims host) r.0 (followed s secret claims said all lists r.0 r.1) in (
        r.0,
        hears_set s secret claims claims said all (with_list lists host r.0) now followers r.1 (all_follow s secret claims said all lists r.0 r.1 r.0 a.0),
        subst (λ (k : Bytes). IsList s k host (first_of secret claims host) r.0) r.1.secret_is a.1,
      )

  pub keeps_last : KeepsPlace old mid
  keeps_last = keeps_mid

-- ---- how much waits

abbrev pub waits : Option Follower → ℕ
waits None = 0
waits (Some f) = btree_map_len f.waiting

-- behind the list of a host
abbrev pub waiting_at : Heard → ℕ → ℕ
waiting_at t host = waits (slice_get t.followers.items host)

-- Less waits once a message has come into the list.
pub waits_less : (host : ℕ) (now new : Heard) (was f : Follower) (followers : Vec Follower) → slice_get now.followers.items host ≡ Some was → followers.items ≡ set now.followers.items host f → host < length now.followers.items
    → new.followers ≡ followers → btree_map_len f.waiting < btree_map_len was.waiting → waiting_at new host < waiting_at now host
waits_less host now new was f followers there is lt same less =
    let old : waiting_at now host ≡ btree_map_len was.waiting = ap waits there in
    let after : waiting_at new host ≡ btree_map_len f.waiting =
    ap (λ (v : Vec Follower). waits (slice_get v.items host)) same ∙ ap (λ (l : List Follower). waits (slice_get l host)) is ∙ ap waits (set_here now.followers.items host f lt) in
    omega (arith, old, after, less)
