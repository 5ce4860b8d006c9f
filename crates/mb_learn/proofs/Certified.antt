-- One certificate more: what is first at a counter, what is said of states, and the followers.
use Rattle.std.proofs.Common.{◌≡◌, ℕ, ◌<◌, Bool, true, false, cond, eqb, List, [], ◌∷◌, ◌++◌, length, set, slice_get, Option, Some, None, option_map, refl, sym, ap, subst, ◌∙◌, inl, inr}
use Rattle.std.specs.Prelude.{◌==◌, ◌&&◌, ◌||◌, find}
use Rattle.std.specs.Option.{option_or}
use Rattle.std.proofs.lemmas.Bool.{cases_Bool, eqb-true, ne_eqb, eq-eqb}
use Rattle.std.proofs.lemmas.List.Folds.{find-append, list_any-append}
use mathlib.Core.Path.{fun_ext}
use Rattle.mb_base.specs.Shapes.{Bytes, host_count}
use Rattle.mb_base.specs.declared.names.Ui.{Ui}
use Rattle.mb_base.specs.declared.shape.Shape.{Shape}
use Rattle.mb_parts.specs.Bares.{Bare}
use Rattle.mb_parts.specs.Claims.{Claim}
use Rattle.mb_msg.specs.declared.stamped.Stamped.{Stamped}
use Rattle.mb_msg.specs.declared.stamped.Stamped.TheVariants as stamped
use Rattle.mb_msg.specs.Fits.{FitsStamped}
use Rattle.mb_msg.specs.Stamps.{ui_of}
use Rattle.mb_model.specs.Verified.{verifies}
use Rattle.mb_learn.specs.declared.follower.Follower.{Follower}
use Rattle.mb_learn.specs.Followers.{Follows, shown_too}
use Rattle.mb_learn.specs.Hearing.{FollowsAll, AreWhole, FollowsWhole}
use Rattle.mb_learn.specs.Lists.{first_of, IsList}
use Rattle.mb_learn.specs.Proved.{is_checkpoint, says_state}
use Rattle.mb_learn.proofs.Finds.{or_none}
use Rattle.mb_learn.proofs.Set.{set_here, set_elsewhere, same_at}
use Rattle.mb_learn.proofs.Tests.{or_false}

-- The host of a certificate is one of the system.
pub host_within : (s : Shape) (m : Stamped) → FitsStamped s m → (ui_of m).host < host_count s
host_within s (stamped.Prepare m) f = f.ui.host
host_within s (stamped.Commit m) f = f.ui.host
host_within s (stamped.Checkpoint m) f = f.ui.host
host_within s (stamped.ViewChange m) f = f.ui.host
host_within s (stamped.NewView m) f = f.ui.host
host_within s (stamped.Enter m) f = f.ui.host
host_within s (stamped.Open m) f = f.ui.host
host_within s (stamped.Join m) f = f.ui.host

-- What is not awaited at a counter is not awaited at an equal one.
pub stays_at : (s : Shape) (secret : Bytes) (host : ℕ) (first : ℕ → Option Bare) (f : Follower) (l : List Bare) (m : Bare) (u v : Ui) → u ≡ v
    → Follows s secret host (shown_too first u.counter m) f l × (IsList s secret host first l → IsList s secret host (shown_too first u.counter m) l)
    → Follows s secret host (shown_too first v.counter m) f l × (IsList s secret host first l → IsList s secret host (shown_too first v.counter m) l)
stays_at s secret host first f l m u v same =
    subst (λ (z : Ui). Follows s secret host (shown_too first z.counter m) f l × (IsList s secret host first l → IsList s secret host (shown_too first z.counter m) l)) same

-- numbers that the test finds different
pub apart : (a b : ℕ) → eqb a b ≡ false → a ≡ b → ⊥
apart a b other same = true_false (sym (eq-eqb a b same) ∙ other) where
  true_false : true ≡ false → ⊥
  true_false e = cc

pub both : {A B : Type 0} (f : A → B) (a : Option A) (x : A) (b : Bool) → option_map f (option_or a (cond b (Some x) None)) ≡ option_or (option_map f a) (cond b (Some (f x)) None)
both f (Some y) x b = refl
both f None x true = refl
both f None x false = refl

and_false : (a b : Bool) → (a && (b && false)) ≡ false
and_false true true = refl
and_false true false = refl
and_false false b = refl

and_true : (b : Bool) → (true && (b && true)) ≡ b
and_true true = refl
and_true false = refl

module _ (secret : Bytes) (claims : List Claim) (c : Claim) where
  abbrev at_counter_of : ℕ → ℕ → Bool
  at_counter_of h n = c.host == h && (c.counter == n && verifies secret c)

  first_more : (h n : ℕ) → first_of secret (claims ++ c ∷ []) h n ≡ option_or (first_of secret claims h n) (cond (at_counter_of h n) (Some c.says) None)
  first_more h n =
      ap (option_map (λ (x : Claim). x.says)) (find-append (λ (x : Claim). x.host == h && (x.counter == n && verifies secret x)) claims (c ∷ []))
      ∙ both (λ (x : Claim). x.says) (find (λ (x : Claim). x.host == h && (x.counter == n && verifies secret x)) claims) c (at_counter_of h n)

  first_unchanged : (h : ℕ) → ((n : ℕ) → at_counter_of h n ≡ false) → first_of secret (claims ++ c ∷ []) h ≡ first_of secret claims h
  first_unchanged h none = fun_ext (λ n. first_more h n ∙ ap (λ b. option_or (first_of secret claims h n) (cond b (Some c.says) None)) (none n) ∙ or_none (first_of secret claims h n))

  -- where it does not verify
  pub first_unverified : verifies secret c ≡ false → (h : ℕ) → first_of secret (claims ++ c ∷ []) h ≡ first_of secret claims h
  first_unverified not_so h = first_unchanged h (λ n. ap (λ v. c.host == h && (c.counter == n && v)) not_so ∙ and_false (c.host == h) (c.counter == n))

  -- of another host
  pub first_other : (h : ℕ) → (c.host ≡ h → ⊥) → first_of secret (claims ++ c ∷ []) h ≡ first_of secret claims h
  first_other h ne = first_unchanged h (λ n. ap (λ b. b && (c.counter == n && verifies secret c)) (ne_eqb c.host h ne))

  -- of its host, where it verifies
  pub first_own : verifies secret c ≡ true → first_of secret (claims ++ c ∷ []) c.host ≡ shown_too (first_of secret claims c.host) c.counter c.says
  first_own so = fun_ext (λ n.
      first_more c.host n
      ∙ ap (λ b. option_or (first_of secret claims c.host n) (cond b (Some c.says) None))
      (ap (λ b. b && (c.counter == n && verifies secret c)) (eq-eqb c.host c.host refl) ∙ ap (λ v. true && (c.counter == n && v)) so ∙ and_true (c.counter == n)))

  -- ---- states

  pub said_more : (p : ℕ) (state : Bytes) (h : ℕ) → says_state secret (claims ++ c ∷ []) p state h ≡ (says_state secret claims p state h || (c.host == h && (is_checkpoint p state c.says && verifies secret c)))
  said_more p state h =
      list_any-append (λ (x : Claim). x.host == h && (is_checkpoint p state x.says && verifies secret x)) claims (c ∷ [])
      ∙ ap (λ b. says_state secret claims p state h || b) (or_false (c.host == h && (is_checkpoint p state c.says && verifies secret c)))

  pub said_unverified : verifies secret c ≡ false → (p : ℕ) (state : Bytes) (h : ℕ) → says_state secret (claims ++ c ∷ []) p state h ≡ says_state secret claims p state h
  said_unverified not_so p state h =
      said_more p state h
      ∙ ap (λ b. says_state secret claims p state h || b) (ap (λ v. c.host == h && (is_checkpoint p state c.says && v)) not_so ∙ and_false (c.host == h) (is_checkpoint p state c.says))
      ∙ or_false (says_state secret claims p state h)

  -- ---- followers

  module _ (s : Shape) (lists : ℕ → List Bare) where
    -- nothing is first that was not
    pub follows_same : (followers : List Follower) → ((h : ℕ) → first_of secret (claims ++ c ∷ []) h ≡ first_of secret claims h) → FollowsAll s secret claims lists followers → FollowsAll s secret (claims ++ c ∷ []) lists followers
    follows_same followers same all h f at = subst (λ (g : ℕ → Option Bare). Follows s secret h g f (lists h)) (sym (same h)) (all h f at)

    pub whole_same : ((h : ℕ) → first_of secret (claims ++ c ∷ []) h ≡ first_of secret claims h) → AreWhole s secret claims lists → AreWhole s secret (claims ++ c ∷ []) lists
    whole_same same whole h lt = subst (λ (g : ℕ → Option Bare). IsList s secret h g (lists h)) (sym (same h)) (whole h lt)

    -- The follower of its host does not await it.
    pub not_awaited : (followers : List Follower) (f : Follower) → slice_get followers c.host ≡ Some f
        → (Follows s secret c.host (first_of secret claims c.host) f (lists c.host)
        → Follows s secret c.host (shown_too (first_of secret claims c.host) c.counter c.says) f (lists c.host)
        × (IsList s secret c.host (first_of secret claims c.host) (lists c.host) → IsList s secret c.host (shown_too (first_of secret claims c.host) c.counter c.says) (lists c.host)))
        → c.host < host_count s → FollowsWhole s secret claims lists followers → FollowsWhole s secret (claims ++ c ∷ []) lists followers
    not_awaited followers f there stays lt fw = elim (cases_Bool (verifies secret c)) [
      | inr not_so ↦ record {
        follows_all = follows_same followers (first_unverified not_so) fw.follows_all;
        are_whole = whole_same (first_unverified not_so) fw.are_whole;
      }
      | inl so ↦
          let both_stay = stays (fw.follows_all c.host f there) in
          record {
            follows_all = all so both_stay.0;
            are_whole = whole so (both_stay.1 (fw.are_whole c.host lt));
          }
    ] where
      own : verifies secret c ≡ true → Follows s secret c.host (shown_too (first_of secret claims c.host) c.counter c.says) f (lists c.host) → (g : Follower) → slice_get followers c.host ≡ Some g
          → Follows s secret c.host (first_of secret (claims ++ c ∷ []) c.host) g (lists c.host)
      own so fo g at =
          subst (λ (x : Follower). Follows s secret c.host (first_of secret (claims ++ c ∷ []) c.host) x (lists c.host)) (same_at followers c.host f g there at)
          (subst (λ (k : ℕ → Option Bare). Follows s secret c.host k f (lists c.host)) (sym (first_own so)) fo)

      all : verifies secret c ≡ true → Follows s secret c.host (shown_too (first_of secret claims c.host) c.counter c.says) f (lists c.host) → FollowsAll s secret (claims ++ c ∷ []) lists followers
      all so fo h g at = elim (cases_Bool (eqb c.host h)) [
        | inl same ↦
            subst (λ (i : ℕ). slice_get followers i ≡ Some g → Follows s secret i (first_of secret (claims ++ c ∷ []) i) g (lists i)) (eqb-true c.host h same) (own so fo g) at
        | inr other ↦ subst (λ (k : ℕ → Option Bare). Follows s secret h k g (lists h)) (sym (first_other h (apart c.host h other))) (fw.follows_all h g at)
      ]

      whole : verifies secret c ≡ true → IsList s secret c.host (shown_too (first_of secret claims c.host) c.counter c.says) (lists c.host) → AreWhole s secret (claims ++ c ∷ []) lists
      whole so is h h_lt = elim (cases_Bool (eqb c.host h)) [
        | inl same ↦
            subst (λ (i : ℕ). IsList s secret i (first_of secret (claims ++ c ∷ []) i) (lists i)) (eqb-true c.host h same)
            (subst (λ (k : ℕ → Option Bare). IsList s secret c.host k (lists c.host)) (sym (first_own so)) is)
        | inr other ↦ subst (λ (k : ℕ → Option Bare). IsList s secret h k (lists h)) (sym (first_other h (apart c.host h other))) (fw.are_whole h h_lt)
      ]

-- ---- another follower of a host, with another list of it

module _ (s : Shape) (secret : Bytes) (host : ℕ) where
  pub follows_set : (claims old_claims : List Claim) (lists old_lists : ℕ → List Bare) (followers : List Follower) (f : Follower) → host < length followers
      → Follows s secret host (first_of secret claims host) f (lists host) → ((h : ℕ) → (host ≡ h → ⊥) → (first_of secret claims h ≡ first_of secret old_claims h) × (lists h ≡ old_lists h))
      → FollowsAll s secret old_claims old_lists followers → FollowsAll s secret claims lists (set followers host f)
  follows_set claims old_claims lists old_lists followers f lt own others all h g at = elim (cases_Bool (eqb host h)) [
    | inl same ↦
        subst (λ (i : ℕ). slice_get (set followers host f) i ≡ Some g → Follows s secret i (first_of secret claims i) g (lists i)) (eqb-true host h same)
        (λ (here : slice_get (set followers host f) host ≡ Some g). subst (λ (x : Follower). Follows s secret host (first_of secret claims host) x (lists host)) (same_at (set followers host f) host f g (set_here followers host f lt) here) own) at
    | inr other ↦
        let ne = apart host h other in
        let stay = others h ne in
        subst (λ (l : List Bare). Follows s secret h (first_of secret claims h) g l) (sym stay.1)
        (subst (λ (k : ℕ → Option Bare). Follows s secret h k g (old_lists h)) (sym stay.0) (all h g (sym (set_elsewhere followers host h f ne) ∙ at)))
  ]
