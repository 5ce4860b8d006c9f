-- Nothing was taken yet.
use Rattle.std.proofs.Common.{◌≡◌, ℕ, ◌+◌, ◌*◌, ◌<◌, ◌≤◌, ◌^◌, ◌⊎◌, List, [], ◌∷◌, ◌++◌, length, slice_get, Option, None, Some, option_map, IfSome, refl, sym, ap, subst, ◌∙◌, inl, inr, arith, mul-le-mul_right}
use Rattle.std.specs.Prelude.{nat_le, if◌then◌else◌, replicate}
use Rattle.std.specs.List.{list_any, AllByRecursion}
use Rattle.std.proofs.lemmas.Bool.{leb-true, false_from_ne_true}
use Rattle.std.proofs.lemmas.List.{length_push}
use Rattle.std.proofs.lemmas.Option.{none-some}
use Rattle.mb_base.specs.Shapes.{Bytes, host_count, client_count, interval}
use Rattle.mb_base.specs.declared.shape.Shape.{Shape}
use Rattle.mb_usig.specs.Trusted.{Trusted}
use Rattle.mb_parts.specs.declared.batch.Batch.{Batch}
use Rattle.mb_parts.specs.Bares.{Bare}
use Rattle.mb_parts.specs.Fits.{FitsBatch}
use Rattle.mb_model.proofs.Members.{in_contained}
use Rattle.mb_model.specs.declared.known.LastReply.{LastReply}
use Rattle.mb_model.specs.Service.{Machine, no_reply, served_all}
use Rattle.mb_model.specs.States.{Snapshots}
use Rattle.mb_steps.proofs.StepPlanBases.{all_append}
use Rattle.mb_cache.specs.Represents.{joined}
use Rattle.mb_learn.specs.declared.checkpoints.Said.{Said}
use Rattle.mb_learn.specs.declared.follower.Follower.{Follower}
use Rattle.mb_learn.specs.declared.heard.Heard.{Heard}
use Rattle.mb_learn.specs.declared.line.Line.{Line}
use Rattle.mb_learn.specs.declared.plans.KnownPlan.{KnownPlan}
use Rattle.mb_learn.specs.declared.votes.Cast.{Cast}
use Rattle.mb_learn.specs.Executed.{noted_at, Executes}
use Rattle.mb_learn.specs.Followers.{IsFollowing, Follows}
use Rattle.mb_learn.specs.Hearing.{is_opening, IsReady, HearsOf}
use Rattle.mb_learn.specs.Lists.{first_of, has_vote}
use Rattle.mb_learn.specs.Proved.{digest_behind}
use Rattle.mb_learn.specs.Tables.{text_of, plan_at, IsLowPlan, batch_at, casts_at, is_among, said_at, says}
use Rattle.mb_learn.proofs.Executing.{got_either}

-- ---- followers

-- There is a follower of each host below a number, and nothing was shown of them.
pub record AreMade (s : Shape) (n : ℕ) (followers : List Follower) : Type 0 where
  pub count : length followers ≡ n
  pub ready : AllByRecursion (IsFollowing s) followers
  pub follow : (secret : Bytes) (first : ℕ → ℕ → Option Bare) → ((h c : ℕ) → first h c ≡ None) → (h : ℕ) (f : Follower) → slice_get followers h ≡ Some f → Follows s secret h (first h) f []

module _ (s : Shape) where
  pub made_none : (followers : List Follower) → followers ≡ [] → AreMade s 0 followers
  made_none followers none = subst (λ (l : List Follower). AreMade s 0 l) (sym none) (record { count = refl; ready = tt; follow = λ secret first nothing h f at. absurd (none-some f at) })

  pub made_more : (n : ℕ) (followers more : List Follower) (f : Follower) → more ≡ followers ++ f ∷ [] → IsFollowing s f
      → ((secret : Bytes) (first : ℕ → Option Bare) → ((c : ℕ) → first c ≡ None) → Follows s secret n first f []) → AreMade s n followers → AreMade s (n + 1) more
  made_more n followers more f is following follows made = subst (λ (l : List Follower). AreMade s (n + 1) l) (sym is) (record {
    count = length_push followers f ∙ ap (λ k. k + 1) made.count;
    ready = all_append (IsFollowing s) followers (f ∷ []) made.ready (following, tt);
    follow = λ secret first nothing h g at. by secret first nothing h g (got_either followers f h g at);
  }) where
    by : (secret : Bytes) (first : ℕ → ℕ → Option Bare) → ((h c : ℕ) → first h c ≡ None) → (h : ℕ) (g : Follower)
        → ((h < length followers) × (slice_get followers h ≡ Some g)) ⊎ ((h ≡ length followers) × (f ≡ g)) → Follows s secret h (first h) g []
    by secret first nothing h g (inl before) = made.follow secret first nothing h g before.1
    by secret first nothing h g (inr last) =
        subst (λ (x : Follower). Follows s secret h (first h) x []) last.1
        (subst (λ (i : ℕ). Follows s secret i (first i) f []) (sym (last.0 ∙ made.count)) (follows secret (first n) (nothing n)))

-- ---- tables

module _ (s : Shape) (secret : Bytes) (t : Heard) (shape : t.shape ≡ s) (usig : t.usig ≡ record { shape = s; host = 0; secret = secret; counter = 0 }) (executed : t.votes.executed ≡ 0)
    (casts : (p : ℕ) → casts_at t.votes p ≡ []) (plans : (d : Bytes) → plan_at t.plans d ≡ None) (batches : (d : Bytes) → batch_at t.batches d ≡ None) where
  pub nothing_heard : t.openings.items ≡ [] → ((p : ℕ) → said_at t.checkpoints p ≡ [])
      → ((first : ℕ → ℕ → Option Bare) → ((h c : ℕ) → first h c ≡ None) → (h : ℕ) (f : Follower) → slice_get t.followers.items h ≡ Some f → Follows s secret h (first h) f []) → HearsOf s secret [] (λ h. []) t
  unfolding has_vote
  nothing_heard openings said follow = record {
    hears = record {
      shape = shape;
      secret_is = ap (λ (u : Trusted). u.secret) usig;
      follows = follow (first_of secret []) (λ h c. refl);
      counts = record {
        opened = λ h view counter plan. ap (list_any (is_opening h view counter plan)) openings;
        voted = λ p h view vote lt. ap (λ (l : List Cast). is_among l h view vote) (casts p);
      };
      shows = record {
        plans_are = λ d. ap (option_map text_of) (plans d);
        held = λ d b at. absurd (none-some b (sym (batches d) ∙ at));
        all_held = λ b held. absurd (in_contained [] held.by held.among);
      };
      says_all = λ p h state. ap (λ (l : List Said). says l h state) (said p);
    };
    whole = λ h lt. record { in_order = tt; ends = tt };
  }

  pub nothing_ready : length t.followers.items ≡ host_count s → AllByRecursion (IsFollowing s) t.followers.items → IsReady t
  nothing_ready count follow = record {
    shape = ap (λ (u : Trusted). u.shape) usig ∙ sym shape;
    count = count ∙ ap host_count (sym shape);
    follow = subst (λ (z : Shape). AllByRecursion (IsFollowing z) t.followers.items) (sym shape) follow;
    batches = λ d. subst (λ (o : Option Batch). IfSome o (FitsBatch t.shape)) (sym (batches d)) tt;
    plans = λ d. subst (λ (o : Option KnownPlan). IfSome o IsLowPlan) (sym (plans d)) tt;
    votes = λ p le. casts p;
    place = subst (λ (n : ℕ). n < 2 ^ 63) (sym executed) (omega arith);
  }

-- ---- the line

module _ {S : Type 0} (s : Shape) (m : Machine S) (initial : S) (snapshots : Snapshots S) where
  none_noted : (i : ℕ) → noted_at s m initial snapshots [] i ≡ None
  none_noted i =
      ap (λ b. if b then Some (digest_behind s m initial snapshots [] ((i + 1) * interval s)) else None)
      (false_from_ne_true (nat_le ((i + 1) * interval s) 0) (λ e.
      let le = leb-true ((i + 1) * interval s) 0 e in
      let up : 1 * interval s ≤ (i + 1) * interval s = mul-le-mul_right (interval s) (omega arith) in
      let wide = s.interval_in.0 in
      absurd (omega (arith, le, up, wide))))

  pub nothing_executed : (line : Line S) → line.shape ≡ s → line.service ≡ initial → line.table ≡ replicate (client_count s) no_reply → line.slots.items ≡ [] → line.states.items ≡ [] → Executes s m initial snapshots [] line
  unfolding served_all
  nothing_executed line shape service table slots states = record {
    shape = shape;
    slots_are = slots;
    served_is = ap (λ (x : S). joined x line.table) service ∙ ap (λ (t : List LastReply). joined initial t) table;
    places = refl;
    marks = λ q i slot p at there. absurd (none-some slot at);
    states = λ i. ap (λ (l : List Bytes). slice_get l i) states ∙ sym (none_noted i);
  }
