-- One call behind another.
use Rattle.std.proofs.Common.{◌≡◌, ℕ, zero, suc, ◌+◌, ◌<◌, ◌⊎◌, ◌^◌, List, [], ◌∷◌, ◌++◌, length, take, slice_get, Some, Result, Ok, Err, refl, sym, ap, subst, ◌∙◌, append_assoc, append-nil, add-one, inl, inr}
use Rattle.std.proofs.lemmas.Option.{none-some, same_Some}
use Rattle.std.specs.Prelude.{OnOk, IfSome, Contains}
use Rattle.std.specs.List.{AllByRecursion}
use Rattle.std.specs.Global.{Vec}
use Rattle.mb_base.specs.Shapes.{Bytes, host_count}
use Rattle.mb_base.specs.declared.shape.Shape.{Shape}
use Rattle.mb_parts.specs.Claims.{Claim}
use Rattle.mb_parts.specs.Fits.{FitsBatch}
use Rattle.mb_msg.specs.declared.stamped.Shown.{Shown}
use Rattle.mb_usig.specs.Trusted.{Trusted}
use Rattle.mb_learn.specs.declared.batches.Batches.{Batches}
use Rattle.mb_learn.specs.declared.checkpoints.Checkpoints.{Checkpoints}
use Rattle.mb_learn.specs.declared.follower.Follower.{Follower}
use Rattle.mb_learn.specs.declared.heard.Heard.{Heard}
use Rattle.mb_learn.specs.declared.plans.Plans.{Plans}
use Rattle.mb_learn.specs.Followers.{IsFollowing}
use Rattle.mb_learn.specs.Hearing.{IsReady, Hears, HearsAll, NotesNews, KeepsPlace, Holds, Takes, CountsOnly}
use Rattle.mb_learn.specs.Tables.{batch_at, plan_at, IsLowPlan, said_at, says}

-- ---- nothing is changed

pub news_same : (t : Heard) → NotesNews t t
news_same t = record { kept = λ p there. there; noted = λ p h state. inl refl }

pub keeps_same : (t : Heard) → IsReady t → KeepsPlace t t
keeps_same t ready = record { executed = refl; shape = refl; news = news_same t; ready = ready }

-- ---- one behind the other

pub news_then : (a b c : Heard) → NotesNews a b → NotesNews b c → NotesNews a c
news_then a b c x y = record {
  kept = λ p there. y.kept p (x.kept p there);
  noted = λ p h state. by p h state (y.noted p h state) (x.noted p h state);
} where
  by : (p h : ℕ) (state : Bytes) → (says (said_at c.checkpoints p) h state ≡ says (said_at b.checkpoints p) h state) ⊎ Contains c.newly_said.items p
      → (says (said_at b.checkpoints p) h state ≡ says (said_at a.checkpoints p) h state) ⊎ Contains b.newly_said.items p
      → (says (said_at c.checkpoints p) h state ≡ says (said_at a.checkpoints p) h state) ⊎ Contains c.newly_said.items p
  by p h state (inl e) (inl f) = inl (e ∙ f)
  by p h state (inl e) (inr there) = inr (y.kept p there)
  by p h state (inr there) f = inr there

pub keeps_then : (a b c : Heard) → KeepsPlace a b → KeepsPlace b c → KeepsPlace a c
keeps_then a b c x y = record { executed = y.executed ∙ x.executed; shape = y.shape ∙ x.shape; news = news_then a b c x.news y.news; ready = y.ready }

-- ---- what is shown

pub holds_none : (t : Heard) → IsReady t → Holds [] t t
holds_none t ready = record {
  shows_too = λ s secret claims said shown lists h. subst (λ (l : List Shown). Hears s secret claims said l lists t) (sym (append-nil shown)) h;
  keeps = keeps_same t ready;
}

pub holds_then : (x y : List Shown) (a b c : Heard) → Holds x a b → Holds y b c → Holds (x ++ y) a c
holds_then x y a b c p q = record {
  shows_too = λ s secret claims said shown lists h.
      subst (λ (l : List Shown). Hears s secret claims said l lists c) (append_assoc shown x y) (q.shows_too s secret claims said (shown ++ x) lists (p.shows_too s secret claims said shown lists h));
  keeps = keeps_then a b c p.keeps q.keeps;
}

pub holds_alike : (x y : List Shown) (a b : Heard) → x ≡ y → Holds x a b → Holds y a b
holds_alike x y a b e h = subst (λ (l : List Shown). Holds l a b) e h

pub ok_holds : {A E : Type 0} (r : Result A E) (x y : List Shown) (a b : Heard) → x ≡ y → OnOk r (Holds x a b) → OnOk r (Holds y a b)
ok_holds (Ok v) x y a b e h = holds_alike x y a b e h
ok_holds (Err v) x y a b e h = tt

-- those of each of a list, one after the other
module _ {A B : Type 0} (all : List A → List B) (part : A → List B) (next : (x : A) (l : List A) → all (x ∷ l) ≡ part x ++ all l) (none : all [] ≡ []) where
  pub taken_next : (l : List A) (i : ℕ) (x : A) → slice_get l i ≡ Some x → all (take (i + 1) l) ≡ all (take i l) ++ part x
  taken_next l i x at = rw (add-one i) (more l i at) where
    more : (l : List A) (i : ℕ) → slice_get l i ≡ Some x → all (take (suc i) l) ≡ all (take i l) ++ part x
    more [] i at = absurd (none-some x at)
    more (y ∷ l) zero at = next y [] ∙ ap (λ z. part y ++ z) none ∙ append-nil (part y) ∙ ap part (same_Some y x at) ∙ sym (ap (λ z. z ++ part x) none)
    more (y ∷ l) (suc i) at = next y (take (suc i) l) ∙ ap (λ z. part y ++ z) (more l i at) ∙ sym (append_assoc (part y) (all (take i l)) (part x)) ∙ ap (λ z. z ++ part x) (sym (next y (take i l)))

module _ {A : Type 0} (all : List A → List Shown) (part : A → List Shown) (next : (x : A) (l : List A) → all (x ∷ l) ≡ part x ++ all l) (none : all [] ≡ []) where
  pub holds_next : (l : List A) (i : ℕ) (x : A) (a b c : Heard) → slice_get l i ≡ Some x → Holds (all (take i l)) a b → Holds (part x) b c → Holds (all (take (i + 1) l)) a c
  holds_next l i x a b c at p q = holds_alike (all (take i l) ++ part x) (all (take (i + 1) l)) a c (sym (taken_next all part next none l i x at)) (holds_then (all (take i l)) (part x) a b c p q)

-- ---- what is certified

pub takes_none : (t : Heard) → IsReady t → Takes [] t t
takes_none t ready = record {
  claims_too = λ s secret claims shown lists h. (lists, subst (λ (l : List Claim). HearsAll s secret l shown lists t) (sym (append-nil claims)) h);
  keeps = keeps_same t ready;
}

pub takes_then : (x y : List Claim) (a b c : Heard) → Takes x a b → Takes y b c → Takes (x ++ y) a c
takes_then x y a b c p q = record {
  claims_too = λ s secret claims shown lists h.
      let first = p.claims_too s secret claims shown lists h in
      let second = q.claims_too s secret (claims ++ x) shown first.0 first.1 in
      (second.0, subst (λ (l : List Claim). HearsAll s secret l shown second.0 c) (append_assoc claims x y) second.1);
  keeps = keeps_then a b c p.keeps q.keeps;
}

pub takes_alike : (x y : List Claim) (a b : Heard) → x ≡ y → Takes x a b → Takes y a b
takes_alike x y a b e h = subst (λ (l : List Claim). Takes l a b) e h

module _ {A : Type 0} (all : List A → List Claim) (part : A → List Claim) (next : (x : A) (l : List A) → all (x ∷ l) ≡ part x ++ all l) (none : all [] ≡ []) where
  pub takes_next : (l : List A) (i : ℕ) (x : A) (a b c : Heard) → slice_get l i ≡ Some x → Takes (all (take i l)) a b → Takes (part x) b c → Takes (all (take (i + 1) l)) a c
  takes_next l i x a b c at p q = takes_alike (all (take i l) ++ part x) (all (take (i + 1) l)) a c (sym (taken_next all part next none l i x at)) (takes_then (all (take i l)) (part x) a b c p q)

-- ---- where votes alone are counted

pub counted_ready : (old new : Heard) → CountsOnly old new → IsReady old → IsReady new
counted_ready old new only ready = record {
  shape = ap (λ (u : Trusted). u.shape) only.usig ∙ ready.shape ∙ sym only.shape;
  count = ap (λ (v : Vec Follower). length v.items) only.followers ∙ ready.count ∙ ap host_count (sym only.shape);
  follow = subst (λ (s : Shape). AllByRecursion (IsFollowing s) new.followers.items) (sym only.shape) (subst (λ (v : Vec Follower). AllByRecursion (IsFollowing old.shape) v.items) (sym only.followers) ready.follow);
  batches = λ d. subst (λ (s : Shape). IfSome (batch_at new.batches d) (FitsBatch s)) (sym only.shape) (subst (λ (b : Batches). IfSome (batch_at b d) (FitsBatch old.shape)) (sym only.batches) (ready.batches d));
  plans = λ d. subst (λ (p : Plans). IfSome (plan_at p d) IsLowPlan) (sym only.plans) (ready.plans d);
  votes = only.low ready.votes;
  place = subst (λ (n : ℕ). n < 2 ^ 63) (sym only.executed) ready.place;
}

pub counted_keeps : (old new : Heard) → CountsOnly old new → IsReady old → KeepsPlace old new
counted_keeps old new only ready = record {
  executed = only.executed;
  shape = only.shape;
  news = record {
    kept = λ p there. subst (λ (v : Vec ℕ). Contains v.items p) (sym only.news) there;
    noted = λ p h state. inl (ap (λ (t : Checkpoints). says (said_at t p) h state) only.checkpoints);
  };
  ready = counted_ready old new only ready;
}
