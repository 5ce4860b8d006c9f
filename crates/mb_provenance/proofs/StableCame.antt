-- What is stable was shown: by a JOIN, a LOG or a plan, or by CHECKPOINTs of f+1 hosts that name its state.
use Rattle.std.proofs.Common.{◌≡◌, ℕ, ◌+◌, ◌<◌, ◌≤◌, ◌⊎◌, List, [], ◌∷◌, length, take, refl, sym, ap, subst, ◌∙◌, inl, inr, arith, Option, Some, None}
use Rattle.std.specs.Prelude.{nat_lt, nat_le, filter}
use Rattle.std.proofs.lemmas.Bool.{cases_Bool, leb-true}
use Rattle.mb_base.specs.declared.shape.Shape.{Shape}
use Rattle.mb_base.specs.Shapes.{HasQuorum, quorum, interval, span, host_count}
use Rattle.mb_usig.specs.Tags.{same_bytes}
use Rattle.mb_usig.proofs.Laws.{same_bytes-true, true-same_bytes}
use Rattle.mb_parts.specs.declared.certificates.StableCert.{StableCert}
use Rattle.mb_msg.specs.declared.message.Message.TheVariants as message
use Rattle.mb_msg.specs.declared.normal.Checkpoint.{Checkpoint}
use Rattle.mb_msg.specs.declared.change.Plan.{Plan}
use Rattle.mb_msg.specs.declared.stamped.Stamped.TheVariants as stamped
use Rattle.mb_model.specs.Histories.{Entry, Accepted, Stamped, History, Identity}
use Rattle.mb_model.specs.Held.{plan_in, plan_held}
use Rattle.mb_model.specs.Stable.{checkpoint_of, first_agreed, checkpoints_at, same_state, stable_cert, agreed_at, agreed_above, plan_base, further, learnt_in, stable_of}
use Rattle.mb_model.specs.Members.{In}
use Rattle.mb_model.proofs.Options.{or_some, if_some}
use Rattle.mb_steps.proofs.StepPotential.{tally_same}
use Rattle.mb_promise.specs.KeepsTables.{names_state}
use Rattle.mb_promise.specs.FindsTables.{Came, BringsPlan, ShowsStable, FindsStable}
use Rattle.mb_host_laws.proofs.Cases.{some_is}
use Rattle.mb_host_laws.proofs.HeldStable.{agreed_shape}
use Rattle.mb_provenance.proofs.FoundMembers.{passes, as_many, filter_more, of_filter, of_take}
use Rattle.mb_provenance.proofs.KeptStable.{names, agreed_place}
use Rattle.mb_provenance.proofs.WhatCame.{and_then_at}
use Rattle.mb_provenance.proofs.EntriesCame.{came_now, came_before, plan_said}

-- ---- a certificate of CHECKPOINTs has f+1 that name its state

module _ (s : Shape) where
  first_state : (pos : ℕ) (r : List Checkpoint) (c : StableCert) → stable_cert s pos r ≡ Some c → (m : Checkpoint) × In r m × (m.state ≡ c.state)
  first_state pos [] c e = absurd cc
  first_state pos (m ∷ r) c e = (m, inl refl, ap (λ (x : StableCert). x.state) (some_is _ c e))

  all_name : (d : History) (pos : ℕ) (c : StableCert) → agreed_at s d pos ≡ Some c → HasQuorum s (λ h. names_state c.state (checkpoint_of d h pos))
  unfolding agreed_at
  all_name d pos c e =
      let all : List Checkpoint = checkpoints_at s d pos in
      let t = and_then_at (stable_cert s pos) (first_agreed (same_state s) (quorum s) all all) c e in
      let a = agreed_shape (same_state s) (quorum s) all all t.0 t.1 in
      let m = first_state pos t.0 c t.2 in
      let inside : In (take (quorum s) (filter (same_state s a.0) all)) m.0 = subst (λ (l : List Checkpoint). In l m.0) (sym a.2) m.1 in
      let like = (of_filter (same_state s a.0) all m.0 (of_take (quorum s) (filter (same_state s a.0) all) m.0 inside)).1 in
      let its : a.0.state ≡ c.state = same_bytes-true a.0.state m.0.state like ∙ m.2 in
      let alike : length (filter (same_state s a.0) all) ≤ length (filter (λ q. same_bytes q.state c.state) all) =
      filter_more (same_state s a.0) (λ q. same_bytes q.state c.state) all (λ q e. true-same_bytes q.state c.state (sym (same_bytes-true a.0.state q.state e) ∙ its)) in
      let many : quorum s ≤ length (filter (same_state s a.0) all) = leb-true (quorum s) (length (filter (same_state s a.0) all)) a.1 in
      let every = tally_same (λ h. passes (λ q. same_bytes q.state c.state) (checkpoint_of d h pos)) (λ h. names_state c.state (checkpoint_of d h pos)) (host_count s) (λ h. names c.state (checkpoint_of d h pos)) in
      omega (arith, many, alike, as_many (λ (q : Checkpoint). same_bytes q.state c.state) (λ h. checkpoint_of d h pos) (host_count s), every)

  agreed : (d : History) (pos : ℕ) (c : StableCert) → agreed_at s d pos ≡ Some c → HasQuorum s (λ h. names_state c.state (checkpoint_of d h c.pos))
  agreed d pos c e = subst (λ (p : ℕ). HasQuorum s (λ h. names_state c.state (checkpoint_of d h p))) (sym (agreed_place s d pos c e)) (all_name d pos c e)

  above : (d : History) (low : ℕ) (c : StableCert) → agreed_above s d low ≡ Some c → HasQuorum s (λ h. names_state c.state (checkpoint_of d h c.pos))
  above d low c e = elim (or_some (agreed_at s d (low + span s)) (agreed_at s d (low + interval s)) c e) [
    | inl far ↦ agreed d (low + span s) c far
    | inr near ↦ agreed d (low + interval s) c near
  ]

-- ---- one entry

base_of : (o : Option (ℕ × Plan)) (c : StableCert) → plan_base o ≡ Some c → (v : ℕ) × (p : Plan) × (o ≡ Some (v, p)) × (p.base ≡ c)
base_of None c e = absurd cc
base_of (Some q) c e = (q.0, q.1, refl, some_is q.1.base c e)

further_from : (old : StableCert) (o : Option StableCert) (c : StableCert) → further old o ≡ c → (old ≡ c) ⊎ (o ≡ Some c)
further_from old None c e = inl e
further_from old (Some new) c e = elim (cases_Bool (nat_lt old.pos new.pos)) [
  | inl more ↦ inr (ap (λ (x : StableCert). Some x) (rw more at e))
  | inr no_more ↦ inl (rw no_more at e)
]

module _ {S : Type 0} (self : Identity S) where
  plan_shows : (x : Entry) (d : History) (c : StableCert) → plan_base (plan_in self d (plan_held self d) x) ≡ Some c → (v : ℕ) × (p : Plan) × BringsPlan self x v p × (p.base ≡ c)
  plan_shows x d c e =
      let b = base_of (plan_in self d (plan_held self d) x) c e in
      (b.0, b.1, plan_said self x d (plan_held self d) b.0 b.1 b.2, b.3)

  stable_said : (x : Entry) (d : History) (low : ℕ) (c : StableCert) → learnt_in self d low x ≡ Some c → ShowsStable self d x c
  stable_said (Accepted (message.Join m)) d low c e = some_is m.stable c e
  stable_said (Accepted (message.Log m)) d low c e = some_is m.stable c e
  stable_said (Accepted (message.Checkpoint m)) d low c e = above self.shape (Accepted (message.Checkpoint m) ∷ d) low c (if_some (nat_le low m.pos) (agreed_above self.shape (Accepted (message.Checkpoint m) ∷ d) low) c e).1
  stable_said (Stamped (stamped.Checkpoint m)) d low c e = above self.shape (Stamped (stamped.Checkpoint m) ∷ d) low c (if_some (nat_le low m.pos) (agreed_above self.shape (Stamped (stamped.Checkpoint m) ∷ d) low) c e).1
  stable_said x d low c e = plan_shows x d c e

  stable_came : (d : History) (c : StableCert) → stable_of self d ≡ c → 0 < c.pos → Came (λ y before. ShowsStable self before y c) d
  unfolding stable_of
  stable_came [] c e lt = let start : 0 ≡ c.pos = ap (λ (x : StableCert). x.pos) e in absurd (omega (arith, start, lt))
  stable_came (x ∷ d) c e lt = elim (further_from (stable_of self d) (learnt_in self d (stable_of self d).pos x) c e) [
    | inl old ↦ came_before (λ y before. ShowsStable self before y c) x d (stable_came d c old lt)
    | inr new ↦ came_now (λ y before. ShowsStable self before y c) x d (stable_said x d (stable_of self d).pos c new)
  ]

  pub finds_stable : (d : History) → FindsStable self d
  finds_stable d lt = stable_came d (stable_of self d) refl lt
