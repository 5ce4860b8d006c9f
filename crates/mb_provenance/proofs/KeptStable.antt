-- The last CHECKPOINT of a host at a position stays found, and what is learnt to be stable is never forgotten.
use Rattle.std.proofs.Common.{◌≡◌, ℕ, ◌+◌, ◌≤◌, List, [], ◌∷◌, ◌++◌, ◌⊎◌, length, refl, sym, ap, ◌∙◌, subst, inl, inr, arith, Option, Some, None}
use Rattle.std.specs.Prelude.{filter, map, option_and_then}
use Rattle.std.proofs.lemmas.Bool.{eq-eqb, le-leb}
use Rattle.mb_base.specs.declared.shape.Shape.{Shape}
use Rattle.mb_base.specs.Shapes.{Bytes, HasQuorum, quorum, interval, span, host_count}
use Rattle.mb_usig.specs.Tags.{same_bytes}
use Rattle.mb_usig.proofs.Laws.{same_bytes-true, true-same_bytes}
use Rattle.mb_parts.specs.declared.certificates.StableCert.{StableCert}
use Rattle.mb_msg.specs.declared.message.Message.TheVariants as message
use Rattle.mb_msg.specs.declared.normal.Checkpoint.{Checkpoint}
use Rattle.mb_msg.specs.declared.stamped.Stamped.TheVariants as stamped
use Rattle.mb_model.specs.Histories.{Entry, Accepted, Stamped, History, Identity}
use Rattle.mb_model.specs.Stable.{checkpoint_of, first_agreed, checkpoints_at, same_state, stable_member, stable_cert, agreed_at, agreed_above, further, learnt_in, stable_of, low_of}
use Rattle.mb_model.proofs.Options.{option_cases}
use Rattle.mb_steps.proofs.StepPotential.{tally_same, further_both}
use Rattle.mb_views.proofs.PlanMoments.{low_grows}
use Rattle.mb_provenance.proofs.FoundMembers.{passes, as_many, some_in, filter_more, agreement}
use Rattle.mb_promise.specs.KeepsTables.{NoneIs, is_checkpoint_of, IsCheckpoint, names_state, KeepsCheckpoints, RaisesByCheckpoints, RaisesByJoins, RaisesByLogs}

-- ---- where f+1 CHECKPOINTs name one state, they make a certificate

pub names : (state : Bytes) (o : Option Checkpoint) → passes (λ c. same_bytes c.state state) o ≡ names_state state o
names state None = refl
names state (Some c) = refl

module _ (s : Shape) where
  cert_made : (pos : ℕ) (r : List Checkpoint) → 1 ≤ length r → (c : StableCert) × (stable_cert s pos r ≡ Some c) × (c.pos ≡ pos)
  cert_made pos [] some = absurd (omega arith)
  cert_made pos (m ∷ r) some = (record { pos = pos; state = m.state; members = map (stable_member s) (m ∷ r) }, refl, refl)

  agreed_where : (d : History) (pos : ℕ) (state : Bytes) → HasQuorum s (λ h. names_state state (checkpoint_of d h pos)) → (c : StableCert) × (agreed_at s d pos ≡ Some c) × (c.pos ≡ pos)
  unfolding agreed_at
  agreed_where d pos state many =
      let all : List Checkpoint = checkpoints_at s d pos in
      let every = tally_same (λ h. passes (λ c. same_bytes c.state state) (checkpoint_of d h pos)) (λ h. names_state state (checkpoint_of d h pos)) (host_count s) (λ h. names state (checkpoint_of d h pos)) in
      let named : quorum s ≤ length (filter (λ c. same_bytes c.state state) all) = omega (arith, many, as_many (λ c. same_bytes c.state state) (λ h. checkpoint_of d h pos) (host_count s), every) in
      let one = some_in (λ c. same_bytes c.state state) all (omega (arith, named)) in
      let its : one.0.state ≡ state = same_bytes-true one.0.state state one.2 in
      let alike : length (filter (λ c. same_bytes c.state state) all) ≤ length (filter (same_state s one.0) all) =
      filter_more (λ c. same_bytes c.state state) (same_state s one.0) all (λ x e. true-same_bytes one.0.state x.state (its ∙ sym (same_bytes-true x.state state e))) in
      let r = agreement (same_state s) (quorum s) all all one.0 one.1 (omega (arith, named, alike)) in
      let made = cert_made pos r.0 (omega (arith, r.2)) in
      (made.0, rw r.1 made.1, made.2)

  cert_place : (pos : ℕ) (r : List Checkpoint) (c : StableCert) → stable_cert s pos r ≡ Some c → c.pos ≡ pos
  cert_place pos [] c e = absurd cc
  cert_place pos (m ∷ r) c e = let same : record { pos = pos; state = m.state; members = map (stable_member s) (m ∷ r) } ≡ c = cc in ap (λ (x : StableCert). x.pos) (sym same)

  pub agreed_place : (d : History) (pos : ℕ) (c : StableCert) → agreed_at s d pos ≡ Some c → c.pos ≡ pos
  unfolding agreed_at
  agreed_place d pos c e = of_list (first_agreed (same_state s) (quorum s) (checkpoints_at s d pos) (checkpoints_at s d pos)) e where
    of_list : (o : Option (List Checkpoint)) → option_and_then (stable_cert s pos) o ≡ Some c → c.pos ≡ pos
    of_list None e = absurd cc
    of_list (Some r) e = cert_place pos r c e

  -- the greater of the two places
  above_where : (d : History) (low pos : ℕ) (c : StableCert) → (pos ≡ low + interval s) ⊎ (pos ≡ low + span s) → agreed_at s d pos ≡ Some c → c.pos ≡ pos
      → (x : StableCert) × (agreed_above s d low ≡ Some x) × (pos ≤ x.pos)
  above_where d low pos c (inr far) is place = (c, rw (subst (λ (p : ℕ). agreed_at s d p ≡ Some c) far is) refl, omega (arith, place))
  above_where d low pos c (inl near) is place = elim (option_cases (agreed_at s d (low + span s))) [
    | inl none ↦ (c, rw none (subst (λ (p : ℕ). agreed_at s d p ≡ Some c) near is), omega (arith, place))
    | inr (x, far) ↦ (x, rw far refl, omega (arith, near, agreed_place d (low + span s) x far))
  ]

learnt_most : (old new : StableCert) (o : Option StableCert) → o ≡ Some new → new.pos ≤ (further old o).pos
learnt_most old new o is = subst (λ (x : Option StableCert). new.pos ≤ (further old x).pos) (sym is) (further_both old new).1

module _ {S : Type 0} (self : Identity S) where
  -- ---- CHECKPOINTs

  checkpoint_stays : (later d : History) (h pos : ℕ) (m : Checkpoint) → NoneIs (is_checkpoint_of h pos) later → checkpoint_of d h pos ≡ Some m → checkpoint_of (later ++ d) h pos ≡ Some m
  unfolding checkpoint_of
  checkpoint_stays [] d h pos m none e = e
  checkpoint_stays (Accepted (message.Checkpoint q) ∷ l) d h pos m none e = rw none.0 (checkpoint_stays l d h pos m none.1 e)
  checkpoint_stays (Stamped (stamped.Checkpoint q) ∷ l) d h pos m none e = rw none.0 (checkpoint_stays l d h pos m none.1 e)
  checkpoint_stays (x ∷ l) d h pos m none e = checkpoint_stays l d h pos m none.1 e

  checkpoint_taken : (m : Checkpoint) (d : History) → checkpoint_of (Accepted (message.Checkpoint m) ∷ d) m.ui.host m.pos ≡ Some m
  unfolding checkpoint_of
  checkpoint_taken m d = rw (eq-eqb m.ui.host m.ui.host refl, eq-eqb m.pos m.pos refl) refl

  checkpoint_stamped : (m : Checkpoint) (d : History) → checkpoint_of (Stamped (stamped.Checkpoint m) ∷ d) m.ui.host m.pos ≡ Some m
  unfolding checkpoint_of
  checkpoint_stamped m d = rw (eq-eqb m.ui.host m.ui.host refl, eq-eqb m.pos m.pos refl) refl

  checkpoint_new : (e : Entry) (m : Checkpoint) (d : History) → IsCheckpoint e m → checkpoint_of (e ∷ d) m.ui.host m.pos ≡ Some m
  checkpoint_new e m d (inl is) = subst (λ (x : Entry). checkpoint_of (x ∷ d) m.ui.host m.pos ≡ Some m) (sym is) (checkpoint_taken m d)
  checkpoint_new e m d (inr is) = subst (λ (x : Entry). checkpoint_of (x ∷ d) m.ui.host m.pos ≡ Some m) (sym is) (checkpoint_stamped m d)

  pub keeps_checkpoints : (d : History) → KeepsCheckpoints self d
  keeps_checkpoints d later before e m is checkpoint none =
      subst (λ (h : History). checkpoint_of h m.ui.host m.pos ≡ Some m) (sym is) (checkpoint_stays later (e ∷ before) m.ui.host m.pos m none (checkpoint_new e m before checkpoint))

  -- ---- the stable position

  learnt_at_once : (d : History) (e : Entry) (c : StableCert) → learnt_in self d (low_of self d) e ≡ Some c → c.pos ≤ low_of self (e ∷ d)
  unfolding stable_of
  learnt_at_once d e c learnt = learnt_most (stable_of self d) c (learnt_in self d (low_of self d) e) learnt

  -- what was learnt with an entry is not above the stable position from then on
  learnt_since : (d later before : History) (e : Entry) (c : StableCert) → d ≡ later ++ e ∷ before → learnt_in self before (low_of self before) e ≡ Some c → c.pos ≤ low_of self d
  learnt_since d later before e c is learnt =
      subst (λ (h : History). c.pos ≤ low_of self h) (sym is) (omega (arith, low_grows self later (e ∷ before), learnt_at_once before e c learnt))

  learns : (e : Entry) (m : Checkpoint) (d : History) (c : StableCert) → IsCheckpoint e m → low_of self d ≤ m.pos → agreed_above self.shape (e ∷ d) (low_of self d) ≡ Some c
      → learnt_in self d (low_of self d) e ≡ Some c
  learns e m d c (inl is) le agreed =
      subst (λ (x : Entry). learnt_in self d (low_of self d) x ≡ Some c) (sym is) (rw (le-leb (low_of self d) m.pos le) (subst (λ (x : Entry). agreed_above self.shape (x ∷ d) (low_of self d) ≡ Some c) is agreed))
  learns e m d c (inr is) le agreed =
      subst (λ (x : Entry). learnt_in self d (low_of self d) x ≡ Some c) (sym is) (rw (le-leb (low_of self d) m.pos le) (subst (λ (x : Entry). agreed_above self.shape (x ∷ d) (low_of self d) ≡ Some c) is agreed))

  not_below : (low pos : ℕ) → (pos ≡ low + interval self.shape) ⊎ (pos ≡ low + span self.shape) → low ≤ pos
  not_below low pos (inl near) = omega (arith, near)
  not_below low pos (inr far) = omega (arith, far)

  pub raises_by_checkpoints : (d : History) → RaisesByCheckpoints self d
  raises_by_checkpoints d later before e m is checkpoint place many =
      let c = agreed_where self.shape (e ∷ before) m.pos m.state many in
      let x = above_where self.shape (e ∷ before) (low_of self before) m.pos c.0 place c.1 c.2 in
      omega (arith, x.2, learnt_since d later before e x.0 is (learns e m before x.0 checkpoint (not_below (low_of self before) m.pos place) x.1))

  pub raises_by_joins : (d : History) → RaisesByJoins self d
  raises_by_joins d later before m is = learnt_since d later before (Accepted (message.Join m)) m.stable is refl

  pub raises_by_logs : (d : History) → RaisesByLogs self d
  raises_by_logs d later before m is = learnt_since d later before (Accepted (message.Log m)) m.stable is refl
