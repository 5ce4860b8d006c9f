-- A PREPARE that is taken is the slot of its position and its sender's vote, and a COMMIT its sender's vote, from then on.
use Rattle.std.proofs.Common.{◌≡◌, ℕ, ◌+◌, ◌<◌, ◌≤◌, true, [], ◌∷◌, ◌++◌, refl, sym, subst, ◌∙◌, inl, inr, Some, None}
use Rattle.std.specs.Prelude.{◌==◌}
use Rattle.std.proofs.lemmas.Bool.{cases_Bool, and_from, eq-eqb}
use Rattle.mb_base.specs.Shapes.{span}
use Rattle.mb_parts.specs.declared.batch.Batch.{Batch}
use Rattle.mb_parts.specs.Spelling.{batch_bytes}
use Rattle.mb_parts.specs.Ordered.{current_view}
use Rattle.mb_msg.specs.declared.message.Body.{Body}
use Rattle.mb_msg.specs.declared.message.Message.TheVariants as message
use Rattle.mb_msg.specs.declared.normal.Prepare.{Prepare}
use Rattle.mb_msg.specs.declared.normal.Commit.{Commit}
use Rattle.mb_msg.specs.Bodies.{body_digest}
use Rattle.mb_model.specs.declared.known.Vote.{Vote}
use Rattle.mb_model.specs.declared.known.KnownSlot.{KnownSlot}
use Rattle.mb_model.specs.Histories.{Entry, Accepted, History, Identity, origin, taken_of, view_of}
use Rattle.mb_model.specs.Stable.{stable_of, low_of}
use Rattle.mb_model.specs.Positions.{slot_in, vote_of, counts_at, slot_by, vote_by, vote_with}
use Rattle.mb_promise.specs.NothingLeft.{IsInWindow, slot_of, KeepsSlots, CountsPrepares, CountsCommits}
use Rattle.mb_each_host.proofs.Words.{window_is}

module _ {S : Type 0} (self : Identity S) where
  -- ---- what counts, counts from then on

  pub slot_stays : (later d : History) (v p : ℕ) (k : KnownSlot) → slot_in self d v p ≡ Some k → slot_in self (later ++ d) v p ≡ Some k
  unfolding slot_in
  slot_stays [] d v p k e = e
  slot_stays (x ∷ later) d v p k e = rw (slot_stays later d v p k e) refl

  pub vote_stays : (later d : History) (g v p : ℕ) (x : Vote) → vote_of self d g v p ≡ Some x → vote_of self (later ++ d) g v p ≡ Some x
  unfolding vote_of
  vote_stays [] d g v p x e = e
  vote_stays (y ∷ later) d g v p x e = rw (vote_stays later d g v p x e) refl

  -- ---- a vote that is taken changes neither view nor window

  prepare_view : (m : Prepare) (d : History) → view_of self (Accepted (message.Prepare m) ∷ d) ≡ view_of self d
  unfolding origin taken_of current_view
  prepare_view m d = elim (cases_Bool (m.ui.host == self.host)) [
    | inl own ↦ rw own refl
    | inr other ↦ rw other refl
  ]

  commit_view : (m : Commit) (d : History) → view_of self (Accepted (message.Commit m) ∷ d) ≡ view_of self d
  unfolding origin taken_of current_view
  commit_view m d = elim (cases_Bool (m.ui.host == self.host)) [
    | inl own ↦ rw own refl
    | inr other ↦ rw other refl
  ]

  prepare_low : (m : Prepare) (d : History) → low_of self (Accepted (message.Prepare m) ∷ d) ≡ low_of self d
  unfolding stable_of
  prepare_low m d = refl

  commit_low : (m : Commit) (d : History) → low_of self (Accepted (message.Commit m) ∷ d) ≡ low_of self d
  unfolding stable_of
  commit_low m d = refl

  pub counts_where : (e : Entry) (d : History) (v p : ℕ) → view_of self (e ∷ d) ≡ view_of self d → low_of self (e ∷ d) ≡ low_of self d → view_of self d ≡ v → IsInWindow self d p → counts_at self (e ∷ d) v p ≡ true
  counts_where e d v p same low at inside =
      let there : IsInWindow self (e ∷ d) p = record {
        above = subst (λ (n : ℕ). n < p) (sym low) inside.above;
        near = subst (λ (n : ℕ). p ≤ n + span self.shape) (sym low) inside.near;
        allowed = inside.allowed;
      } in
      and_from _ _ (eq-eqb (view_of self (e ∷ d)) v (same ∙ at)) (window_is self (e ∷ d) p there)

  -- ---- slots

  pub slot_new : (e : Entry) (d : History) (v p : ℕ) (k : KnownSlot) → counts_at self (e ∷ d) v p ≡ true → slot_in self d v p ≡ None → slot_by e v p ≡ Some k → slot_in self (e ∷ d) v p ≡ Some k
  unfolding slot_in
  slot_new e d v p k counts none by = rw (none, counts) by

  pub keeps_slots : (d : History) → KeepsSlots self d
  keeps_slots d later before m is at inside none =
      let e : Entry = Accepted (message.Prepare m) in
      let counts = counts_where e before m.view m.pos (prepare_view m before) (prepare_low m before) at inside in
      let by : slot_by e m.view m.pos ≡ Some (slot_of self d m) = rw (eq-eqb m.view m.view refl, eq-eqb m.pos m.pos refl) refl in
      subst (λ (h : History). slot_in self h m.view m.pos ≡ Some (slot_of self d m)) (sym is) (slot_stays later (e ∷ before) m.view m.pos (slot_of self d m) (slot_new e before m.view m.pos (slot_of self d m) counts none by))

  -- ---- votes

  pub vote_new : (e : Entry) (d : History) (g v p : ℕ) (x : Vote) → counts_at self (e ∷ d) v p ≡ true → vote_of self d g v p ≡ None → vote_by self.host e g v p ≡ Some x → vote_of self (e ∷ d) g v p ≡ Some x
  unfolding vote_of
  vote_new e d g v p x counts none by = rw (none, counts, by) refl

  pub own_place : (g v p n : ℕ) (body : Body Batch) → vote_with g g v p v p body n ≡ Some (record { counter = n; request = body_digest batch_bytes body })
  own_place g v p n body = rw (eq-eqb v v refl, eq-eqb p p refl, eq-eqb g g refl) refl

  pub counts_prepares : (d : History) → CountsPrepares self d
  counts_prepares d later before m is at inside none =
      let e : Entry = Accepted (message.Prepare m) in
      let x : Vote = record { counter = m.ui.counter; request = body_digest batch_bytes m.body } in
      let counts = counts_where e before m.view m.pos (prepare_view m before) (prepare_low m before) at inside in
      subst (λ (h : History). vote_of self h m.ui.host m.view m.pos ≡ Some x) (sym is)
      (vote_stays later (e ∷ before) m.ui.host m.view m.pos x (vote_new e before m.ui.host m.view m.pos x counts none (own_place m.ui.host m.view m.pos m.ui.counter m.body)))

  pub counts_commits : (d : History) → CountsCommits self d
  counts_commits d later before m is at inside none =
      let e : Entry = Accepted (message.Commit m) in
      let x : Vote = record { counter = m.counter; request = body_digest batch_bytes m.body } in
      let counts = counts_where e before m.view m.pos (commit_view m before) (commit_low m before) at inside in
      subst (λ (h : History). vote_of self h m.ui.host m.view m.pos ≡ Some x) (sym is)
      (vote_stays later (e ∷ before) m.ui.host m.view m.pos x (vote_new e before m.ui.host m.view m.pos x counts none (own_place m.ui.host m.view m.pos m.counter m.body)))
