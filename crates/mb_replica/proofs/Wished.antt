-- Wishes: one that is taken, and lost patience.
use Rattle.std.proofs.Common.{◌≡◌, ℕ, ◌+◌, true, false, ◌∷◌, refl, sym, subst, inl, Some, None}
use Rattle.std.specs.Prelude.{◌==◌}
use Rattle.mb_base.specs.declared.shape.Shape.{Shape}
use Rattle.mb_msg.specs.declared.change.ReqViewChange.{ReqViewChange}
use Rattle.mb_msg.specs.declared.event.Outcome.{Outcome}
use Rattle.mb_msg.specs.declared.event.Outcome.TheVariants as outcome
use Rattle.mb_msg.specs.declared.message.Message.TheVariants as message
use Rattle.mb_msg.specs.Fits.{FitsWish}
use Rattle.mb_model.specs.Histories.{Entry, Accepted, LostPatience, History, Identity, view_of}
use Rattle.mb_model.specs.Held.{view_limit}
use Rattle.mb_model.specs.Given.{Answer, answer, give_wish}
use Rattle.mb_model.specs.HostStep.{on_patience, wish_onward}
use Rattle.mb_model.specs.Sending.{Progress, write}
use Rattle.mb_model.specs.PlainChecks.{wish_refusal}
use Rattle.mb_model.proofs.ShapesFit.{shape_fits}
use Rattle.mb_steps.proofs.StepPassed.{passes_wish}
use Rattle.mb_change.specs.Searches.{with_wish}
use Rattle.mb_change.specs.Represents.{StandsWith}
use Rattle.mb_encodable.proofs.Answers.{patience_sent}
use Rattle.mb_refinement.proofs.Changes.{wish_taken, patience_lost}
use Rattle.mb_replica.specs.declared.state.ReplicaState.{ReplicaState}
use Rattle.mb_replica.specs.declared.sending.StepOutput.{StepOutput}
use Rattle.mb_replica.specs.Represents.{Represents, StandsAt}
use Rattle.mb_replica.specs.Between.{WritesChange}
use Rattle.mb_replica.specs.Wishing.{Wishes}
use Rattle.mb_replica.proofs.Accepted.{same_table}
use Rattle.mb_replica.proofs.Behind.{stands_behind_entry, SpeaksToChange, represents_more, change_written, host_there}

-- ---- what is answered

module _ {S : Type 0} (me : Identity S) (x : Progress) where
  pub wish_refused : (m : ReqViewChange) (o : Outcome) → Some o ≡ wish_refusal me x.history m → give_wish me m x ≡ answer o x
  unfolding give_wish
  wish_refused m o is = rw (sym is) refl

  pub wish_given : (m : ReqViewChange) → None ≡ wish_refusal me x.history m → give_wish me m x ≡ answer outcome.Took (write (Accepted (message.ReqViewChange m)) x)
  unfolding give_wish
  wish_given m is = rw (sym is) refl

  pub patience_stays : (view_of me x.history == view_limit) ≡ true → on_patience me x ≡ answer outcome.Idle x
  unfolding on_patience
  patience_stays last = rw last refl

  pub patience_goes : (view_of me x.history == view_limit) ≡ false → on_patience me x ≡ answer outcome.Took (wish_onward me x)
  unfolding on_patience
  patience_goes more = rw more refl

module _ {V : Type 0} (me : Identity V) (old new : ReplicaState V) (done : StepOutput) (x : Progress) (st : StandsAt me old done x) where
  -- A wish is taken where the replica represents the history with it.
  pub wish_answered : (m : ReqViewChange) → None ≡ wish_refusal me x.history m → Represents me new (Accepted (message.ReqViewChange m) ∷ x.history) → (outcome.Took ≡ (give_wish me m x).outcome) × StandsAt me new done (give_wish me m x).left
  wish_answered m is now =
      subst (λ (a : Answer). (outcome.Took ≡ a.outcome) × StandsAt me new done a.left) (sym (wish_given me x m is)) (refl, stands_behind_entry me old new done x (Accepted (message.ReqViewChange m)) st refl now)

-- ---- wishes that are kept

module _ {V : Type 0} (me : Identity V) (old new : ReplicaState V) (d : History) (rep : Represents me old d) (writes : WritesChange old new) where
  -- A wish that asks for more is kept.
  pub wish_kept : (m : ReqViewChange) → FitsWish old.protocol.shape m → wish_refusal me d m ≡ None → StandsWith old.protocol.change (with_wish m.host m.view) new.protocol.change
      → Represents me new (Accepted (message.ReqViewChange m) ∷ d)
  wish_kept m fits passed stands =
      let e : Entry = Accepted (message.ReqViewChange m) in
      let adds = passes_wish me d m passed in
      let alone : SpeaksToChange e = record { gates = λ h. refl; counter = refl; log = refl; positions = refl; stable = refl; executed = refl; state = refl; snapshots = refl; parts = refl; nudge = refl } in
      represents_more me old new e d rep writes.same adds tt ((message.ReqViewChange m, subst (λ (s : Shape). FitsWish s m) (sym rep.who.shape) fits, inl refl), tt) refl
      (change_written me old new e d rep adds alone writes (wish_taken me old.protocol.change new.protocol.change d (same_table old new writes.same) rep.tables.change m stands))

  -- The host wishes for the view behind its own.
  module _ (more : (view_of me d == view_limit) ≡ false) where
    pub wished_onward : (host next : ℕ) → host ≡ me.host → next ≡ view_of me d + 1 → StandsWith old.protocol.change (with_wish host next) new.protocol.change → Represents me new (LostPatience ∷ d)
    wished_onward host next own is stands =
        let alone : SpeaksToChange LostPatience = record { gates = λ h. refl; counter = refl; log = refl; positions = refl; stable = refl; executed = refl; state = refl; snapshots = refl; parts = refl; nudge = refl } in
        let written : StandsWith old.protocol.change (with_wish me.host (view_of me d + 1)) new.protocol.change =
        subst (λ (h : ℕ). StandsWith old.protocol.change (with_wish h (view_of me d + 1)) new.protocol.change) own (subst (λ (v : ℕ). StandsWith old.protocol.change (with_wish host v) new.protocol.change) is stands) in
        represents_more me old new LostPatience d rep writes.same tt tt more refl
        (change_written me old new LostPatience d rep tt alone writes (patience_lost me old.protocol.change new.protocol.change d (same_table old new writes.same) rep.tables.change written))

    -- It can be told.
    pub onward_told : Represents me new (LostPatience ∷ d) → Wishes new
    onward_told now = record {
      me = me;
      history = LostPatience ∷ d;
      represents = now;
      fits = patience_sent me (shape_fits me.shape) (host_there me old d rep) d now.tables.sound now.fit;
    }
