-- A request that was taken waits until it is outdone, and a wish that a host told is never taken back.
use Rattle.std.proofs.Common.{◌≡◌, ℕ, ◌≤◌, ◌<◌, false, [], ◌∷◌, ◌++◌, refl, sym, ap, subst, inl, inr, arith, Some}
use Rattle.std.specs.Prelude.{◌==◌, nat_le}
use Rattle.std.proofs.lemmas.Bool.{cases_Bool, eq-eqb, lt-ltb, leb-false}
use Rattle.mb_parts.specs.declared.request.Request.{Request}
use Rattle.mb_msg.specs.declared.message.Message.TheVariants as message
use Rattle.mb_msg.specs.declared.change.ReqViewChange.{ReqViewChange}
use Rattle.mb_msg.specs.declared.change.ViewChange.{ViewChange}
use Rattle.mb_msg.specs.declared.stamped.Stamped.TheVariants as stamped
use Rattle.mb_model.specs.Histories.{Entry, Accepted, Stamped, Served, Installed, LostPatience, History, Identity, view_of}
use Rattle.mb_model.specs.Execution.{pending}
use Rattle.mb_model.specs.Held.{wish_of}
use Rattle.mb_promise.specs.KeepsTables.{NoneIs, outdoes, StaysFresh, KeepsRequests, IsChange, KeepsWishes, KeepsWishesOfChanges, KeepsOwnWishes}

module _ {S : Type 0} (self : Identity S) where
  -- ---- requests

  fresh_before : (e : Entry) (later before : History) (r : Request) → StaysFresh self r (e ∷ later) before → StaysFresh self r later before
  fresh_before e later before r fresh newer older pos parts is = fresh (e ∷ newer) older pos parts (ap (λ (h : History). e ∷ h) is)

  waits : (later before : History) (r : Request) → NoneIs (outdoes r) later → StaysFresh self r later before → pending self (later ++ Accepted (message.Request r) ∷ before) r.client ≡ Some r
  unfolding pending
  waits [] before r none fresh = rw (eq-eqb r.client r.client refl) refl
  waits (Accepted (message.Request q) ∷ l) before r none fresh = rw none.0 (waits l before r none.1 (fresh_before (Accepted (message.Request q)) l before r fresh))
  waits (Served pos p ∷ l) before r none fresh =
      let waited = waits l before r none.1 (fresh_before (Served pos p) l before r fresh) in
      elim (cases_Bool (p.request.client == r.client)) [
        | inl mine ↦ let below : nat_le r.seq p.request.seq ≡ false = rw mine at none.0 in
            rw (mine, waited, lt-ltb p.request.seq r.seq (leb-false r.seq p.request.seq below)) refl
        | inr other ↦ rw other waited
      ]
  waits (Installed pos parts ∷ l) before r none fresh = rw (waits l before r none.1 (fresh_before (Installed pos parts) l before r fresh), fresh [] l pos parts refl) refl
  waits (e ∷ l) before r none fresh = waits l before r none.1 (fresh_before e l before r fresh)

  pub keeps_requests : (d : History) → KeepsRequests self d
  keeps_requests d later before r is none fresh = subst (λ (h : History). pending self h r.client ≡ Some r) (sym is) (waits later before r none fresh)

  -- ---- wishes

  wish_stays : (later d : History) (h v : ℕ) → v ≤ wish_of self d h → v ≤ wish_of self (later ++ d) h
  unfolding wish_of
  wish_stays [] d h v le = le
  wish_stays (e ∷ l) d h v le = omega (arith, wish_stays l d h v le)

  wish_since : (d later old : History) (h v : ℕ) → d ≡ later ++ old → v ≤ wish_of self old h → v ≤ wish_of self d h
  wish_since d later old h v is le = subst (λ (x : History). v ≤ wish_of self x h) (sym is) (wish_stays later old h v le)

  wished : (m : ReqViewChange) (d : History) → m.view ≤ wish_of self (Accepted (message.ReqViewChange m) ∷ d) m.host
  unfolding wish_of
  wished m d = rw (eq-eqb m.host m.host refl) (omega arith)

  change_taken : (m : ViewChange) (d : History) → m.view ≤ wish_of self (Accepted (message.ViewChange m) ∷ d) m.ui.host
  unfolding wish_of
  change_taken m d = rw (eq-eqb m.ui.host m.ui.host refl) (omega arith)

  change_stamped : (m : ViewChange) (d : History) → m.view ≤ wish_of self (Stamped (stamped.ViewChange m) ∷ d) m.ui.host
  unfolding wish_of
  change_stamped m d = rw (eq-eqb m.ui.host m.ui.host refl) (omega arith)

  patience_lost : (d : History) → view_of self d < wish_of self (LostPatience ∷ d) self.host
  unfolding wish_of
  patience_lost d = rw (eq-eqb self.host self.host refl) (omega arith)

  pub keeps_wishes : (d : History) → KeepsWishes self d
  keeps_wishes d later before m is = wish_since d later (Accepted (message.ReqViewChange m) ∷ before) m.host m.view is (wished m before)

  change_wishes : (e : Entry) (m : ViewChange) (d : History) → IsChange e m → m.view ≤ wish_of self (e ∷ d) m.ui.host
  change_wishes e m d (inl is) = subst (λ (x : Entry). m.view ≤ wish_of self (x ∷ d) m.ui.host) (sym is) (change_taken m d)
  change_wishes e m d (inr is) = subst (λ (x : Entry). m.view ≤ wish_of self (x ∷ d) m.ui.host) (sym is) (change_stamped m d)

  pub keeps_wishes_of_changes : (d : History) → KeepsWishesOfChanges self d
  keeps_wishes_of_changes d later before e m is change = wish_since d later (e ∷ before) m.ui.host m.view is (change_wishes e m before change)

  own_wish_stays : (later d : History) (v : ℕ) → v < wish_of self d self.host → v < wish_of self (later ++ d) self.host
  own_wish_stays later d v lt = omega (arith, wish_stays later d self.host (wish_of self d self.host) (omega arith))

  pub keeps_own_wishes : (d : History) → KeepsOwnWishes self d
  keeps_own_wishes d later before is =
      subst (λ (x : History). view_of self before < wish_of self x self.host) (sym is) (own_wish_stays later (LostPatience ∷ before) (view_of self before) (patience_lost before))
