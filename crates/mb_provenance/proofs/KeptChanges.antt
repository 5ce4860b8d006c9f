-- A whole VIEW_CHANGE stays stored until a later one of its host, and the last ENTER of a host stays among those that answer its NEW_VIEW.
use Rattle.std.proofs.Common.{◌≡◌, ℕ, Bool, true, false, not, List, [], ◌∷◌, ◌++◌, refl, sym, ap, subst, inl, inr, arith, Option, Some, None}
use Rattle.std.specs.Prelude.{◌==◌, filter, filter_map, if◌then◌else◌, Contains}
use Rattle.std.specs.List.{range_with_len, cons_option}
use Rattle.std.proofs.lemmas.Bool.{cases_Bool, eq-eqb, eqb-false, ne_eqb, le-leb}
use Rattle.mb_base.specs.Shapes.{host_count}
use Rattle.mb_usig.proofs.Laws.{true-same_bytes}
use Rattle.mb_msg.specs.declared.message.Message.TheVariants as message
use Rattle.mb_msg.specs.declared.change.ViewChange.{ViewChange}
use Rattle.mb_msg.specs.declared.change.NewView.{NewView}
use Rattle.mb_msg.specs.declared.change.Enter.{Enter}
use Rattle.mb_msg.specs.declared.stamped.Stamped.TheVariants as stamped
use Rattle.mb_model.specs.Histories.{Entry, Accepted, Stamped, History, Identity, view_of}
use Rattle.mb_model.specs.Held.{change_in, arrived, changes_of, enter_of, answers, enters_for}
use Rattle.mb_model.specs.Members.{In}
use Rattle.mb_model.proofs.Members.{in_left, in_right, contained}
use Rattle.mb_each_host.proofs.DueOrders.{in_range}
use Rattle.mb_promise.specs.KeepsTables.{NoneIs, is_change_of, is_enter_of, IsEnter, KeepsChanges, KeepsOwnChanges, KeepsEnters}

-- ---- members of lists

module _ {A : Type 0} where
  pub in_filter : (p : A → Bool) (l : List A) (x : A) → In l x → p x ≡ true → In (filter p l) x
  in_filter p [] x i e = i
  in_filter p (y ∷ l) x (inl is) e = rw (subst (λ (z : A). p z ≡ true) (sym is) e) (inl is)
  in_filter p (y ∷ l) x (inr i) e = elim (cases_Bool (p y)) [
    | inl passes ↦ rw passes (inr (in_filter p l x i e))
    | inr fails ↦ rw fails (in_filter p l x i e)
  ]

in_cons : {A : Type 0} (o : Option A) (l : List A) (x : A) → In l x → In (cons_option o l) x
in_cons None l x i = i
in_cons (Some y) l x i = inr i

in_filter_map : {A B : Type 0} (f : A → Option B) (l : List A) (x : A) (y : B) → In l x → f x ≡ Some y → In (filter_map f l) y
in_filter_map f [] x y i e = absurd i
in_filter_map f (z ∷ l) x y (inl is) e = rw (ap f is) (rw e (inl refl))
in_filter_map f (z ∷ l) x y (inr i) e = in_cons (f z) (filter_map f l) y (in_filter_map f l x y i e)

-- ---- VIEW_CHANGEs

module _ {S : Type 0} (self : Identity S) where
  -- One of another host pushes none of this host out.
  arrived_if : (t : Bool) (m c : ViewChange) (l : List ViewChange) → (m.ui.host == c.ui.host) ≡ false → In l c → In (arrived self (if t then Some m else None) l) c
  arrived_if false m c l other i = i
  arrived_if true m c l other i =
      let stays : not (c.ui.host == m.ui.host) ≡ true = rw (ne_eqb c.ui.host m.ui.host (λ e. eqb-false m.ui.host c.ui.host other (sym e))) refl in
      in_left (filter (λ x. not (x.ui.host == m.ui.host)) l) (m ∷ []) c (in_filter (λ x. not (x.ui.host == m.ui.host)) l c i stays)

  change_stays : (later d : History) (c : ViewChange) → NoneIs (is_change_of c.ui.host) later → In (changes_of self d) c → In (changes_of self (later ++ d)) c
  unfolding changes_of
  change_stays [] d c none i = i
  change_stays (Accepted (message.ViewChange m) ∷ l) d c none i = arrived_if _ m c (changes_of self (l ++ d)) none.0 (change_stays l d c none.1 i)
  change_stays (Stamped (stamped.ViewChange m) ∷ l) d c none i = arrived_if _ m c (changes_of self (l ++ d)) none.0 (change_stays l d c none.1 i)
  change_stays (e ∷ l) d c none i = change_stays l d c none.1 i

  change_new : (e : Entry) (d : History) (m : ViewChange) → change_in self d e ≡ Some m → In (changes_of self (e ∷ d)) m
  unfolding changes_of
  change_new e d m is = rw is (in_right (filter (λ x. not (x.ui.host == m.ui.host)) (changes_of self d)) (m ∷ []) m (inl refl))

  change_since : (d later before : History) (e : Entry) (m : ViewChange) → d ≡ later ++ e ∷ before → change_in self before e ≡ Some m → NoneIs (is_change_of m.ui.host) later → Contains (changes_of self d) m
  change_since d later before e m is new none =
      contained (changes_of self d) m (subst (λ (h : History). In (changes_of self h) m) (sym is) (change_stays later (e ∷ before) m none (change_new e before m new)))

  pub keeps_changes : (d : History) → KeepsChanges self d
  keeps_changes d later before m b is whole current none =
      change_since d later before (Accepted (message.ViewChange m)) m is (rw (whole, le-leb (view_of self before) m.view current) refl) none

  pub keeps_own_changes : (d : History) → KeepsOwnChanges self d
  keeps_own_changes d later before m b is whole sound none =
      change_since d later before (Stamped (stamped.ViewChange m)) m is (rw (whole, sound) refl) none

  -- ---- ENTERs

  enter_stays : (later d : History) (h : ℕ) (m : Enter) → NoneIs (is_enter_of h) later → enter_of d h ≡ Some m → enter_of (later ++ d) h ≡ Some m
  unfolding enter_of
  enter_stays [] d h m none e = e
  enter_stays (Accepted (message.Enter q) ∷ l) d h m none e = rw none.0 (enter_stays l d h m none.1 e)
  enter_stays (Stamped (stamped.Enter q) ∷ l) d h m none e = rw none.0 (enter_stays l d h m none.1 e)
  enter_stays (x ∷ l) d h m none e = enter_stays l d h m none.1 e

  enter_taken : (m : Enter) (d : History) → enter_of (Accepted (message.Enter m) ∷ d) m.ui.host ≡ Some m
  unfolding enter_of
  enter_taken m d = rw (eq-eqb m.ui.host m.ui.host refl) refl

  enter_stamped : (m : Enter) (d : History) → enter_of (Stamped (stamped.Enter m) ∷ d) m.ui.host ≡ Some m
  unfolding enter_of
  enter_stamped m d = rw (eq-eqb m.ui.host m.ui.host refl) refl

  enter_new : (e : Entry) (m : Enter) (d : History) → IsEnter e m → enter_of (e ∷ d) m.ui.host ≡ Some m
  enter_new e m d (inl is) = subst (λ (x : Entry). enter_of (x ∷ d) m.ui.host ≡ Some m) (sym is) (enter_taken m d)
  enter_new e m d (inr is) = subst (λ (x : Entry). enter_of (x ∷ d) m.ui.host ≡ Some m) (sym is) (enter_stamped m d)

  answered : (n : NewView) (m : Enter) → m.view ≡ n.view → m.counter ≡ n.ui.counter → m.plan ≡ n.plan → answers n m ≡ true
  answered n m view counter plan = rw (eq-eqb m.view n.view view, eq-eqb m.counter n.ui.counter counter, true-same_bytes m.plan n.plan plan) refl

  pub keeps_enters : (d : History) → KeepsEnters self d
  keeps_enters d later before e m n is enter none known view counter plan =
      let last : enter_of d m.ui.host ≡ Some m = subst (λ (h : History). enter_of h m.ui.host ≡ Some m) (sym is) (enter_stays later (e ∷ before) m.ui.host m none (enter_new e m before enter)) in
      let hosts : List ℕ = range_with_len 0 (host_count self.shape) in
      let there = in_filter_map (enter_of d) hosts m.ui.host m (in_range 0 (host_count self.shape) m.ui.host (omega arith) (omega (arith, known))) last in
      contained (enters_for self d n) m (in_filter (answers n) (filter_map (enter_of d) hosts) m there (answered n m view counter plan))
