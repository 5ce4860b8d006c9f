-- The marks of the requests of a batch: each is fresh as the service finds it there.
use Rattle.std.proofs.Common.{◌≡◌, ℕ, zero, suc, ◌≤◌, Bool, List, [], ◌∷◌, ◌++◌, map, refl, sym, ap, subst, ◌∙◌, arith, Some}
use Rattle.std.specs.Prelude.{slice_get, take, drop}
use Rattle.std.proofs.lemmas.List.{take-append-drop, take-take}
use Rattle.mb_parts.specs.declared.request.Request.{Request}
use Rattle.mb_msg.specs.declared.event.Placed.{Placed}
use Rattle.mb_model.specs.Service.{Machine, Served, reply_of, is_fresh, served, served_each}
use Rattle.mb_model.proofs.ServiceLaws.{each_rises}

module _ {S : Type 0} (m : Machine S) where
  -- served at a position, one after the other, from this state on
  abbrev pub AreMarked : Served S → ℕ → List Placed → Type 0
  AreMarked x pos [] = Unit {0}
  AreMarked x pos (p ∷ ps) = (p.fresh ≡ is_fresh x p.request) × AreMarked (served m x pos p.request) pos ps

  pub marked_at : (x : Served S) (pos : ℕ) (ps : List Placed) (i : ℕ) (p : Placed) → AreMarked x pos ps → slice_get ps i ≡ Some p → p.fresh ≡ is_fresh (served_each m x pos (take i ps)) p.request
  unfolding served_each
  marked_at x pos [] i p all e = absurd cc
  marked_at x pos (q ∷ ps) zero p all e = let same : q ≡ p = cc in subst (λ (y : Placed). y.fresh ≡ is_fresh x y.request) same all.0
  marked_at x pos (q ∷ ps) (suc i) p all e = marked_at (served m x pos q.request) pos ps i p all.1 e

  pub marked_push : (x : Served S) (pos : ℕ) (ps : List Placed) (p : Placed) → AreMarked x pos ps → p.fresh ≡ is_fresh (served_each m x pos ps) p.request → AreMarked x pos (ps ++ p ∷ [])
  unfolding served_each
  marked_push x pos [] p all new = (new, tt)
  marked_push x pos (q ∷ ps) p all new = (all.0, marked_push (served m x pos q.request) pos ps p all.1 new)

  placed_same : (x y : Request) (a b : Bool) → x ≡ y → a ≡ b → (let l : Placed = record { request = x; fresh = a } in let r : Placed = record { request = y; fresh = b } in l ≡ r)
  placed_same x y a b e g = cc

  -- The same requests have the same marks.
  pub marked_same : (x : Served S) (pos : ℕ) (ps qs : List Placed) → map (λ p. p.request) ps ≡ map (λ p. p.request) qs → AreMarked x pos ps → AreMarked x pos qs → ps ≡ qs
  marked_same x pos [] [] e a b = refl
  marked_same x pos [] (q ∷ qs) e a b = absurd cc
  marked_same x pos (p ∷ ps) [] e a b = absurd cc
  marked_same x pos (p ∷ ps) (q ∷ qs) e a b =
      let first : p.request ≡ q.request = cc in
      let others : map (λ (p : Placed). p.request) ps ≡ map (λ (p : Placed). p.request) qs = cc in
      let same : p ≡ q = placed_same p.request q.request p.fresh q.fresh first (a.0 ∙ ap (is_fresh x) first ∙ sym b.0) in
      let rest : ps ≡ qs = marked_same (served m x pos p.request) pos ps qs others a.1 (subst (λ (r : Request). AreMarked (served m x pos r) pos qs) (sym first) b.1) in
      cc

  -- ---- from place to place

  pub each_append : (x : Served S) (pos : ℕ) (ps qs : List Placed) → served_each m x pos (ps ++ qs) ≡ served_each m (served_each m x pos ps) pos qs
  unfolding served_each
  each_append x pos [] qs = refl
  each_append x pos (p ∷ ps) qs = each_append (served m x pos p.request) pos ps qs

  -- the number of a client's last request is no lower further on
  pub each_later : (x : Served S) (pos : ℕ) (ps : List Placed) (i j c : ℕ) → i ≤ j → (reply_of (served_each m x pos (take i ps)) c).seq ≤ (reply_of (served_each m x pos (take j ps)) c).seq
  each_later x pos ps i j c le =
      let rest : List Placed = drop i (take j ps) in
      let parts : take j ps ≡ take i ps ++ rest = sym (take-append-drop i (take j ps)) ∙ ap (λ (l : List Placed). l ++ rest) (take-take i j ps le) in
      let state : served_each m x pos (take j ps) ≡ served_each m (served_each m x pos (take i ps)) pos rest = ap (served_each m x pos) parts ∙ each_append x pos (take i ps) rest in
      omega (arith, each_rises m (served_each m x pos (take i ps)) pos rest c, ap (λ (y : Served S). (reply_of y c).seq) state)
