-- A LOG begins with what its reader lacks first, in the form in which it is kept, which changes neither what it says nor its identifier; a STATE begins with
-- the part that is asked for.
use Rattle.std.proofs.Common.{◌≡◌, ℕ, zero, suc, ◌+◌, ◌-◌, ◌≤◌, ◌<◌, ◌⊎◌, Bool, true, false, List, [], ◌∷◌, ◌++◌, length, take, reverse, refl, sym, ap, subst, ◌∙◌, inl, inr, arith, Option, Some, None}
use Rattle.std.specs.List.{AllByRecursion}
use Rattle.std.specs.Prelude.{◌==◌, map, drop, slice_get, nat_le, if◌then◌else◌}
use Rattle.std.proofs.lemmas.Bool.{cases_Bool, eqb-true, eq-eqb, le-leb, lt-leb}
use Rattle.std.proofs.lemmas.List.{length-map, length-reverse, length-take-le, reverse-append, take-take}
use Rattle.std.proofs.lemmas.Option.{slice_get_within}
use Rattle.mb_base.specs.Limits.{entry_bytes_limit, part_bytes_limit, entry_limit}
use Rattle.mb_base.specs.Shapes.{Bytes}
use Rattle.mb_parts.specs.declared.certificates.Evidence.{Evidence}
use Rattle.mb_parts.specs.Counters.{at_counter}
use Rattle.mb_parts.proofs.Counters.{at_bound, at_more}
use Rattle.mb_msg.specs.declared.transfer.Resend.{Resend}
use Rattle.mb_msg.specs.declared.transfer.Log.{Log}
use Rattle.mb_msg.specs.declared.transfer.Fetch.{Fetch}
use Rattle.mb_msg.specs.declared.transfer.StateMsg.{StateMsg}
use Rattle.mb_msg.specs.declared.stamped.Stamped.{Stamped as StampedMessage}
use Rattle.mb_msg.specs.declared.stamped.Stamped.TheVariants as stamped
use Rattle.mb_msg.specs.Spelling.{stamped_bytes}
use Rattle.mb_msg.specs.Stamps.{bare_of, ui_of}
use Rattle.mb_model.specs.States.{part_digests}
use Rattle.mb_model.specs.Histories.{History, Identity, stamped as all_stamped, counter_of, view_of}
use Rattle.mb_model.specs.Held.{evidence_of, evidence_in}
use Rattle.mb_model.specs.Stable.{stable_of, log_floor}
use Rattle.mb_model.specs.OwnLog.{behind, behind_opening, behind_change, kept_forms, first_packed, packed, log_start, count_from, since}
use Rattle.mb_model.specs.Making.{expected, fitting, first_fitting}
use Rattle.mb_model.proofs.Options.{if_some}
use Rattle.mb_steps.proofs.StepHeldEvidence.{some_is}
use Rattle.mb_promise.specs.ShowsLog.{votes_or_opens, changes_view, shortens, next_shown, IsShownOf, BeginsAt, ShowsLog, ShowsState}

-- ---- lists, newest first

module _ {A : Type 0} where
  last_or : (l : List A) (y : A) (i : ℕ) (x : A) → slice_get (l ++ y ∷ []) i ≡ Some x → (slice_get l i ≡ Some x) ⊎ ((i ≡ length l) × (y ≡ x))
  last_or [] y zero x e = inr (refl, some_is y x e)
  last_or [] y (suc i) x e = absurd cc
  last_or (z ∷ l) y zero x e = inl e
  last_or (z ∷ l) y (suc i) x e = elim (last_or l y i x e) [
    | inl here ↦ inl here
    | inr (at, is) ↦ inr (ap suc at, is)
  ]

  -- Of the newest so many, oldest first, each stands at its counter.
  oldest_at : (l : List A) (n i : ℕ) (x : A) → n ≤ length l → slice_get (reverse (take n l)) i ≡ Some x → at_counter l (length l + 1 - n + i) ≡ Some x
  oldest_at l zero i x le e = absurd cc
  oldest_at [] (suc n) i x le e = absurd (omega (arith, le))
  oldest_at (m ∷ l) (suc n) i x le e =
      let at : slice_get (reverse (take n l) ++ m ∷ []) i ≡ Some x = subst (λ (t : List A). slice_get t i ≡ Some x) (reverse-append (m ∷ []) (take n l)) e in
      elim (last_or (reverse (take n l)) m i x at) [
        | inl older ↦
            let place : length l + 1 - n + i ≡ length (m ∷ l) + 1 - suc n + i = omega arith in
            subst (λ (c : ℕ). at_counter (m ∷ l) c ≡ Some x) place (at_more (m ∷ []) l (length l + 1 - n + i) x (oldest_at l n i x (omega (arith, le)) older))
        | inr (last, is) ↦
            let many : length (reverse (take n l)) ≡ n = length-reverse (take n l) ∙ length-take-le n l (omega (arith, le)) in
            let place : length (m ∷ l) + 1 - suc n + i ≡ length l + 1 = omega (arith, le, last, many) in
            rw (eq-eqb (length (m ∷ l) + 1 - suc n + i) (length l + 1) place) (ap (λ (y : A). Some y) is)
      ]

  first_of : (l : List A) → 1 ≤ length l → (x : A) × (more : List A) × (l ≡ x ∷ more)
  first_of [] some = absurd (omega (arith, some))
  first_of (x ∷ more) some = (x, more, refl)

mapped_at : {A B : Type 0} (f : A → B) (l : List A) (c : ℕ) (x : B) → at_counter (map f l) c ≡ Some x → (z : A) × (at_counter l c ≡ Some z) × (f z ≡ x)
mapped_at f [] c x e = absurd cc
mapped_at {A = A} {B = B} f (m ∷ l) c x e = go (subst (λ (n : ℕ). (if c == n + 1 then Some (f m) else at_counter (map f l) c) ≡ Some x) (length-map l f) e) (mapped_at f l c x) where
  go : (if c == length l + 1 then Some (f m) else at_counter (map f l) c) ≡ Some x → (at_counter (map f l) c ≡ Some x → (z : A) × (at_counter l c ≡ Some z) × (f z ≡ x)) → (z : A) × (at_counter (m ∷ l) c ≡ Some z) × (f z ≡ x)
  go e more = elim (cases_Bool (c == length l + 1)) [
    | inl here ↦ (m, rw here refl, some_is (f m) x (rw here at e))
    | inr other ↦ let r = more (rw other at e) in (r.0, rw other r.1, r.2)
  ]

-- ---- the forms in which messages are kept

opening_bare : (x : StampedMessage) → bare_of (behind_opening x) ≡ bare_of x
opening_bare (stamped.Prepare m) = refl
opening_bare (stamped.Commit m) = refl
opening_bare (stamped.Checkpoint m) = refl
opening_bare (stamped.ViewChange m) = refl
opening_bare (stamped.NewView m) = refl
opening_bare (stamped.Enter m) = refl
opening_bare (stamped.Open m) = refl
opening_bare (stamped.Join m) = refl

opening_ui : (x : StampedMessage) → ui_of (behind_opening x) ≡ ui_of x
opening_ui (stamped.Prepare m) = refl
opening_ui (stamped.Commit m) = refl
opening_ui (stamped.Checkpoint m) = refl
opening_ui (stamped.ViewChange m) = refl
opening_ui (stamped.NewView m) = refl
opening_ui (stamped.Enter m) = refl
opening_ui (stamped.Open m) = refl
opening_ui (stamped.Join m) = refl

change_bare : (x : StampedMessage) → bare_of (behind_change x) ≡ bare_of x
change_bare (stamped.Prepare m) = refl
change_bare (stamped.Commit m) = refl
change_bare (stamped.Checkpoint m) = refl
change_bare (stamped.ViewChange m) = refl
change_bare (stamped.NewView m) = refl
change_bare (stamped.Enter m) = refl
change_bare (stamped.Open m) = refl
change_bare (stamped.Join m) = refl

change_ui : (x : StampedMessage) → ui_of (behind_change x) ≡ ui_of x
change_ui (stamped.Prepare m) = refl
change_ui (stamped.Commit m) = refl
change_ui (stamped.Checkpoint m) = refl
change_ui (stamped.ViewChange m) = refl
change_ui (stamped.NewView m) = refl
change_ui (stamped.Enter m) = refl
change_ui (stamped.Open m) = refl
change_ui (stamped.Join m) = refl

behind_same : (m x : StampedMessage) → (bare_of (behind m x) ≡ bare_of x) × (ui_of (behind m x) ≡ ui_of x)
behind_same (stamped.Prepare m) x = (refl, refl)
behind_same (stamped.Commit m) x = (refl, refl)
behind_same (stamped.Checkpoint m) x = (refl, refl)
behind_same (stamped.ViewChange m) x = (change_bare x, change_ui x)
behind_same (stamped.NewView m) x = (refl, refl)
behind_same (stamped.Enter m) x = (refl, refl)
behind_same (stamped.Open m) x = (opening_bare x, opening_ui x)
behind_same (stamped.Join m) x = (opening_bare x, opening_ui x)

kept_length : (l : List StampedMessage) → length (kept_forms l) ≡ length l
unfolding kept_forms
kept_length [] = refl
kept_length (m ∷ l) = omega (arith, length-map (kept_forms l) (behind m), kept_length l)

-- What nothing shortens keeps its form.
opening_leaves : (x : StampedMessage) → votes_or_opens x ≡ false → behind_opening x ≡ x
opening_leaves (stamped.Prepare m) e = absurd cc
opening_leaves (stamped.Commit m) e = absurd cc
opening_leaves (stamped.Checkpoint m) e = refl
opening_leaves (stamped.ViewChange m) e = refl
opening_leaves (stamped.NewView m) e = refl
opening_leaves (stamped.Enter m) e = refl
opening_leaves (stamped.Open m) e = absurd cc
opening_leaves (stamped.Join m) e = refl

change_leaves : (x : StampedMessage) → changes_view x ≡ false → behind_change x ≡ x
change_leaves (stamped.Prepare m) e = refl
change_leaves (stamped.Commit m) e = refl
change_leaves (stamped.Checkpoint m) e = refl
change_leaves (stamped.ViewChange m) e = absurd cc
change_leaves (stamped.NewView m) e = absurd cc
change_leaves (stamped.Enter m) e = refl
change_leaves (stamped.Open m) e = refl
change_leaves (stamped.Join m) e = refl

unshortened : (m x : StampedMessage) → shortens m x ≡ false → behind m x ≡ x
unshortened (stamped.Prepare m) x e = refl
unshortened (stamped.Commit m) x e = refl
unshortened (stamped.Checkpoint m) x e = refl
unshortened (stamped.ViewChange m) x e = change_leaves x e
unshortened (stamped.NewView m) x e = refl
unshortened (stamped.Enter m) x e = refl
unshortened (stamped.Open m) x e = opening_leaves x e
unshortened (stamped.Join m) x e = opening_leaves x e

-- what is kept at a counter is what was stamped there, and whole where nothing newer shortens it
record IsKept (l : List StampedMessage) (c : ℕ) (x : StampedMessage) : Type 0 where
  one : StampedMessage
  there : at_counter l c ≡ Some one
  says : bare_of x ≡ bare_of one
  ui : ui_of x ≡ ui_of one
  whole : AllByRecursion (λ z. shortens z one ≡ false) (take (length l - c) l) → x ≡ one

kept_more : (m : StampedMessage) (l : List StampedMessage) (c : ℕ) (z x : StampedMessage) → (c == length l + 1) ≡ false → behind m z ≡ x → IsKept l c z → IsKept (m ∷ l) c x
kept_more m l c z x other is k =
    let same = behind_same m z in
    let bound = at_bound l c k.one k.there in
    record {
      one = k.one;
      there = rw other k.there;
      says = ap bare_of (sym is) ∙ same.0 ∙ k.says;
      ui = ap ui_of (sym is) ∙ same.1 ∙ k.ui;
      whole = λ all.
          let n : length (m ∷ l) - c ≡ suc (length l - c) = omega (arith, bound) in
          let each : AllByRecursion (λ z. shortens z k.one ≡ false) (take (suc (length l - c)) (m ∷ l)) = subst (λ (i : ℕ). AllByRecursion (λ z. shortens z k.one ≡ false) (take i (m ∷ l))) n all in
          sym is ∙ ap (behind m) (k.whole each.1) ∙ unshortened m k.one each.0;
    }

kept_at : (l : List StampedMessage) (c : ℕ) (x : StampedMessage) → at_counter (kept_forms l) c ≡ Some x → IsKept l c x
unfolding kept_forms
kept_at [] c x e = absurd cc
kept_at (m ∷ l) c x e = go (subst (λ (n : ℕ). (if c == n + 1 then Some m else at_counter (map (behind m) (kept_forms l)) c) ≡ Some x) (length-map (kept_forms l) (behind m) ∙ kept_length l) e) (kept_at l c) where
  go : (if c == length l + 1 then Some m else at_counter (map (behind m) (kept_forms l)) c) ≡ Some x → ((z : StampedMessage) → at_counter (kept_forms l) c ≡ Some z → IsKept l c z) → IsKept (m ∷ l) c x
  go e more = elim (cases_Bool (c == length l + 1)) [
    | inl here ↦ let same = some_is m x (rw here at e) in record { one = m; there = rw here refl; says = ap bare_of (sym same); ui = ap ui_of (sym same); whole = λ all. sym same }
    | inr other ↦
        let z = mapped_at (behind m) (kept_forms l) c x (rw other at e) in
        kept_more m l c z.0 x other z.2 (more z.0 z.1)
  ]

-- ---- what is packed

packed_at : (most used : ℕ) (l : List StampedMessage) (i : ℕ) (x : StampedMessage) → slice_get (packed most used l) i ≡ Some x → slice_get l i ≡ Some x
unfolding packed
packed_at zero used l i x e = absurd cc
packed_at (suc most) used [] i x e = absurd cc
packed_at (suc most) used (m ∷ l) i x e = go (nat_le (used + length (stamped_bytes m)) entry_bytes_limit) i (λ j more. packed_at most (used + length (stamped_bytes m)) l j x more) e where
  go : (t : Bool) (i : ℕ) → ((j : ℕ) → slice_get (packed most (used + length (stamped_bytes m)) l) j ≡ Some x → slice_get l j ≡ Some x)
      → slice_get (if t then m ∷ packed most (used + length (stamped_bytes m)) l else []) i ≡ Some x → slice_get (m ∷ l) i ≡ Some x
  go true zero rest e = e
  go true (suc i) rest e = rest i e
  go false i rest e = absurd cc

packed_few : (most used : ℕ) (l : List StampedMessage) → length (packed most used l) ≤ most
unfolding packed
packed_few zero used l = omega arith
packed_few (suc most) used [] = omega arith
packed_few (suc most) used (m ∷ l) = go (nat_le (used + length (stamped_bytes m)) entry_bytes_limit) (packed_few most (used + length (stamped_bytes m)) l) where
  go : (t : Bool) → length (packed most (used + length (stamped_bytes m)) l) ≤ most → length (if t then m ∷ packed most (used + length (stamped_bytes m)) l else []) ≤ suc most
  go true rest = omega (arith, rest)
  go false rest = omega arith

first_packed_at : (l : List StampedMessage) (i : ℕ) (x : StampedMessage) → slice_get (first_packed l) i ≡ Some x → slice_get l i ≡ Some x
first_packed_at [] i x e = e
first_packed_at (m ∷ l) zero x e = e
first_packed_at (m ∷ l) (suc i) x e = packed_at (entry_limit - 1) (length (stamped_bytes m)) l i x e

first_packed_few : (l : List StampedMessage) → length (first_packed l) ≤ entry_limit
first_packed_few [] = omega arith
first_packed_few (m ∷ l) = omega (arith, packed_few (entry_limit - 1) (length (stamped_bytes m)) l)

-- ---- a LOG and a STATE

module _ {S : Type 0} (self : Identity S) (d : History) where
  -- what the host kept, and what of it is shown before it is packed
  abbrev kept : List StampedMessage
  kept = kept_forms (all_stamped d)

  abbrev many : Resend → ℕ
  many m = count_from self d (expected self m)

  -- no more than are kept, and all that is kept from the first one on
  shown_of_kept : (m : Resend) → (many m ≤ length kept) × (reverse (take (many m) (take (counter_of d - log_start self d) kept)) ≡ reverse (take (many m) kept))
  shown_of_kept m =
      let all = kept_length (all_stamped d) in
      let least : many m ≤ counter_of d - log_start self d = omega arith in
      (omega (arith, all), ap reverse (take-take (many m) (counter_of d - log_start self d) kept least))

  shown_at : (m : Resend) (i : ℕ) (x : StampedMessage) → slice_get (since self d (expected self m)) i ≡ Some x → IsShownOf self d (next_shown self d m + i) x
  shown_at m i x e =
      let s = shown_of_kept m in
      let at : slice_get (reverse (take (many m) kept)) i ≡ Some x = subst (λ (l : List StampedMessage). slice_get l i ≡ Some x) s.1 (first_packed_at _ i x e) in
      let within : i < length (reverse (take (many m) kept)) = slice_get_within (reverse (take (many m) kept)) i x at in
      let size : length (reverse (take (many m) kept)) ≡ many m = length-reverse (take (many m) kept) ∙ length-take-le (many m) kept s.0 in
      let all : length kept ≡ counter_of d = kept_length (all_stamped d) in
      let place : length kept + 1 - many m + i ≡ next_shown self d m + i = omega (arith, within, size, all) in
      let k = kept_at (all_stamped d) (next_shown self d m + i) x (subst (λ (c : ℕ). at_counter kept c ≡ Some x) place (oldest_at kept (many m) i x s.0 at)) in
      record { stamped = k.one; there = k.there; says = k.says; ui = k.ui; whole = k.whole }

  begins : (m : Resend) → next_shown self d m ≤ counter_of d → BeginsAt self d (next_shown self d m) (since self d (expected self m))
  begins m le =
      let s = shown_of_kept m in
      let size : length (reverse (take (many m) kept)) ≡ many m = length-reverse (take (many m) kept) ∙ length-take-le (many m) kept s.0 in
      let some : 1 ≤ length (reverse (take (many m) kept)) = omega (arith, le, size) in
      let f = first_of (reverse (take (many m) kept)) some in
      let is : since self d (expected self m) ≡ first_packed (f.0 ∷ f.1) = ap first_packed (s.1 ∙ f.2) in
      let here : next_shown self d m + 0 ≡ next_shown self d m = omega arith in
      let first : slice_get (since self d (expected self m)) 0 ≡ Some f.0 = ap (λ (l : List StampedMessage). slice_get l 0) is in
      record { first = f.0; more = _; is = is; shown = subst (λ (c : ℕ). IsShownOf self d c f.0) here (shown_at m 0 f.0 first) }

  evident : (o : Option Evidence) (e : Evidence) → o ≡ Some e → e.view ≡ view_of self d → evidence_in (view_of self d) o ≡ Some e
  evident None e is view = absurd cc
  evident (Some x) e is view =
      let same : x ≡ e = some_is x e is in
      let there : (x.view == view_of self d) ≡ true = eq-eqb x.view (view_of self d) (ap (λ (y : Evidence). y.view) same ∙ view) in
      rw there is

  evident_held : (o : Option Evidence) (e : Evidence) → evidence_in (view_of self d) o ≡ Some e → (o ≡ Some e) × (e.view ≡ view_of self d)
  evident_held None e is = absurd cc
  evident_held (Some x) e is =
      let t = if_some (x.view == view_of self d) (Some x) e is in
      let same : x ≡ e = some_is x e t.1 in
      (ap (λ (y : Evidence). Some y) same, subst (λ (y : Evidence). y.view ≡ view_of self d) same (eqb-true x.view (view_of self d) t.0))

  -- the LOG that answers
  abbrev pub log_shown : Resend → Log
  log_shown m = record {
    host = self.host;
    floor = if nat_le (expected self m) (log_start self d) then log_floor self d else None;
    stable = stable_of self d;
    evidence = evidence_in (view_of self d) (evidence_of self d);
    entries = since self d (expected self m);
  }

  pub shows_log : (m : Resend) → ShowsLog self d m (log_shown m)
  shows_log m = record {
    host = refl;
    floor = λ le. rw (le-leb (expected self m) (log_start self d) le) refl;
    no_floor = λ lt. rw (lt-leb (expected self m) (log_start self d) lt) refl;
    stable = refl;
    evidence = λ e is view. evident (evidence_of self d) e is view;
    evidence_held = λ e is. evident_held (evidence_of self d) e is;
    few = first_packed_few _;
    entries = begins m;
    each = λ i x e. shown_at m i x e;
  }

  -- The first part always goes.
  first_part : (n : ℕ) (parts : List Bytes) (p : Bytes) → slice_get parts n ≡ Some p → slice_get (first_fitting (drop n parts)) 0 ≡ Some p
  first_part n [] p e = absurd cc
  first_part zero (q ∷ parts) p e = e
  first_part (suc n) (q ∷ parts) p e = first_part n parts p e

  fitting_at : (used : ℕ) (parts : List Bytes) (i : ℕ) (p : Bytes) → slice_get (fitting used parts) i ≡ Some p → slice_get parts i ≡ Some p
  unfolding fitting
  fitting_at used [] i p e = e
  fitting_at used (q ∷ parts) i p e = go (nat_le (used + length q) part_bytes_limit) i (λ j more. fitting_at (used + length q) parts j p more) e where
    go : (t : Bool) (i : ℕ) → ((j : ℕ) → slice_get (fitting (used + length q) parts) j ≡ Some p → slice_get parts j ≡ Some p)
        → slice_get (if t then q ∷ fitting (used + length q) parts else []) i ≡ Some p → slice_get (q ∷ parts) i ≡ Some p
    go true zero rest e = e
    go true (suc i) rest e = rest i e
    go false i rest e = absurd cc

  -- The others follow it.
  parts_follow : (n : ℕ) (parts : List Bytes) (i : ℕ) (p : Bytes) → slice_get (first_fitting (drop n parts)) i ≡ Some p → slice_get parts (n + i) ≡ Some p
  parts_follow n [] i p e = none n i p e where
    none : (n i : ℕ) (p : Bytes) → slice_get (first_fitting (drop n [])) i ≡ Some p → slice_get [] (n + i) ≡ Some p
    none zero i p e = absurd cc
    none (suc n) i p e = absurd cc
  parts_follow zero (q ∷ parts) zero p e = e
  parts_follow zero (q ∷ parts) (suc i) p e = let place : suc i ≡ 0 + suc i = omega arith in subst (λ (c : ℕ). slice_get (q ∷ parts) c ≡ Some p) place (fitting_at (length q) parts i p e)
  parts_follow (suc n) (q ∷ parts) i p e = let place : suc (n + i) ≡ suc n + i = omega arith in subst (λ (c : ℕ). slice_get (q ∷ parts) c ≡ Some p) place (parts_follow n parts i p e)

  -- the STATE that answers
  abbrev pub state_shown : Fetch → List Bytes → StateMsg
  state_shown m parts = record { host = self.host; pos = m.pos; digests = part_digests parts; first = m.first; parts = first_fitting (drop m.first parts) }

  pub shows_state : (m : Fetch) (parts : List Bytes) → ShowsState self d m parts (state_shown m parts)
  shows_state m parts = record { host = refl; position = refl; digests = refl; from = refl; first = λ part there. first_part m.first parts part there; in_order = λ i part there. parts_follow m.first parts i part there }
